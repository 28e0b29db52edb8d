use Rattle.std.proofs.Common.{codes}
use Rattle.std.specs.Fmt.{decimal}
use Rattle.job_text.proofs.WrittenLines.{header_appended, job_appended}
use Rattle.job_text.proofs.writing.put_job.Goals as goal

pub returns : goal.returns
returns c = job_appended c.args.job.now c.args.out.now.items c.put_header.new.out.items c.put_operations.new.out.items c.put_matrices.new.out.items c.put_statements.new.out.items c.put_prints.new.out.items
    (header_appended c.args.out.now.items (codes "flame 1\nmodulus ") (decimal c.args.job.now.modulus) (codes "\n") c.put_header.new.out.items c.in_ok-put_header.ensures) (rw c.as_slice.ensures at c.in_ok-put_operations.ensures) (rw (c.as_slice-2.ensures, c.as_slice-3.ensures) at c.in_ok-put_matrices.ensures) c.in_ok-put_statements.ensures c.in_ok-put_prints.ensures
