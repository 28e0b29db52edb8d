use Rattle.std.proofs.Common.{refl}
use Rattle.variant_report.proofs.SmallJobs.{printing-valid}
use Rattle.variant_report.proofs.tests.job.Goals as goal

pub returns-clause-job : goal.returns-clause-job
returns-clause-job c =
    rw (c.new.ensures, c.in_ok-two.ensures, c.in_ok-two-2.ensures, c.empty.ensures, c.empty-2.ensures, c.new-2.ensures, c.in_ok-two-3.ensures)
    (printing-valid c.args.modulus _ c.requires refl)
