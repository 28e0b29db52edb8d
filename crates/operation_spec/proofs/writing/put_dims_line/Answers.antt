use Rattle.std.proofs.Common.{codes, rules}
use Rattle.operation_spec.proofs.LineTexts.{line_appended}
use Rattle.operation_spec.proofs.writing.put_dims_line.Goals as goal

pub returns : goal.returns
returns c = line_appended c.args.out.now.items c.extend_from_slice.new.self.items c.put_names.new.out.items c.push.new.self.items (codes "dims") c.args.dims.now
    (search rules) c.in_ok-put_names.ensures (search rules)
