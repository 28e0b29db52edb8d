use Rattle.std.proofs.Common.{codes, rules}
use Rattle.operation_spec.specs.OperationLines.{equation_words}
use Rattle.operation_spec.proofs.LineTexts.{line_appended}
use Rattle.operation_spec.proofs.writing.put_equation_line.Goals as goal

pub returns : goal.returns
returns c = line_appended c.args.out.now.items c.extend_from_slice.new.self.items c.put_equation.new.out.items c.push.new.self.items (codes "equation") (equation_words c.args.op.now)
    (search rules) c.in_ok-put_equation.ensures (search rules)
