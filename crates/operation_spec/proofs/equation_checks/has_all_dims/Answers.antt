use Rattle.std.proofs.Common.{◌∙◌, sym, arith}
use Rattle.operation_spec.specs.Equations.{has_dim}
use Rattle.operation_spec.proofs.AllBelow.{one_fails}
use Rattle.operation_spec.proofs.equation_checks.has_all_dims.Goals as goal

pub returns-then-not-has_dim : goal.returns-then-not-has_dim
returns-then-not-has_dim c = one_fails (has_dim c.args.work.now c.args.knowns.now) c.args.count c.loop-d.d (omega arith) (sym c.has_dim.ensures ∙ c.if-not-has_dim.true)
