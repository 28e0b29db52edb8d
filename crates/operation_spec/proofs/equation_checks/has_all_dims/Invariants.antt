use Rattle.std.proofs.Common.{◌≡◌, true}
use Rattle.operation_spec.specs.Equations.{has_dim}
use Rattle.operation_spec.specs.OperationFaults.{all_below}
use Rattle.operation_spec.proofs.equation_checks.has_all_dims.Given as goal

-- those so far are used
abbrev pub invariant-loop-d : goal.invariant-loop-d
invariant-loop-d l = all_below l.d (has_dim l.work l.knowns) ≡ true
