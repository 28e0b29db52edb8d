use Rattle.std.proofs.Common.{◌≡◌, suc, not, true, ◌==◌}
use Rattle.std.specs.List.{list_all}
use Rattle.operation_spec.specs.declared.equation.Side.{Side}
use Rattle.operation_spec.specs.OperationFaults.{all_below}
use Rattle.operation_spec.proofs.equation_checks.has_all_knowns.Given as goal

-- those so far are sides
abbrev pub invariant-loop-k : goal.invariant-loop-k
invariant-loop-k l = all_below l.k (λ k. not (list_all (λ (side : Side). not (side.operand == suc k)) l.sides)) ≡ true
