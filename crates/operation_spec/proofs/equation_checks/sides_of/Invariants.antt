use Rattle.std.proofs.Common.{◌≡◌, ◌++◌, ◌∷◌, [], drop}
use Rattle.std.specs.List.{flat_map}
use Rattle.operation_spec.specs.declared.equation.Product.{Product}
use Rattle.operation_spec.specs.Equations.{sides_of}
use Rattle.operation_spec.proofs.equation_checks.sides_of.Given as goal

-- the sides so far, and those of the products that are left
abbrev pub invariant-loop-p : goal.invariant-loop-p
invariant-loop-p l = l.sides.items ++ flat_map (λ (p : Product). p.first ∷ p.second ∷ []) (drop l.p-index l.p-items) ≡ sides_of l.e
