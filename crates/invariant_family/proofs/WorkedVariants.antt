-- Variants of small operations, computed from the definitions and held against lines worked by hand.
use Rattle.std.proofs.Common.{◌≡◌, ℕ, List, [], ◌∷◌, codes, map, refl, Some, None, slice_index_or}
use Rattle.structure_rules.specs.declared.Structure.TheVariants.{General}
use Rattle.operation_spec.specs.declared.operation.Form.TheVariants.{Assign}
use Rattle.operation_spec.specs.declared.operation.Operation.{Operation}
use Rattle.operation_spec.specs.declared.task.Kind.TheVariants as kinds
use Rattle.operation_spec.specs.declared.task.Task.{Task}
use Rattle.operation_spec.specs.declared.split.Split.{Split}
use Rattle.operation_spec.specs.declared.split.Dir.{Dir}
use Rattle.operation_spec.specs.declared.split.Dir.TheVariants.{Forward, Backward}
use Rattle.operation_spec.proofs.WorkedOperations.{operand, added, low, low_primed, prod}
use Rattle.task_graph.specs.Order.{task_of}
use Rattle.invariant_family.specs.declared.variant.Variant.{Variant}
use Rattle.invariant_family.specs.Families.{family_of}
use Rattle.invariant_family.specs.Splits.{pair_splits}

solve : ℕ → ℕ → Task
solve i j = task_of kinds.Solve 0 i j 0

left : ℕ → ℕ → ℕ → Task
left i j k = task_of kinds.Left 0 i j k

term : ℕ → ℕ → ℕ → Task
term i j k = task_of kinds.Term 1 i j k

single : ℕ → ℕ → Dir → List Task → Variant
single number d dir kept = record { number = number; split = record { first = d; second = None }; dirs = record { first = dir; second = Forward }; kept = kept }

pair : ℕ → Dir → Dir → List Task → Variant
pair number first second kept = record { number = number; split = record { first = 0; second = Some 1 }; dirs = record { first = first; second = second }; kept = kept }

variant : Operation → ℕ → Variant
variant op place = slice_index_or (family_of op) place (single 0 0 Forward [])

low_lines : variant low 0 ∷ variant low 1 ∷ variant low 2 ∷ variant low 3 ∷ variant low 4 ∷ variant low 20 ∷ variant low 21 ∷ []
    ≡ single 1 0 Forward (solve 0 0 ∷ [])
    ∷ single 2 0 Forward (solve 0 0 ∷ left 1 0 0 ∷ [])
    ∷ single 3 1 Forward (solve 0 0 ∷ [])
    ∷ single 4 1 Backward (solve 0 1 ∷ [])
    ∷ pair 5 Forward Forward (solve 0 0 ∷ [])
    ∷ pair 21 Backward Forward (solve 0 0 ∷ left 1 0 0 ∷ solve 1 0 ∷ [])
    ∷ pair 22 Backward Backward (solve 0 1 ∷ left 1 1 0 ∷ solve 1 1 ∷ [])
    ∷ []
unfolding low solve left single pair variant
low_lines = refl

-- the transpose is solved from the last row
low_primed_lines : variant low_primed 1 ∷ variant low_primed 4 ∷ variant low_primed 5 ∷ []
    ≡ single 2 0 Backward (solve 1 0 ∷ left 0 0 1 ∷ [])
    ∷ pair 5 Forward Forward (solve 1 0 ∷ left 0 0 1 ∷ solve 0 0 ∷ [])
    ∷ pair 6 Forward Backward (solve 1 1 ∷ left 0 1 1 ∷ solve 0 1 ∷ [])
    ∷ []
unfolding low_primed solve left single pair variant
low_primed_lines = refl

-- five sets forward, and then five backward
prod_sets : map (λ (v : Variant). v.kept) (family_of prod)
    ≡ (term 0 0 0 ∷ [])
    ∷ (term 0 0 0 ∷ term 0 1 0 ∷ [])
    ∷ (term 0 0 0 ∷ term 1 0 0 ∷ [])
    ∷ (term 0 0 0 ∷ term 0 1 0 ∷ term 1 0 0 ∷ [])
    ∷ (term 0 0 0 ∷ term 0 1 0 ∷ term 1 0 0 ∷ term 1 1 0 ∷ [])
    ∷ (term 1 1 1 ∷ [])
    ∷ (term 1 1 0 ∷ term 1 1 1 ∷ [])
    ∷ (term 0 1 0 ∷ term 1 1 0 ∷ term 1 1 1 ∷ [])
    ∷ (term 1 0 0 ∷ term 1 1 0 ∷ term 1 1 1 ∷ [])
    ∷ (term 0 1 0 ∷ term 1 0 0 ∷ term 1 1 0 ∷ term 1 1 1 ∷ [])
    ∷ []
unfolding prod term
prod_sets = refl

-- X = W + A * B + C * D, with as many dimensions as an equation can use
four : Operation
four = record {
  name = codes "four";
  dims = codes "m" ∷ codes "n" ∷ codes "k" ∷ codes "l" ∷ [];
  work = operand (codes "W") General 0 1;
  knowns = operand (codes "A") General 0 2 ∷ operand (codes "B") General 2 1 ∷ operand (codes "C") General 0 3 ∷ operand (codes "D") General 3 1 ∷ [];
  form = Assign;
  terms = added 0 1 ∷ added 2 3 ∷ [];
}

both : ℕ → ℕ → Split
both first second = record { first = first; second = Some second }

-- pairs come by the first dimension and then the second
four_pairs : pair_splits four ≡ both 0 1 ∷ both 0 2 ∷ both 0 3 ∷ both 1 2 ∷ both 1 3 ∷ both 2 3 ∷ []
unfolding four both
four_pairs = refl
