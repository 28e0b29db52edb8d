-- The families of small operations, computed from the definitions and held against counts worked by hand.
use Rattle.std.proofs.Common.{◌≡◌, [], ◌∷◌, length, map, refl}
use Rattle.operation_spec.specs.declared.task.Kind.TheVariants as kinds
use Rattle.operation_spec.proofs.WorkedOperations.{mul, lu, ldl, low, inv, syl}
use Rattle.task_graph.specs.Order.{task_of}
use Rattle.invariant_family.specs.declared.variant.Variant.{Variant}
use Rattle.invariant_family.specs.Families.{family_of}

lu_family : map (λ (v : Variant). v.kept) (family_of lu) ≡
    (task_of kinds.Solve 0 0 0 0 ∷ [])
    ∷ (task_of kinds.Solve 0 0 0 0 ∷ task_of kinds.Solve 0 0 1 0 ∷ [])
    ∷ (task_of kinds.Solve 0 0 0 0 ∷ task_of kinds.Solve 0 1 0 0 ∷ [])
    ∷ (task_of kinds.Solve 0 0 0 0 ∷ task_of kinds.Solve 0 0 1 0 ∷ task_of kinds.Solve 0 1 0 0 ∷ [])
    ∷ (task_of kinds.Solve 0 0 0 0 ∷ task_of kinds.Solve 0 0 1 0 ∷ task_of kinds.Solve 0 1 0 0 ∷ task_of kinds.Left 0 1 1 0 ∷ [])
    ∷ []
unfolding lu
lu_family = refl

ldl_count : length (family_of ldl) ≡ 3
unfolding ldl
ldl_count = refl

low_count : length (family_of low) ≡ 22
unfolding low
low_count = refl

inv_count : length (family_of inv) ≡ 4
unfolding inv
inv_count = refl

mul_count : length (family_of mul) ≡ 54
unfolding mul
mul_count = refl

syl_count : length (family_of syl) ≡ 24
unfolding syl
syl_count = refl
