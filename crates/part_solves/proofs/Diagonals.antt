-- The diagonal of a triangular operand.
use Rattle.std.proofs.Common.{◌≡◌, Bool, true, false, ℕ, inl, inr, refl}
use Rattle.residue_sums.specs.Tables.{Table, oriented}
use Rattle.structure_rules.specs.declared.Structure.{Structure}
use Rattle.structure_rules.specs.Structures.{view, IsOne}
use Rattle.structure_rules.proofs.Views.{view-one}
use Rattle.part_solves.specs.Conditions.{IsUnitTriangle}

IsOne-unit : (s : Structure) (i : ℕ) → IsUnitTriangle s → IsOne s i i
IsOne-unit s i (inl e) = rw e refl
IsOne-unit s i (inr e) = rw e refl

-- a unit structure has ones there
pub one_on_diagonal : (primed : Bool) (s : Structure) (a : Table) (i : ℕ) → IsUnitTriangle s → oriented primed (view s a) i i ≡ 1
one_on_diagonal true s a i unit = view-one s a i i (IsOne-unit s i unit)
one_on_diagonal false s a i unit = view-one s a i i (IsOne-unit s i unit)
