-- A block of a factor or of X as a kernel reads it: which structure it has there, and whether it is read transposed.
use Rattle.std.specs.Prelude.{◌≡◌, ℕ, Bool, true, not, if◌then◌else◌}
use Rattle.residue_sums.specs.Grids.{Grid}
use Rattle.structure_rules.specs.declared.Structure.{Structure}
use Rattle.structure_rules.specs.Structures.{stored_of}
use Rattle.operation_spec.specs.declared.operation.Factor.{Factor}
use Rattle.operation_spec.specs.declared.operation.Form.{Form}
use Rattle.operation_spec.specs.declared.operation.Form.TheVariants.{Left, Right, Sylvester}
use Rattle.matrix_parts.specs.declared.oper.Oper.{Oper}
use Rattle.block_tasks.specs.Effects.{block_structure}

-- block (i, k) of a view, or of its transpose where it is primed, is the stored block transposed: a prime and a mirrored place
-- undo each other
abbrev pub is_turned : Structure → Bool → ℕ → ℕ → Bool
is_turned s primed i k = if primed then not (stored_of s k i).transposed else (stored_of s i k).transposed

-- the operand reads a stored block g as block (i, k) of such a view
pub record IsBlockOper (s : Structure) (primed : Bool) (i k : ℕ) (g : Grid) (o : Oper) : Type 0 where
  pub part : o.part ≡ g
  pub structure : o.structure ≡ block_structure s i k
  pub primed_is : o.primed ≡ is_turned s primed i k

-- the form has this factor on the left
abbrev pub HasLeft : Form → Factor → Type 0
HasLeft (Left t) f = t ≡ f
HasLeft (Sylvester t u negative) f = t ≡ f
HasLeft form f = ⊥

-- the form has this factor on the right, and subtracts its products where `negative` is true
abbrev pub HasRight : Form → Factor → Bool → Type 0
HasRight (Right u) f negative = (u ≡ f) × (negative ≡ true)
HasRight (Sylvester t u minus) f negative = (u ≡ f) × (negative ≡ not minus)
HasRight form f negative = ⊥
