-- What the solve of a block divides by, and where its inverses stand: in the pivot list of the statement, or in the factored
-- block of the diagonal.
use Rattle.std.specs.Prelude.{◌≡◌, ℕ, ◌+◌, ◌*◌, ◌%◌, ◌<◌, ◌⊎◌, Bool, true, false, IsTrue}
use Rattle.residue_sums.specs.Residues.{IsUnit}
use Rattle.residue_sums.specs.Tables.{Table}
use Rattle.residue_sums.specs.Grids.{Grid, entry}
use Rattle.structure_rules.specs.declared.Structure.{Structure}
use Rattle.structure_rules.specs.declared.Structure.TheVariants as structures
use Rattle.operation_spec.specs.declared.operation.Operation.{Operation}
use Rattle.operation_spec.specs.declared.operation.Form.{Form}
use Rattle.operation_spec.specs.declared.operation.Form.TheVariants.{Assign, Left, Right, Sylvester, Lu, Ldl}
use Rattle.operation_spec.specs.declared.task.Kind.{Kind}
use Rattle.operation_spec.specs.declared.task.Kind.TheVariants as kinds
use Rattle.task_graph.specs.Factors.{known}
use Rattle.equation.specs.Kernels.{combined}
use Rattle.flash_blocks.specs.Blocks.{Blocks}
use Rattle.block_tasks.specs.Effects.{factor_block}

-- the triangle has ones on its diagonal, whatever is stored there
abbrev pub is_unit_triangle : Structure → Bool
is_unit_triangle structures.UnitLower = true
is_unit_triangle structures.UnitUpper = true
is_unit_triangle s = false

-- one row that has, from place `first` on, the inverses of the n pivots of a diagonal block
pub record HasRowInverses (m first n total : ℕ) (block : Table) (list : Grid) : Type 0 where
  pub rows : list.rows ≡ 1
  pub cols : list.cols ≡ total
  pub inverts : (q : ℕ) → q < n → (block q q * entry list 0 (first + q)) % m ≡ 1

-- from a row and a column on, the inverses of the sums, or differences, of the pivots of two diagonal blocks
pub record HasPairInverses (m : ℕ) (negative : Bool) (top left : ℕ) (g : Grid) (rows cols : ℕ) (first second : Table) (list : Grid) : Type 0 where
  pub rows_are : list.rows ≡ rows
  pub cols_are : list.cols ≡ cols
  pub inverts : (r c : ℕ) → r < g.rows → c < g.cols
      → (combined m negative (λ x y. first x x) (λ x y. second y y) r c * entry list (top + r) (left + c)) % m ≡ 1

-- the pivots of a block that is factored are units
abbrev pub HasUnits : ℕ → Grid → Type 0
HasUnits m g = (q : ℕ) → q < g.rows → IsUnit m (entry g q q)

module _ (m b : ℕ) (op : Operation) (lengths : ℕ → ℕ) (knowns : ℕ → Blocks) (work : Blocks) (list : Grid) where
  -- what the solve of block (i, j) divides by, by the form: the list has its inverses, or the factored block has units
  abbrev pub HasPivots : Form → ℕ → ℕ → Type 0
  HasPivots Assign i j = Unit {0}
  HasPivots (Left t) i j = IsTrue (is_unit_triangle (known op t.known).structure)
      ⊎ HasRowInverses m (i * b) (work i j).rows (lengths op.work.rows) (factor_block op knowns t i i) list
  HasPivots (Right u) i j = IsTrue (is_unit_triangle (known op u.known).structure)
      ⊎ HasRowInverses m (j * b) (work i j).cols (lengths op.work.cols) (factor_block op knowns u j j) list
  HasPivots (Sylvester t u negative) i j = HasPairInverses m negative (i * b) (j * b) (work i j) (lengths op.work.rows) (lengths op.work.cols)
      (factor_block op knowns t i i) (factor_block op knowns u j j) list
  HasPivots Lu i j = j < i → HasUnits m (work j j)
  HasPivots Ldl i j = j < i → HasUnits m (work j j)

  -- only solves divide
  abbrev pub HasPivotsBy : Kind → ℕ → ℕ → Type 0
  HasPivotsBy kinds.Solve i j = HasPivots op.form i j
  HasPivotsBy kind i j = Unit {0}
