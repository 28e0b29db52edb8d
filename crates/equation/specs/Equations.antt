-- The equation of an operation, entry by entry, over whole matrices.
use Rattle.std.specs.Prelude.{◌≡◌, ℕ, ◌+◌, ◌-◌, ◌%◌, ◌<◌, List, [], ◌∷◌, slice_index_or, if◌then◌else◌}
use Rattle.residue_sums.specs.Tables.{Table, oriented, plus, times, transpose}
use Rattle.residue_sums.specs.Grids.{Grid, IsFull, AreResidues, entry}
use Rattle.structure_rules.specs.declared.Structure.TheVariants as structures
use Rattle.structure_rules.specs.Structures.{IsZero, IsInside, is_zero, view}
use Rattle.operation_spec.specs.declared.operation.Operation.{Operation}
use Rattle.operation_spec.specs.declared.operation.Factor.{Factor}
use Rattle.operation_spec.specs.declared.operation.Term.{Term}
use Rattle.operation_spec.specs.declared.operation.Form.{Form}
use Rattle.operation_spec.specs.declared.operation.Form.TheVariants.{Assign, Left, Right, Sylvester, Lu, Ldl}

-- the difference of two tables, modulo m
abbrev pub minus : ℕ → Table → Table → Table
minus m a b i j = (a i j + (m - b i j)) % m

-- the known matrices of a statement, as they are stored, in the order of the known operands
abbrev pub known_grid : List Grid → ℕ → Grid
known_grid knowns k = slice_index_or knowns k (record { rows = 0; cols = 0; entries = [] })

-- op(F): the matrix as its operand's structure views it, transposed where the factor is primed
abbrev pub factor_table : Operation → List Grid → Factor → Table
factor_table op knowns f = oriented f.primed (view (slice_index_or op.knowns f.known op.work).structure (entry (known_grid knowns f.known)))

-- how many columns op(F) has, the inner length of a product that it begins
abbrev pub factor_cols : List Grid → Factor → ℕ
factor_cols knowns f = if f.primed then (known_grid knowns f.known).rows else (known_grid knowns f.known).cols

-- op(F) * op(G) of a term
abbrev pub term_table : ℕ → Operation → List Grid → Term → Table
term_table m op knowns term = times m (factor_cols knowns term.first) (factor_table op knowns term.first) (factor_table op knowns term.second)

-- a table with the terms added, or subtracted, one after another
abbrev pub with_terms : ℕ → Operation → List Grid → List Term → Table → Table
with_terms m op knowns [] a = a
with_terms m op knowns (term ∷ terms) a =
    with_terms m op knowns terms (if term.minus then minus m a (term_table m op knowns term) else plus m a (term_table m op knowns term))

-- R, the right side: the work matrix with the terms
abbrev pub right_side : ℕ → Operation → List Grid → Grid → Table
right_side m op knowns work = with_terms m op knowns op.terms (entry work)

-- X: the stored solution with zeros outside the work structure
abbrev pub solution_table : Operation → Grid → Table
solution_table op stored i j = if is_zero op.work.structure i j then 0 else entry stored i j

-- the left side of the equation, over the stored solution
abbrev pub left_side : ℕ → Operation → List Grid → Grid → Table
left_side m op knowns stored = left op.form
  where
    x : Table
    x = solution_table op stored

    l : Table
    l = view structures.UnitLower (entry stored)

    left : Form → Table
    left Assign = x
    left (Left t) = times m stored.rows (factor_table op knowns t) x
    left (Right t) = times m stored.cols x (factor_table op knowns t)
    left (Sylvester t u negative) = if negative then minus m (times m stored.rows (factor_table op knowns t) x) (times m stored.cols x (factor_table op knowns u))
        else plus m (times m stored.rows (factor_table op knowns t) x) (times m stored.cols x (factor_table op knowns u))
    left Lu = times m stored.rows l (view structures.Upper (entry stored))
    left Ldl = times m stored.rows (times m stored.rows l (view structures.Diagonal (entry stored))) (transpose l)

-- the solution has the sizes of the work matrix and entries below m; on the entries of the work structure it satisfies
-- the equation, and its other entries are those of the work matrix
pub record Satisfies (m : ℕ) (op : Operation) (knowns : List Grid) (work solution : Grid) : Type 0 where
  pub rows : solution.rows ≡ work.rows
  pub cols : solution.cols ≡ work.cols
  pub full : IsFull solution
  pub residues : AreResidues m solution
  pub equation : (i j : ℕ) → i < work.rows → j < work.cols → IsInside op.work.structure i j → left_side m op knowns solution i j ≡ right_side m op knowns work i j
  pub others : (i j : ℕ) → i < work.rows → j < work.cols → IsZero op.work.structure i j → entry solution i j ≡ entry work i j
