-- An operation of the form `X = R` has a solution: the grid whose entries are those that the equation and the rule for
-- the other entries ask for.
use Rattle.std.proofs.Common.{◌≡◌, ℕ, ◌+◌, ◌*◌, ◌/◌, ◌%◌, ◌<◌, List, [], ◌∷◌, Bool, true, false, length, map, if◌then◌else◌, inl, inr, ◌∙◌, refl, arith}
use Rattle.std.specs.List.{range_with_len}
use Rattle.std.proofs.Math.Nat.{mod-lt}
use Rattle.std.proofs.lemmas.Bool.{cases_lt}
use Rattle.std.proofs.lemmas.Nat.{mul-add-lt, div-mul-add, mod-mul-add}
use Rattle.std.proofs.lemmas.List.{get_or_past}
use Rattle.std.proofs.lemmas.List.Elements.{All-get_or, All-from_get_or}
use Rattle.std.proofs.lemmas.List.FromFn.{get_or-map-range_with_len, length-map-range_with_len}
use Rattle.residue_sums.specs.Tables.{Table, plus}
use Rattle.residue_sums.specs.Grids.{Grid, IsFull, AreResidues, HasEntries, entry}
use Rattle.structure_rules.specs.Structures.{is_zero}
use Rattle.operation_spec.specs.declared.operation.Operation.{Operation}
use Rattle.operation_spec.specs.declared.operation.Term.{Term}
use Rattle.operation_spec.specs.declared.operation.Form.TheVariants.{Assign}
use Rattle.equation.specs.Equations.{minus, term_table, with_terms, right_side, Satisfies}
use Rattle.equation.specs.Pivots.{HasResidues}
use Rattle.equation.proofs.Assignments.{assigned, Satisfies-assigned}

-- ---- the grid with the entries of a table

module _ (a : Table) (rows cols : ℕ) where
  abbrev place_entry : ℕ → ℕ
  place_entry k = a (k / cols) (k % cols)

  abbrev pub grid_of : Grid
  grid_of = record { rows = rows; cols = cols; entries = map place_entry (range_with_len 0 (rows * cols)) }

  pub IsFull-grid_of : IsFull grid_of
  IsFull-grid_of = length-map-range_with_len place_entry 0 (rows * cols)

  pub HasEntries-grid_of : HasEntries grid_of a
  HasEntries-grid_of i j row col =
      get_or-map-range_with_len place_entry 0 (rows * cols) (i * cols + j) (i * cols + j) 0 (omega (arith, mul-add-lt i cols j rows row col)) (omega arith)
      ∙ rw (div-mul-add i cols j col, mod-mul-add i cols j col) refl

  pub AreResidues-grid_of : (m : ℕ) → HasResidues m a → AreResidues m grid_of
  AreResidues-grid_of m residues = All-from_get_or (λ x. x < m) (map place_entry (range_with_len 0 (rows * cols))) 0 (λ k below.
      rw (get_or-map-range_with_len place_entry 0 (rows * cols) k k 0 (rw (length-map-range_with_len place_entry 0 (rows * cols)) at below) (omega arith)) (residues (k / cols) (k % cols)))

-- ---- its entries are residues

pub HasResidues-entry : (m : ℕ) (g : Grid) → 0 < m → AreResidues m g → HasResidues m (entry g)
HasResidues-entry m g pos residues i j = elim (cases_lt (i * g.cols + j) (length g.entries)) [
  | inl below ↦ All-get_or (λ x. x < m) g.entries (i * g.cols + j) 0 below residues
  | inr past ↦ rw (get_or_past g.entries (i * g.cols + j) 0 past) pos
]

pub HasResidues-terms : (m : ℕ) (op : Operation) (knowns : List Grid) (terms : List Term) (a : Table) → 0 < m → HasResidues m a → HasResidues m (with_terms m op knowns terms a)
HasResidues-terms m op knowns [] a pos residues = residues
HasResidues-terms m op knowns (term ∷ terms) a pos residues = HasResidues-terms m op knowns terms _ pos (step term.minus)
  where
    step : (negative : Bool) → HasResidues m (if negative then minus m a (term_table m op knowns term) else plus m a (term_table m op knowns term))
    step true i j = mod-lt _ pos
    step false i j = mod-lt _ pos

HasResidues-assigned : (m : ℕ) (op : Operation) (knowns : List Grid) (work : Grid) → 0 < m → AreResidues m work → HasResidues m (assigned m op knowns work)
HasResidues-assigned m op knowns work pos residues i j = go (is_zero op.work.structure i j)
  where
    go : (outside : Bool) → (if outside then entry work i j else right_side m op knowns work i j) < m
    go true = HasResidues-entry m work pos residues i j
    go false = HasResidues-terms m op knowns op.terms (entry work) pos (HasResidues-entry m work pos residues) i j

pub a_solution : (m : ℕ) (op : Operation) (knowns : List Grid) (work : Grid) → 0 < m → op.form ≡ Assign → AreResidues m work
    → (x : Grid) × Satisfies m op knowns work x
a_solution m op knowns work pos form residues =
    let a : Table = assigned m op knowns work in (
      grid_of a work.rows work.cols,
      Satisfies-assigned m op knowns work (grid_of a work.rows work.cols) form refl refl
          (IsFull-grid_of a work.rows work.cols) (AreResidues-grid_of a work.rows work.cols m (HasResidues-assigned m op knowns work pos residues))
          (HasEntries-grid_of a work.rows work.cols),
    )
