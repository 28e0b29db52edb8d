-- A grid with the entries that a statement's blocks hold in the end satisfies the equation, once its left side is the right side. Cited by each form.
use Rattle.std.proofs.Common.{◌≡◌, ℕ, zero, suc, ◌+◌, ◌*◌, ◌/◌, ◌%◌, ◌<◌, ◌≤◌, Bool, List, length, get_or, refl, sym, ◌∙◌, ap, subst, arith}
use Rattle.std.proofs.Math.Nat.{mod-lt, pos_of_ne-zero}
use Rattle.std.proofs.lemmas.Nat.{div_below, div-add-mod'}
use Rattle.std.proofs.lemmas.List.Elements.{All-from_get_or}
use Rattle.residue_sums.specs.Tables.{Table}
use Rattle.residue_sums.specs.Grids.{Grid, IsFull, AreResidues, HasEntries, entry}
use Rattle.structure_rules.specs.Structures.{IsEntry, IsZero, IsInside}
use Rattle.operation_spec.specs.declared.operation.Operation.{Operation}
use Rattle.operation_spec.specs.declared.task.Task.{Task}
use Rattle.equation.specs.Equations.{Satisfies, left_side, right_side}
use Rattle.equation.proofs.AssignedGrids.{IsFull-grid_of, HasEntries-grid_of}
use Rattle.flash_blocks.specs.Blocks.{Blocks, gathered, grid_of}
use Rattle.statement_runs.specs.StatementRuns.{IsStatementRun}
use Rattle.statement_runs.proofs.StepValues.{outside, residues}

-- a grid has residues where each place has one
AreResidues-by_place : (m : ℕ) (g : Grid) → IsFull g → ((i j : ℕ) → i < g.rows → j < g.cols → entry g i j < m) → AreResidues m g
AreResidues-by_place m g full each = All-from_get_or (λ x. x < m) g.entries 0 (λ k below.
    let pos : 0 < g.cols = pos_of_ne-zero (λ e. let none : g.rows * g.cols ≡ 0 = rw e (omega arith) in omega arith) in
    let row : k / g.cols < g.rows = div_below k g.cols g.rows pos (omega arith) in
    subst (λ (q : ℕ). get_or g.entries q 0 < m) (div-add-mod' k g.cols) (each (k / g.cols) (k % g.cols) row (mod-lt k pos)))

module _ (m b : ℕ) (two : 2 ≤ m) (pos : 0 < b) (op : Operation) (knowns : List Grid) (work : Grid) (counts : List ℕ) (n : ℕ) (task : ℕ → Task) (did : ℕ → Bool) (known_at : ℕ → ℕ → Blocks) (w : ℕ → Blocks)
    (run : IsStatementRun m b op knowns work counts n task did known_at w) where
  -- the matrix that the blocks make in the end
  abbrev pub gathered_grid : Grid
  gathered_grid = grid_of (gathered b (w n)) work.rows work.cols

  pub gathered-has : HasEntries gathered_grid (gathered b (w n))
  gathered-has = HasEntries-grid_of (gathered b (w n)) work.rows work.cols

  pub Satisfies-gathered : AreResidues m work
      → ((r c : ℕ) → IsEntry work.rows work.cols op.work.structure r c → left_side m op knowns gathered_grid r c ≡ right_side m op knowns work r c)
      → Satisfies m op knowns work gathered_grid
  Satisfies-gathered given equation = record {
    rows = refl;
    cols = refl;
    full = IsFull-grid_of (gathered b (w n)) work.rows work.cols;
    residues = AreResidues-by_place m gathered_grid (IsFull-grid_of (gathered b (w n)) work.rows work.cols)
        (λ i j row col. rw (gathered-has i j row col) (residues m b two pos op knowns work counts n task did known_at w run given n (omega arith) i j row col));
    equation = λ i j row col inside. equation i j (record { row = row; col = col; inside = inside });
    others = λ i j row col none. gathered-has i j row col ∙ outside m b two pos op knowns work counts n task did known_at w run n (omega arith) i j row col none;
  }
