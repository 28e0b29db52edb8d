-- The step that tests the pivots of a statement, on the diagonal blocks, fails exactly at the statement's first bad pivot.
use Rattle.std.proofs.Common.{◌≡◌, ◌≢◌, ℕ, ◌+◌, ◌-◌, ◌*◌, ◌/◌, ◌%◌, ◌<◌, ◌≤◌, Bool, true, false, if◌then◌else◌, List, refl, sym, ◌∙◌, ap, ap₂, subst, arith}
use Rattle.std.proofs.lemmas.Nat.{div-add-mod'}
use Rattle.residue_sums.specs.Residues.{IsUnit}
use Rattle.residue_sums.specs.Sums.{part_count, part_length}
use Rattle.residue_sums.specs.Tables.{Table, plus}
use Rattle.residue_sums.specs.Grids.{Grid}
use Rattle.residue_sums.proofs.Parts.{index_from_place}
use Rattle.operation_spec.specs.declared.operation.Operation.{Operation}
use Rattle.operation_spec.specs.declared.operation.Factor.{Factor}
use Rattle.operation_spec.specs.declared.operation.Form.TheVariants.{Left, Right, Sylvester}
use Rattle.equation.specs.declared.job.Place.{Place}
use Rattle.equation.specs.Equations.{factor_table, minus}
use Rattle.equation.specs.Pivots.{IsFirstOnDiagonal, IsFirstByRows, IsFirstBadPivot, factor_pivots}
use Rattle.flash_blocks.specs.Blocks.{Blocks}
use Rattle.equation.specs.Kernels.{combined}
use Rattle.block_tasks.specs.Effects.{AreKnown, block_diagonal, bad_pivots}
use Rattle.block_tasks.proofs.TermSums.{HasFactor, factor_at}
use Rattle.block_tasks.proofs.LeftSums.{is_inside-diagonal}

-- the first bad of pivots that are equal
diagonal-same : (m n : ℕ) (a b : ℕ → ℕ) (place : Place) → ((i : ℕ) → i < n → a i ≡ b i) → IsFirstOnDiagonal m n a place → IsFirstOnDiagonal m n b place
diagonal-same m n a b place same h = record {
  diagonal = h.diagonal;
  within = h.within;
  bad = λ unit. h.bad (subst (λ x. IsUnit m x) (sym (same place.row h.within)) unit);
  first = λ i below. subst (λ x. IsUnit m x) (same i (omega (arith, below, h.within))) (h.first i below);
}

rows-same : (m rows cols : ℕ) (a b : Table) (place : Place) → ((i j : ℕ) → i < rows → j < cols → a i j ≡ b i j) → IsFirstByRows m rows cols a place → IsFirstByRows m rows cols b place
rows-same m rows cols a b place same h = record {
  row = h.row;
  col = h.col;
  bad = λ unit. h.bad (subst (λ x. IsUnit m x) (sym (same place.row place.col h.row h.col)) unit);
  first = λ i j row col before. subst (λ x. IsUnit m x) (same i j row col) (h.first i j row col before);
}

module _ (m b : ℕ) (pos : 0 < b) (op : Operation) (knowns : List Grid) (work : Grid) (found : ℕ → Blocks) (are : AreKnown b knowns found) where
  -- a pivot in its diagonal block
  pub block_diagonal-is : (f : Factor) (n i : ℕ) → HasFactor op b knowns pos f n n → i < n → block_diagonal b op found f i i ≡ factor_pivots op knowns f i
  block_diagonal-is f n i has below =
      let place = index_from_place n b i pos below in
      factor_at op b knowns pos found are f n n i (i / b) (i % b) has (is_inside-diagonal op f (i / b)) below place.1
      ∙ ap (λ (x : ℕ). factor_table op knowns f i x) place.0

  module _ (t : Factor) (place : Place) where
    pub bad-left : op.form ≡ Left t → HasFactor op b knowns pos t work.rows work.rows → bad_pivots m b op found work.rows work.cols op.form place → IsFirstBadPivot m op knowns work place
    bad-left form has bad = rw form (diagonal-same m work.rows (λ i. block_diagonal b op found t i i) (factor_pivots op knowns t) place (λ i below. block_diagonal-is t work.rows i has below) (rw form at bad))

    pub left-bad : op.form ≡ Left t → HasFactor op b knowns pos t work.rows work.rows → IsFirstBadPivot m op knowns work place → bad_pivots m b op found work.rows work.cols op.form place
    left-bad form has first = rw form (diagonal-same m work.rows (factor_pivots op knowns t) (λ i. block_diagonal b op found t i i) place (λ i below. sym (block_diagonal-is t work.rows i has below)) (rw form at first))

    pub bad-right : op.form ≡ Right t → HasFactor op b knowns pos t work.cols work.cols → bad_pivots m b op found work.rows work.cols op.form place → IsFirstBadPivot m op knowns work place
    bad-right form has bad = rw form (diagonal-same m work.cols (λ i. block_diagonal b op found t i i) (factor_pivots op knowns t) place (λ i below. block_diagonal-is t work.cols i has below) (rw form at bad))

    pub right-bad : op.form ≡ Right t → HasFactor op b knowns pos t work.cols work.cols → IsFirstBadPivot m op knowns work place → bad_pivots m b op found work.rows work.cols op.form place
    right-bad form has first = rw form (diagonal-same m work.cols (factor_pivots op knowns t) (λ i. block_diagonal b op found t i i) place (λ i below. sym (block_diagonal-is t work.cols i has below)) (rw form at first))

  -- Sylvester
  module _ (t u : Factor) (place : Place) (t_has : HasFactor op b knowns pos t work.rows work.rows) (u_has : HasFactor op b knowns pos u work.cols work.cols) where
    abbrev whole_pivots : Bool → Table
    whole_pivots negative = combined m negative (λ i j. factor_pivots op knowns t i) (λ i j. factor_pivots op knowns u j)

    pivots-same : (negative : Bool) (i j : ℕ) → i < work.rows → j < work.cols → (combined m negative (λ i j. block_diagonal b op found t i i) (λ i j. block_diagonal b op found u j j)) i j ≡ whole_pivots negative i j
    pivots-same true i j row col = ap₂ (λ (x y : ℕ). (x + (m - y)) % m) (block_diagonal-is t work.rows i t_has row) (block_diagonal-is u work.cols j u_has col)
    pivots-same false i j row col = ap₂ (λ (x y : ℕ). (x + y) % m) (block_diagonal-is t work.rows i t_has row) (block_diagonal-is u work.cols j u_has col)

    pub bad-sylvester : (negative : Bool) → op.form ≡ Sylvester t u negative → bad_pivots m b op found work.rows work.cols op.form place → IsFirstBadPivot m op knowns work place
    bad-sylvester negative form bad =
        rw form (rows-same m work.rows work.cols (combined m negative (λ i j. block_diagonal b op found t i i) (λ i j. block_diagonal b op found u j j)) (whole_pivots negative) place (λ i j row col. pivots-same negative i j row col) (rw form at bad))

    pub sylvester-bad : (negative : Bool) → op.form ≡ Sylvester t u negative → IsFirstBadPivot m op knowns work place → bad_pivots m b op found work.rows work.cols op.form place
    sylvester-bad negative form first =
        rw form (rows-same m work.rows work.cols (whole_pivots negative) (combined m negative (λ i j. block_diagonal b op found t i i) (λ i j. block_diagonal b op found u j j)) place (λ i j row col. sym (pivots-same negative i j row col)) (rw form at first))
