-- The first entry that isn't as it has to be: from pieces of a row to the row, from rows to the matrix, and what there being none says.
use Rattle.std.proofs.Common.{◌≡◌, ℕ, ◌+◌, ◌-◌, ◌*◌, ◌<◌, min, Option, None, Some, MatchOption, true, false, inl, inr, subst, arith}
use Rattle.std.specs.Option.{is_some}
use Rattle.std.proofs.lemmas.Bool.{cases_lt}
use Rattle.residue_sums.specs.Grids.{IsFull}
use Rattle.equation.specs.declared.candidate.Candidate.{Candidate}
use Rattle.equation.specs.declared.job.Place.{Place}
use Rattle.equation.specs.Candidates.{HoldsHere, IsCandidate, IsFirstInPiece, knowns_of, work_of}
use Rattle.equation.specs.Equations.{Satisfies}
use Rattle.equation.specs.Residuals.{IsFirstInRow}

-- ---- what a search answers, by whether it found something

pub found : {A : Type 0} (r : Option A) (P other_P : Type 0) (Q other_Q : A → Type 0) → true ≡ is_some r → MatchOption r P Q → ((x : A) → Q x → other_Q x) → MatchOption r other_P other_Q
found None P other_P Q other_Q is h weaken = absurd (cc)
found (Some x) P other_P Q other_Q is h weaken = weaken x h

pub not_found : {A : Type 0} (r : Option A) (P : Type 0) (Q : A → Type 0) → false ≡ is_some r → MatchOption r P Q → P
not_found None P Q is h = h
not_found (Some x) P Q is h = absurd (cc)

-- ---- a row, piece by piece

module _ (c : Candidate) (row piece width cols : ℕ) (cols_are : cols ≡ (work_of c).cols) (width_is : width ≡ min 64 (cols - piece * 64))
    (so_far : (j : ℕ) → j < piece * 64 → j < (work_of c).cols → HoldsHere c row j) where
  pub first_of_row : (place : Place) → IsFirstInPiece c (record { row = row; col = piece * 64 }) width place
      → IsFirstInRow c.m c.op.now (knowns_of c) (work_of c) c.after.now row place
  first_of_row place is = record {
    here = is.row;
    col = omega arith;
    fails = is.fails;
    first = λ j before. elim (cases_lt j (piece * 64)) [
      | inl earlier ↦ so_far j earlier (omega arith)
      | inr here ↦ is.first j here before
    ];
  }

  pub one_piece_more : ((j : ℕ) → j < width → HoldsHere c row (piece * 64 + j)) → (j : ℕ) → j < (piece + 1) * 64 → j < (work_of c).cols → HoldsHere c row j
  one_piece_more here j within col = elim (cases_lt j (piece * 64)) [
    | inl earlier ↦ so_far j earlier col
    | inr behind ↦
        let place : piece * 64 + (j - piece * 64) ≡ j = omega arith in
        subst (HoldsHere c row) place (here (j - piece * 64) (omega arith))
  ]

-- ---- rows

pub one_row_more : (c : Candidate) (row : ℕ) → ((i j : ℕ) → i < row → j < (work_of c).cols → HoldsHere c i j) → ((j : ℕ) → j < (work_of c).cols → HoldsHere c row j)
    → (i j : ℕ) → i < row + 1 → j < (work_of c).cols → HoldsHere c i j
one_row_more c row so_far here i j within col = elim (cases_lt i row) [
  | inl earlier ↦ so_far i j earlier col
  | inr last ↦ (let same : row ≡ i = omega arith in subst (λ (k : ℕ). HoldsHere c k j) same (here j col))
]

-- ---- all entries

pub satisfies_all : (c : Candidate) → IsCandidate c → IsFull c.after.now → ((i j : ℕ) → i < (work_of c).rows → j < (work_of c).cols → HoldsHere c i j)
    → Satisfies c.m c.op.now (knowns_of c) (work_of c) c.after.now
satisfies_all c is full all = record {
  rows = is.rows;
  cols = is.cols;
  full = full;
  residues = is.after;
  equation = λ i j row col inside. let here : HoldsHere c i j = all i j row col in here.equation inside;
  others = λ i j row col none. let here : HoldsHere c i j = all i j row col in here.others none;
}
