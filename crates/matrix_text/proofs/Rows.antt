-- Rows that are read one after another.
use Rattle.std.proofs.Common.{◌≡◌, ℕ, suc, ◌+◌, ◌-◌, ◌<◌, ◌≤◌, List, [], ◌++◌, Result, Ok, Err, Option, Some, None, refl, sym, ap, ◌∙◌, append_assoc, append-nil, arith}
use Rattle.byte_texts.specs.Reading.{◌>>=◌, EndsWith}
use Rattle.byte_texts.proofs.Binding.{same_ok}
use Rattle.text_scan.specs.Faults.{Fault}
use Rattle.text_scan.specs.Lines.{Line}
use Rattle.matrix_text.specs.MatrixFaults.{with_entries, next_row_at, rows_at}

abbrev Rows : Type 0
Rows = Result (List ℕ × List Line) Fault

row_before : (found row : List ℕ) (read : Rows) → with_entries found (read >>= λ others. Ok (row ++ others.0, others.1)) ≡ with_entries (found ++ row) read
row_before found row (Ok x) = ap (λ (xs : List ℕ). Ok (xs, x.1)) (sym (append_assoc found row x.0))
row_before found row (Err fault) = refl

-- a row that was read, before others
row_read : (found new : List ℕ) (behind : List Line) (row : Rows) (read : List Line → Rows) → with_entries found row ≡ Ok (new, behind)
    → with_entries found (row >>= λ first. read first.1 >>= λ others. Ok (first.0 ++ others.0, others.1)) ≡ with_entries new (read behind)
row_read found new behind (Ok row) read e =
    let same = same_ok {F = Fault} (found ++ row.0, row.1) (new, behind) e in
    row_before found row.0 (read row.1) ∙ ap (λ (p : List ℕ × List Line). with_entries p.0 (read p.1)) same
row_read found new behind (Err fault) read e = absurd cc

row_refused : (found : List ℕ) (fault : Fault) (row : Rows) (read : List Line → Rows) → with_entries found row ≡ Err fault
    → with_entries found (row >>= λ first. read first.1 >>= λ others. Ok (first.0 ++ others.0, others.1)) ≡ Err fault
row_refused found fault (Ok row) read e = absurd cc
row_refused found fault (Err f) read e = e

-- ---- the loop: what is read behind the entries that were found

behind_none : (read : Rows) → with_entries [] read ≡ read
behind_none (Ok x) = refl
behind_none (Err fault) = refl

pub begins : (end m cols count : ℕ) (found : List ℕ) (lines : List Line) → found ≡ [] → with_entries found (rows_at end m cols (count - 0) lines) ≡ rows_at end m cols count lines
begins end m cols count found lines none =
    let all : count - 0 ≡ count = omega arith in
    rw (none, all) (behind_none (rows_at end m cols count lines))

module _ (end m cols count i : ℕ) (found : List ℕ) (lines : List Line) (all : Rows) (so_far : with_entries found (rows_at end m cols (count - i) lines) ≡ all) where
  pub goes_on : (new : List ℕ) (behind : List Line) → i < count → with_entries found (next_row_at end m cols lines) ≡ Ok (new, behind) → with_entries new (rows_at end m cols (count - (i + 1)) behind) ≡ all
  unfolding rows_at
  goes_on new behind inside read =
      let k : count - i ≡ suc (count - (i + 1)) = omega arith in
      let one : with_entries found (rows_at end m cols (count - i) lines) ≡ with_entries new (rows_at end m cols (count - (i + 1)) behind) = rw k (row_read found new behind (next_row_at end m cols lines) (rows_at end m cols (count - (i + 1))) read) in
      sym one ∙ so_far

  pub ends : (fault : Option Fault) → i < count → EndsWith fault (with_entries found (next_row_at end m cols lines)) → EndsWith fault all
  unfolding rows_at
  ends None inside refused = tt
  ends (Some fault) inside refused =
      let k : count - i ≡ suc (count - (i + 1)) = omega arith in
      let one : with_entries found (rows_at end m cols (count - i) lines) ≡ Err fault = rw k (row_refused found fault (next_row_at end m cols lines) (rows_at end m cols (count - (i + 1))) refused) in
      sym so_far ∙ one

  pub all_read : count ≤ i → all ≡ Ok (found, lines)
  unfolding rows_at
  all_read past =
      let k : count - i ≡ 0 = omega arith in
      let one : with_entries found (rows_at end m cols (count - i) lines) ≡ Ok (found, lines) = rw k (ap (λ (xs : List ℕ). Ok (xs, lines)) (append-nil found)) in
      sym so_far ∙ one
