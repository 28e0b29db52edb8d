-- The numbers of a row, one after another.
use Rattle.std.proofs.Common.{◌≡◌, ◌≢◌, ℕ, ◌+◌, ◌<◌, ◌≤◌, Bool, true, false, cond, not, nat_lt, List, [], ◌∷◌, ◌++◌, length, drop, map, get_or, Result, Ok, Err, IsTrue, refl, sym, ap, ◌∙◌, append_assoc, append-nil}
use Rattle.std.specs.List.{list_all}
use Rattle.std.proofs.lemmas.Bool.{lt-ltb, le-ltb, eq-eqb, ne_eqb}
use Rattle.std.proofs.lemmas.List.{at_drop_more, at_drop_all}
use Rattle.std.proofs.lemmas.List.Sums.{AllPass-from_list_all}
use Rattle.text_scan.specs.FaultKinds.{Syntax, RowLength, EntryRange}
use Rattle.text_scan.specs.Faults.{Fault, ◌on◌}
use Rattle.text_scan.specs.Lines.{Line, is_end, nth_word}
use Rattle.text_scan.specs.Words.{is_number, number_value}
use Rattle.matrix_text.specs.MatrixFaults.{row_at, numbers_behind, with_row}

-- each of the words that all are numbers
pub number_each : (words : List (List ℕ)) (i : ℕ) → IsTrue (list_all is_number words) → i < length words → IsTrue (is_number (nth_word words i))
number_each words i all inside = AllPass-from_list_all is_number words all i [] inside

module _ (m : ℕ) (fault : Fault) (found : List ℕ) (words : List (List ℕ)) (i : ℕ) (all : Result (List ℕ) Fault) (so_far : numbers_behind m fault found (drop i words) ≡ all) where
  abbrev Behind : List (List ℕ) → Result (List ℕ) Fault
  Behind left = numbers_behind m fault found left

  -- a number below m
  pub one_more : (n : ℕ) → i < length words → n ≡ number_value (nth_word words i) → n < m → numbers_behind m fault (found ++ n ∷ []) (drop (i + 1) words) ≡ all
  one_more n inside value below =
      let w = get_or words i [] in
      let rest = drop (i + 1) words in
      let test : nat_lt (number_value w) m ≡ true = rw (← value) (lt-ltb n m below) in
      let grown : numbers_behind m fault (found ++ n ∷ []) rest ≡ numbers_behind m fault found (w ∷ rest) =
      rw (test, value) (ap (λ (numbers : List ℕ). cond (list_all (λ w. nat_lt (number_value w) m) rest) (Ok numbers) (Err fault)) (append_assoc found (number_value w ∷ []) (map number_value rest))) in
      grown ∙ sym (at_drop_more Behind words i [] inside) ∙ so_far

  -- a number that isn't
  pub too_large : i < length words → m ≤ number_value (nth_word words i) → all ≡ Err fault
  too_large inside above =
      let test : nat_lt (number_value (get_or words i [])) m ≡ false = le-ltb _ m above in
      sym so_far ∙ at_drop_more Behind words i [] inside ∙ rw test refl

  -- no further number
  pub all_found : length words ≤ i → all ≡ Ok found
  all_found past = sym so_far ∙ at_drop_all Behind words i past ∙ ap (λ (numbers : List ℕ). Ok numbers) (append-nil found)

-- ---- a row: its tests in their order

by_range : (b : Bool) (fault : Fault) (found row : List ℕ) → with_row found (cond (not b) (Err fault) (Ok row)) ≡ cond b (Ok (found ++ row)) (Err fault)
by_range true fault found row = refl
by_range false fault found row = refl

module _ (line : Line) (m cols : ℕ) (found : List ℕ) where
  abbrev read : Result (List ℕ) Fault
  read = with_row found (row_at m cols line)

  pub row_ends : is_end line.words ≡ true → read ≡ Err (RowLength on line.number)
  unfolding row_at
  row_ends ends = rw ends refl

  pub row_other_word : is_end line.words ≡ false → list_all is_number line.words ≡ false → read ≡ Err (Syntax on line.number)
  unfolding row_at
  row_other_word other not_all = rw (other, not_all) refl

  pub row_other_count : is_end line.words ≡ false → list_all is_number line.words ≡ true → length line.words ≢ cols → read ≡ Err (RowLength on line.number)
  unfolding row_at
  row_other_count other all count = rw (other, all, ne_eqb (length line.words) cols count) refl

  pub row_numbers : is_end line.words ≡ false → list_all is_number line.words ≡ true → length line.words ≡ cols → read ≡ numbers_behind m (EntryRange on line.number) found line.words
  unfolding row_at
  row_numbers other all count =
      rw (other, all, eq-eqb (length line.words) cols count) (by_range (list_all (λ w. nat_lt (number_value w) m) line.words) (EntryRange on line.number) found (map number_value line.words))

-- cited by the reader of a row
pub ruleset row_tests = (row_ends, row_other_word, row_other_count, row_numbers)
