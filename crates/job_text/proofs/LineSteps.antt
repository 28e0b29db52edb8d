-- Lines of a section, read one after another. Cited by the readers of statements and of prints.
use Rattle.std.proofs.Common.{◌≡◌, ℕ, zero, suc, get_or, ◌<◌, ◌≤◌, true, false, nat_lt, List, [], ◌∷◌, ◌++◌, length, slice_get, codes, Option, Some, None, Result, Ok, Err, refl, sym, ap, ◌∙◌, arith}
use Rattle.std.proofs.lemmas.Bool.{le-ltb, lt-ltb}
use Rattle.byte_texts.specs.Reading.{◌>>=◌, EndsWith}
use Rattle.byte_texts.proofs.Binding.{EndsWith-along, EndsWith-bind}
use Rattle.text_scan.specs.Faults.{Fault, ◌on◌}
use Rattle.text_scan.specs.FaultKinds.{NameTwice, NameUnknown}
use Rattle.text_scan.specs.Names.{number_of}
use Rattle.text_scan.specs.Lines.{Line, begins, nth_word}
use Rattle.operation_spec.specs.declared.operation.Operation.{Operation}
use Rattle.equation.specs.declared.job.Statement.{Statement}
use Rattle.job_text.specs.JobFaults.{Matrices, bound_at, bound_of, has_number, is_print_line, nth_bound, operation_number, print_at, prints_at, statement_at, statement_head_at, statements_at}
use Rattle.job_text.proofs.BoundAgain.{nth_bound-at, nth_bound-none}

-- ---- a print: its tests

module _ (names : List (List ℕ)) (found : List ℕ) (line : Line) (n : ℕ) (is : n ≡ number_of names (nth_word line.words 1)) (form : is_print_line line.words ≡ true) where
  pub print_at-twice : has_number found n ≡ true → print_at names found line ≡ Err (NameTwice on line.number)
  unfolding print_at
  print_at-twice twice = let test : has_number found (number_of names (nth_word line.words 1)) ≡ true = rw is at twice in rw (form, test) refl

  pub print_at-unknown : has_number found n ≡ false → length names ≤ n → print_at names found line ≡ Err (NameUnknown on line.number)
  unfolding print_at
  print_at-unknown new past =
      let test : has_number found (number_of names (nth_word line.words 1)) ≡ false = rw is at new in
      let unknown : nat_lt (number_of names (nth_word line.words 1)) (length names) ≡ false = rw is at (le-ltb n (length names) past) in
      rw (form, test, unknown) refl

  pub print_at-known : has_number found n ≡ false → n < length names → print_at names found line ≡ Ok n
  unfolding print_at
  print_at-known new within =
      let test : has_number found (number_of names (nth_word line.words 1)) ≡ false = rw is at new in
      let known : nat_lt (number_of names (nth_word line.words 1)) (length names) ≡ true = rw is at (lt-ltb n (length names) within) in
      rw (form, test, known) (ap (λ (k : ℕ). Ok k) (sym is))

-- ---- prints

module _ (names : List (List ℕ)) (found : List ℕ) where
  pub prints-next : (lines rest : List Line) (line : Line) (n : ℕ) (all : Result (List ℕ × List Line) Fault) → prints_at names found lines ≡ all → lines ≡ line ∷ rest → begins (codes "print") lines ≡ true
      → print_at names found line ≡ Ok n → prints_at names (found ++ n ∷ []) rest ≡ all
  unfolding prints_at
  prints-next [] rest line n all so_far split here read = absurd cc
  prints-next (first ∷ lines) rest line n all so_far split here read =
      let same : first ≡ line = cc in
      let others : lines ≡ rest = cc in
      let from : print_at names found first ≡ Ok n = rw same read in
      sym (rw (here, from, others) refl) ∙ so_far

  pub prints-fault : (lines rest : List Line) (line : Line) (fault : Option Fault) (all : Result (List ℕ × List Line) Fault) → prints_at names found lines ≡ all → lines ≡ line ∷ rest → begins (codes "print") lines ≡ true
      → EndsWith fault (print_at names found line) → EndsWith fault all
  unfolding prints_at
  prints-fault [] rest line fault all so_far split here ends = absurd cc
  prints-fault (first ∷ lines) rest line fault all so_far split here ends =
      let same : first ≡ line = cc in
      let steps : prints_at names found (first ∷ lines) ≡ (print_at names found first >>= λ n. prints_at names (found ++ n ∷ []) lines) = rw here refl in
      EndsWith-along fault all _ (sym so_far ∙ steps) (EndsWith-bind fault (print_at names found first) _ (rw same ends))

  pub prints-end : (lines : List Line) (all : Result (List ℕ × List Line) Fault) → prints_at names found lines ≡ all → begins (codes "print") lines ≡ false → all ≡ Ok (found, lines)
  unfolding prints_at
  prints-end [] all so_far other = sym so_far
  prints-end (line ∷ lines) all so_far other = sym so_far ∙ rw other refl

-- ---- statements

module _ (ops : List Operation) (ms : Matrices) (found : List Statement) where
  pub statements-next : (lines rest : List Line) (line : Line) (s : Statement) (all : Result (List Statement × List Line) Fault) → statements_at ops ms found lines ≡ all → lines ≡ line ∷ rest → begins (codes "do") lines ≡ true
      → statement_at ops ms found line ≡ Ok s → statements_at ops ms (found ++ s ∷ []) rest ≡ all
  unfolding statements_at
  statements-next [] rest line s all so_far split here read = absurd cc
  statements-next (first ∷ lines) rest line s all so_far split here read =
      let same : first ≡ line = cc in
      let others : lines ≡ rest = cc in
      let from : statement_at ops ms found first ≡ Ok s = rw same read in
      sym (rw (here, from, others) refl) ∙ so_far

  pub statements-fault : (lines rest : List Line) (line : Line) (fault : Option Fault) (all : Result (List Statement × List Line) Fault) → statements_at ops ms found lines ≡ all → lines ≡ line ∷ rest → begins (codes "do") lines ≡ true
      → EndsWith fault (statement_at ops ms found line) → EndsWith fault all
  unfolding statements_at
  statements-fault [] rest line fault all so_far split here ends = absurd cc
  statements-fault (first ∷ lines) rest line fault all so_far split here ends =
      let same : first ≡ line = cc in
      let steps : statements_at ops ms found (first ∷ lines) ≡ (statement_at ops ms found first >>= λ s. statements_at ops ms (found ++ s ∷ []) lines) = rw here refl in
      EndsWith-along fault all _ (sym so_far ∙ steps) (EndsWith-bind fault (statement_at ops ms found first) _ (rw same ends))

  pub statements-end : (lines : List Line) (all : Result (List Statement × List Line) Fault) → statements_at ops ms found lines ≡ all → begins (codes "do") lines ≡ false → all ≡ Ok (found, lines)
  unfolding statements_at
  statements-end [] all so_far other = sym so_far
  statements-end (line ∷ lines) all so_far other = sym so_far ∙ rw other refl

-- ---- a statement: its operation and its matrices are found

module _ (ops : List Operation) (ms : Matrices) (found : List Statement) (line : Line) (n : ℕ) (bound : List ℕ)
    (head : statement_head_at ops ms found line ≡ Ok tt) (is : n ≡ operation_number ops line.words) (are : bound ≡ bound_of ms.names line.words) where
  at_numbers : statement_at ops ms found line ≡ nth_bound line ops ms.grids n bound
  unfolding statement_at
  at_numbers = rw (head, is, are) refl

  pub statement_at-bound : (op : Operation) → slice_get ops n ≡ Some op → statement_at ops ms found line ≡ bound_at line op ms.grids n bound
  statement_at-bound op at = at_numbers ∙ nth_bound-at line ops ms.grids n bound op at

  pub statement_at-none : slice_get ops n ≡ None → statement_at ops ms found line ≡ Err (NameUnknown on line.number)
  statement_at-none past = at_numbers ∙ nth_bound-none line ops ms.grids n bound past

-- ---- the operation with a number, by what a look-up says

pub found_at : (ops : List Operation) (n : ℕ) (op : Operation) → n < length ops → op ≡ get_or ops n op → slice_get ops n ≡ Some op
found_at [] n op within is = absurd (omega (arith, within))
found_at (o ∷ ops) zero op within is = ap (λ (p : Operation). Some p) (sym is)
found_at (o ∷ ops) (suc n) op within is = found_at ops n op (omega (arith, within)) is

pub past_end : (ops : List Operation) (n : ℕ) → length ops ≤ n → slice_get ops n ≡ None
past_end [] n past = refl
past_end (o ∷ ops) zero past = absurd (omega (arith, past))
past_end (o ∷ ops) (suc n) past = past_end ops n (omega (arith, past))
