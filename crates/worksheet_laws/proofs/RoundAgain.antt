-- The lines of tasks and of states are read as these. Cited by the reader of all lines.
use Rattle.std.proofs.Common.{◌≡◌, ◌≢◌, ℕ, ◌<◌, true, false, List, [], ◌∷◌, ◌++◌, length, map, drop, Result, Ok, All, refl, sym, ap, ◌∙◌, arith, append_assoc, length-append}
use Rattle.std.specs.Prelude.{codes}
use Rattle.std.specs.Fmt.{decimal}
use Rattle.std.proofs.lemmas.Bool.{ne_eqb}
use Rattle.std.proofs.lemmas.List.{append-nil}
use Rattle.std.proofs.lemmas.List.Elements.{All-head, All-tail}
use Rattle.text_scan.specs.LineOrder.{AreLines}
use Rattle.text_scan.specs.Lines.{Line, begins, begins_with}
use Rattle.text_scan.proofs.LineOrders.{AreLines-inner, AreLines-parts}
use Rattle.operation_spec.specs.declared.task.Task.{Task}
use Rattle.worksheet.specs.declared.sheet.State.{State}
use Rattle.worksheet_text.specs.SheetFaults.{SheetFault}
use Rattle.worksheet_text.specs.SheetReading.{each_line, invariant_at, more_due, state_at, update_at}
use Rattle.worksheet_text.specs.SheetWords.{Words, next_at, nothing_left, part_at, task_at, tasks_at, word_at}
use Rattle.worksheet_laws.specs.SheetLines.{state_words, task_words, tasks_words, update_words}
use Rattle.worksheet_laws.specs.SpelledSheets.{IsPartState, IsPartTask}
use Rattle.worksheet_laws.proofs.TasksAgain.{part_at-word, task_again, tasks_again}

-- the words of lines, without their numbers
abbrev pub words_of : List Line → List Words
words_of lines = map (λ (line : Line). line.words) lines

-- a line is its number and its words
pub with_words : (line : Line) (words : Words) → line.words ≡ words → line ≡ record { number = line.number; words = words }
with_words line words same = ap (λ (ws : Words). record { number = line.number; words = ws }) same

-- ---- one line

pub invariant_again : (n : ℕ) (tasks : List Task) → All IsPartTask tasks → invariant_at (record { number = n; words = codes "invariant" ∷ tasks_words tasks }) ≡ Ok tasks
unfolding invariant_at word_at next_at
invariant_again n tasks all = tasks_again n tasks all

more_again : (end n : ℕ) (words : Words) → n ≢ end → more_due end (record { number = n; words = words }) ≡ Ok tt
unfolding more_due
more_again end n words inside = rw (ne_eqb n end inside) refl

colon_sign : (line : ℕ) (words : Words) → word_at line (codes ":") (codes ":" ∷ words) ≡ Ok words
unfolding word_at next_at
colon_sign line words = refl

state_steps : (end row col : ℕ) (line : Line) (done : List Task) (w1 w2 w3 : Words) → more_due end line ≡ Ok tt → part_at line.number (drop 1 line.words) ≡ Ok (row, w1) → part_at line.number w1 ≡ Ok (col, w2)
    → word_at line.number (codes ":") w2 ≡ Ok w3 → tasks_at line.number w3 ≡ Ok done → state_at end line ≡ Ok (record { row = row; col = col; done = done })
unfolding state_at
state_steps end row col line done w1 w2 w3 more here there colon tasks = rw (more, here, there, colon, tasks) refl

pub state_again : (end n : ℕ) (word : List ℕ) (s : State) → n ≢ end → IsPartState s → state_at end (record { number = n; words = state_words word s }) ≡ Ok s
state_again end n word s inside is =
    let w3 = tasks_words s.done in
    let w2 = codes ":" ∷ w3 in
    let w1 = decimal s.col ∷ w2 in
    state_steps end s.row s.col (record { number = n; words = state_words word s }) s.done w1 w2 w3 (more_again end n (state_words word s) inside) (part_at-word n s.row w1 is.row) (part_at-word n s.col w2 is.col) (colon_sign n w3)
    (tasks_again n s.done is.done)

update_steps : (end : ℕ) (line : Line) (a : Task) → more_due end line ≡ Ok tt → task_at line.number (drop 1 line.words) ≡ Ok (a, []) → update_at end line ≡ Ok a
unfolding update_at nothing_left
update_steps end line a more task = rw (more, task) refl

pub update_again : (end n : ℕ) (a : Task) → n ≢ end → IsPartTask a → update_at end (record { number = n; words = update_words a }) ≡ Ok a
update_again end n a inside is =
    update_steps end (record { number = n; words = update_words a }) a (more_again end n (update_words a) inside) (ap (task_at n) (sym (append-nil (task_words a))) ∙ task_again n a [] is)

-- ---- lines one after another

module _ {X : Type 0} (end : ℕ) (word : List ℕ) (read : Line → Result X SheetFault) (item : X → Words) (P : X → Type 0) (begin : (x : X) → begins_with word (item x) ≡ true)
    (again : (n : ℕ) (x : X) → n ≢ end → P x → read (record { number = n; words = item x }) ≡ Ok x) where
  none_left : (found : List X) (rest : List Line) → begins word rest ≡ false → each_line word read found rest ≡ Ok (found, rest)
  unfolding each_line
  none_left found [] other = refl
  none_left found (line ∷ rest) other = rw other refl

  one_more : (found : List X) (line : Line) (lines : List Line) (x : X) → line.words ≡ item x → line.number ≢ end → P x → each_line word read found (line ∷ lines) ≡ each_line word read (found ++ x ∷ []) lines
  unfolding each_line
  one_more found line lines x same inside is =
      let first : begins_with word line.words ≡ true = ap (begins_with word) same ∙ begin x in
      let value : read line ≡ Ok x = ap read (with_words line (item x) same) ∙ again line.number x inside is in
      rw (first, value) refl

  pub each_again : (found xs : List X) (lines rest : List Line) → words_of lines ≡ map item xs → All P xs → AreLines end (lines ++ rest) → 0 < length rest → begins word rest ≡ false
      → each_line word read found (lines ++ rest) ≡ Ok (found ++ xs, rest)
  each_again found [] [] rest same all are some other = none_left found rest other ∙ ap (λ (ys : List X). Ok (ys, rest)) (sym (append-nil found))
  each_again found [] (line ∷ lines) rest same all are some other = absurd cc
  each_again found (x ∷ xs) [] rest same all are some other = absurd cc
  each_again found (x ∷ xs) (line ∷ lines) rest same all are some other =
      let here : line.words ≡ item x = cc in
      let behind : words_of lines ≡ map item xs = cc in
      let inside : line.number ≢ end = AreLines-inner line (lines ++ rest) are (omega (arith, some, length-append lines rest)) in
      one_more found line (lines ++ rest) x here inside (All-head P x xs all)
      ∙ each_again (found ++ x ∷ []) xs lines rest behind (All-tail P x xs all) (AreLines-parts are).others some other ∙ ap (λ (ys : List X). Ok (ys, rest)) (append_assoc found (x ∷ []) xs)
