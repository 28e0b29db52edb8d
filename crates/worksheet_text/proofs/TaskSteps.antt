-- Tasks of a line, read one after another. Cited by their reader.
use Rattle.std.proofs.Common.{◌≡◌, ℕ, zero, suc, ◌<◌, List, [], ◌∷◌, ◌++◌, length, Option, Result, Ok, refl, sym, ◌∙◌, arith}
use Rattle.byte_texts.specs.Reading.{◌>>=◌, EndsWith}
use Rattle.byte_texts.proofs.Binding.{EndsWith-along, EndsWith-bind}
use Rattle.operation_spec.specs.declared.task.Task.{Task}
use Rattle.worksheet_text.specs.SheetFaults.{SheetFault}
use Rattle.worksheet_text.specs.SheetWords.{Words, task_at, tasks_from}

module _ (line : ℕ) (found : List Task) where
  pub tasks-next : (left n : ℕ) (words rest : Words) (a : Task) (all : Result (List Task) SheetFault) → left ≡ suc n → tasks_from left line found words ≡ all → 0 < length words
      → task_at line words ≡ Ok (a, rest) → tasks_from n line (found ++ a ∷ []) rest ≡ all
  unfolding tasks_from
  tasks-next left n [] rest a all more so_far some is = absurd (omega (arith, some))
  tasks-next left n (w ∷ words) rest a all more so_far some is =
      let from : tasks_from (suc n) line found (w ∷ words) ≡ all = rw more at so_far in
      sym (rw is refl) ∙ from

  pub tasks-fault : (left n : ℕ) (words : Words) (fault : Option SheetFault) (all : Result (List Task) SheetFault) → left ≡ suc n → tasks_from left line found words ≡ all → 0 < length words
      → EndsWith fault (task_at line words) → EndsWith fault all
  unfolding tasks_from
  tasks-fault left n [] fault all more so_far some ends = absurd (omega (arith, some))
  tasks-fault left n (w ∷ words) fault all more so_far some ends =
      let from : tasks_from (suc n) line found (w ∷ words) ≡ all = rw more at so_far in
      EndsWith-along fault all _ (sym from) (EndsWith-bind fault (task_at line (w ∷ words)) _ ends)

  -- no task is due any more, or no word is left
  pub tasks-none : (left : ℕ) (words : Words) (all : Result (List Task) SheetFault) → left ≡ 0 → tasks_from left line found words ≡ all → all ≡ Ok found
  unfolding tasks_from
  tasks-none left words all none so_far =
      let from : tasks_from 0 line found words ≡ all = rw none at so_far in
      sym from

  pub tasks-end : (left : ℕ) (words : Words) (all : Result (List Task) SheetFault) → length words ≡ 0 → tasks_from left line found words ≡ all → all ≡ Ok found
  unfolding tasks_from
  tasks-end zero words all end so_far = sym so_far
  tasks-end (suc n) [] all end so_far = sym so_far
  tasks-end (suc n) (w ∷ words) all end so_far = absurd (omega (arith, end))
