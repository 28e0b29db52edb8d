-- Lines that begin with a word, read one after another. Cited by the readers of states and of updates.
use Rattle.std.proofs.Common.{◌≡◌, ℕ, true, false, List, [], ◌∷◌, ◌++◌, Option, Result, Ok, refl, sym, ◌∙◌}
use Rattle.byte_texts.specs.Reading.{◌>>=◌, EndsWith}
use Rattle.byte_texts.proofs.Binding.{EndsWith-along, EndsWith-bind}
use Rattle.text_scan.specs.Lines.{Line, begins}
use Rattle.worksheet_text.specs.SheetFaults.{SheetFault}
use Rattle.worksheet_text.specs.SheetReading.{each_line}

module _ {X : Type 0} (word : List ℕ) (read : Line → Result X SheetFault) (found : List X) where
  pub each-next : (lines rest : List Line) (line : Line) (x : X) (all : Result (List X × List Line) SheetFault) → each_line word read found lines ≡ all → lines ≡ line ∷ rest → begins word lines ≡ true
      → read line ≡ Ok x → each_line word read (found ++ x ∷ []) rest ≡ all
  unfolding each_line
  each-next [] rest line x all so_far split here is = absurd cc
  each-next (first ∷ lines) rest line x all so_far split here is =
      let same : first ≡ line = cc in
      let others : lines ≡ rest = cc in
      let from : read first ≡ Ok x = rw same is in
      sym (rw (here, from, others) refl) ∙ so_far

  pub each-fault : (lines rest : List Line) (line : Line) (fault : Option SheetFault) (all : Result (List X × List Line) SheetFault) → each_line word read found lines ≡ all → lines ≡ line ∷ rest → begins word lines ≡ true
      → EndsWith fault (read line) → EndsWith fault all
  unfolding each_line
  each-fault [] rest line fault all so_far split here ends = absurd cc
  each-fault (first ∷ lines) rest line fault all so_far split here ends =
      let same : first ≡ line = cc in
      let steps : each_line word read found (first ∷ lines) ≡ (read first >>= λ x. each_line word read (found ++ x ∷ []) lines) = rw here refl in
      EndsWith-along fault all _ (sym so_far ∙ steps) (EndsWith-bind fault (read first) _ (rw same ends))

  pub each-end : (lines : List Line) (all : Result (List X × List Line) SheetFault) → each_line word read found lines ≡ all → begins word lines ≡ false → all ≡ Ok (found, lines)
  unfolding each_line
  each-end [] all so_far other = sym so_far
  each-end (line ∷ lines) all so_far other = sym so_far ∙ rw other refl
