-- Lines with their numbers. Cited by the laws of what is printed and read again.
use Rattle.std.proofs.Common.{◌≡◌, ℕ, ◌+◌, List, [], ◌∷◌, map, refl, ap}
use Rattle.text_scan.specs.Lines.{Line}
use Rattle.text_scan.specs.NormalTexts.{numbered_lines}

-- the numbers leave the words as they were
pub words-numbered_lines : (n : ℕ) (lines : List (List (List ℕ))) → map (λ (line : Line). line.words) (numbered_lines n lines) ≡ lines
words-numbered_lines n [] = refl
words-numbered_lines n (words ∷ lines) = ap (λ (l : List (List (List ℕ))). words ∷ l) (words-numbered_lines (n + 1) lines)
