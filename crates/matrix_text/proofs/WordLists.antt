-- The form of a first line, as tests of how many words it has and of each word.
use Rattle.std.proofs.Common.{◌≡◌, ℕ, ◌&&◌, ◌==◌, List, [], ◌∷◌, length, IsTrue, refl, arith}
use Rattle.std.specs.Str.{bytes_eq}
use Rattle.std.proofs.lemmas.Bool.{and_parts}
use Rattle.std.proofs.lemmas.Bool.Decides.{nat_tests}
use Rattle.text_scan.specs.Lines.{nth_word}
use Rattle.text_scan.specs.Words.{is_name, is_number}
use Rattle.matrix_text.specs.MatrixFaults.{is_sized_line}

-- a first line has four words
pub sized_line_is : (w : List ℕ) (words : List (List ℕ)) → is_sized_line w words
    ≡ (length words == 4 && bytes_eq (nth_word words 0) w && is_name (nth_word words 1) && is_number (nth_word words 2) && is_number (nth_word words 3))
sized_line_is w [] = refl
sized_line_is w (a ∷ []) = refl
sized_line_is w (a ∷ b ∷ []) = refl
sized_line_is w (a ∷ b ∷ c ∷ []) = refl
sized_line_is w (a ∷ b ∷ c ∷ d ∷ []) = refl
sized_line_is w (a ∷ b ∷ c ∷ d ∷ e ∷ words) = grind (arith, nat_tests)

-- of which the last two are numbers
pub sized_numbers : (w : List ℕ) (words : List (List ℕ)) → IsTrue (is_sized_line w words) → IsTrue (is_number (nth_word words 2)) × IsTrue (is_number (nth_word words 3))
sized_numbers w (a ∷ b ∷ c ∷ d ∷ []) is =
    let last = and_parts (bytes_eq a w && is_name b && is_number c) (is_number d) is in
    ((and_parts (bytes_eq a w && is_name b) (is_number c) last.0).1, last.1)
sized_numbers w _ is = absurd cc
