-- The forms of lines, as tests of how many words they have and of each word.
use Rattle.std.proofs.Common.{◌≡◌, ℕ, ◌&&◌, nat_lt, ◌==◌, List, [], ◌∷◌, length, drop, IsTrue, refl, arith}
use Rattle.std.specs.Prelude.{codes}
use Rattle.std.specs.List.{list_all}
use Rattle.std.specs.Str.{bytes_eq}
use Rattle.std.proofs.lemmas.Bool.{and_parts}
use Rattle.std.proofs.lemmas.Bool.Decides.{nat_tests}
use Rattle.text_scan.specs.Lines.{nth_word}
use Rattle.text_scan.specs.Words.{is_name, is_number}
use Rattle.job_text.specs.JobFaults.{is_header, is_modulus_line, is_print_line, is_statement_line}

pub header_is : (words : List (List ℕ)) → is_header words ≡ (length words == 2 && bytes_eq (nth_word words 0) (codes "flame") && bytes_eq (nth_word words 1) (codes "1"))
header_is [] = refl
header_is (a ∷ []) = refl
header_is (a ∷ b ∷ []) = refl
header_is (a ∷ b ∷ c ∷ words) = grind (arith, nat_tests)

pub modulus_line_is : (words : List (List ℕ)) → is_modulus_line words ≡ (length words == 2 && bytes_eq (nth_word words 0) (codes "modulus") && is_number (nth_word words 1))
modulus_line_is [] = refl
modulus_line_is (a ∷ []) = refl
modulus_line_is (a ∷ b ∷ []) = refl
modulus_line_is (a ∷ b ∷ c ∷ words) = grind (arith, nat_tests)

-- its last word is a number
pub modulus_number : (words : List (List ℕ)) → IsTrue (is_modulus_line words) → IsTrue (is_number (nth_word words 1))
modulus_number (a ∷ b ∷ []) is = (and_parts (bytes_eq a (codes "modulus")) (is_number b) is).1
modulus_number _ is = absurd cc

pub print_line_is : (words : List (List ℕ)) → is_print_line words ≡ (length words == 2 && bytes_eq (nth_word words 0) (codes "print") && is_name (nth_word words 1))
print_line_is [] = refl
print_line_is (a ∷ []) = refl
print_line_is (a ∷ b ∷ []) = refl
print_line_is (a ∷ b ∷ c ∷ words) = grind (arith, nat_tests)

pub statement_line_is : (words : List (List ℕ)) → is_statement_line words ≡ (nat_lt 1 (length words) && bytes_eq (nth_word words 0) (codes "do") && is_name (nth_word words 1) && list_all is_name (drop 2 words))
statement_line_is [] = refl
statement_line_is (a ∷ []) = grind (arith, nat_tests)
statement_line_is (a ∷ b ∷ words) = grind (arith, nat_tests)
