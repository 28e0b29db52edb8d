-- The forms of lines, as tests of how many words they have and of each word.
use Rattle.std.proofs.Common.{◌≡◌, ℕ, ◌&&◌, nat_lt, ◌==◌, List, [], ◌∷◌, length, drop, refl, arith}
use Rattle.std.specs.Prelude.{codes}
use Rattle.std.specs.List.{list_all}
use Rattle.std.specs.Str.{bytes_eq}
use Rattle.std.proofs.lemmas.Bool.Decides.{nat_tests}
use Rattle.text_scan.specs.Lines.{nth_word}
use Rattle.text_scan.specs.Words.{is_name}
use Rattle.operation_spec.specs.OperationFaults.{is_dims_line, is_name_line, is_operand_line, is_structure, structure_of}

pub name_line_is : (words : List (List ℕ)) → is_name_line words ≡ (length words == 2 && bytes_eq (nth_word words 0) (codes "operation") && is_name (nth_word words 1))
name_line_is [] = refl
name_line_is (a ∷ []) = refl
name_line_is (a ∷ b ∷ []) = refl
name_line_is (a ∷ b ∷ c ∷ words) = grind (arith, nat_tests)

pub dims_line_is : (words : List (List ℕ)) → is_dims_line words ≡ (nat_lt 1 (length words) && bytes_eq (nth_word words 0) (codes "dims") && list_all is_name (drop 1 words))
dims_line_is [] = refl
dims_line_is (a ∷ []) = grind (arith, nat_tests)
dims_line_is (a ∷ b ∷ words) = grind (arith, nat_tests)

pub operand_line_is : (first : List ℕ) (words : List (List ℕ)) → is_operand_line first words
    ≡ (length words == 5 && bytes_eq (nth_word words 0) first && is_name (nth_word words 1) && is_structure (structure_of (nth_word words 2)) && is_name (nth_word words 3) && is_name (nth_word words 4))
operand_line_is first [] = refl
operand_line_is first (a ∷ []) = refl
operand_line_is first (a ∷ b ∷ []) = refl
operand_line_is first (a ∷ b ∷ c ∷ []) = refl
operand_line_is first (a ∷ b ∷ c ∷ d ∷ []) = refl
operand_line_is first (a ∷ b ∷ c ∷ d ∷ e ∷ []) = refl
operand_line_is first (a ∷ b ∷ c ∷ d ∷ e ∷ f ∷ words) = grind (arith, nat_tests)
