-- A word that is a number, as a decimal number at the front of bytes.
use Rattle.std.proofs.Common.{◌≡◌, ℕ, suc, ◌+◌, ◌^◌, Bool, true, false, cond, not, nat_lt, nat_le, ◌==◌, ◌&&◌, ◌||◌, List, [], ◌∷◌, ◌++◌, length, Option, Some, None, IsTrue, refl, sym, ap, ◌∙◌, arith}
use Rattle.std.specs.List.{prefix_len, list_all}
use Rattle.std.specs.Option.{option_map}
use Rattle.std.specs.Char.{is_ascii_digit, is_ascii_alphabetic}
use Rattle.std.specs.Str.Parse.{digits_value}
use Rattle.std.proofs.lemmas.Bool.{and_parts}
use Rattle.std.proofs.lemmas.Bool.Decides.{nat_tests}
use Rattle.std.proofs.lemmas.List.{append-nil, take_all, drop_all}
use Rattle.byte_texts.specs.Decimals.{is_decimal, decimal_at}
use Rattle.text_scan.specs.declared.token.TokenKind.{TokenKind}
use Rattle.text_scan.specs.declared.token.TokenKind.TheVariants.{Name, Number, Sign}
use Rattle.text_scan.specs.Words.{is_word, kind_of, has_leading_zero, small_number}

-- a front whose bytes all pass, and how many pass behind it
pub front_passes : (p : ℕ → Bool) (xs ys : List ℕ) → list_all p xs ≡ true → prefix_len p (xs ++ ys) ≡ length xs + prefix_len p ys
front_passes p [] ys h = omega arith
front_passes p (x ∷ xs) ys h =
    let both = and_parts (p x) (list_all p xs) h in
    let rest = front_passes p xs ys both.1 in
    rw both.0 (omega (arith, rest))

-- a number's word is digits
pub number_digits : (w : List ℕ) → IsTrue (is_word w) → kind_of w ≡ Number → list_all is_ascii_digit w ≡ true
number_digits [] is kind = absurd cc
number_digits (b ∷ bytes) is kind = by_kind (is_ascii_alphabetic b) (is_ascii_digit b) _ _ is kind
  where
    by_kind : (letter digit others signs : Bool) → cond letter others (cond digit (list_all is_ascii_digit bytes) signs) ≡ true
        → ◌≡◌ {A = TokenKind} (cond letter Name (cond digit Number Sign)) Number → (digit && list_all is_ascii_digit bytes) ≡ true
    by_kind true digit others signs is kind = absurd cc
    by_kind false true others signs is kind = is
    by_kind false false others signs is kind = absurd cc

-- the tests of a decimal number are those of a number's word
one_digit : (v : ℕ) (b : Bool) → (nat_lt 0 1 && (1 == 1 || b) && nat_lt v (2 ^ 64)) ≡ not (false || nat_le (2 ^ 64) v)
one_digit v b = grind (arith, nat_tests)

more_digits : (n v b : ℕ) → (nat_lt 0 (suc (suc n)) && (suc (suc n) == 1 || not (b == 48)) && nat_lt v (2 ^ 64)) ≡ not (b == 48 || nat_le (2 ^ 64) v)
more_digits n v b = grind (arith, nat_tests)

same_tests : (w : List ℕ) → IsTrue (is_word w) → is_decimal w ≡ not (has_leading_zero w || nat_le (2 ^ 64) (digits_value 10 w))
same_tests [] is = absurd cc
same_tests (b ∷ []) is = one_digit (digits_value 10 (b ∷ [])) (not (b == 48))
same_tests (b ∷ c ∷ digits) is = more_digits (length digits) (digits_value 10 (b ∷ c ∷ digits)) b

by_test : (passes fails : Bool) (v : ℕ) (rest : List ℕ) → passes ≡ not fails
    → cond fails None (Some v) ≡ option_map (λ (p : ℕ × List ℕ). p.0) (cond passes (Some (v, rest)) None)
by_test passes true v rest e = rw e refl
by_test passes false v rest e = rw e refl

-- what was read at the front of a word is the word's number
pub number_read : (text w : List ℕ) (read : Option (ℕ × List ℕ)) → text ≡ w → IsTrue (is_word w) → kind_of w ≡ Number → decimal_at text ≡ read → option_map (λ (p : ℕ × List ℕ). p.0) read ≡ small_number w
unfolding decimal_at
number_read text w read same is kind e =
    let all : prefix_len is_ascii_digit w ≡ length w = ap (prefix_len is_ascii_digit) (sym (append-nil w)) ∙ front_passes is_ascii_digit w [] (number_digits w is kind) ∙ omega arith in
    ap (option_map (λ (p : ℕ × List ℕ). p.0)) (sym e ∙ ap decimal_at same)
    ∙ sym (rw (all, take_all (length w) w (omega arith), drop_all (length w) w (omega arith)) (by_test _ _ (digits_value 10 w) [] (same_tests w is)))
