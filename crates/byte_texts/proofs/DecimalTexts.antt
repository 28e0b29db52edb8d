-- A decimal number that is read is what is printed of it, and what is printed is read again. Cited by
-- the laws of words that are numbers, and by the words of a command.
use Rattle.std.proofs.Common.{◌≡◌, ℕ, ◌<◌, ◌^◌, Bool, true, false, nat_lt, not, ◌&&◌, ◌||◌, ◌==◌, cond, List, [], ◌++◌, length, get_or, take, drop, Some, None, refl, sym, ap, ◌∙◌, arith, inl, inr, take-append-drop}
use Rattle.std.specs.List.{prefix_len}
use Rattle.std.specs.Char.{is_ascii_digit}
use Rattle.std.specs.Fmt.{decimal}
use Rattle.std.specs.Str.Parse.{AllDigits, digits_value}
use Rattle.std.proofs.lemmas.Bool.{ltb-true, lt-ltb, cases_lt}
use Rattle.std.proofs.lemmas.Bool.Decides.{nat_tests}
use Rattle.std.proofs.lemmas.List.{take_all, drop_all}
use Rattle.std.proofs.lemmas.Str.Parse.{IsNumeralModel, numerals_by_value, tells_digits}
use Rattle.std.proofs.lemmas.Fmt.{decimal-digits_value, digits_value-decimal, digits_decimal, decimal_nonempty, first_decimal, decimal_digit}
use Rattle.byte_texts.specs.Decimals.{is_decimal, decimal_at}
use Rattle.byte_texts.proofs.Digits.{leading_digits, digits_only}

by_digits : IsNumeralModel (AllDigits 10) (digits_value 10)
by_digits = numerals_by_value (AllDigits 10) tells_digits

three_tests : (a b c : Bool) → (a && b && c) ≡ true → (a ≡ true) × (b ≡ true) × (c ≡ true)
three_tests true true true e = (refl, refl, refl)
three_tests true true false e = absurd cc
three_tests true false c e = absurd cc
three_tests false b c e = absurd cc

-- digits that pass the test are what is printed of their number
printed_again : (ds : List ℕ) → AllDigits 10 ds → is_decimal ds ≡ true → (decimal (digits_value 10 ds) ≡ ds) × (digits_value 10 ds < 2 ^ 64)
printed_again ds digits test =
    let tests = three_tests (nat_lt 0 (length ds)) (length ds == 1 || not (get_or ds 0 0 == 48)) (nat_lt (digits_value 10 ds) (2 ^ 64)) test in
    let below : digits_value 10 ds < 2 ^ 64 = ltb-true _ _ tests.2 in
    (decimal-digits_value by_digits ds digits (ltb-true 0 (length ds) tests.0) (λ first. grind (arith, nat_tests)) (omega arith), below)

test_held : {A : Type 0} (test : Bool) (x y : A) → cond test (Some x) None ≡ Some y → (test ≡ true) × (x ≡ y)
test_held true x y e = (refl, cc)
test_held false x y e = absurd cc

-- what is read is spelled so
pub decimal_takes : (bytes : List ℕ) (n : ℕ) (rest : List ℕ) → decimal_at bytes ≡ Some (n, rest) → (bytes ≡ decimal n ++ rest) × (n < 2 ^ 64)
unfolding decimal_at
decimal_takes bytes n rest e =
    let k = prefix_len is_ascii_digit bytes in
    let held = test_held (is_decimal (take k bytes)) (digits_value 10 (take k bytes), drop k bytes) (n, rest) e in
    let value : digits_value 10 (take k bytes) ≡ n = ap (λ (p : ℕ × List ℕ). p.0) held.1 in
    let behind : drop k bytes ≡ rest = ap (λ (p : ℕ × List ℕ). p.1) held.1 in
    let printed = printed_again (take k bytes) (leading_digits bytes) held.0 in
    let front : decimal n ≡ take k bytes = ap decimal (sym value) ∙ printed.0 in
    (sym (rw (front, ← behind) (take-append-drop k bytes)), omega (arith, printed.1))

no_needless_zero : (n : ℕ) → n < 2 ^ 64 → (length (decimal n) == 1 || not (get_or (decimal n) 0 0 == 48)) ≡ true
no_needless_zero n below =
    elim (cases_lt n 10) [
      | inl small ↦ rw (decimal_digit n small) refl
      | inr large ↦ let first = first_decimal n (omega arith) (omega arith) in grind (arith, nat_tests)
    ]

printed_passes : (n : ℕ) → n < 2 ^ 64 → is_decimal (decimal n) ≡ true
printed_passes n below =
    let some = lt-ltb 0 (length (decimal n)) (decimal_nonempty n (omega arith)) in
    let value = digits_value-decimal by_digits n (omega arith) in
    rw (some, no_needless_zero n below, value, lt-ltb n (2 ^ 64) below) refl

-- what is spelled so is read
pub decimal_alone : (n : ℕ) → n < 2 ^ 64 → decimal_at (decimal n) ≡ Some (n, [])
unfolding decimal_at
decimal_alone n below =
    let k = digits_only (decimal n) (digits_decimal by_digits n (omega arith)) in
    rw (k, take_all (length (decimal n)) (decimal n) (omega arith), drop_all (length (decimal n)) (decimal n) (omega arith), printed_passes n below, digits_value-decimal by_digits n (omega arith)) refl
