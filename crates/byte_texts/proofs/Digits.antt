-- Digits at the front of bytes, and the number that they are.
use Rattle.std.proofs.Common.{◌≡◌, ℕ, suc, ◌+◌, ◌-◌, ◌*◌, ◌<◌, ◌≤◌, Bool, true, false, cond, List, [], ◌∷◌, length, get_or, take, refl, arith}
use Rattle.std.specs.List.{prefix_len}
use Rattle.std.specs.Char.{is_ascii_digit, digit_value}
use Rattle.std.specs.Int.{IsInRange}
use Rattle.std.specs.Str.Parse.{AllDigits, digits_value}
use Rattle.std.proofs.lemmas.Bool.Decides.{nat_tests}
use Rattle.std.proofs.lemmas.Int.Digits.{digits_value_more}
use Rattle.std.proofs.lemmas.Str.Parse.{digit_at, digit_from_value, digits_value-take-le}

digit_value_is : (c : ℕ) → IsInRange 48 57 c → digit_value c ≡ c - 48
digit_value_is c in_range = grind (arith, nat_tests)

value_of_digit : (c : ℕ) → is_ascii_digit c ≡ true → digit_value c < 10
value_of_digit c is = grind (arith, nat_tests)

pub digit_is_ascii : (c : ℕ) → digit_value c < 10 → is_ascii_digit c ≡ true
digit_is_ascii c below = let in_range = digit_from_value c below in grind (arith, nat_tests)

-- the leading digits are digits
one_digit_before : (c : ℕ) (cs : List ℕ) (b : Bool) → is_ascii_digit c ≡ b → AllDigits 10 (take (prefix_len is_ascii_digit cs) cs) → AllDigits 10 (take (cond b (1 + prefix_len is_ascii_digit cs) 0) (c ∷ cs))
one_digit_before c cs true is rest =
    let one_more : 1 + prefix_len is_ascii_digit cs ≡ suc (prefix_len is_ascii_digit cs) = omega arith in
    rw one_more (value_of_digit c is, rest)
one_digit_before c cs false is rest = tt

pub leading_digits : (bytes : List ℕ) → AllDigits 10 (take (prefix_len is_ascii_digit bytes) bytes)
leading_digits [] = tt
leading_digits (c ∷ cs) = one_digit_before c cs (is_ascii_digit c) refl (leading_digits cs)

-- bytes that are all digits
pub digits_only : (ds : List ℕ) → AllDigits 10 ds → prefix_len is_ascii_digit ds ≡ length ds
digits_only [] digits = refl
digits_only (d ∷ ds) digits =
    let here = digit_is_ascii d digits.0 in
    let there = digits_only ds digits.1 in
    rw here (omega (arith, there))

-- the number with one digit more
pub digits_more : (ds : List ℕ) (i value : ℕ) → AllDigits 10 ds → i < length ds → value ≡ digits_value 10 (take i ds)
    → value * 10 + (get_or ds i 0 - 48) ≡ digits_value 10 (take (i + 1) ds)
digits_more ds i value digits lt so_far =
    let digit = digit_value_is (get_or ds i 0) (digit_at ds i digits lt) in
    let more = digits_value_more 10 ds i lt in
    cc

-- a number is at least that of its first digits
pub digits_below : (ds : List ℕ) (i limit : ℕ) → limit ≤ digits_value 10 (take i ds) → limit ≤ digits_value 10 ds
digits_below ds i limit le = omega (arith, digits_value-take-le 10 ds i (omega arith))
