-- A word that may stand as a number is what is printed of its number, and what is printed of a number is such a word.
-- Cited by the laws of every text with numbers.
use Rattle.std.proofs.Common.{◌≡◌, ◌≢◌, ℕ, zero, suc, ◌/◌, ◌%◌, ◌<◌, ◌≤◌, ◌^◌, Bool, true, false, cond, not, nat_le, ◌||◌, ◌==◌, List, [], ◌∷◌, length, get_or, take, Some, None, IsTrue, refl, sym, ap, subst, ◌∙◌, arith}
use Rattle.std.specs.List.{prefix_len, list_all}
use Rattle.std.specs.Char.{is_ascii_digit, digit_value}
use Rattle.std.specs.Fmt.{decimal, digits, digits_onto, digit_glyph}
use Rattle.std.specs.Str.{bytes_eq}
use Rattle.std.specs.Str.Parse.{AllDigits}
use Rattle.std.proofs.lemmas.Bool.{and_parts, and_from, not-true, lt-ltb, false_from_ne_true, cond_both}
use Rattle.std.proofs.lemmas.Bool.Decides.{nat_tests}
use Rattle.std.proofs.lemmas.List.{append-nil, take_all}
use Rattle.std.proofs.lemmas.Fmt.{decimal-digits_value}
use Rattle.std.proofs.lemmas.Str.Parse.{numerals_by_value, tells_digits}
use Rattle.std.proofs.lemmas.Slice.Eq.{bytes_eq-Decides}
use Rattle.byte_texts.proofs.Digits.{leading_digits, digit_is_ascii}
use Rattle.byte_texts.proofs.DecimalTexts.{decimal_alone}
use Rattle.text_scan.specs.declared.token.TokenKind.{TokenKind}
use Rattle.text_scan.specs.declared.token.TokenKind.TheVariants.{Name, Number, Sign}
use Rattle.text_scan.specs.Words.{is_kind, is_word, kind_of, is_number, has_leading_zero, number_value, small_number}
use Rattle.text_scan.proofs.NumberWords.{front_passes, number_digits, number_read}
use Rattle.text_scan.proofs.WordFronts.{front_of-digit}

-- ---- from a word to its number

kind_is_number : (kind : TokenKind) → is_kind kind Number ≡ true → kind ≡ Number
kind_is_number Name is = absurd cc
kind_is_number Number is = refl
kind_is_number Sign is = absurd cc

-- the tests of a number
pub is_number-parts : (w : List ℕ) → IsTrue (is_number w) → (kind_of w ≡ Number) × (has_leading_zero w ≡ false)
is_number-parts w is =
    let both = and_parts (is_kind (kind_of w) Number) (not (has_leading_zero w)) is in
    (kind_is_number (kind_of w) both.0, not-true (has_leading_zero w) both.1)

all_digits : (w : List ℕ) → list_all is_ascii_digit w ≡ true → AllDigits 10 w
all_digits w all =
    let count : prefix_len is_ascii_digit w ≡ length w = ap (prefix_len is_ascii_digit) (sym (append-nil w)) ∙ front_passes is_ascii_digit w [] all ∙ omega arith in
    let whole : take (prefix_len is_ascii_digit w) w ≡ w = take_all _ w (omega arith) in
    subst (AllDigits 10) whole (leading_digits w)

no_zero_leads : (w : List ℕ) → has_leading_zero w ≡ false → 0 < length w → get_or w 0 0 ≡ 48 → length w ≡ 1
no_zero_leads [] none some first = absurd (omega arith)
no_zero_leads (b ∷ []) none some first = refl
no_zero_leads (b ∷ c ∷ w) none some first = absurd (grind (arith, nat_tests))

word_nonempty : (w : List ℕ) → IsTrue (is_word w) → 0 < length w
word_nonempty [] is = absurd cc
word_nonempty (b ∷ w) is = omega arith

-- a number's word is what is printed of its number
pub number_word : (w : List ℕ) → IsTrue (is_word w) → IsTrue (is_number w) → number_value w < 2 ^ 64 → decimal (number_value w) ≡ w
number_word w word is small =
    let parts = is_number-parts w is in
    decimal-digits_value (numerals_by_value (AllDigits 10) tells_digits) w (all_digits w (number_digits w word parts.0)) (word_nonempty w word) (no_zero_leads w parts.1 (word_nonempty w word)) small

-- ---- from a number to its word

-- digits are a word
AllDigits-passes : (ds : List ℕ) → AllDigits 10 ds → list_all is_ascii_digit ds ≡ true
AllDigits-passes [] all = refl
AllDigits-passes (d ∷ ds) all = and_from _ _ (digit_is_ascii d all.0) (AllDigits-passes ds all.1)

pub digits_word : (ds : List ℕ) → AllDigits 10 ds → 0 < length ds → IsTrue (is_word ds) × (kind_of ds ≡ Number)
digits_word [] all some = absurd (omega arith)
digits_word (d ∷ ds) all some =
    let digit = digit_is_ascii d all.0 in
    let other = (front_of-digit d digit).1 in
    (rw (other, digit) (AllDigits-passes ds all.1), rw (other, digit) refl)

glyph_digit : (d : ℕ) → d < 10 → digit_value (digit_glyph false d) < 10
glyph_digit d below = let test = lt-ltb d 10 below in grind (arith, nat_tests)

-- what is printed of any number is digits, one at least
onto-digits : (k n : ℕ) (behind : List ℕ) → AllDigits 10 behind → AllDigits 10 (digits_onto k 10 false n behind)
onto-digits zero n behind all = all
onto-digits (suc k) n behind all =
    let front = digit_glyph false (n % 10) ∷ behind in
    let here : AllDigits 10 front = (glyph_digit (n % 10) (omega arith), all) in
    cond_both (n / 10 == 0) front (digits_onto k 10 false (n / 10) front) (AllDigits 10) (λ last. here) (λ more. onto-digits k (n / 10) front here)

onto-longer : (k n : ℕ) (behind : List ℕ) → length behind ≤ length (digits_onto k 10 false n behind)
onto-longer zero n behind = omega arith
onto-longer (suc k) n behind =
    let front = digit_glyph false (n % 10) ∷ behind in
    let rest = onto-longer k (n / 10) front in
    cond_both (n / 10 == 0) front (digits_onto k 10 false (n / 10) front) (λ (ds : List ℕ). length behind ≤ length ds) (λ last. omega arith) (λ more. omega (arith, rest))

onto-some : (k n : ℕ) (behind : List ℕ) → 0 < length (digits_onto (suc k) 10 false n behind)
onto-some k n behind =
    let front = digit_glyph false (n % 10) ∷ behind in
    let rest = onto-longer k (n / 10) front in
    cond_both (n / 10 == 0) front (digits_onto k 10 false (n / 10) front) (λ (ds : List ℕ). 0 < length ds) (λ last. omega arith) (λ more. omega (arith, rest))

pub decimal_word : (n : ℕ) → IsTrue (is_word (decimal n)) × (kind_of (decimal n) ≡ Number)
unfolding digits
decimal_word n = digits_word (digits_onto 64 10 false n []) (onto-digits 64 n [] tt) (onto-some 63 n [])

number_found : (zero large : Bool) (v n : ℕ) → Some n ≡ cond (zero || large) None (Some v) → (zero ≡ false) × (v ≡ n)
number_found true large v n e = absurd cc
number_found false true v n e = absurd cc
number_found false false v n e = (refl, cc)

-- what is printed of a number may stand as that number
pub decimal_number : (n : ℕ) → n < 2 ^ 64 → IsTrue (is_number (decimal n)) × (number_value (decimal n) ≡ n)
decimal_number n below =
    let word = decimal_word n in
    let read : Some n ≡ small_number (decimal n) = number_read (decimal n) (decimal n) (Some (n, [])) refl word.0 word.1 (decimal_alone n below) in
    let found = number_found (has_leading_zero (decimal n)) (nat_le (2 ^ 64) (number_value (decimal n))) (number_value (decimal n)) n read in
    (rw (word.1, found.0) refl, found.1)

-- ---- words of two kinds

-- two words of two kinds differ
pub bytes_eq-kinds : (w v : List ℕ) → kind_of w ≢ kind_of v → bytes_eq w v ≡ false
bytes_eq-kinds w v other = false_from_ne_true (bytes_eq w v) (λ same. other (ap kind_of ((bytes_eq-Decides w v).0 same)))
