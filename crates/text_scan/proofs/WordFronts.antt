-- What begins with a byte is a word, and a word is what begins with its first byte. Cited by the laws.
use Rattle.std.proofs.Common.{◌≡◌, ℕ, suc, ◌+◌, Bool, true, false, cond, ◌&&◌, ◌==◌, List, [], ◌∷◌, ◌++◌, length, take, refl, sym, ap, ◌∙◌, arith}
use Rattle.std.specs.List.{prefix_len, list_all}
use Rattle.std.specs.Char.{is_ascii_digit, is_ascii_alphabetic}
use Rattle.std.proofs.lemmas.Bool.{eqb-true, and_parts}
use Rattle.std.proofs.lemmas.Bool.Decides.{nat_tests}
use Rattle.std.proofs.lemmas.List.{nil_from_length}
use Rattle.text_scan.specs.declared.token.TokenKind.{TokenKind}
use Rattle.text_scan.specs.declared.token.TokenKind.TheVariants.{Name, Number, Sign}
use Rattle.text_scan.specs.declared.token.Front.TheVariants as fronts
use Rattle.text_scan.specs.Tokens.{front_of, behind, is_name_byte, is_sign}
use Rattle.text_scan.specs.Words.{is_word, kind_of}
use Rattle.text_scan.proofs.LineFeeds.{line_feeds, line_feeds-none}
use Rattle.text_scan.proofs.NumberWords.{front_passes}

-- ---- the first byte

pub front_of-letter : (b : ℕ) → is_ascii_alphabetic b ≡ true → front_of b ≡ fronts.Token Name
unfolding front_of
front_of-letter b is = grind (arith, nat_tests)

pub front_of-digit : (b : ℕ) → is_ascii_digit b ≡ true → (front_of b ≡ fronts.Token Number) × (is_ascii_alphabetic b ≡ false)
unfolding front_of
front_of-digit b is = grind (arith, nat_tests)

pub front_of-sign : (b : ℕ) → is_sign b ≡ true → (front_of b ≡ fronts.Token Sign) × (is_ascii_alphabetic b ≡ false) × (is_ascii_digit b ≡ false)
unfolding front_of
front_of-sign b is = grind (arith, nat_tests)

pub letter_from_front : (b : ℕ) → front_of b ≡ fronts.Token Name → is_ascii_alphabetic b ≡ true
unfolding front_of
letter_from_front b e = grind (arith, nat_tests)

pub digit_from_front : (b : ℕ) → front_of b ≡ fronts.Token Number → is_ascii_digit b ≡ true
unfolding front_of
digit_from_front b e = grind (arith, nat_tests)

pub sign_from_front : (b : ℕ) → front_of b ≡ fronts.Token Sign → is_sign b ≡ true
unfolding front_of
sign_from_front b e = grind (arith, nat_tests)

-- a token doesn't begin with a line feed
pub no_line_feed : (b : ℕ) (kind : TokenKind) → front_of b ≡ fronts.Token kind → (b == 10) ≡ false
unfolding front_of
no_line_feed b kind e = grind (arith, nat_tests)

-- ---- the bytes behind it

-- bytes up to the first that fails all pass
front_all : (p : ℕ → Bool) (xs : List ℕ) → list_all p (take (prefix_len p xs) xs) ≡ true
front_all p [] = refl
front_all p (x ∷ xs) = by_test (p x) refl (front_all p xs)
  where
    by_test : (b : Bool) → p x ≡ b → list_all p (take (prefix_len p xs) xs) ≡ true → list_all p (take (cond b (1 + prefix_len p xs) 0) (x ∷ xs)) ≡ true
    by_test true passes rest = let one_more : 1 + prefix_len p xs ≡ suc (prefix_len p xs) = omega arith in rw (one_more, passes) rest
    by_test false fails rest = refl

-- what begins with a byte is a word of its kind
pub front_word : (b : ℕ) (bytes : List ℕ) (kind : TokenKind) → front_of b ≡ fronts.Token kind
    → (is_word (b ∷ take (behind (fronts.Token kind) bytes) bytes) ≡ true) × (kind_of (b ∷ take (behind (fronts.Token kind) bytes) bytes) ≡ kind)
front_word b bytes Name e = let letter = letter_from_front b e in (rw letter (front_all is_name_byte bytes), rw letter refl)
front_word b bytes Number e =
    let digit = digit_from_front b e in
    let no_letter = (front_of-digit b digit).1 in
    (rw (no_letter, digit) (front_all is_ascii_digit bytes), rw (no_letter, digit) refl)
front_word b bytes Sign e =
    let sign = sign_from_front b e in
    let others = front_of-sign b sign in
    (rw (others.1, others.2, sign) refl, rw (others.1, others.2) refl)

-- ---- a word

-- bytes that go with the first of a word of a kind
abbrev pub GoesOn : TokenKind → List ℕ → Type 0
GoesOn Name bytes = list_all is_name_byte bytes ≡ true
GoesOn Number bytes = list_all is_ascii_digit bytes ≡ true
GoesOn Sign bytes = bytes ≡ []

-- a word begins as its kind does, and goes on so
pub word_front : (b : ℕ) (bytes : List ℕ) → is_word (b ∷ bytes) ≡ true → (front_of b ≡ fronts.Token (kind_of (b ∷ bytes))) × GoesOn (kind_of (b ∷ bytes)) bytes
word_front b bytes is = by_tests (is_ascii_alphabetic b) refl (is_ascii_digit b) refl is
  where
    by_tests : (letter : Bool) → is_ascii_alphabetic b ≡ letter → (digit : Bool) → is_ascii_digit b ≡ digit
        → cond letter (list_all is_name_byte bytes) (cond digit (list_all is_ascii_digit bytes) (is_sign b && length bytes == 0)) ≡ true
        → (front_of b ≡ fronts.Token (cond letter Name (cond digit Number Sign))) × GoesOn (cond letter Name (cond digit Number Sign)) bytes
    by_tests true letter digit no_matter is = (front_of-letter b letter, is)
    by_tests false letter true digit is = ((front_of-digit b digit).0, is)
    by_tests false letter false digit is =
        let both = and_parts (is_sign b) (length bytes == 0) is in
        ((front_of-sign b both.0).0, nil_from_length bytes (eqb-true (length bytes) 0 both.1))

-- bytes that don't go on with a name or a number
pub record Stops (bytes : List ℕ) : Type 0 where
  pub names : prefix_len is_name_byte bytes ≡ 0
  pub numbers : prefix_len is_ascii_digit bytes ≡ 0

-- a word ends where bytes stop
pub behind-word : (kind : TokenKind) (bytes rest : List ℕ) → GoesOn kind bytes → Stops rest → behind (fronts.Token kind) (bytes ++ rest) ≡ length bytes
behind-word Name bytes rest goes stops = front_passes is_name_byte bytes rest goes ∙ omega (arith, stops.names)
behind-word Number bytes rest goes stops = front_passes is_ascii_digit bytes rest goes ∙ omega (arith, stops.numbers)
behind-word Sign bytes rest goes stops = sym (ap length goes)

-- a word has no line feed
pub line_feeds-word : (w : List ℕ) → is_word w ≡ true → line_feeds w ≡ 0
line_feeds-word [] is = absurd cc
line_feeds-word (b ∷ bytes) is =
    let front = word_front b bytes is in
    rw (no_line_feed b (kind_of (b ∷ bytes)) front.0) (by_kind (kind_of (b ∷ bytes)) front.1)
  where
    by_kind : (kind : TokenKind) → GoesOn kind bytes → line_feeds bytes ≡ 0
    by_kind Name goes = line_feeds-none is_name_byte refl bytes goes
    by_kind Number goes = line_feeds-none is_ascii_digit refl bytes goes
    by_kind Sign goes = ap line_feeds goes
