-- What holds of one of a text's tokens; the tokens behind some of them, and those in front of others, are tokens of
-- the text, too. Cited by what reads line by line.
use Rattle.std.proofs.Common.{◌≡◌, ℕ, ◌+◌, ◌<◌, ◌≤◌, Bool, true, false, cond, ◌==◌, List, [], ◌∷◌, ◌++◌, length, take, drop, get_or, slice_get, Some, refl, sym, ap, subst, ◌∙◌, arith, length-drop, length-take, get_or-drop, get_or-take, All, AllPairs, IsTrue}
use Rattle.std.proofs.lemmas.List.{drop_at}
use Rattle.std.proofs.lemmas.List.Sums.{sum_by-cons}
use Rattle.std.proofs.lemmas.List.Elements.{All-drop}
use Rattle.std.proofs.lemmas.Option.{slice_get_within, get_or_from_slice_get}
use Rattle.text_scan.specs.declared.token.Token.{Token}
use Rattle.text_scan.specs.Lines.{Line, with_word, lines_of, end_line_of, word_count}
use Rattle.text_scan.specs.Scanned.{AreTokens}
use Rattle.text_scan.specs.Words.{word, is_word, kind_of}

-- ---- one of the tokens

-- a token of a text
pub record IsTokenOf (first_line : ℕ) (bytes : List ℕ) (t : Token) : Type 0 where
  pub within : t.start + t.len ≤ length bytes
  pub is_one : IsTrue (is_word (word bytes t))
  pub kind : kind_of (word bytes t) ≡ t.kind
  pub first : first_line ≤ t.line
  pub last : t.line ≤ end_line_of first_line bytes

at_place : (P : Token → Type 0) (tokens : List Token) (i : ℕ) (t : Token) → i < length tokens → t ≡ get_or tokens i t → All P tokens → P t
at_place P tokens i t inside is all = subst P (sym is) (all i t inside)

-- one that was read at a place
pub IsTokenOf-read : {first_line : ℕ} {bytes : List ℕ} {tokens : List Token} (i : ℕ) (t : Token) → i < length tokens → t ≡ get_or tokens i t → AreTokens first_line bytes tokens → IsTokenOf first_line bytes t
IsTokenOf-read {first_line} {bytes} {tokens} i t inside is are = record {
  within = at_place (λ t. t.start + t.len ≤ length bytes) tokens i t inside is are.within;
  is_one = at_place (λ t. IsTrue (is_word (word bytes t))) tokens i t inside is are.words;
  kind = at_place (λ t. kind_of (word bytes t) ≡ t.kind) tokens i t inside is are.kinds;
  first = at_place (λ t. first_line ≤ t.line) tokens i t inside is are.first;
  last = at_place (λ t. t.line ≤ end_line_of first_line bytes) tokens i t inside is are.last;
}

-- one that was found at a place, as `first` and `get` do
pub IsTokenOf-got : {first_line : ℕ} {bytes : List ℕ} {tokens : List Token} (i : ℕ) (t : Token) → Some t ≡ slice_get tokens i → AreTokens first_line bytes tokens → IsTokenOf first_line bytes t
IsTokenOf-got {tokens = tokens} i t got are = IsTokenOf-read i t (slice_get_within tokens i t (sym got)) (sym (get_or_from_slice_get tokens i t t (sym got))) are

-- ---- pairs of a part of a list

AllPairs-drop : {X : Type 0} (R : X → X → Type 0) (k : ℕ) (xs : List X) → AllPairs R xs → AllPairs R (drop k xs)
AllPairs-drop R k xs all i j d before inside =
    rw (get_or-drop k xs i d, get_or-drop k xs j d) (all (k + i) (k + j) d (omega arith) (omega (arith, length-drop k xs)))

AllPairs-take : {X : Type 0} (R : X → X → Type 0) (k : ℕ) (xs : List X) → AllPairs R xs → AllPairs R (take k xs)
AllPairs-take R k xs all i j d before inside =
    let j_below : j < k = omega (arith, length-take k xs) in
    let i_below : i < k = omega arith in
    rw (get_or-take k xs i d i_below, get_or-take k xs j d j_below) (all i j d before (omega (arith, length-take k xs)))

-- ---- parts of the tokens of a text

-- a part that keeps what all tokens and all pairs of them have
by_part : {first_line : ℕ} {bytes : List ℕ} {tokens : List Token} (part : List Token) → ((P : Token → Type 0) → All P tokens → All P part) → ((R : Token → Token → Type 0) → AllPairs R tokens → AllPairs R part)
    → AreTokens first_line bytes tokens → AreTokens first_line bytes part
by_part {first_line} {bytes} part each pairs are = record {
  within = each (λ t. t.start + t.len ≤ length bytes) are.within;
  words = each (λ t. IsTrue (is_word (word bytes t))) are.words;
  kinds = each (λ t. kind_of (word bytes t) ≡ t.kind) are.kinds;
  in_order = pairs (λ s t. s.start + s.len ≤ t.start) are.in_order;
  lines = pairs (λ s t. s.line ≤ t.line) are.lines;
  first = each (λ t. first_line ≤ t.line) are.first;
  last = each (λ t. t.line ≤ end_line_of first_line bytes) are.last;
}

-- those behind the first k
pub AreTokens-drop : {first_line : ℕ} {bytes : List ℕ} {tokens : List Token} (k : ℕ) → AreTokens first_line bytes tokens → AreTokens first_line bytes (drop k tokens)
AreTokens-drop {tokens = tokens} k are = by_part (drop k tokens) (λ P. All-drop P k tokens) (λ R. AllPairs-drop R k tokens) are

-- what is behind it
pub AreTokens-back : {first_line : ℕ} {bytes : List ℕ} {tokens : List Token} (front back : List Token) → tokens ≡ front ++ back → AreTokens first_line bytes tokens → AreTokens first_line bytes back
AreTokens-back {first_line} {bytes} front back split are =
    let part : drop (length front) _ ≡ back = ap (drop (length front)) split ∙ drop_at front back (length front) refl in
    subst (AreTokens first_line bytes) part (AreTokens-drop (length front) are)

-- ---- how many words lines have

one_line_more : (line : Line) (lines : List Line) → word_count (line ∷ lines) ≡ length line.words + word_count lines
one_line_more line lines = sum_by-cons (λ (line : Line). length line.words) line lines

one_word_more : (n : ℕ) (w : List ℕ) (line : Line) (lines : List Line) (b : Bool)
    → word_count (cond b (record { number = n; words = w ∷ line.words } ∷ lines) (record { number = n; words = w ∷ [] } ∷ line ∷ lines)) ≡ 1 + word_count (line ∷ lines)
one_word_more n w line lines true = let longer : Line = record { number = n; words = w ∷ line.words } in omega (arith, one_line_more longer lines, one_line_more line lines)
one_word_more n w line lines false = one_line_more (record { number = n; words = w ∷ [] }) (line ∷ lines)

-- tokens are as many words
pub word_count-lines_of : (bytes : List ℕ) (tokens : List Token) → word_count (lines_of bytes tokens) ≡ length tokens
word_count-lines_of bytes [] = refl
word_count-lines_of bytes (t ∷ tokens) = with_one t.line (word bytes t) (lines_of bytes tokens) ∙ omega (arith, word_count-lines_of bytes tokens)
  where
    with_one : (n : ℕ) (w : List ℕ) (lines : List Line) → word_count (with_word n w lines) ≡ 1 + word_count lines
    with_one n w [] = refl
    with_one n w (line ∷ lines) = one_word_more n w line lines (line.number == n)
