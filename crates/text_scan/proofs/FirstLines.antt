-- The first line of tokens, and the lines behind it.
use Rattle.std.proofs.Common.{◌≡◌, ℕ, suc, ◌+◌, Bool, true, false, cond, ◌==◌, List, [], ◌∷◌, take, drop, map, Some, refl, sym, ap, subst, ◌∙◌, arith, eq-eqb, slice_get}
use Rattle.std.specs.List.{prefix_len}
use Rattle.std.proofs.lemmas.Bool.{eqb-true}
use Rattle.text_scan.specs.declared.token.Token.{Token}
use Rattle.text_scan.specs.Lines.{Line, with_word, lines_of}
use Rattle.text_scan.specs.Words.{word}

-- how many tokens from the front on stand on a line
abbrev pub count_on : ℕ → List Token → ℕ
count_on number tokens = prefix_len (λ (t : Token). t.line == number) tokens

-- the line that so many words from the front on are, and the lines of the others
abbrev pub line_before : List ℕ → ℕ → ℕ → List Token → List Line
line_before bytes number count tokens = record { number = number; words = map (word bytes) (take count tokens) } ∷ lines_of bytes (drop count tokens)

-- a token in front of one whose line is known
in_front : (bytes : List ℕ) (t s : Token) (tokens : List Token) (b : Bool) → (s.line == t.line) ≡ b
    → lines_of bytes (s ∷ tokens) ≡ line_before bytes s.line (suc (count_on s.line tokens)) (s ∷ tokens)
    → lines_of bytes (t ∷ s ∷ tokens) ≡ line_before bytes t.line (suc (cond b (1 + count_on t.line tokens) 0)) (t ∷ s ∷ tokens)
in_front bytes t s tokens true same rest =
    let one_more : 1 + count_on t.line tokens ≡ suc (count_on t.line tokens) = omega arith in
    let with_both : ℕ → List Line = λ n. record { number = t.line; words = word bytes t ∷ word bytes s ∷ map (word bytes) (take (count_on n tokens) tokens) } ∷ lines_of bytes (drop (count_on n tokens) tokens) in
    ap (with_word t.line (word bytes t)) rest ∙ rw (same, one_more) (ap with_both (eqb-true s.line t.line same))
in_front bytes t s tokens false same rest = ap (with_word t.line (word bytes t)) rest ∙ rw same (ap (λ (lines : List Line). record { number = t.line; words = word bytes t ∷ [] } ∷ lines) (sym rest))

by_line : (bytes : List ℕ) (t : Token) (tokens : List Token) → lines_of bytes (t ∷ tokens) ≡ line_before bytes t.line (suc (count_on t.line tokens)) (t ∷ tokens)
by_line bytes t [] = refl
by_line bytes t (s ∷ tokens) = in_front bytes t s tokens (s.line == t.line) refl (by_line bytes s tokens)

-- the token in front is on its own line
with_own : (bytes : List ℕ) (t : Token) (tokens : List Token) (b : Bool) → b ≡ true → lines_of bytes (t ∷ tokens) ≡ line_before bytes t.line (cond b (1 + count_on t.line tokens) 0) (t ∷ tokens)
with_own bytes t tokens true own = let one_more : 1 + count_on t.line tokens ≡ suc (count_on t.line tokens) = omega arith in rw one_more (by_line bytes t tokens)
with_own bytes t tokens false own = absurd cc

-- tokens are the line of their first, and the lines of those behind it
pub lines_of-first_line : (bytes : List ℕ) (tokens : List Token) (t : Token) → Some t ≡ slice_get tokens 0 → lines_of bytes tokens ≡ line_before bytes t.line (count_on t.line tokens) tokens
lines_of-first_line bytes [] t first = absurd cc
lines_of-first_line bytes (s ∷ tokens) t first =
    let same : s ≡ t = cc in
    let begins_with : Token → Type 0 = λ u. lines_of bytes (s ∷ tokens) ≡ line_before bytes u.line (count_on u.line (s ∷ tokens)) (s ∷ tokens) in
    subst begins_with same (with_own bytes s tokens (s.line == s.line) (eq-eqb s.line s.line refl))
