-- Where the tokens of the last of some lines begin: behind as many words as those before have. Cited by the readers
-- that answer the place of a token.
use Rattle.std.proofs.Common.{◌≡◌, ℕ, ◌+◌, ◌-◌, ◌≤◌, ◌==◌, List, [], ◌∷◌, ◌++◌, length, drop, refl, sym, ap, ◌∙◌, arith, length-drop}
use Rattle.std.proofs.lemmas.List.{drop-drop}
use Rattle.std.proofs.lemmas.List.Sums.{sum_by-append, prefix_len-le-length}
use Rattle.text_scan.specs.declared.token.Token.{Token}
use Rattle.text_scan.specs.Lines.{Line, lines_of, word_count}
use Rattle.text_scan.proofs.FirstLines.{count_on, line_before, lines_of-first_line}
use Rattle.text_scan.proofs.TokenParts.{word_count-lines_of}

-- lines have at least the words of the last of them
words_behind : (own rest : List Line) → word_count rest ≤ word_count (own ++ rest)
words_behind own rest = omega (arith, sum_by-append (λ (line : Line). length line.words) own rest)

-- lines that are the last of the lines of tokens
pub lines_left : (bytes : List ℕ) (own rest : List Line) (tokens : List Token) → lines_of bytes tokens ≡ own ++ rest → lines_of bytes (drop (length tokens - word_count rest) tokens) ≡ rest
lines_left bytes [] rest tokens e =
    let none : length tokens - word_count rest ≡ 0 = omega (arith, word_count-lines_of bytes tokens, ap word_count e) in
    rw none e
lines_left bytes (line ∷ own) rest [] e = absurd cc
lines_left bytes (line ∷ own) rest (t ∷ tokens) e =
    let all : List Token = t ∷ tokens in
    let k = count_on t.line all in
    let parts : line_before bytes t.line k all ≡ line ∷ (own ++ rest) = sym (lines_of-first_line bytes all t refl) ∙ e in
    let others : lines_of bytes (drop k all) ≡ own ++ rest = cc in
    let words : length (drop k all) ≡ word_count (own ++ rest) = sym (word_count-lines_of bytes (drop k all)) ∙ ap word_count others in
    let inside : k ≤ length all = prefix_len-le-length (λ (s : Token). s.line == t.line) all in
    let place : k + (length (drop k all) - word_count rest) ≡ length all - word_count rest = omega (arith, words, words_behind own rest, length-drop k all) in
    ap (λ (n : ℕ). lines_of bytes (drop n all)) (sym place)
    ∙ ap (lines_of bytes) (sym (drop-drop (length (drop k all) - word_count rest) k all))
    ∙ lines_left bytes own rest (drop k all) others

-- and of the tokens from a place on
pub place_of_rest : (bytes : List ℕ) (tokens : List Token) (at count : ℕ) (own rest : List Line) → count ≡ length tokens → at ≤ length tokens → lines_of bytes (drop at tokens) ≡ own ++ rest
    → lines_of bytes (drop (count - word_count rest) tokens) ≡ rest
place_of_rest bytes tokens at count own rest is inside e =
    let words : length (drop at tokens) ≡ word_count (own ++ rest) = sym (word_count-lines_of bytes (drop at tokens)) ∙ ap word_count e in
    let place : at + (length (drop at tokens) - word_count rest) ≡ count - word_count rest = omega (arith, words, words_behind own rest, length-drop at tokens) in
    ap (λ (n : ℕ). lines_of bytes (drop n tokens)) (sym place)
    ∙ ap (lines_of bytes) (sym (drop-drop (length (drop at tokens) - word_count rest) at tokens))
    ∙ lines_left bytes own rest (drop at tokens) e

-- which has no more words than there are tokens
pub words_within : (bytes : List ℕ) (tokens : List Token) (at : ℕ) (own rest : List Line) → lines_of bytes (drop at tokens) ≡ own ++ rest → word_count rest ≤ length tokens
words_within bytes tokens at own rest e = omega (arith, word_count-lines_of bytes (drop at tokens), ap word_count e, words_behind own rest, length-drop at tokens)
