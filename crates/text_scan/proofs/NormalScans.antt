-- Scanning a normal text gives its lines back.
use Rattle.std.proofs.Common.{◌≡◌, ℕ, suc, ◌+◌, Bool, true, false, cond, not, ◌==◌, List, [], ◌∷◌, ◌++◌, length, take, drop, Ok, IsTrue, All, refl, sym, ap, subst, ◌∙◌, arith, eq-eqb, append_assoc, append-nil}
use Rattle.std.specs.Prelude.{codes}
use Rattle.std.specs.List.{list_all}
use Rattle.std.specs.Str.{bytes_eq}
use Rattle.std.proofs.lemmas.Bool.{ne_eqb, and_parts}
use Rattle.std.proofs.lemmas.List.{take_at, drop_at, drop-drop}
use Rattle.std.proofs.lemmas.List.Elements.{All-head, All-tail}
use Rattle.std.proofs.lemmas.Slice.Eq.{bytes_eq-Decides}
use Rattle.text_scan.specs.declared.token.Token.{Token}
use Rattle.text_scan.specs.declared.token.Front.TheVariants as fronts
use Rattle.text_scan.specs.Lines.{Line, with_word, lines_of, end_line_of}
use Rattle.text_scan.specs.NormalTexts.{before_word, line_text, lines_text, is_line, numbered_lines}
use Rattle.text_scan.specs.Tokens.{front_of, with_front, tokens_from, tokens_of}
use Rattle.text_scan.specs.Words.{word, is_word, kind_of}
use Rattle.text_scan.proofs.LineFeeds.{line_feeds, line_feeds-append}
use Rattle.text_scan.proofs.Steps.{passed_over}
use Rattle.text_scan.proofs.WordFronts.{Stops, word_front, behind-word, no_line_feed, line_feeds-word}

-- a word in front of bytes that stop is one token
word_scanned : (at line : ℕ) (w rest : List ℕ) → is_word w ≡ true → Stops rest
    → tokens_from 0 at line (w ++ rest) ≡ with_front (fronts.Token (kind_of w)) at (length w) line (tokens_from 0 (at + length w) line rest)
unfolding tokens_from
word_scanned at line [] rest is stops = absurd cc
word_scanned at line (b ∷ bytes) rest is stops =
    let kind = kind_of (b ∷ bytes) in
    let front = word_front b bytes is in
    let place : at + 1 + length bytes ≡ at + suc (length bytes) = omega arith in
    let one_more : length bytes + 1 ≡ suc (length bytes) = omega arith in
    rw (front.0, behind-word kind bytes rest front.1 stops, no_line_feed b kind front.0, passed_over (length bytes) (at + 1) line (bytes ++ rest), drop_at bytes rest (length bytes) refl, place, one_more) refl

-- tokens of the bytes from a place of a text on, with their lines
record Scans (text : List ℕ) (at line : ℕ) (bytes : List ℕ) (lines : List Line) : Type 0 where
  tokens : List Token
  read : tokens_from 0 at line bytes ≡ Ok tokens
  are : lines_of text tokens ≡ lines

-- the same, along equal bytes and equal lines
Scans-along : (text : List ℕ) (at line : ℕ) (bytes bytes' : List ℕ) (lines lines' : List Line) → bytes ≡ bytes' → lines ≡ lines' → Scans text at line bytes' lines' → Scans text at line bytes lines
Scans-along text at line bytes bytes' lines lines' same_bytes same_lines scans = record {
  tokens = scans.tokens;
  read = ap (tokens_from 0 at line) same_bytes ∙ scans.read;
  are = scans.are ∙ sym same_lines;
}

-- a word before other lines
Scans-word : (text : List ℕ) (at line : ℕ) (w rest : List ℕ) (lines : List Line) → is_word w ≡ true → Stops rest → drop at text ≡ w ++ rest → Scans text (at + length w) line rest lines
    → Scans text at line (w ++ rest) (with_word line w lines)
Scans-word text at line w rest lines is stops here scans =
    let found : Token = record { kind = kind_of w; start = at; len = length w; line = line } in
    let its_word : word text found ≡ w = ap (take (length w)) here ∙ take_at w rest (length w) refl in
    record {
      tokens = found ∷ scans.tokens;
      read = word_scanned at line w rest is stops ∙ ap (with_front (fronts.Token (kind_of w)) at (length w) line) scans.read;
      are = ap (λ v. with_word line v (lines_of text scans.tokens)) its_word ∙ ap (with_word line w) scans.are;
    }

-- a space and a line feed are passed over
Scans-space : (text : List ℕ) (at line : ℕ) (rest : List ℕ) (lines : List Line) → Scans text (at + 1) line rest lines → Scans text at line (32 ∷ rest) lines
unfolding tokens_from front_of
Scans-space text at line rest lines scans = record { tokens = scans.tokens; read = scans.read; are = scans.are }

Scans-line_feed : (text : List ℕ) (at line : ℕ) (rest : List ℕ) (lines : List Line) → Scans text (at + 1) (line + 1) rest lines → Scans text at line (10 ∷ rest) lines
unfolding tokens_from front_of
Scans-line_feed text at line rest lines scans = record { tokens = scans.tokens; read = scans.read; are = scans.are }

-- ---- one line

-- the text behind what stands in front of it
drop_front : (text front rest : List ℕ) (at : ℕ) → drop at text ≡ front ++ rest → drop (at + length front) text ≡ rest
drop_front text front rest at here = sym (drop-drop (length front) at text) ∙ ap (drop (length front)) here ∙ drop_at front rest (length front) refl

-- the last word of a line, before lines with greater numbers
last_word : (line : ℕ) (w : List ℕ) (lines : List (List (List ℕ))) → with_word line w (numbered_lines (line + 1) lines) ≡ record { number = line; words = w ∷ [] } ∷ numbered_lines (line + 1) lines
last_word line w [] = refl
last_word line w (words ∷ lines) = let other : (line + 1 == line) ≡ false = ne_eqb (line + 1) line (λ same. absurd (omega arith)) in rw other refl

-- and any other one
next_word : (line : ℕ) (w : List ℕ) (words : List (List ℕ)) (lines : List Line) → with_word line w (record { number = line; words = words } ∷ lines) ≡ record { number = line; words = w ∷ words } ∷ lines
next_word line w words lines = rw (eq-eqb line line refl) refl

-- what the bytes from any place on, which are these, scan to
abbrev ScanTo : List ℕ → ℕ → List ℕ → List Line → Type 0
ScanTo text line bytes lines = (at : ℕ) → drop at text ≡ bytes → Scans text at line bytes lines

only_word : (text : List ℕ) (line : ℕ) (w rest : List ℕ) (lines : List (List (List ℕ))) → is_word w ≡ true → ScanTo text (line + 1) rest (numbered_lines (line + 1) lines)
    → ScanTo text line (line_text (w ∷ []) ++ rest) (record { number = line; words = w ∷ [] } ∷ numbered_lines (line + 1) lines)
only_word text line w rest lines is others at here =
    let grouped = append_assoc w (codes "\n") rest in
    let behind = drop_front text w (10 ∷ rest) at (here ∙ grouped) in
    let after : drop (at + length w + 1) text ≡ rest = drop_front text (10 ∷ []) rest (at + length w) behind in
    let left = Scans-line_feed text (at + length w) line rest (numbered_lines (line + 1) lines) (others (at + length w + 1) after) in
    Scans-along text at line _ _ _ _ grouped (sym (last_word line w lines))
    (Scans-word text at line w (10 ∷ rest) (numbered_lines (line + 1) lines) is (record { names = refl; numbers = refl }) (here ∙ grouped) left)

-- a line begins with its first word
begins_so : (w : List ℕ) (words : List (List ℕ)) → (left : List ℕ) × (line_text (w ∷ words) ≡ w ++ left)
begins_so w [] = (codes "\n", refl)
begins_so w (v ∷ words) = (before_word v ++ line_text (v ∷ words), append_assoc w (before_word v) (line_text (v ∷ words)))

-- so a word ends before one that is '
stops_before : (v : List ℕ) (words : List (List ℕ)) (rest : List ℕ) → v ≡ codes "'" → Stops (line_text (v ∷ words) ++ rest)
stops_before v words rest same =
    let begins = begins_so v words in
    let shown : line_text (v ∷ words) ++ rest ≡ 39 ∷ (begins.0 ++ rest) = ap (λ (l : List ℕ). l ++ rest) (begins.1 ∙ ap (λ (l : List ℕ). l ++ begins.0) same) in
    subst Stops (sym shown) (record { names = refl; numbers = refl })

-- a word that others of its line follow, after a space or at once
before_others : (text : List ℕ) (line : ℕ) (w v : List ℕ) (words : List (List ℕ)) (rest : List ℕ) (lines : List Line) (prime : Bool) → bytes_eq v (codes "'") ≡ prime → is_word w ≡ true
    → ScanTo text line (line_text (v ∷ words) ++ rest) (record { number = line; words = v ∷ words } ∷ lines)
    → ScanTo text line ((w ++ cond prime [] (codes " ") ++ line_text (v ∷ words)) ++ rest) (record { number = line; words = w ∷ v ∷ words } ∷ lines)
before_others text line w v words rest lines true prime is others at here =
    let left = line_text (v ∷ words) ++ rest in
    let grouped : (w ++ [] ++ line_text (v ∷ words)) ++ rest ≡ w ++ left = simp (append-nil, append_assoc) in
    let scans = others (at + length w) (drop_front text w left at (here ∙ grouped)) in
    Scans-along text at line _ _ _ _ grouped (sym (next_word line w (v ∷ words) lines))
    (Scans-word text at line w left _ is (stops_before v words rest ((bytes_eq-Decides v (codes "'")).0 prime)) (here ∙ grouped) scans)
before_others text line w v words rest lines false prime is others at here =
    let left = line_text (v ∷ words) ++ rest in
    let grouped : (w ++ codes " " ++ line_text (v ∷ words)) ++ rest ≡ w ++ 32 ∷ left = simp append_assoc in
    let behind = drop_front text w (32 ∷ left) at (here ∙ grouped) in
    let scans = others (at + length w + 1) (drop_front text (32 ∷ []) left (at + length w) behind) in
    Scans-along text at line _ _ _ _ grouped (sym (next_word line w (v ∷ words) lines))
    (Scans-word text at line w (32 ∷ left) _ is (record { names = refl; numbers = refl }) (here ∙ grouped) (Scans-space text (at + length w) line left _ scans))

-- a line before others
line_scanned : (text : List ℕ) (line : ℕ) (w : List ℕ) (words : List (List ℕ)) (rest : List ℕ) (lines : List (List (List ℕ))) → list_all is_word (w ∷ words) ≡ true → ScanTo text (line + 1) rest (numbered_lines (line + 1) lines)
    → ScanTo text line (line_text (w ∷ words) ++ rest) (numbered_lines line ((w ∷ words) ∷ lines))
line_scanned text line w [] rest lines all others = only_word text line w rest lines (and_parts (is_word w) true all).0 others
line_scanned text line w (v ∷ words) rest lines all others =
    let both = and_parts (is_word w) (list_all is_word (v ∷ words)) all in
    before_others text line w v words rest _ (bytes_eq v (codes "'")) refl both.0 (line_scanned text line v words rest lines both.1 others)

-- ---- all lines

lines_scanned : (text : List ℕ) (line : ℕ) (lines : List (List (List ℕ))) → All (λ words. IsTrue (is_line words)) lines → ScanTo text line (lines_text lines) (numbered_lines line lines)
unfolding tokens_from
lines_scanned text line [] all at here = record { tokens = []; read = refl; are = refl }
lines_scanned text line ([] ∷ lines) all at here = let first : IsTrue (is_line []) = All-head (λ words. IsTrue (is_line words)) [] lines all in absurd cc
lines_scanned text line ((w ∷ words) ∷ lines) all at here =
    let first : IsTrue (is_line (w ∷ words)) = All-head (λ words. IsTrue (is_line words)) (w ∷ words) lines all in
    let others = lines_scanned text (line + 1) lines (All-tail (λ words. IsTrue (is_line words)) (w ∷ words) lines all) in
    line_scanned text line w words (lines_text lines) lines (and_parts (not (length (w ∷ words) == 0)) _ first).1 others at here

-- scanning a normal text gives tokens whose lines are its lines
pub normal_text_scanned : (first_line : ℕ) (lines : List (List (List ℕ))) → All (λ words. IsTrue (is_line words)) lines
    → (tokens : List Token) × (tokens_of first_line (lines_text lines) ≡ Ok tokens) × (lines_of (lines_text lines) tokens ≡ numbered_lines first_line lines)
normal_text_scanned first_line lines all =
    let scans = lines_scanned (lines_text lines) first_line lines all 0 refl in
    (scans.tokens, scans.read, scans.are)

-- ---- line feeds

line_feeds-before : (v : List ℕ) → line_feeds (before_word v) ≡ 0
line_feeds-before v = elim (bytes_eq v (codes "'")) as (λ (prime : Bool). line_feeds (cond prime [] (codes " ")) ≡ 0) [ true ↦ refl | false ↦ refl ]

line_feeds-line : (w : List ℕ) (words : List (List ℕ)) → list_all is_word (w ∷ words) ≡ true → line_feeds (line_text (w ∷ words)) ≡ 1
line_feeds-line w [] all = line_feeds-append w (codes "\n") ∙ omega (arith, line_feeds-word w (and_parts (is_word w) true all).0)
line_feeds-line w (v ∷ words) all =
    let both = and_parts (is_word w) (list_all is_word (v ∷ words)) all in
    line_feeds-append (w ++ before_word v) (line_text (v ∷ words))
    ∙ omega (arith, line_feeds-append w (before_word v), line_feeds-word w both.0, line_feeds-before v, line_feeds-line v words both.1)

-- as many as there are lines
line_feeds-lines : (lines : List (List (List ℕ))) → All (λ words. IsTrue (is_line words)) lines → line_feeds (lines_text lines) ≡ length lines
line_feeds-lines [] all = refl
line_feeds-lines ([] ∷ lines) all = let first : IsTrue (is_line []) = All-head (λ words. IsTrue (is_line words)) [] lines all in absurd cc
line_feeds-lines ((w ∷ words) ∷ lines) all =
    let first : IsTrue (is_line (w ∷ words)) = All-head (λ words. IsTrue (is_line words)) (w ∷ words) lines all in
    let others = line_feeds-lines lines (All-tail (λ words. IsTrue (is_line words)) (w ∷ words) lines all) in
    line_feeds-append (line_text (w ∷ words)) (lines_text lines) ∙ omega (arith, line_feeds-line w words (and_parts (not (length (w ∷ words) == 0)) _ first).1, others)

-- the line at the end of a normal text
pub end_line_of-normal_text : (first_line : ℕ) (lines : List (List (List ℕ))) → All (λ words. IsTrue (is_line words)) lines → end_line_of first_line (lines_text lines) ≡ first_line + length lines
end_line_of-normal_text first_line lines all = ap (λ n. first_line + n) (line_feeds-lines lines all)
