-- Printed lines, part by part: what scanning them gives. Blanks and comments give nothing. Cited by what shows that a printed
-- worksheet spells it.
use Rattle.std.proofs.Common.{◌≡◌, ℕ, zero, suc, ◌+◌, ◌<◌, ◌≤◌, true, false, not, ◌&&◌, ◌==◌, Bool, cond, List, [], ◌∷◌, ◌++◌, length, map, take, drop, Ok, All, refl, sym, ap, subst, ◌∙◌, arith, eq-eqb, append_assoc, append-nil}
use Rattle.std.specs.Prelude.{codes}
use Rattle.std.specs.List.{filter, flat_map, list_all, prefix_len}
use Rattle.std.proofs.lemmas.Bool.{ne_eqb}
use Rattle.std.proofs.lemmas.List.{take_at, drop_at, drop-drop}
use Rattle.std.proofs.lemmas.List.Elements.{All-cons, All-head, All-nil, All-tail, All-weaker}
use Rattle.text_scan.specs.declared.token.Token.{Token}
use Rattle.text_scan.specs.declared.token.TokenKind.{TokenKind}
use Rattle.text_scan.specs.declared.token.TokenKind.TheVariants.{Sign}
use Rattle.text_scan.specs.declared.token.Front.TheVariants as fronts
use Rattle.text_scan.specs.Lines.{Line, lines_of, with_word}
use Rattle.text_scan.specs.Tokens.{front_of, is_comment_byte, is_sign, tokens_from, with_front}
use Rattle.text_scan.specs.Words.{is_word, kind_of}
use Rattle.text_scan.proofs.LineFeeds.{line_feeds}
use Rattle.text_scan.proofs.NumberWords.{front_passes}
use Rattle.text_scan.proofs.WordFronts.{Stops, behind-word, front_of-sign, no_line_feed, word_front}
use Rattle.worksheet_text.specs.SheetWords.{Words}
use Rattle.worksheet_laws.proofs.RoundAgain.{words_of}

-- ---- tokens

-- bytes that go with what began before them
passed_over : (k at line : ℕ) (bytes : List ℕ) → tokens_from k at line bytes ≡ tokens_from 0 (at + k) line (drop k bytes)
unfolding tokens_from
passed_over zero at line bytes = let e : at + 0 ≡ at = omega arith in rw e refl
passed_over (suc k) at line [] = refl
passed_over (suc k) at line (b ∷ bytes) = let e : at + 1 + k ≡ at + suc k = omega arith in passed_over k (at + 1) line bytes ∙ rw e refl

-- a word in front of bytes that stop is one token
word_scanned : (at line : ℕ) (w rest : List ℕ) → is_word w ≡ true → Stops rest
    → tokens_from 0 at line (w ++ rest) ≡ with_front (fronts.Token (kind_of w)) at (length w) line (tokens_from 0 (at + length w) line rest)
unfolding tokens_from
word_scanned at line [] rest is stops = absurd cc
word_scanned at line (b ∷ bytes) rest is stops =
    let kind = kind_of (b ∷ bytes) in
    let front = word_front b bytes is in
    let place : at + 1 + length bytes ≡ at + suc (length bytes) = omega arith in
    let one_more : length bytes + 1 ≡ suc (length bytes) = omega arith in
    rw (front.0, behind-word kind bytes rest front.1 stops, no_line_feed b kind front.0, passed_over (length bytes) (at + 1) line (bytes ++ rest), drop_at bytes rest (length bytes) refl, place, one_more) refl

-- a sign is one, whatever stands behind it
sign_scanned : (at line b : ℕ) (rest : List ℕ) → is_sign b ≡ true → tokens_from 0 at line (b ∷ rest) ≡ with_front (fronts.Token Sign) at 1 line (tokens_from 0 (at + 1) line rest)
unfolding tokens_from
sign_scanned at line b rest is =
    let front = (front_of-sign b is).0 in
    rw (front, no_line_feed b Sign front) refl

-- bytes without a line feed
no_feed : (c : List ℕ) → line_feeds c ≡ 0 → list_all is_comment_byte c ≡ true
no_feed [] none = refl
no_feed (b ∷ c) none = by_test (b == 10) none (no_feed c)
  where
    by_test : (t : Bool) → length (cond t (b ∷ filter (λ b. b == 10) c) (filter (λ b. b == 10) c)) ≡ 0 → (line_feeds c ≡ 0 → list_all is_comment_byte c ≡ true) → (not t && list_all is_comment_byte c) ≡ true
    by_test true none others = absurd (omega (arith, none))
    by_test false none others = others none

-- a comment is passed over
comment_scanned : (at line : ℕ) (c rest : List ℕ) → line_feeds c ≡ 0 → tokens_from 0 at line (35 ∷ (c ++ 10 ∷ rest)) ≡ tokens_from 0 (at + suc (length c)) line (10 ∷ rest)
unfolding tokens_from front_of
comment_scanned at line c rest none =
    let long : prefix_len is_comment_byte (c ++ 10 ∷ rest) ≡ length c = front_passes is_comment_byte c (10 ∷ rest) (no_feed c none) ∙ omega arith in
    let place : at + 1 + length c ≡ at + suc (length c) = omega arith in
    rw (long, passed_over (length c) (at + 1) line (c ++ 10 ∷ rest), drop_at c (10 ∷ rest) (length c) refl, place) refl

-- the text behind what stands in front of it
drop_front : (text front rest : List ℕ) (at : ℕ) → drop at text ≡ front ++ rest → drop (at + length front) text ≡ rest
drop_front text front rest at here = sym (drop-drop (length front) at text) ∙ ap (drop (length front)) here ∙ drop_at front rest (length front) refl

-- ---- lines

-- words of a line, before other lines
abbrev pub line_before : ℕ → Words → List Line → List Line
line_before n [] lines = lines
line_before n (w ∷ words) lines = record { number = n; words = w ∷ words } ∷ lines

word_before : (n : ℕ) (w : List ℕ) (words : Words) (lines : List Line) → All (λ l. n < l.number) lines → with_word n w (line_before n words lines) ≡ line_before n (w ∷ words) lines
word_before n w [] [] above = refl
word_before n w [] (line ∷ lines) above =
    let below : n < line.number = All-head (λ (l : Line). n < l.number) line lines above in
    let other : (line.number == n) ≡ false = ne_eqb line.number n (λ same. absurd (omega (arith, below, same))) in
    rw other refl
word_before n w (v ∷ words) lines above = rw (eq-eqb n n refl) refl

-- what bytes from a place of a line on scan to: the words of the line, and the lines behind it
pub record Reads (text : List ℕ) (at line : ℕ) (bytes : List ℕ) (words : Words) (others : List Words) : Type 0 where
  pub tokens : List Token
  pub behind : List Line
  pub read : tokens_from 0 at line bytes ≡ Ok tokens
  pub are : lines_of text tokens ≡ line_before line words behind
  pub same : words_of behind ≡ others
  pub above : All (λ l. line < l.number) behind

-- the same from the beginning of a line on
pub record Scans (text : List ℕ) (at line : ℕ) (bytes : List ℕ) (lines : List Words) : Type 0 where
  pub tokens : List Token
  pub read : tokens_from 0 at line bytes ≡ Ok tokens
  pub same : words_of (lines_of text tokens) ≡ lines
  pub above : All (λ l. line ≤ l.number) (lines_of text tokens)

abbrev pub ReadTo : List ℕ → ℕ → List ℕ → Words → List Words → Type 0
ReadTo text line bytes words others = (at : ℕ) → drop at text ≡ bytes → Reads text at line bytes words others

abbrev pub ScanTo : List ℕ → List ℕ → List Words → Type 0
ScanTo text bytes lines = (line at : ℕ) → drop at text ≡ bytes → Scans text at line bytes lines

pub ReadTo-along : (text : List ℕ) (line : ℕ) (bytes bytes' : List ℕ) (words words' : Words) (others : List Words) → bytes ≡ bytes' → words ≡ words' → ReadTo text line bytes' words' others → ReadTo text line bytes words others
ReadTo-along text line bytes bytes' words words' others same_bytes same_words reads =
    subst (λ (bs : List ℕ). ReadTo text line bs words others) (sym same_bytes) (subst (λ (ws : Words). ReadTo text line bytes' ws others) (sym same_words) reads)

ScanTo-along : (text bytes bytes' : List ℕ) (lines lines' : List Words) → bytes ≡ bytes' → lines ≡ lines' → ScanTo text bytes' lines' → ScanTo text bytes lines
ScanTo-along text bytes bytes' lines lines' same_bytes same_lines scans =
    subst (λ (bs : List ℕ). ScanTo text bs lines) (sym same_bytes) (subst (λ (ls : List Words). ScanTo text bytes' ls) (sym same_lines) scans)

-- one token before others
Reads-token : (text : List ℕ) (at line : ℕ) (kind : TokenKind) (w bytes rest : List ℕ) (words : Words) (others : List Words) → take (length w) (drop at text) ≡ w
    → tokens_from 0 at line bytes ≡ with_front (fronts.Token kind) at (length w) line (tokens_from 0 (at + length w) line rest) → Reads text (at + length w) line rest words others → Reads text at line bytes (w ∷ words) others
Reads-token text at line kind w bytes rest words others here step r = record {
  tokens = record { kind = kind; start = at; len = length w; line = line } ∷ r.tokens;
  behind = r.behind;
  read = step ∙ ap (with_front (fronts.Token kind) at (length w) line) r.read;
  are = ap (λ (v : List ℕ). with_word line v (lines_of text r.tokens)) here ∙ ap (with_word line w) r.are ∙ word_before line w words r.behind r.above;
  same = r.same;
  above = r.above;
}

-- ---- parts of a line

-- a text that gives words, before bytes that stop
pub record IsPart (t : List ℕ) (words : Words) : Type 0 where
  pub reads : (text : List ℕ) (line : ℕ) (rest : List ℕ) (next : Words) (others : List Words) → Stops rest → ReadTo text line rest next others → ReadTo text line (t ++ rest) (words ++ next) others

-- before bytes that stop it begins with such, too
abbrev pub StopsAt : List ℕ → Type 0
StopsAt t = (rest : List ℕ) → Stops rest → Stops (t ++ rest)

pub part_none : IsPart [] []
part_none = record { reads = λ text line rest next others stops r. r }

pub part_word : (w : List ℕ) → is_word w ≡ true → IsPart w (w ∷ [])
part_word w is = record {
  reads = λ text line rest next others stops r at here.
      Reads-token text at line (kind_of w) w (w ++ rest) rest next others (ap (take (length w)) here ∙ take_at w rest (length w) refl) (word_scanned at line w rest is stops) (r (at + length w) (drop_front text w rest at here));
}

pub part_sign : (b : ℕ) → is_sign b ≡ true → IsPart (b ∷ []) ((b ∷ []) ∷ [])
part_sign b is = record {
  reads = λ text line rest next others stops r at here.
      Reads-token text at line Sign (b ∷ []) (b ∷ rest) rest next others (ap (take 1) here) (sign_scanned at line b rest is) (r (at + 1) (drop_front text (b ∷ []) rest at here));
}

space_read : (text : List ℕ) (at line : ℕ) (rest : List ℕ) (words : Words) (others : List Words) → Reads text (at + 1) line rest words others → Reads text at line (32 ∷ rest) words others
unfolding tokens_from front_of
space_read text at line rest words others r = record { tokens = r.tokens; behind = r.behind; read = r.read; are = r.are; same = r.same; above = r.above }

-- one part behind the other
pub part_append : (t u : List ℕ) (words next : Words) → IsPart t words → StopsAt u → IsPart u next → IsPart (t ++ u) (words ++ next)
part_append t u words next p stops_at q = record {
  reads = λ text line rest after others stops r.
      ReadTo-along text line ((t ++ u) ++ rest) (t ++ (u ++ rest)) ((words ++ next) ++ after) (words ++ (next ++ after)) others (append_assoc t u rest) (append_assoc words next after)
      (p.reads text line (u ++ rest) (next ++ after) others (stops_at rest stops) (q.reads text line rest after others stops r));
}

-- a sign before a part that needn't stop it
pub part_behind_sign : (b : ℕ) (u : List ℕ) (next : Words) → is_sign b ≡ true → IsPart u next → IsPart (b ∷ u) ((b ∷ []) ∷ next)
part_behind_sign b u next is q = record {
  reads = λ text line rest after others stops r at here.
      Reads-token text at line Sign (b ∷ []) (b ∷ (u ++ rest)) (u ++ rest) (next ++ after) others (ap (take 1) here) (sign_scanned at line b (u ++ rest) is)
      (q.reads text line rest after others stops r (at + 1) (drop_front text (b ∷ []) (u ++ rest) at here));
}

-- a space before a part
pub part_behind_space : (u : List ℕ) (next : Words) → IsPart u next → IsPart (32 ∷ u) next
part_behind_space u next q = record {
  reads = λ text line rest after others stops r at here. space_read text at line (u ++ rest) (next ++ after) others (q.reads text line rest after others stops r (at + 1) (drop_front text (32 ∷ []) (u ++ rest) at here));
}

-- a word before a part that stops it
pub part_before : (w u : List ℕ) (next : Words) → is_word w ≡ true → StopsAt u → IsPart u next → IsPart (w ++ u) (w ∷ next)
part_before w u next is stops q = part_append w u (w ∷ []) next (part_word w is) stops q

-- along equal texts
pub part_along : (t u : List ℕ) (words : Words) → t ≡ u → IsPart u words → IsPart t words
part_along t u words same p = subst (λ (bs : List ℕ). IsPart bs words) (sym same) p

-- parts of items, each of which stops what stands before it
pub parts_stop : {X : Type 0} (f : X → List ℕ) (xs : List X) → ((x : X) → StopsAt (f x)) → StopsAt (flat_map f xs)
parts_stop f [] each rest stops = stops
parts_stop f (x ∷ xs) each rest stops = subst Stops (sym (append_assoc (f x) (flat_map f xs) rest)) (each x (flat_map f xs ++ rest) (parts_stop f xs each rest stops))

pub parts : {X : Type 0} (f : X → List ℕ) (g : X → Words) (P : X → Type 0) (xs : List X) → ((x : X) → StopsAt (f x)) → ((x : X) → P x → IsPart (f x) (g x)) → All P xs → IsPart (flat_map f xs) (flat_map g xs)
parts f g P [] stops each all = part_none
parts f g P (x ∷ xs) stops each all =
    part_append (f x) (flat_map f xs) (g x) (flat_map g xs) (each x (All-head P x xs all)) (parts_stop f xs stops) (parts f g P xs stops each (All-tail P x xs all))

-- ---- ends of lines

-- a text that ends a line, before other lines
pub record IsTail (t : List ℕ) : Type 0 where
  pub stops : (rest : List ℕ) → Stops (t ++ rest)
  pub reads : (text : List ℕ) (line : ℕ) (rest : List ℕ) (others : List Words) → ScanTo text rest others → ReadTo text line (t ++ rest) [] others

feed_read : (text : List ℕ) (at line : ℕ) (rest : List ℕ) (others : List Words) → Scans text (at + 1) (line + 1) rest others → Reads text at line (10 ∷ rest) [] others
unfolding tokens_from front_of
feed_read text at line rest others s = record {
  tokens = s.tokens;
  behind = lines_of text s.tokens;
  read = s.read;
  are = refl;
  same = s.same;
  above = All-weaker (λ (l : Line). line + 1 ≤ l.number) (λ (l : Line). line < l.number) (λ l le. omega (arith, le)) (lines_of text s.tokens) s.above;
}

pub tail_feed : IsTail (codes "\n")
tail_feed = record {
  stops = λ rest. record { names = refl; numbers = refl };
  reads = λ text line rest others scans at here. feed_read text at line rest others (scans (line + 1) (at + 1) (drop_front text (10 ∷ []) rest at here));
}

-- a comment up to the line feed
pub tail_comment : (c : List ℕ) → line_feeds c ≡ 0 → IsTail (codes "#" ++ (c ++ codes "\n"))
tail_comment c none = record {
  stops = λ rest. record { names = refl; numbers = refl };
  reads = λ text line rest others scans.
      ReadTo-along text line ((codes "#" ++ (c ++ codes "\n")) ++ rest) (35 ∷ (c ++ 10 ∷ rest)) [] [] others (ap (λ (bs : List ℕ). 35 ∷ bs) (append_assoc c (codes "\n") rest)) refl
      (λ at here.
      let there : drop (at + suc (length c)) text ≡ 10 ∷ rest = drop_front text (35 ∷ c) (10 ∷ rest) at here in
      let r = feed_read text (at + suc (length c)) line rest others (scans (line + 1) (at + suc (length c) + 1) (drop_front text (10 ∷ []) rest (at + suc (length c)) there)) in
      record { tokens = r.tokens; behind = r.behind; read = comment_scanned at line c rest none ∙ r.read; are = r.are; same = r.same; above = r.above });
}

-- a space before it
pub tail_space : (t : List ℕ) → IsTail t → IsTail (32 ∷ t)
tail_space t q = record {
  stops = λ rest. record { names = refl; numbers = refl };
  reads = λ text line rest others scans at here. space_read text at line (t ++ rest) [] others (q.reads text line rest others scans (at + 1) (drop_front text (32 ∷ []) (t ++ rest) at here));
}

-- ---- lines

-- a text of lines
pub record AreRead (t : List ℕ) (lines : List Words) : Type 0 where
  pub reads : (text rest : List ℕ) (others : List Words) → ScanTo text rest others → ScanTo text (t ++ rest) (lines ++ others)

-- a line with words
pub line_scanned : (text : List ℕ) (at line : ℕ) (bytes w : List ℕ) (words : Words) (others : List Words) → Reads text at line bytes (w ∷ words) others → Scans text at line bytes ((w ∷ words) ∷ others)
line_scanned text at line bytes w words others r =
    let P : Line → Type 0 = λ l. line ≤ l.number in
    record {
      tokens = r.tokens;
      read = r.read;
      same = ap words_of r.are ∙ ap (λ (ls : List Words). (w ∷ words) ∷ ls) r.same;
      above = subst (All P) (sym r.are) (All-cons P (record { number = line; words = w ∷ words }) r.behind (omega arith) (All-weaker (λ (l : Line). line < l.number) P (λ l below. omega (arith, below)) r.behind r.above));
    }

-- and one without
blank_scanned : (text : List ℕ) (at line : ℕ) (bytes : List ℕ) (others : List Words) → Reads text at line bytes [] others → Scans text at line bytes others
blank_scanned text at line bytes others r =
    let P : Line → Type 0 = λ l. line ≤ l.number in
    record {
      tokens = r.tokens;
      read = r.read;
      same = ap words_of r.are ∙ r.same;
      above = subst (All P) (sym r.are) (All-weaker (λ (l : Line). line < l.number) P (λ l below. omega (arith, below)) r.behind r.above);
    }

-- a line before others
pub line_begins : (text : List ℕ) (line : ℕ) (t u rest w : List ℕ) (words : Words) (others : List Words) → IsPart t (w ∷ words) → IsTail u → ScanTo text rest others → ReadTo text line ((t ++ u) ++ rest) (w ∷ words) others
line_begins text line t u rest w words others p q scans =
    ReadTo-along text line ((t ++ u) ++ rest) (t ++ (u ++ rest)) (w ∷ words) ((w ∷ words) ++ []) others (append_assoc t u rest) (sym (append-nil (w ∷ words)))
    (p.reads text line (u ++ rest) [] others (q.stops rest) (q.reads text line rest others scans))

pub line_read : (t u w : List ℕ) (words : Words) → IsPart t (w ∷ words) → IsTail u → AreRead (t ++ u) ((w ∷ words) ∷ [])
line_read t u w words p q = record {
  reads = λ text rest others scans line at here. line_scanned text at line ((t ++ u) ++ rest) w words others (line_begins text line t u rest w words others p q scans at here);
}

pub blank_read : (t : List ℕ) → IsTail t → AreRead t []
blank_read t q = record { reads = λ text rest others scans line at here. blank_scanned text at line (t ++ rest) others (q.reads text line rest others scans at here) }

pub lines_append : (t u : List ℕ) (lines others : List Words) → AreRead t lines → AreRead u others → AreRead (t ++ u) (lines ++ others)
lines_append t u lines others p q = record {
  reads = λ text rest more scans.
      ScanTo-along text ((t ++ u) ++ rest) (t ++ (u ++ rest)) ((lines ++ others) ++ more) (lines ++ (others ++ more)) (append_assoc t u rest) (append_assoc lines others more)
      (p.reads text (u ++ rest) (others ++ more) (q.reads text rest more scans));
}

-- along equal texts and equal lines
pub lines_along : (t u : List ℕ) (lines others : List Words) → t ≡ u → lines ≡ others → AreRead u others → AreRead t lines
lines_along t u lines others same_text same_lines p = subst (λ (bs : List ℕ). AreRead bs lines) (sym same_text) (subst (AreRead u) (sym same_lines) p)

pub lines_none : AreRead [] []
lines_none = record { reads = λ text rest others scans. scans }

-- a line for each item
pub lines_each : {X : Type 0} (f : X → List ℕ) (g : X → Words) (P : X → Type 0) (xs : List X) → ((x : X) → P x → AreRead (f x) (g x ∷ [])) → All P xs → AreRead (flat_map f xs) (map g xs)
lines_each f g P [] each all = lines_none
lines_each f g P (x ∷ xs) each all = lines_append (f x) (flat_map f xs) (g x ∷ []) (map g xs) (each x (All-head P x xs all)) (lines_each f g P xs each (All-tail P x xs all))

-- ---- the end of a text

nothing_scanned : (text : List ℕ) → ScanTo text [] []
unfolding tokens_from
nothing_scanned text line at here = record { tokens = []; read = refl; same = refl; above = All-nil (λ (l : Line). line ≤ l.number) }

-- lines at the end of a text
pub last_scanned : (text t : List ℕ) (lines : List Words) → AreRead t lines → ScanTo text t lines
last_scanned text t lines are = ScanTo-along text t (t ++ []) lines (lines ++ []) (sym (append-nil t)) (sym (append-nil lines)) (are.reads text [] [] (nothing_scanned text))
