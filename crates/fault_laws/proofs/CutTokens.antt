-- The tokens and the lines of bytes that begin with whole lines: those of the lines, and others behind them. Cited by the laws of
-- faults.
use Rattle.std.proofs.Common.{◌≡◌, ℕ, zero, suc, ◌+◌, ◌<◌, ◌≤◌, ◌==◌, inl, inr, Bool, true, false, cond, not, List, [], ◌∷◌, ◌++◌, length, take, drop, All, Result, Ok, Err, IsTrue, get_or, refl, sym, ap, subst, ◌∙◌, arith, append_assoc, length-append, length-drop, take-append-drop}
use Rattle.std.specs.Char.{is_ascii_digit}
use Rattle.std.specs.List.{filter, prefix_len}
use Rattle.std.proofs.lemmas.Bool.{ne_eqb}
use Rattle.std.proofs.lemmas.List.{drop-append-le, take-append-le}
use Rattle.std.proofs.lemmas.List.Elements.{All-cons, All-head, All-nil, All-tail, All-weaker}
use Rattle.byte_texts.specs.Reading.{◌>>=◌}
use Rattle.byte_texts.proofs.Binding.{bind_ok}
use Rattle.text_scan.specs.declared.token.Front.{Front}
use Rattle.text_scan.specs.declared.token.Front.TheVariants as fronts
use Rattle.text_scan.specs.declared.token.Token.{Token}
use Rattle.text_scan.specs.declared.token.TokenKind.TheVariants.{Name, Number, Sign}
use Rattle.text_scan.specs.Lines.{Line, end_line_of, lines_of, with_word}
use Rattle.text_scan.specs.Tokens.{BadByte, behind, front_of, is_comment_byte, is_name_byte, line_behind, tokens_from, tokens_of, with_found, with_front}
use Rattle.text_scan.specs.Words.{is_word, word}
use Rattle.text_scan.proofs.AllTokens.{lines-scanned}
use Rattle.text_scan.proofs.LineFeeds.{line_feeds, line_feeds-append}
use Rattle.text_scan.proofs.ScannedTokens.{AreTokens-scanned}
use Rattle.fault_laws.proofs.FeedEnds.{numbers-lines_of, on_its_line, one_passed}
use Rattle.fault_laws.specs.CutTexts.{AreWholeLines}

-- ---- tokens up to a line feed, and those behind it

prefix_to_feed : (p : ℕ → Bool) → p 10 ≡ false → (x more : List ℕ) → prefix_len p (x ++ 10 ∷ more) ≡ prefix_len p (x ++ 10 ∷ [])
prefix_to_feed p fails [] more = rw fails refl
prefix_to_feed p fails (b ∷ x) more = ap (λ (n : ℕ). cond (p b) (1 + n) 0) (prefix_to_feed p fails x more)

-- what goes with a byte ends before the line feed
behind_to_feed : (front : Front) (x more : List ℕ) → behind front (x ++ 10 ∷ more) ≡ behind front (x ++ 10 ∷ [])
behind_to_feed fronts.Comment x more = prefix_to_feed is_comment_byte refl x more
behind_to_feed (fronts.Token Name) x more = prefix_to_feed is_name_byte refl x more
behind_to_feed (fronts.Token Number) x more = prefix_to_feed is_ascii_digit refl x more
behind_to_feed (fronts.Token Sign) x more = refl
behind_to_feed fronts.Blank x more = refl
behind_to_feed fronts.Bad x more = refl

found_none : (r : Result (List Token) BadByte) → with_found [] r ≡ r
found_none (Ok tokens) = refl
found_none (Err bad) = refl

-- tokens, and others behind them
abbrev joined : Result (List Token) BadByte → Result (List Token) BadByte → Result (List Token) BadByte
joined own others = own >>= λ tokens. with_found tokens others

front_joined : (front : Front) (at len line : ℕ) (own others : Result (List Token) BadByte) → with_front front at len line (joined own others) ≡ joined (with_front front at len line own) others
front_joined fronts.Bad at len line own others = refl
front_joined fronts.Blank at len line own others = refl
front_joined fronts.Comment at len line own others = refl
front_joined (fronts.Token kind) at len line (Ok tokens) (Ok more) = refl
front_joined (fronts.Token kind) at len line (Ok tokens) (Err bad) = refl
front_joined (fronts.Token kind) at len line (Err bad) others = refl

at_feed : (at line : ℕ) (more : List ℕ) → tokens_from 0 at line (10 ∷ more) ≡ tokens_from 0 (at + 1) (line + 1) more
unfolding tokens_from front_of
at_feed at line more = refl

-- the line of what stands behind a byte
feeds_behind : (b line : ℕ) (x : List ℕ) → line_behind b line + suc (line_feeds x) ≡ line + suc (line_feeds (b ∷ x))
feeds_behind b line x = by_test (b == 10)
  where
    by_test : (t : Bool) → cond t (line + 1) line + suc (line_feeds x) ≡ line + suc (length (cond t (b ∷ filter (λ c. c == 10) x) (filter (λ c. c == 10) x)))
    by_test true = omega arith
    by_test false = refl

-- a byte that is passed over is no line feed
feeds_passed : (passed b : ℕ) (x bytes : List ℕ) → suc passed ≤ prefix_len is_comment_byte (b ∷ bytes) → line_feeds x ≡ line_feeds (b ∷ x)
feeds_passed passed b x bytes le = by_test (b == 10) le
  where
    by_test : (t : Bool) → suc passed ≤ cond (not t) (1 + prefix_len is_comment_byte bytes) 0 → line_feeds x ≡ length (cond t (b ∷ filter (λ c. c == 10) x) (filter (λ c. c == 10) x))
    by_test true none = absurd (omega (arith, none))
    by_test false some = refl

same_tokens : (bytes : List ℕ) (at other line there : ℕ) → at ≡ other → line ≡ there → tokens_from 0 at line bytes ≡ tokens_from 0 other there bytes
same_tokens bytes at other line there same_at same_line = rw (same_at, same_line) refl

tokens_joined : (x more : List ℕ) (passed at line : ℕ) → passed ≤ prefix_len is_comment_byte (x ++ 10 ∷ [])
    → tokens_from passed at line (x ++ 10 ∷ more) ≡ joined (tokens_from passed at line (x ++ 10 ∷ [])) (tokens_from 0 (at + suc (length x)) (line + suc (line_feeds x)) more)
unfolding tokens_from
tokens_joined [] more zero at line le =
    let others = tokens_from 0 (at + 1) (line + 1) more in
    at_feed at line more ∙ sym (ap (λ (own : Result (List Token) BadByte). joined own others) (at_feed at line []) ∙ found_none others)
tokens_joined [] more (suc passed) at line le = absurd (omega (arith, le))
tokens_joined (b ∷ x) more (suc passed) at line le =
    let own = tokens_from passed (at + 1) line (x ++ 10 ∷ []) in
    tokens_joined x more passed (at + 1) line (one_passed passed b (x ++ 10 ∷ []) le)
    ∙ ap (joined own) (same_tokens more (at + 1 + suc (length x)) (at + suc (suc (length x))) _ _ (omega arith) (ap (λ n. line + suc n) (feeds_passed passed b x (x ++ 10 ∷ []) le)))
tokens_joined (b ∷ x) more zero at line le =
    let front = front_of b in
    let len = behind front (x ++ 10 ∷ []) in
    let there = line_behind b line in
    let own = tokens_from len (at + 1) there (x ++ 10 ∷ []) in
    let here : Result (List Token) BadByte → Result (List Token) BadByte = with_front front at (len + 1) line in
    ap (λ n. with_front front at (n + 1) line (tokens_from n (at + 1) there (x ++ 10 ∷ more))) (behind_to_feed front x more)
    ∙ ap here (tokens_joined x more len (at + 1) there (on_its_line front (x ++ 10 ∷ [])))
    ∙ ap (λ (others : Result (List Token) BadByte). here (joined own others)) (same_tokens more (at + 1 + suc (length x)) (at + suc (suc (length x))) _ _ (omega arith) (feeds_behind b line x))
    ∙ front_joined front at (len + 1) line own (tokens_from 0 (at + suc (suc (length x))) (line + suc (line_feeds (b ∷ x))) more)

-- the tokens behind whole lines
abbrev tokens_behind : ℕ → List ℕ → List ℕ → Result (List Token) BadByte
tokens_behind first_line lines more = tokens_from 0 (length lines) (end_line_of first_line lines) more

pub whole_joined : (first_line : ℕ) (lines more : List ℕ) → AreWholeLines lines → tokens_of first_line (lines ++ more) ≡ joined (tokens_of first_line lines) (tokens_behind first_line lines more)
unfolding tokens_from
whole_joined first_line lines more (inl none) =
    let same : first_line ≡ first_line + 0 = omega arith in
    rw none (same_tokens more 0 0 first_line (first_line + 0) refl same ∙ sym (found_none (tokens_from 0 0 (first_line + 0) more)))
whole_joined first_line lines more (inr whole) =
    let x = whole.0 in
    let feed : line_feeds (x ++ 10 ∷ []) ≡ line_feeds x + 1 = line_feeds-append x (10 ∷ []) in
    let long : length (x ++ 10 ∷ []) ≡ length x + 1 = length-append x (10 ∷ []) in
    rw whole.1 (
    ap (tokens_of first_line) (append_assoc x (10 ∷ []) more)
    ∙ tokens_joined x more 0 0 first_line (omega arith)
    ∙ ap (joined (tokens_of first_line (x ++ 10 ∷ []))) (same_tokens more (0 + suc (length x)) (length (x ++ 10 ∷ [])) _ _ (omega (arith, long)) (omega (arith, feed)))
    )

-- ---- on which lines they stand

-- tokens, or a bad byte, on a line or below it
abbrev Above : ℕ → Result (List Token) BadByte → Type 0
Above line (Ok tokens) = All (λ t. line ≤ t.line) tokens
Above line (Err bad) = line ≤ bad.line

above_less : (low high : ℕ) (read : Result (List Token) BadByte) → low ≤ high → Above high read → Above low read
above_less low high (Ok tokens) le all = All-weaker (λ (t : Token). high ≤ t.line) (λ (t : Token). low ≤ t.line) (λ t above. omega (arith, le, above)) tokens all
above_less low high (Err bad) le above = omega (arith, le, above)

-- what begins on a line, before what stands there or below
front_above : (front : Front) (at len line : ℕ) (read : Result (List Token) BadByte) → Above line read → Above line (with_front front at len line read)
front_above fronts.Bad at len line read above = omega arith
front_above fronts.Blank at len line read above = above
front_above fronts.Comment at len line read above = above
front_above (fronts.Token kind) at len line (Ok tokens) above = All-cons (λ (t : Token). line ≤ t.line) (record { kind = kind; start = at; len = len; line = line }) tokens (omega arith) above
front_above (fronts.Token kind) at len line (Err bad) above = above

-- so is all that is read from a line on
read_above : (bytes : List ℕ) (passed at line : ℕ) → Above line (tokens_from passed at line bytes)
unfolding tokens_from
read_above [] passed at line = All-nil (λ (t : Token). line ≤ t.line)
read_above (b ∷ bytes) (suc passed) at line = read_above bytes passed (at + 1) line
read_above (b ∷ bytes) zero at line =
    let le : line ≤ line_behind b line = elim (b == 10) as (λ (t : Bool). line ≤ cond t (line + 1) line) [ true ↦ omega arith | false ↦ omega arith ] in
    let len = behind (front_of b) bytes in
    let read = tokens_from len (at + 1) (line_behind b line) bytes in
    front_above (front_of b) at (len + 1) line read (above_less line (line_behind b line) read le (read_above bytes len (at + 1) (line_behind b line)))

-- feeds of a part
pub feeds-take : (n : ℕ) (bytes : List ℕ) → line_feeds (take n bytes) ≤ line_feeds bytes
feeds-take n bytes = omega (arith, line_feeds-append (take n bytes) (drop n bytes), ap line_feeds (take-append-drop n bytes))

-- a token has bytes
some_bytes : (bytes : List ℕ) (start len : ℕ) → IsTrue (is_word (take len (drop start bytes))) → 0 < len
some_bytes bytes start zero is = absurd cc
some_bytes bytes start (suc len) is = omega arith

-- those of whole lines stand above the line at their end
pub own_below : (first_line : ℕ) (lines : List ℕ) (tokens : List Token) → AreWholeLines lines → tokens_of first_line lines ≡ Ok tokens → All (λ t. t.line < end_line_of first_line lines) tokens
own_below first_line lines tokens whole scanned k d inside =
    let are = AreTokens-scanned first_line lines tokens scanned in
    by_lines whole (get_or tokens k d) (are.within k d inside) (some_bytes lines _ _ (are.words k d inside)) (lines-scanned first_line lines tokens scanned k d inside)
  where
    by_lines : AreWholeLines lines → (t : Token) → t.start + t.len ≤ length lines → 0 < t.len → t.line ≡ end_line_of first_line (take t.start lines) → t.line < end_line_of first_line lines
    by_lines (inl none) t within some on = absurd (let empty : length lines ≡ 0 = ap length none in omega (arith, within, some, empty))
    by_lines (inr whole) t within some on =
        let x = whole.0 in
        let long : length lines ≡ length x + 1 = ap length whole.1 ∙ length-append x (10 ∷ []) in
        let front : take t.start lines ≡ take t.start x = ap (take t.start) whole.1 ∙ take-append-le t.start x (10 ∷ []) (omega (arith, within, some, long)) in
        let feed : line_feeds lines ≡ line_feeds x + 1 = ap line_feeds whole.1 ∙ line_feeds-append x (10 ∷ []) in
        omega (arith, on, ap line_feeds front, feeds-take t.start x, feed)

-- ---- their lines

-- a word above other lines
with_word-front : (n : ℕ) (w : List ℕ) (front back : List Line) → All (λ l. n < l.number) back → with_word n w (front ++ back) ≡ with_word n w front ++ back
with_word-front n w [] [] all = refl
with_word-front n w [] (line ∷ back) all =
    let below : n < line.number = All-head (λ (l : Line). n < l.number) line back all in
    let other : (line.number == n) ≡ false = ne_eqb line.number n (λ same. absurd (omega (arith, below, same))) in
    rw other refl
with_word-front n w (line ∷ front) back all = by_test (line.number == n)
  where
    by_test : (t : Bool) → cond t (record { number = n; words = w ∷ line.words } ∷ front ++ back) (record { number = n; words = w ∷ [] } ∷ line ∷ front ++ back)
        ≡ cond t (record { number = n; words = w ∷ line.words } ∷ front) (record { number = n; words = w ∷ [] } ∷ line ∷ front) ++ back
    by_test true = refl
    by_test false = refl

pub lines_joined : (e : ℕ) (bytes : List ℕ) (own others : List Token) → All (λ t. t.line < e) own → All (λ l. e ≤ l.number) (lines_of bytes others) → lines_of bytes (own ++ others) ≡ lines_of bytes own ++ lines_of bytes others
lines_joined e bytes [] others below above = refl
lines_joined e bytes (t ∷ own) others below above =
    let here : t.line < e = All-head (λ (s : Token). s.line < e) t own below in
    let behind : All (λ l. t.line < l.number) (lines_of bytes others) = All-weaker (λ (l : Line). e ≤ l.number) (λ (l : Line). t.line < l.number) (λ l le. omega (arith, here, le)) (lines_of bytes others) above in
    ap (with_word t.line (word bytes t)) (lines_joined e bytes own others (All-tail (λ (s : Token). s.line < e) t own below) above)
    ∙ with_word-front t.line (word bytes t) (lines_of bytes own) (lines_of bytes others) behind

-- words of the front
word-front : (front more : List ℕ) (t : Token) → t.start + t.len ≤ length front → word (front ++ more) t ≡ word front t
word-front front more t within =
    ap (take t.len) (drop-append-le t.start front more (omega (arith, within)))
    ∙ take-append-le t.len (drop t.start front) more (omega (arith, within, length-drop t.start front))

pub lines_of-front : (front more : List ℕ) (tokens : List Token) → All (λ t. t.start + t.len ≤ length front) tokens → lines_of (front ++ more) tokens ≡ lines_of front tokens
lines_of-front front more [] all = refl
lines_of-front front more (t ∷ tokens) all =
    let P : Token → Type 0 = λ s. s.start + s.len ≤ length front in
    ap (λ (w : List ℕ). with_word t.line w (lines_of (front ++ more) tokens)) (word-front front more t (All-head P t tokens all))
    ∙ ap (with_word t.line (word front t)) (lines_of-front front more tokens (All-tail P t tokens all))

-- the lines of bytes that begin with whole lines
pub record AreCut (first_line : ℕ) (lines more : List ℕ) (tokens : List Token) : Type 0 where
  pub own : List Token
  pub back : List Line
  pub scanned : tokens_of first_line lines ≡ Ok own
  pub are : lines_of (lines ++ more) tokens ≡ lines_of lines own ++ back
  pub before : All (λ l. l.number < end_line_of first_line lines) (lines_of lines own)
  pub behind : All (λ l. end_line_of first_line lines ≤ l.number) back

found_both : (own : List Token) (others : Result (List Token) BadByte) (tokens : List Token) → with_found own others ≡ Ok tokens → (behind : List Token) × (others ≡ Ok behind) × (own ++ behind ≡ tokens)
found_both own (Ok behind) tokens e = (behind, refl, cc)
found_both own (Err bad) tokens e = absurd cc

pub lines_cut : (first_line : ℕ) (lines more : List ℕ) (tokens : List Token) → AreWholeLines lines → tokens_of first_line (lines ++ more) ≡ Ok tokens → AreCut first_line lines more tokens
lines_cut first_line lines more tokens whole scanned =
    let e = end_line_of first_line lines in
    let both = bind_ok (tokens_of first_line lines) (λ own. with_found own (tokens_behind first_line lines more)) tokens (sym (whole_joined first_line lines more whole) ∙ scanned) in
    let own = both.0 in
    let parts = found_both own (tokens_behind first_line lines more) tokens both.2 in
    let below = own_below first_line lines own whole both.1 in
    let above = numbers-lines_of (λ n. e ≤ n) (lines ++ more) parts.0 (subst (Above e) parts.1 (read_above more 0 (length lines) e)) in
    record {
      own = own;
      back = lines_of (lines ++ more) parts.0;
      scanned = both.1;
      are = ap (lines_of (lines ++ more)) (sym parts.2) ∙ lines_joined e (lines ++ more) own parts.0 below above
          ∙ ap (λ (front : List Line). front ++ lines_of (lines ++ more) parts.0) (lines_of-front lines more own (AreTokens-scanned first_line lines own both.1).within);
      before = numbers-lines_of (λ n. n < e) lines own below;
      behind = above;
    }

-- ---- a bad byte

-- a bad byte in whole lines stays, whatever stands behind them
pub bad_stays : (first_line : ℕ) (lines more other : List ℕ) (bad : BadByte) → AreWholeLines lines → tokens_of first_line (lines ++ more) ≡ Err bad → bad.line < end_line_of first_line lines → tokens_of first_line (lines ++ other) ≡ Err bad
bad_stays first_line lines more other bad whole is below = by_lines (tokens_of first_line lines) refl
  where
    others : List ℕ → Result (List Token) BadByte
    others = tokens_behind first_line lines

    behind_bad : (own : List Token) (read : Result (List Token) BadByte) → with_found own read ≡ Err bad → read ≡ Err bad
    behind_bad own (Ok tokens) e = absurd cc
    behind_bad own (Err other) e = e

    by_lines : (own : Result (List Token) BadByte) → tokens_of first_line lines ≡ own → tokens_of first_line (lines ++ other) ≡ Err bad
    by_lines (Ok own) scanned =
        let late = behind_bad own (others more) (ap (λ (r : Result (List Token) BadByte). joined r (others more)) (sym scanned) ∙ sym (whole_joined first_line lines more whole) ∙ is) in
        let above : end_line_of first_line lines ≤ bad.line = subst (Above (end_line_of first_line lines)) late (read_above more 0 (length lines) (end_line_of first_line lines)) in
        absurd (omega (arith, below, above))
    by_lines (Err first) scanned =
        let here : ◌≡◌ {A = Result (List Token) BadByte} (Err first) (Err bad) = ap (λ (r : Result (List Token) BadByte). joined r (others more)) (sym scanned) ∙ sym (whole_joined first_line lines more whole) ∙ is in
        whole_joined first_line lines other whole ∙ ap (λ (r : Result (List Token) BadByte). joined r (others other)) scanned ∙ here
