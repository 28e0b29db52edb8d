-- What a scan answers are tokens of the text: slices in order, each the whole text of a token of its kind.
use Rattle.std.proofs.Common.{◌≡◌, ℕ, zero, suc, ◌+◌, ◌≤◌, Bool, true, false, cond, ◌==◌, List, [], ◌∷◌, length, take, drop, Result, Ok, Err, IsTrue, All, refl, sym, ap, subst, ◌∙◌, arith}
use Rattle.std.specs.List.{filter}
use Rattle.std.proofs.lemmas.List.{drop-drop}
use Rattle.std.proofs.lemmas.List.Elements.{All-nil, All-cons, All-weaker}
use Rattle.std.proofs.lemmas.List.Kept.{AllPairs-cons}
use Rattle.std.proofs.lemmas.List.Sums.{prefix_len-le-length}
use Rattle.std.specs.Char.{is_ascii_digit}
use Rattle.byte_texts.proofs.Binding.{same_ok}
use Rattle.text_scan.specs.declared.token.Token.{Token}
use Rattle.text_scan.specs.declared.token.TokenKind.{TokenKind}
use Rattle.text_scan.specs.declared.token.TokenKind.TheVariants.{Name, Number, Sign}
use Rattle.text_scan.specs.declared.token.Front.{Front}
use Rattle.text_scan.specs.declared.token.Front.TheVariants as fronts
use Rattle.text_scan.specs.Lines.{end_line_of}
use Rattle.text_scan.specs.Scanned.{AreTokens}
use Rattle.text_scan.specs.Tokens.{BadByte, front_of, behind, is_name_byte, with_front, line_behind, tokens_from, tokens_of}
use Rattle.text_scan.specs.Words.{word, is_word, kind_of}
use Rattle.text_scan.proofs.LineFeeds.{line_feeds}
use Rattle.text_scan.proofs.TokenParts.{IsTokenOf}
use Rattle.text_scan.proofs.WordFronts.{front_word}

-- ---- places of a text

-- the bytes from a place of the text on, which is on a line
record Place (first_line : ℕ) (text : List ℕ) (at line : ℕ) (bytes : List ℕ) : Type 0 where
  here : drop at text ≡ bytes
  long : at + length bytes ≡ length text
  first : first_line ≤ line
  last : line + line_feeds bytes ≤ end_line_of first_line text

-- a byte may be a line feed, and the line behind it is counted
line_feeds-cons : (line b : ℕ) (bytes : List ℕ) → (line_feeds bytes ≤ line_feeds (b ∷ bytes)) × (line ≤ line_behind b line) × (line_behind b line + line_feeds bytes ≡ line + line_feeds (b ∷ bytes))
line_feeds-cons line b bytes = by_test (b == 10) (filter (λ b. b == 10) bytes)
  where
    by_test : (t : Bool) (feeds : List ℕ) → (length feeds ≤ length (cond t (b ∷ feeds) feeds)) × (line ≤ cond t (line + 1) line) × (cond t (line + 1) line + length feeds ≡ line + length (cond t (b ∷ feeds) feeds))
    by_test true feeds = (omega arith, omega arith, omega arith)
    by_test false feeds = (omega arith, omega arith, refl)

-- the place behind a byte that goes with what began before it, and behind one with which something begins
next_place : (first_line : ℕ) (text : List ℕ) (at line b : ℕ) (bytes : List ℕ) → Place first_line text at line (b ∷ bytes)
    → Place first_line text (at + 1) line bytes × Place first_line text (at + 1) (line_behind b line) bytes
next_place first_line text at line b bytes place =
    let feeds = line_feeds-cons line b bytes in
    let behind : drop (at + 1) text ≡ bytes = sym (drop-drop 1 at text) ∙ ap (drop 1) place.here in
    let long : at + 1 + length bytes ≡ length text = omega (arith, place.long) in (
      record { here = behind; long = long; first = place.first; last = omega (arith, place.last, feeds.0) },
      record { here = behind; long = long; first = omega (arith, place.first, feeds.1); last = omega (arith, place.last, feeds.2) },
    )

-- ---- tokens behind a place

record Behind (first_line : ℕ) (text : List ℕ) (from line : ℕ) (tokens : List Token) : Type 0 where
  are : AreTokens first_line text tokens
  starts : All (λ t. from ≤ t.start) tokens
  later : All (λ t. line ≤ t.line) tokens

Behind-none : (first_line : ℕ) (text : List ℕ) (from line : ℕ) → Behind first_line text from line []
Behind-none first_line text from line = record {
  are = record {
    within = All-nil _;
    words = All-nil _;
    kinds = All-nil _;
    in_order = λ i j d before inside. absurd (omega arith);
    lines = λ i j d before inside. absurd (omega arith);
    first = All-nil _;
    last = All-nil _;
  };
  starts = All-nil _;
  later = All-nil _;
}

Behind-later : (first_line : ℕ) (text : List ℕ) (from line from' line' : ℕ) (tokens : List Token) → from ≤ from' → line ≤ line' → Behind first_line text from' line' tokens → Behind first_line text from line tokens
Behind-later first_line text from line from' line' tokens le_from le_line behind = record {
  are = behind.are;
  starts = All-weaker (λ t. from' ≤ t.start) (λ t. from ≤ t.start) (λ t h. omega arith) tokens behind.starts;
  later = All-weaker (λ t. line' ≤ t.line) (λ t. line ≤ t.line) (λ t h. omega arith) tokens behind.later;
}

-- a token before those behind it
Behind-cons : (first_line : ℕ) (text : List ℕ) (from line : ℕ) (t : Token) (tokens : List Token) → t.start + t.len ≤ from → t.line ≤ line → IsTokenOf first_line text t → Behind first_line text from line tokens → Behind first_line text t.start t.line (t ∷ tokens)
Behind-cons first_line text from line t tokens ends on is behind =
    let wider = Behind-later first_line text (t.start + t.len) t.line from line tokens ends on behind in
    let starts = Behind-later first_line text t.start t.line from line tokens (omega arith) on behind in
    record {
      are = record {
        within = All-cons (λ t. t.start + t.len ≤ length text) t tokens is.within behind.are.within;
        words = All-cons (λ t. IsTrue (is_word (word text t))) t tokens is.is_one behind.are.words;
        kinds = All-cons (λ t. kind_of (word text t) ≡ t.kind) t tokens is.kind behind.are.kinds;
        in_order = AllPairs-cons (λ s t. s.start + s.len ≤ t.start) t tokens wider.starts behind.are.in_order;
        lines = AllPairs-cons (λ s t. s.line ≤ t.line) t tokens wider.later behind.are.lines;
        first = All-cons (λ t. first_line ≤ t.line) t tokens is.first behind.are.first;
        last = All-cons (λ t. t.line ≤ end_line_of first_line text) t tokens is.last behind.are.last;
      };
      starts = All-cons (λ s. t.start ≤ s.start) t tokens (omega arith) starts.starts;
      later = All-cons (λ s. t.line ≤ s.line) t tokens (omega arith) starts.later;
    }

-- ---- one step

-- a token that was found before others
pub found : (kind : TokenKind) (at len line : ℕ) (read : Result (List Token) BadByte) (tokens : List Token) → with_front (fronts.Token kind) at len line read ≡ Ok tokens
    → (rest : List Token) × (read ≡ Ok rest) × (record { kind = kind; start = at; len = len; line = line } ∷ rest ≡ tokens)
found kind at len line (Ok rest) tokens e = (rest, refl, cc)
found kind at len line (Err fault) tokens e = absurd cc

behind-within : (kind : TokenKind) (bytes : List ℕ) → behind (fronts.Token kind) bytes ≤ length bytes
behind-within Name bytes = prefix_len-le-length is_name_byte bytes
behind-within Number bytes = prefix_len-le-length is_ascii_digit bytes
behind-within Sign bytes = omega arith

-- what begins at a place as a token is one
token_here : (first_line : ℕ) (text : List ℕ) (at line b : ℕ) (bytes : List ℕ) (kind : TokenKind) → front_of b ≡ fronts.Token kind → Place first_line text at line (b ∷ bytes)
    → IsTokenOf first_line text (record { kind = kind; start = at; len = behind (fronts.Token kind) bytes + 1; line = line })
token_here first_line text at line b bytes kind front place =
    let k = behind (fronts.Token kind) bytes in
    let one_more : k + 1 ≡ suc k = omega arith in
    let is : b ∷ take k bytes ≡ take (k + 1) (drop at text) = rw (place.here, one_more) refl in
    let fine = front_word b bytes kind front in
    record {
      within = omega (arith, place.long, behind-within kind bytes);
      is_one = rw (← is) fine.0;
      kind = rw (← is) fine.1;
      first = place.first;
      last = omega (arith, place.last);
    }

-- what is answered of the bytes behind a place, of which so many go with what began before
abbrev Answered : ℕ → List ℕ → ℕ → ℕ → List ℕ → Type 0
Answered first_line text at line bytes = (passed : ℕ) (tokens : List Token) → tokens_from passed at line bytes ≡ Ok tokens → Behind first_line text (at + passed) line tokens

by_front : (first_line : ℕ) (text : List ℕ) (at line b : ℕ) (bytes : List ℕ) (front : Front) (tokens : List Token) → front_of b ≡ front → Place first_line text at line (b ∷ bytes) → Answered first_line text (at + 1) (line_behind b line) bytes
    → with_front front at (behind front bytes + 1) line (tokens_from (behind front bytes) (at + 1) (line_behind b line) bytes) ≡ Ok tokens → Behind first_line text at line tokens
by_front first_line text at line b bytes fronts.Bad tokens front place rest e = absurd cc
by_front first_line text at line b bytes fronts.Blank tokens front place rest e = Behind-later first_line text at line _ _ tokens (omega arith) (line_feeds-cons line b bytes).1 (rest 0 tokens e)
by_front first_line text at line b bytes fronts.Comment tokens front place rest e = Behind-later first_line text at line _ _ tokens (omega arith) (line_feeds-cons line b bytes).1 (rest _ tokens e)
by_front first_line text at line b bytes (fronts.Token kind) tokens front place rest e =
    let k = behind (fronts.Token kind) bytes in
    let both = found kind at (k + 1) line (tokens_from k (at + 1) (line_behind b line) bytes) tokens e in
    subst (Behind first_line text at line) both.2
    (Behind-cons first_line text (at + 1 + k) (line_behind b line) _ both.0 (omega arith) (line_feeds-cons line b bytes).1 (token_here first_line text at line b bytes kind front place) (rest k both.0 both.1))

-- ---- all bytes

none_left : (first_line : ℕ) (text : List ℕ) (from line : ℕ) (tokens : List Token) → ◌≡◌ {A = Result (List Token) BadByte} (Ok []) (Ok tokens) → Behind first_line text from line tokens
none_left first_line text from line tokens e = subst (Behind first_line text from line) (same_ok [] tokens e) (Behind-none first_line text from line)

scanned_from : (first_line : ℕ) (text : List ℕ) (at line : ℕ) (bytes : List ℕ) → Place first_line text at line bytes → Answered first_line text at line bytes
unfolding tokens_from
scanned_from first_line text at line [] place zero tokens e = none_left first_line text (at + 0) line tokens e
scanned_from first_line text at line [] place (suc passed) tokens e = none_left first_line text (at + suc passed) line tokens e
scanned_from first_line text at line (b ∷ bytes) place zero tokens e =
    let rest = scanned_from first_line text (at + 1) (line_behind b line) bytes (next_place first_line text at line b bytes place).1 in
    Behind-later first_line text (at + 0) line at line tokens (omega arith) (omega arith) (by_front first_line text at line b bytes (front_of b) tokens refl place rest e)
scanned_from first_line text at line (b ∷ bytes) place (suc passed) tokens e =
    let rest = scanned_from first_line text (at + 1) line bytes (next_place first_line text at line b bytes place).0 passed tokens e in
    Behind-later first_line text (at + suc passed) line (at + 1 + passed) line tokens (omega arith) (omega arith) rest

-- the tokens that a scan answers
pub AreTokens-scanned : (first_line : ℕ) (bytes : List ℕ) (tokens : List Token) → tokens_of first_line bytes ≡ Ok tokens → AreTokens first_line bytes tokens
AreTokens-scanned first_line bytes tokens e =
    (scanned_from first_line bytes 0 first_line bytes (record { here = refl; long = omega arith; first = omega arith; last = omega arith }) 0 tokens e).are
