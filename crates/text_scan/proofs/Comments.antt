-- Comments and lines, piece by piece: no piece but a comment has a #, and no comment reaches the piece behind it.
use Rattle.std.proofs.Common.{◌≡◌, ◌≢◌, ℕ, zero, suc, ◌+◌, ◌<◌, ◌≤◌, inl, inr, Bool, true, false, cond, not, ◌==◌, List, length, get_or, take, refl, sym, ap, ◌∙◌, arith}
use Rattle.std.proofs.lemmas.Bool.{cases_lt, eqb-true, ne_eqb}
use Rattle.std.proofs.lemmas.List.Filters.{length-filter_more}
use Rattle.text_scan.specs.declared.token.TokenKind.{TokenKind}
use Rattle.text_scan.specs.declared.token.TokenKind.TheVariants.{Name, Number, Sign}
use Rattle.text_scan.specs.declared.token.Front.{Front}
use Rattle.text_scan.specs.declared.token.Front.TheVariants as fronts
use Rattle.text_scan.specs.Lines.{end_line_of}
use Rattle.text_scan.specs.Tokens.{front_of, line_behind}
use Rattle.text_scan.specs.Tokenization.{IsInComment, goes_on}
use Rattle.text_scan.proofs.LineFeeds.{line_feeds}
use Rattle.text_scan.proofs.Pieces.{IsPiece, goes_with}

-- ---- the bytes of a piece

-- no token goes on with a #
pub goes_on-hash : (kind : TokenKind) → goes_on kind 35 ≡ false
goes_on-hash Name = refl
goes_on-hash Number = refl
goes_on-hash Sign = refl

-- nothing goes on with a line feed
goes_with-line_feed : (front : Front) → goes_with front 10 ≡ false
goes_with-line_feed fronts.Comment = refl
goes_with-line_feed (fronts.Token Name) = refl
goes_with-line_feed (fronts.Token Number) = refl
goes_with-line_feed (fronts.Token Sign) = refl
goes_with-line_feed fronts.Blank = refl
goes_with-line_feed fronts.Bad = refl

-- no # stands in what doesn't go on with one
pub no_hash : (text : List ℕ) (at : ℕ) (front : Front) (len q : ℕ) → IsPiece text at front len → goes_with front 35 ≡ false → at ≤ q → q < at + len → get_or text q 0 ≢ 35
unfolding front_of
no_hash text at front len q piece stop from before hash = elim (cases_lt at q) [
  | inl after ↦ let goes : goes_with front 35 ≡ true = ap (goes_with front) (sym hash) ∙ piece.goes q after before in absurd cc
  | inr here ↦
      let same : q ≡ at = omega arith in
      let is : fronts.Comment ≡ front = ap front_of (sym hash ∙ ap (λ j. get_or text j 0) same) ∙ piece.begins in
      let goes : true ≡ goes_with front 35 = ap (λ f. goes_with f 35) is in absurd cc
]

-- no line feed stands behind the first byte of a piece
no_line_feed_behind : (text : List ℕ) (at : ℕ) (front : Front) (len q : ℕ) → IsPiece text at front len → at < q → q < at + len → get_or text q 0 ≢ 10
no_line_feed_behind text at front len q piece after before feed =
    let goes : goes_with front 10 ≡ true = ap (goes_with front) (sym feed) ∙ piece.goes q after before in
    let stop = goes_with-line_feed front in absurd cc

-- and none in a comment
no_line_feed_in : (text : List ℕ) (at len q : ℕ) → IsPiece text at fronts.Comment len → at ≤ q → q < at + len → get_or text q 0 ≢ 10
unfolding front_of
no_line_feed_in text at len q piece from before feed = elim (cases_lt at q) [
  | inl after ↦ no_line_feed_behind text at fronts.Comment len q piece after before feed
  | inr here ↦
      let same : q ≡ at = omega arith in
      let is : fronts.Blank ≡ fronts.Comment = ap front_of (sym feed ∙ ap (λ j. get_or text j 0) same) ∙ piece.begins in absurd cc
]

-- each place of a comment's piece is in the comment
pub IsInComment-here : (text : List ℕ) (at len p : ℕ) → IsPiece text at fronts.Comment len → at ≤ p → p < at + len → get_or text at 0 ≡ 35 → IsInComment text p
IsInComment-here text at len p piece from before hash = record {
  from = at;
  before = from;
  hash = hash;
  same_line = λ q above below. no_line_feed_in text at len q piece above (omega arith);
}

-- ---- places that no comment reaches

-- no comment that begins before a place of the text reaches it
pub record IsOpen (text : List ℕ) (at : ℕ) : Type 0 where
  pub none : at < length text → (from : ℕ) → from < at → get_or text from 0 ≡ 35 → ((q : ℕ) → from ≤ q → q ≤ at → get_or text q 0 ≢ 10) → ⊥

-- the first place
pub IsOpen-first : (text : List ℕ) → IsOpen text 0
IsOpen-first text = record { none = λ inside from before hash same_line. absurd (omega arith) }

-- a piece with a # is a comment, and a line feed ends it
ended_by_line_feed : (text : List ℕ) (at : ℕ) (front : Front) (len q : ℕ) → IsPiece text at front len → at ≤ q → q < at + len → get_or text q 0 ≡ 35 → at + len < length text → get_or text (at + len) 0 ≡ 10
ended_by_line_feed text at fronts.Comment len q piece from before hash inside = eqb-true _ 10 (by_test _ (piece.stops inside))
  where
    by_test : (b : Bool) → not b ≡ false → b ≡ true
    by_test true e = refl
    by_test false e = absurd cc
ended_by_line_feed text at (fronts.Token kind) len q piece from before hash inside = absurd (no_hash text at (fronts.Token kind) len q piece (goes_on-hash kind) from before hash)
ended_by_line_feed text at fronts.Blank len q piece from before hash inside = absurd (no_hash text at fronts.Blank len q piece refl from before hash)
ended_by_line_feed text at fronts.Bad len q piece from before hash inside = absurd (no_hash text at fronts.Bad len q piece refl from before hash)

-- so none reaches the place behind a piece
pub IsOpen-next : (text : List ℕ) (at : ℕ) (front : Front) (len : ℕ) → at < length text → IsPiece text at front len → IsOpen text at → IsOpen text (at + len)
IsOpen-next text at front len lt piece is_open = record {
  none = λ inside from before hash same_line. elim (cases_lt from at) [
    | inl earlier ↦ is_open.none lt from earlier hash (λ q above below. same_line q above (omega arith))
    | inr later ↦ same_line (at + len) (omega arith) (omega arith) (ended_by_line_feed text at front len from piece later before hash inside)
  ];
}

-- nor any place of a piece that doesn't go on with a #
pub outside_comments : (text : List ℕ) (at : ℕ) (front : Front) (len p : ℕ) → at < length text → IsPiece text at front len → goes_with front 35 ≡ false → IsOpen text at → at ≤ p → p < at + len → IsInComment text p → ⊥
outside_comments text at front len p lt piece stop is_open from_at before comment = elim (cases_lt comment.from at) [
  | inl earlier ↦ is_open.none lt comment.from earlier comment.hash (λ q above below. comment.same_line q above (omega arith))
  | inr later ↦ no_hash text at front len comment.from piece stop later (omega (arith, comment.before)) comment.hash
]

-- ---- lines

-- line feeds up to a place behind which, and behind one more, no others stand
line_feeds-to : (text : List ℕ) (at n : ℕ) → at + suc n ≤ length text → ((q : ℕ) → at < q → q < at + suc n → get_or text q 0 ≢ 10)
    → line_feeds (take (at + suc n) text) ≡ line_feeds (take at text) + cond (get_or text at 0 == 10) 1 0
line_feeds-to text at zero within none = length-filter_more (λ b. b == 10) text at 0 (omega arith)
line_feeds-to text at (suc n) within none =
    let one_more : at + suc (suc n) ≡ at + suc n + 1 = omega arith in
    let other : (get_or text (at + suc n) 0 == 10) ≡ false = ne_eqb _ 10 (none (at + suc n) (omega arith) (omega arith)) in
    let last : line_feeds (take (at + suc n + 1) text) ≡ line_feeds (take (at + suc n) text) + 0 = length-filter_more (λ b. b == 10) text (at + suc n) 0 (omega arith) ∙ ap (λ b. line_feeds (take (at + suc n) text) + cond b 1 0) other in
    rw one_more (last ∙ omega (arith, line_feeds-to text at n (omega arith) (λ q above below. none q above (omega arith))))

-- the line behind a byte is one more where it is a line feed
line_behind-counts : (b line : ℕ) → line_behind b line ≡ line + cond (b == 10) 1 0
line_behind-counts b line = elim (b == 10) as (λ (t : Bool). cond t (line + 1) line ≡ line + cond t 1 0) [ true ↦ refl | false ↦ omega arith ]

-- the line of the piece behind a piece
pub line_behind-piece : (first_line : ℕ) (text : List ℕ) (at line : ℕ) (front : Front) (len : ℕ) → IsPiece text at front len → line ≡ end_line_of first_line (take at text)
    → line_behind (get_or text at 0) line ≡ end_line_of first_line (take (at + len) text)
line_behind-piece first_line text at line front zero piece is = absurd (omega (arith, piece.some))
line_behind-piece first_line text at line front (suc n) piece is =
    let feeds = line_feeds-to text at n piece.within (λ q above below. no_line_feed_behind text at front (suc n) q piece above below) in
    let counts = line_behind-counts (get_or text at 0) line in
    omega arith
