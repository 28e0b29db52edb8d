-- What a scan answers as the bad byte is the first one: the bytes before it have tokens, and it is in none of them, in no
-- comment and no blank.
use Rattle.std.proofs.Common.{◌≡◌, ℕ, ◌+◌, ◌<◌, ◌≤◌, false, List, [], ◌∷◌, length, get_or, take, drop, Result, Ok, Err, All, refl, sym, ap, subst, ◌∙◌, arith, get_or-take}
use Rattle.std.proofs.lemmas.List.{drop_all, length-take-le}
use Rattle.std.proofs.lemmas.List.Elements.{All-nil, All-cons}
use Rattle.text_scan.specs.declared.token.Token.{Token}
use Rattle.text_scan.specs.declared.token.TokenKind.{TokenKind}
use Rattle.text_scan.specs.declared.token.Front.{Front}
use Rattle.text_scan.specs.declared.token.Front.TheVariants as fronts
use Rattle.text_scan.specs.Lines.{end_line_of}
use Rattle.text_scan.specs.Tokens.{BadByte, front_of, with_front, line_behind, tokens_from, tokens_of}
use Rattle.text_scan.specs.Tokenization.{IsInComment, goes_on, IsFirstBad}
use Rattle.text_scan.proofs.Comments.{IsOpen, IsOpen-first, IsOpen-next, outside_comments, line_behind-piece}
use Rattle.text_scan.proofs.Pieces.{IsPiece, goes_with, tokens_from_piece, by_pieces}

-- ---- pieces of the bytes before a place

-- a piece that ends before a place of the text, or there, is one of the bytes before it
IsPiece-take : (text : List ℕ) (at : ℕ) (front : Front) (len bad : ℕ) → IsPiece text at front len → at + len ≤ bad → bad ≤ length text → IsPiece (take bad text) at front len
IsPiece-take text at front len bad piece le inside =
    let long : length (take bad text) ≡ bad = length-take-le bad text inside in
    record {
      begins = ap front_of (get_or-take bad text at 0 (omega (arith, piece.some))) ∙ piece.begins;
      some = piece.some;
      within = omega arith;
      goes = λ q after before. ap (goes_with front) (get_or-take bad text q 0 (omega arith)) ∙ piece.goes q after before;
      stops = λ more. ap (goes_with front) (get_or-take bad text (at + len) 0 (omega arith)) ∙ piece.stops (omega arith);
    }

-- the tokens of those bytes from a piece on
tokens_before : (text : List ℕ) (at line : ℕ) (front : Front) (len bad : ℕ) → IsPiece text at front len → at + len ≤ bad → bad ≤ length text
    → tokens_from 0 at line (drop at (take bad text)) ≡ with_front front at len line (tokens_from 0 (at + len) (line_behind (get_or text at 0) line) (drop (at + len) (take bad text)))
tokens_before text at line front len bad piece le inside =
    let long : length (take bad text) ≡ bad = length-take-le bad text inside in
    let first : get_or (take bad text) at 0 ≡ get_or text at 0 = get_or-take bad text at 0 (omega (arith, piece.some)) in
    tokens_from_piece (take bad text) at line front len (omega (arith, piece.some)) (IsPiece-take text at front len bad piece le inside)
    ∙ ap (λ b. with_front front at len line (tokens_from 0 (at + len) (line_behind b line) (drop (at + len) (take bad text)))) first

-- ---- a bad byte behind a place

-- the first bad byte of the bytes from a place on
record IsBadFrom (first_line : ℕ) (text : List ℕ) (at line bad bad_line : ℕ) : Type 0 where
  inside : bad < length text
  after : at ≤ bad
  tokens : List Token
  are : tokens_from 0 at line (drop at (take bad text)) ≡ Ok tokens
  ended : All (λ t. t.start + t.len ≡ bad → goes_on t.kind (get_or text bad 0) ≡ false) tokens
  outside : IsInComment text bad → ⊥
  is_bad : front_of (get_or text bad 0) ≡ fronts.Bad
  on_line : bad_line ≡ end_line_of first_line (take bad text)

-- it begins at the place
IsBadFrom-here : (first_line : ℕ) (text : List ℕ) (at line len : ℕ) → at < length text → IsPiece text at fronts.Bad len → IsOpen text at → line ≡ end_line_of first_line (take at text) → IsBadFrom first_line text at line at line
unfolding tokens_from
IsBadFrom-here first_line text at line len lt piece is_open on_line = record {
  inside = lt;
  after = omega arith;
  tokens = [];
  are = ap (tokens_from 0 at line) (drop_all at (take at text) (omega (arith, length-take-le at text (omega arith))));
  ended = All-nil _;
  outside = outside_comments text at fronts.Bad len at lt piece refl is_open (omega arith) (omega (arith, piece.some));
  is_bad = piece.begins;
  on_line = on_line;
}

-- the byte itself, by what was answered
IsBadFrom-answered : (first_line : ℕ) (text : List ℕ) (at line bad bad_line : ℕ) → ◌≡◌ {A = Result (List Token) BadByte} (Err (record { at = at; line = line })) (Err (record { at = bad; line = bad_line })) → IsBadFrom first_line text at line at line → IsBadFrom first_line text at line bad bad_line
IsBadFrom-answered first_line text at line bad bad_line e here =
    let both : ◌≡◌ {A = BadByte} (record { at = at; line = line }) (record { at = bad; line = bad_line }) = cc in
    let same = ap (λ (b : BadByte). b.at) both in
    let same_line = ap (λ (b : BadByte). b.line) both in
    subst (λ l. IsBadFrom first_line text at line bad l) same_line (subst (λ b. IsBadFrom first_line text at line b line) same here)

-- tokens from a place on, with what is before them, and the rest as it was
IsBadFrom-before : (first_line : ℕ) (text : List ℕ) (at line at' line' bad bad_line : ℕ) (tokens : List Token) → at ≤ at' → IsBadFrom first_line text at' line' bad bad_line → tokens_from 0 at line (drop at (take bad text)) ≡ Ok tokens
    → All (λ t. t.start + t.len ≡ bad → goes_on t.kind (get_or text bad 0) ≡ false) tokens → IsBadFrom first_line text at line bad bad_line
IsBadFrom-before first_line text at line at' line' bad bad_line tokens le rest are ended = record {
  inside = rest.inside;
  after = omega (arith, rest.after);
  tokens = tokens;
  are = are;
  ended = ended;
  outside = rest.outside;
  is_bad = rest.is_bad;
  on_line = rest.on_line;
}

-- ---- one piece

-- the fault behind a token
behind_token : (kind : TokenKind) (at len line : ℕ) (read : Result (List Token) BadByte) (fault : BadByte) → with_front (fronts.Token kind) at len line read ≡ Err fault → read ≡ Err fault
behind_token kind at len line (Ok tokens) fault e = absurd cc
behind_token kind at len line (Err other) fault e = e

-- a token before the tokens of a bad byte
IsBadFrom-token : (first_line : ℕ) (text : List ℕ) (at line : ℕ) (kind : TokenKind) (len bad bad_line : ℕ) → IsPiece text at (fronts.Token kind) len → IsBadFrom first_line text (at + len) (line_behind (get_or text at 0) line) bad bad_line
    → IsBadFrom first_line text at line bad bad_line
IsBadFrom-token first_line text at line kind len bad bad_line piece rest =
    let t : Token = record { kind = kind; start = at; len = len; line = line } in
    let inside : bad < length text = rest.inside in
    let stops : at + len ≡ bad → goes_on kind (get_or text bad 0) ≡ false = λ same. ap (λ j. goes_on kind (get_or text j 0)) (sym same) ∙ piece.stops (omega arith) in
    IsBadFrom-before first_line text at line (at + len) _ bad bad_line (t ∷ rest.tokens) (omega arith) rest
    (tokens_before text at line (fronts.Token kind) len bad piece rest.after (omega arith) ∙ ap (with_front (fronts.Token kind) at len line) rest.are)
    (All-cons (λ t. t.start + t.len ≡ bad → goes_on t.kind (get_or text bad 0) ≡ false) t rest.tokens stops rest.ended)

-- what is answered of the bytes from a place on
abbrev Answered : ℕ → List ℕ → ℕ → ℕ → Type 0
Answered first_line text at line = IsOpen text at → line ≡ end_line_of first_line (take at text) → (bad bad_line : ℕ) → tokens_from 0 at line (drop at text) ≡ Err (record { at = bad; line = bad_line }) → IsBadFrom first_line text at line bad bad_line

-- what is answered from a piece on, where this is what is answered behind it
by_front : (first_line : ℕ) (text : List ℕ) (at line : ℕ) (front : Front) (len : ℕ) (read : Result (List Token) BadByte) (bad bad_line : ℕ) → at < length text → IsPiece text at front len → IsOpen text at → line ≡ end_line_of first_line (take at text)
    → (read ≡ Err (record { at = bad; line = bad_line }) → IsBadFrom first_line text (at + len) (line_behind (get_or text at 0) line) bad bad_line)
    → with_front front at len line read ≡ Err (record { at = bad; line = bad_line }) → IsBadFrom first_line text at line bad bad_line
by_front first_line text at line fronts.Bad len read bad bad_line lt piece is_open on_line behind e =
    IsBadFrom-answered first_line text at line bad bad_line e (IsBadFrom-here first_line text at line len lt piece is_open on_line)
by_front first_line text at line fronts.Blank len read bad bad_line lt piece is_open on_line behind e =
    let rest = behind e in
    let inside : bad < length text = rest.inside in
    IsBadFrom-before first_line text at line (at + len) _ bad bad_line rest.tokens (omega arith) rest (tokens_before text at line fronts.Blank len bad piece rest.after (omega arith) ∙ rest.are) rest.ended
by_front first_line text at line fronts.Comment len read bad bad_line lt piece is_open on_line behind e =
    let rest = behind e in
    let inside : bad < length text = rest.inside in
    IsBadFrom-before first_line text at line (at + len) _ bad bad_line rest.tokens (omega arith) rest (tokens_before text at line fronts.Comment len bad piece rest.after (omega arith) ∙ rest.are) rest.ended
by_front first_line text at line (fronts.Token kind) len read bad bad_line lt piece is_open on_line behind e =
    IsBadFrom-token first_line text at line kind len bad bad_line piece (behind (behind_token kind at len line read (record { at = bad; line = bad_line }) e))

-- ---- all pieces

-- no bytes
none_left : (first_line : ℕ) (text : List ℕ) (at line : ℕ) → length text ≤ at → Answered first_line text at line
unfolding tokens_from
none_left first_line text at line le is_open on_line bad bad_line e =
    let none : ◌≡◌ {A = Result (List Token) BadByte} (Ok []) (Err (record { at = bad; line = bad_line })) = ap (tokens_from 0 at line) (sym (drop_all at text le)) ∙ e in
    absurd cc

-- a piece, and what is behind it
one_piece : (first_line : ℕ) (text : List ℕ) (at line : ℕ) (front : Front) (len : ℕ) → at < length text → IsPiece text at front len → Answered first_line text (at + len) (line_behind (get_or text at 0) line) → Answered first_line text at line
one_piece first_line text at line front len lt piece behind is_open on_line bad bad_line e =
    by_front first_line text at line front len _ bad bad_line lt piece is_open on_line
    (behind (IsOpen-next text at front len lt piece is_open) (line_behind-piece first_line text at line front len piece on_line) bad bad_line)
    (sym (tokens_from_piece text at line front len lt piece) ∙ e)

-- the bad byte that a scan answers
pub IsFirstBad-scanned : (first_line : ℕ) (bytes : List ℕ) (at line : ℕ) → tokens_of first_line bytes ≡ Err (record { at = at; line = line }) → IsFirstBad first_line bytes at line
IsFirstBad-scanned first_line bytes at line e =
    let is = by_pieces bytes (Answered first_line bytes) (none_left first_line bytes) (one_piece first_line bytes) 0 first_line (IsOpen-first bytes) (omega arith) at line e in
    record {
      inside = is.inside;
      before = (is.tokens, record { are = is.are; ended = is.ended });
      outside = is.outside;
      bad = is.is_bad;
      on_line = is.on_line;
    }
