-- The tokens that a scan answers are all that the text has: each byte is in one of them, a blank or in a comment, and
-- none of them is in a comment or could be longer.
use Rattle.std.proofs.Common.{◌≡◌, ℕ, ◌+◌, ◌<◌, ◌≤◌, ◌⊎◌, inl, inr, true, false, List, [], ◌∷◌, length, get_or, take, drop, Result, Ok, IsTrue, All, refl, sym, ap, subst, ◌∙◌, arith}
use Rattle.std.proofs.lemmas.Bool.{cases_lt}
use Rattle.std.proofs.lemmas.Bool.Decides.{nat_tests}
use Rattle.std.proofs.lemmas.List.{drop_all}
use Rattle.std.proofs.lemmas.List.Elements.{All-nil, All-cons, Contains-append_right}
use Rattle.byte_texts.proofs.Binding.{same_ok}
use Rattle.text_scan.specs.declared.token.Token.{Token}
use Rattle.text_scan.specs.declared.token.TokenKind.{TokenKind}
use Rattle.text_scan.specs.declared.token.TokenKind.TheVariants.{Sign}
use Rattle.text_scan.specs.declared.token.Front.{Front}
use Rattle.text_scan.specs.declared.token.Front.TheVariants as fronts
use Rattle.text_scan.specs.Lines.{end_line_of}
use Rattle.text_scan.specs.Tokens.{BadByte, front_of, is_blank, with_front, line_behind, tokens_from, tokens_of}
use Rattle.text_scan.specs.Tokenization.{IsInComment, IsInToken, IsInSome, IsWhole, AreAllTokens}
use Rattle.text_scan.proofs.Comments.{goes_on-hash, IsInComment-here, IsOpen, IsOpen-first, IsOpen-next, outside_comments, line_behind-piece}
use Rattle.text_scan.proofs.Pieces.{IsPiece, tokens_from_piece, by_pieces}
use Rattle.text_scan.proofs.ScannedTokens.{found}

-- ---- first bytes

blank_from_front : (b : ℕ) → front_of b ≡ fronts.Blank → is_blank b ≡ true
unfolding front_of
blank_from_front b e = grind (arith, nat_tests)

hash_from_front : (b : ℕ) → front_of b ≡ fronts.Comment → b ≡ 35
unfolding front_of
hash_from_front b e = grind (arith, nat_tests)

-- ---- places and tokens

-- what a place of a text is in
abbrev Covered : List ℕ → List Token → ℕ → Type 0
Covered text tokens p = IsInSome tokens p ⊎ IsTrue (is_blank (get_or text p 0)) ⊎ IsInComment text p

-- one more token covers no less
Covered-more : (text : List ℕ) (t : Token) (tokens : List Token) (p : ℕ) → Covered text tokens p → Covered text (t ∷ tokens) p
Covered-more text t tokens p covered = elim covered [
  | inl some ↦ inl (record { token = some.token; one = Contains-append_right (t ∷ []) tokens some.token some.one; inside = some.inside })
  | inr other ↦ inr other
]

-- the tokens from a place on are all that the text has there, with their lines
record AreAllFrom (first_line : ℕ) (text : List ℕ) (at : ℕ) (tokens : List Token) : Type 0 where
  outside : All (λ t. (p : ℕ) → IsInToken t p → IsInComment text p → ⊥) tokens
  covered : (p : ℕ) → at ≤ p → p < length text → Covered text tokens p
  whole : All (λ t. IsWhole text t) tokens
  lines : All (λ t. t.line ≡ end_line_of first_line (take t.start text)) tokens

AreAllFrom-none : (first_line : ℕ) (text : List ℕ) (at : ℕ) → length text ≤ at → AreAllFrom first_line text at []
AreAllFrom-none first_line text at le = record { outside = All-nil _; covered = λ p from inside. absurd (omega arith); whole = All-nil _; lines = All-nil _ }

-- a piece whose places are covered, and no token
AreAllFrom-skip : (first_line : ℕ) (text : List ℕ) (at len : ℕ) (tokens : List Token) → ((p : ℕ) → at ≤ p → p < at + len → Covered text tokens p) → AreAllFrom first_line text (at + len) tokens → AreAllFrom first_line text at tokens
AreAllFrom-skip first_line text at len tokens here all = record {
  outside = all.outside;
  covered = λ p from inside. elim (cases_lt p (at + len)) [ inl before ↦ here p from before | inr behind ↦ all.covered p behind inside ];
  whole = all.whole;
  lines = all.lines;
}

-- what is as one of the tokens has to be, before those behind it
AreAllFrom-cons : (first_line : ℕ) (text : List ℕ) (t : Token) (tokens : List Token) → ((p : ℕ) → IsInToken t p → IsInComment text p → ⊥) → IsWhole text t → t.line ≡ end_line_of first_line (take t.start text)
    → AreAllFrom first_line text (t.start + t.len) tokens → AreAllFrom first_line text t.start (t ∷ tokens)
AreAllFrom-cons first_line text t tokens outside whole on_line all = record {
  outside = All-cons (λ t. (p : ℕ) → IsInToken t p → IsInComment text p → ⊥) t tokens outside all.outside;
  covered = λ p from inside. elim (cases_lt p (t.start + t.len)) [
    | inl before ↦ inl (record { token = t; one = (0, omega arith, refl); inside = record { from_start = from; before_end = before } })
    | inr behind ↦ Covered-more text t tokens p (all.covered p behind inside)
  ];
  whole = All-cons (λ t. IsWhole text t) t tokens whole all.whole;
  lines = All-cons (λ t. t.line ≡ end_line_of first_line (take t.start text)) t tokens on_line all.lines;
}

-- ---- one piece

-- a token's piece is whole
IsWhole-piece : (text : List ℕ) (at len line : ℕ) (kind : TokenKind) → IsPiece text at (fronts.Token kind) len → IsWhole text (record { kind = kind; start = at; len = len; line = line })
IsWhole-piece text at len line kind piece = record { stops = piece.stops; sign = λ is. one_byte (subst (λ k. IsPiece text at (fronts.Token k) len) is piece) }
  where
    one_byte : IsPiece text at (fronts.Token Sign) len → len ≡ 1
    one_byte piece = elim (cases_lt 1 len) [
      | inl more ↦ let goes : false ≡ true = piece.goes (at + 1) (omega arith) (omega arith) in absurd cc
      | inr one ↦ omega (arith, piece.some)
    ]

-- the one byte of a blank's piece
blank_piece : (text : List ℕ) (at len p : ℕ) → IsPiece text at fronts.Blank len → at ≤ p → p < at + len → is_blank (get_or text p 0) ≡ true
blank_piece text at len p piece from before = elim (cases_lt at p) [
  | inl after ↦ let goes : false ≡ true = piece.goes p after before in absurd cc
  | inr here ↦ let same : at ≡ p = omega arith in ap (λ j. is_blank (get_or text j 0)) (sym same) ∙ blank_from_front (get_or text at 0) piece.begins
]

-- what is answered from a piece on, where this is what is answered behind it
by_front : (first_line : ℕ) (text : List ℕ) (at line : ℕ) (front : Front) (len : ℕ) (read : Result (List Token) BadByte) (tokens : List Token) → at < length text → IsPiece text at front len → IsOpen text at → line ≡ end_line_of first_line (take at text)
    → ((tokens : List Token) → read ≡ Ok tokens → AreAllFrom first_line text (at + len) tokens) → with_front front at len line read ≡ Ok tokens → AreAllFrom first_line text at tokens
by_front first_line text at line fronts.Bad len read tokens lt piece is_open on_line rest e = absurd cc
by_front first_line text at line fronts.Blank len read tokens lt piece is_open on_line rest e =
    AreAllFrom-skip first_line text at len tokens (λ p from before. inr (inl (blank_piece text at len p piece from before))) (rest tokens e)
by_front first_line text at line fronts.Comment len read tokens lt piece is_open on_line rest e =
    AreAllFrom-skip first_line text at len tokens (λ p from before. inr (inr (IsInComment-here text at len p piece from before (hash_from_front (get_or text at 0) piece.begins)))) (rest tokens e)
by_front first_line text at line (fronts.Token kind) len read tokens lt piece is_open on_line rest e =
    let both = found kind at len line read tokens e in
    let t : Token = record { kind = kind; start = at; len = len; line = line } in
    subst (AreAllFrom first_line text at) both.2
    (AreAllFrom-cons first_line text t both.0 (λ p inside. outside_comments text at (fronts.Token kind) len p lt piece (goes_on-hash kind) is_open inside.from_start inside.before_end) (IsWhole-piece text at len line kind piece) on_line (rest both.0 both.1))

-- ---- all pieces

-- what is answered of the bytes from a place on
abbrev Answered : ℕ → List ℕ → ℕ → ℕ → Type 0
Answered first_line text at line = IsOpen text at → line ≡ end_line_of first_line (take at text) → (tokens : List Token) → tokens_from 0 at line (drop at text) ≡ Ok tokens → AreAllFrom first_line text at tokens

-- no bytes
none_left : (first_line : ℕ) (text : List ℕ) (at line : ℕ) → length text ≤ at → Answered first_line text at line
unfolding tokens_from
none_left first_line text at line le is_open on_line tokens e =
    let none : ◌≡◌ {A = Result (List Token) BadByte} (Ok []) (Ok tokens) = ap (tokens_from 0 at line) (sym (drop_all at text le)) ∙ e in
    subst (AreAllFrom first_line text at) (same_ok [] tokens none) (AreAllFrom-none first_line text at le)

-- a piece, and what is behind it
one_piece : (first_line : ℕ) (text : List ℕ) (at line : ℕ) (front : Front) (len : ℕ) → at < length text → IsPiece text at front len → Answered first_line text (at + len) (line_behind (get_or text at 0) line) → Answered first_line text at line
one_piece first_line text at line front len lt piece rest is_open on_line tokens e =
    by_front first_line text at line front len _ tokens lt piece is_open on_line
    (rest (IsOpen-next text at front len lt piece is_open) (line_behind-piece first_line text at line front len piece on_line))
    (sym (tokens_from_piece text at line front len lt piece) ∙ e)

-- all bytes
all_from : (first_line : ℕ) (bytes : List ℕ) (tokens : List Token) → tokens_of first_line bytes ≡ Ok tokens → AreAllFrom first_line bytes 0 tokens
all_from first_line bytes tokens e =
    by_pieces bytes (Answered first_line bytes) (none_left first_line bytes) (one_piece first_line bytes) 0 first_line (IsOpen-first bytes) (omega arith) tokens e

-- the tokens that a scan answers
pub AreAllTokens-scanned : (first_line : ℕ) (bytes : List ℕ) (tokens : List Token) → tokens_of first_line bytes ≡ Ok tokens → AreAllTokens bytes tokens
AreAllTokens-scanned first_line bytes tokens e =
    let all = all_from first_line bytes tokens e in
    record { outside = all.outside; covered = λ p inside. all.covered p (omega arith) inside; whole = all.whole }

-- and their lines
pub lines-scanned : (first_line : ℕ) (bytes : List ℕ) (tokens : List Token) → tokens_of first_line bytes ≡ Ok tokens → All (λ t. t.line ≡ end_line_of first_line (take t.start bytes)) tokens
lines-scanned first_line bytes tokens e = (all_from first_line bytes tokens e).lines
