-- A text goes piece by piece: what begins at a place, and the bytes that go with it.
use Rattle.std.proofs.Common.{◌≡◌, ℕ, zero, suc, ◌+◌, ◌-◌, ◌<◌, ◌≤◌, inl, inr, Bool, false, true, List, [], ◌∷◌, length, get_or, drop, refl, sym, ap, ◌∙◌, arith, length-drop, get_or-drop}
use Rattle.std.specs.List.{prefix_len}
use Rattle.std.proofs.lemmas.Bool.{cases_lt}
use Rattle.std.proofs.lemmas.List.Sums.{prefix_len-le-length, prefix_len_passes, prefix_len_stops, prefix_len_is}
use Rattle.text_scan.specs.declared.token.TokenKind.TheVariants.{Name, Number, Sign}
use Rattle.text_scan.specs.declared.token.Front.{Front}
use Rattle.text_scan.specs.declared.token.Front.TheVariants as fronts
use Rattle.text_scan.specs.Tokens.{front_of, behind, is_comment_byte, with_front, line_behind, tokens_from}
use Rattle.text_scan.specs.Tokenization.{goes_on}
use Rattle.text_scan.proofs.Steps.{at_place}

-- bytes that go with what began before them
abbrev pub goes_with : Front → ℕ → Bool
goes_with fronts.Comment b = is_comment_byte b
goes_with (fronts.Token kind) b = goes_on kind b
goes_with fronts.Blank b = false
goes_with fronts.Bad b = false

-- no byte passes a test that always fails
no_bytes : (xs : List ℕ) → 0 ≡ prefix_len (λ (b : ℕ). false) xs
no_bytes [] = refl
no_bytes (x ∷ xs) = refl

-- as many as pass
behind_passes : (front : Front) (bytes : List ℕ) → behind front bytes ≡ prefix_len (goes_with front) bytes
behind_passes fronts.Comment bytes = refl
behind_passes (fronts.Token Name) bytes = refl
behind_passes (fronts.Token Number) bytes = refl
behind_passes (fronts.Token Sign) bytes = no_bytes bytes
behind_passes fronts.Blank bytes = no_bytes bytes
behind_passes fronts.Bad bytes = no_bytes bytes

-- what begins at a place, and is so long
pub record IsPiece (text : List ℕ) (at : ℕ) (front : Front) (len : ℕ) : Type 0 where
  pub begins : front_of (get_or text at 0) ≡ front
  pub some : 0 < len
  pub within : at + len ≤ length text
  pub goes : (q : ℕ) → at < q → q < at + len → goes_with front (get_or text q 0) ≡ true
  pub stops : at + len < length text → goes_with front (get_or text (at + len) 0) ≡ false

-- the byte behind a place, counted from it
byte_behind : (text : List ℕ) (at i q : ℕ) → at + 1 + i ≡ q → get_or (drop (at + 1) text) i 0 ≡ get_or text q 0
byte_behind text at i q e = get_or-drop (at + 1) text i 0 ∙ ap (λ j. get_or text j 0) e

-- something begins at each place
pub IsPiece-here : (text : List ℕ) (at : ℕ) (front : Front) → at < length text → front_of (get_or text at 0) ≡ front → IsPiece text at front (behind front (drop (at + 1) text) + 1)
IsPiece-here text at front lt begins =
    let p = goes_with front in
    let rest = drop (at + 1) text in
    let k_is : behind front rest ≡ prefix_len p rest = behind_passes front rest in
    let long : length rest ≡ length text - (at + 1) = length-drop (at + 1) text in
    let most : prefix_len p rest ≤ length rest = prefix_len-le-length p rest in
    record {
      begins = begins;
      some = omega arith;
      within = omega arith;
      goes = λ q after inside. let i_is : at + 1 + (q - (at + 1)) ≡ q = omega arith in
          ap p (sym (byte_behind text at (q - (at + 1)) q i_is)) ∙ prefix_len_passes p rest (q - (at + 1)) 0 (omega arith);
      stops = λ inside. let i_is : at + 1 + prefix_len p rest ≡ at + (behind front rest + 1) = omega arith in
          ap p (sym (byte_behind text at (prefix_len p rest) (at + (behind front rest + 1)) i_is)) ∙ prefix_len_stops p rest 0 (omega arith);
    }

-- and it has one length
pub len_from_IsPiece : (text : List ℕ) (at : ℕ) (front : Front) (len : ℕ) → IsPiece text at front len → behind front (drop (at + 1) text) + 1 ≡ len
len_from_IsPiece text at front len piece =
    let p = goes_with front in
    let rest = drop (at + 1) text in
    let k_is : behind front rest ≡ prefix_len p rest = behind_passes front rest in
    let long : length rest ≡ length text - (at + 1) = length-drop (at + 1) text in
    let end : at + 1 + (len - 1) ≡ at + len = omega (arith, piece.some) in
    let is : prefix_len p rest ≡ len - 1 = prefix_len_is p rest (len - 1) 0 (omega (arith, piece.within))
    (λ k below. ap p (byte_behind text at k (at + 1 + k) refl) ∙ piece.goes (at + 1 + k) (omega arith) (omega arith))
    (λ below. ap p (byte_behind text at (len - 1) (at + len) end) ∙ piece.stops (omega arith)) in
    omega (arith, piece.some)

-- the tokens from a place on, by what begins there and those behind it
pub tokens_from_piece : (text : List ℕ) (at line : ℕ) (front : Front) (len : ℕ) → at < length text → IsPiece text at front len
    → tokens_from 0 at line (drop at text) ≡ with_front front at len line (tokens_from 0 (at + len) (line_behind (get_or text at 0) line) (drop (at + len) text))
tokens_from_piece text at line front len lt piece =
    let b = get_or text at 0 in
    let k = behind (front_of b) (drop (at + 1) text) in
    let len_is : k + 1 ≡ len = ap (λ f. behind f (drop (at + 1) text) + 1) piece.begins ∙ len_from_IsPiece text at front len piece in
    rw (← piece.begins, ← len_is) (at_place at line text b k lt refl refl)

-- what holds at the end, and before each piece where it holds behind it, holds from each place on
pub by_pieces : (text : List ℕ) (P : ℕ → ℕ → Type 0) → ((at line : ℕ) → length text ≤ at → P at line)
    → ((at line : ℕ) (front : Front) (len : ℕ) → at < length text → IsPiece text at front len → P (at + len) (line_behind (get_or text at 0) line) → P at line)
    → (at line : ℕ) → P at line
by_pieces text P ends step at line = go (length text) at line (omega arith)
  where
    go : (n at line : ℕ) → length text ≤ at + n → P at line
    go zero at line le = ends at line (omega arith)
    go (suc n) at line le = elim (cases_lt at (length text)) [
      | inl lt ↦ let piece = IsPiece-here text at (front_of (get_or text at 0)) lt refl in
          step at line (front_of (get_or text at 0)) _ lt piece (go n _ _ (omega (arith, piece.some)))
      | inr ge ↦ ends at line ge
    ]
