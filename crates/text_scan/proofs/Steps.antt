-- One step of the scanner.
use Rattle.std.proofs.Common.{◌≡◌, ℕ, zero, suc, ◌+◌, ◌<◌, ◌≤◌, List, [], ◌∷◌, length, get_or, drop, Ok, refl, ap, ◌∙◌, append-nil, arith}
use Rattle.std.proofs.lemmas.List.{drop_more, drop-drop, drop_all}
use Rattle.text_scan.specs.declared.token.Token.{Token}
use Rattle.text_scan.specs.Tokens.{front_of, behind, with_front, line_behind, tokens_from, with_found}

pub passed_over : (k at line : ℕ) (bytes : List ℕ) → tokens_from k at line bytes ≡ tokens_from 0 (at + k) line (drop k bytes)
unfolding tokens_from
passed_over zero at line bytes = let e : at + 0 ≡ at = omega arith in rw e refl
passed_over (suc k) at line [] = refl
passed_over (suc k) at line (b ∷ bytes) = let e : at + 1 + k ≡ at + suc k = omega arith in passed_over k (at + 1) line bytes ∙ rw e refl

-- what is left behind what begins at a place
pub at_place : (at line : ℕ) (bytes : List ℕ) (b k : ℕ) → at < length bytes → b ≡ get_or bytes at 0 → k ≡ behind (front_of b) (drop (at + 1) bytes)
    → tokens_from 0 at line (drop at bytes) ≡ with_front (front_of b) at (k + 1) line (tokens_from 0 (at + (k + 1)) (line_behind b line) (drop (at + (k + 1)) bytes))
unfolding tokens_from
at_place at line bytes b k lt b_is k_is =
    let here : drop at bytes ≡ b ∷ drop (at + 1) bytes = rw b_is (drop_more bytes at 0 lt) in
    let place : at + 1 + k ≡ at + (k + 1) = omega arith in
    ap (tokens_from 0 at line) here
    ∙ rw (← k_is, passed_over k (at + 1) (line_behind b line) (drop (at + 1) bytes), drop-drop k (at + 1) bytes, place) refl

pub all_found : (found : List Token) (at line : ℕ) (bytes : List ℕ) → length bytes ≤ at → with_found found (tokens_from 0 at line (drop at bytes)) ≡ Ok found
unfolding tokens_from
all_found found at line bytes le = rw (drop_all at bytes le) (ap (λ (ts : List Token). Ok ts) (append-nil found))

-- the same, where the length is counted from the place
pub at_piece : (at line : ℕ) (bytes : List ℕ) (b len : ℕ) → at < length bytes → b ≡ get_or bytes at 0 → len ≡ behind (front_of b) (drop 1 (drop at bytes)) + 1
    → tokens_from 0 at line (drop at bytes) ≡ with_front (front_of b) at len line (tokens_from 0 (at + len) (line_behind b line) (drop (at + len) bytes))
at_piece at line bytes b len lt b_is len_is =
    let k = behind (front_of b) (drop 1 (drop at bytes)) in
    rw len_is (at_place at line bytes b k lt b_is (ap (behind (front_of b)) (drop-drop 1 at bytes)))
