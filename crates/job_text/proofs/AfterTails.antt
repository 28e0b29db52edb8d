-- Bytes behind a line feed have tokens, where all bytes have. Cited by the law of the second part of an input.
use Rattle.std.proofs.Common.{◌≡◌, ℕ, zero, suc, ◌+◌, ◌-◌, ◌<◌, ◌≤◌, ◌⊎◌, inl, inr, Bool, true, false, cond, not, List, [], ◌∷◌, ◌++◌, length, take, drop, get_or, Result, Ok, Err, refl, sym, ap, ◌∙◌, arith, drop-cons, take-append-drop}
use Rattle.std.specs.List.{prefix_len}
use Rattle.std.specs.Char.{is_ascii_digit}
use Rattle.std.proofs.lemmas.List.{drop_all}
use Rattle.text_scan.specs.declared.Rest.{Rest}
use Rattle.text_scan.specs.declared.token.Front.{Front}
use Rattle.text_scan.specs.declared.token.Front.TheVariants as fronts
use Rattle.text_scan.specs.declared.token.Token.{Token}
use Rattle.text_scan.specs.declared.token.TokenKind.TheVariants.{Name, Number, Sign}
use Rattle.text_scan.specs.Tokens.{behind, front_of, is_comment_byte, is_name_byte, line_behind, tokens_from, tokens_of, with_front, BadByte}
use Rattle.text_scan.proofs.LineFeeds.{other_byte}
use Rattle.job_text.specs.AfterBlocks.{IsPlace}

-- whatever begins, the tokens behind it are all
inner_tokens : (front : Front) (at len line : ℕ) (read : Result (List Token) BadByte) (tokens : List Token) → with_front front at len line read ≡ Ok tokens → (inner : List Token) × (read ≡ Ok inner)
inner_tokens fronts.Bad at len line read tokens e = absurd cc
inner_tokens fronts.Blank at len line read tokens e = (tokens, e)
inner_tokens fronts.Comment at len line read tokens e = (tokens, e)
inner_tokens (fronts.Token kind) at len line (Ok inner) tokens e = (inner, refl)
inner_tokens (fronts.Token kind) at len line (Err fault) tokens e = absurd cc

-- at another place and on another line they are tokens, too
outer_tokens : (front : Front) (at len line : ℕ) (read : Result (List Token) BadByte) (tokens : List Token) → with_front front at len line read ≡ Ok tokens
    → (other line_there len_there : ℕ) (there : Result (List Token) BadByte) (inner : List Token) → there ≡ Ok inner → (outer : List Token) × (with_front front other len_there line_there there ≡ Ok outer)
outer_tokens fronts.Bad at len line read tokens e other line_there len_there there inner is = absurd cc
outer_tokens fronts.Blank at len line read tokens e other line_there len_there there inner is = (inner, is)
outer_tokens fronts.Comment at len line read tokens e other line_there len_there there inner is = (inner, is)
outer_tokens (fronts.Token kind) at len line read tokens e other line_there len_there there inner is = (record { kind = kind; start = other; len = len_there; line = line_there } ∷ inner, rw is refl)

-- the tokens of bytes at another place and on another line
elsewhere : (passed : ℕ) (bytes : List ℕ) (at line other line_there : ℕ) (tokens : List Token) → tokens_from passed at line bytes ≡ Ok tokens → (there : List Token) × (tokens_from passed other line_there bytes ≡ Ok there)
unfolding tokens_from
elsewhere passed [] at line other line_there tokens e = ([], refl)
elsewhere (suc passed) (b ∷ bytes) at line other line_there tokens e = elsewhere passed bytes (at + 1) line (other + 1) line_there tokens e
elsewhere zero (b ∷ bytes) at line other line_there tokens e =
    let len = behind (front_of b) bytes + 1 in
    let read = tokens_from (behind (front_of b) bytes) (at + 1) (line_behind b line) bytes in
    let inner = inner_tokens (front_of b) at len line read tokens e in
    let there = elsewhere (behind (front_of b) bytes) bytes (at + 1) (line_behind b line) (other + 1) (line_behind b line_there) inner.0 inner.1 in
    outer_tokens (front_of b) at len line read tokens e other line_there len (tokens_from (behind (front_of b) bytes) (other + 1) (line_behind b line_there) bytes) there.0 there.1

-- more bytes pass a wider test
wider : (p q : ℕ → Bool) → ((b : ℕ) → p b ≡ true → q b ≡ true) → (bytes : List ℕ) → prefix_len p bytes ≤ prefix_len q bytes
wider p q more [] = omega arith
wider p q more (b ∷ bytes) = by_tests (p b) (q b) (more b) (wider p q more bytes)
  where
    by_tests : (t u : Bool) → (t ≡ true → u ≡ true) → prefix_len p bytes ≤ prefix_len q bytes → cond t (1 + prefix_len p bytes) 0 ≤ cond u (1 + prefix_len q bytes) 0
    by_tests true true both le = omega (arith, le)
    by_tests true false both le = absurd (let no = both refl in cc)
    by_tests false u both le = omega arith

other_is_comment : (p : ℕ → Bool) → p 10 ≡ false → (b : ℕ) → p b ≡ true → is_comment_byte b ≡ true
other_is_comment p fails b passes = ap not (other_byte p fails b passes)

-- nothing goes on over a line feed
on_its_line : (front : Front) (bytes : List ℕ) → behind front bytes ≤ prefix_len is_comment_byte bytes
on_its_line fronts.Comment bytes = omega arith
on_its_line (fronts.Token Name) bytes = wider is_name_byte is_comment_byte (other_is_comment is_name_byte refl) bytes
on_its_line (fronts.Token Number) bytes = wider is_ascii_digit is_comment_byte (other_is_comment is_ascii_digit refl) bytes
on_its_line (fronts.Token Sign) bytes = omega arith
on_its_line fronts.Blank bytes = omega arith
on_its_line fronts.Bad bytes = omega arith

one_passed : (passed b : ℕ) (bytes : List ℕ) → suc passed ≤ prefix_len is_comment_byte (b ∷ bytes) → passed ≤ prefix_len is_comment_byte bytes
one_passed passed b bytes le = by_test (is_comment_byte b) le
  where
    by_test : (t : Bool) → suc passed ≤ cond t (1 + prefix_len is_comment_byte bytes) 0 → passed ≤ prefix_len is_comment_byte bytes
    by_test true le = omega (arith, le)
    by_test false le = absurd (omega (arith, le))

behind_feed : (front tail : List ℕ) (passed at line : ℕ) (tokens : List Token) → passed ≤ prefix_len is_comment_byte (front ++ 10 ∷ tail) → tokens_from passed at line (front ++ 10 ∷ tail) ≡ Ok tokens
    → (other line_there : ℕ) → (there : List Token) × (tokens_from 0 other line_there tail ≡ Ok there)
unfolding tokens_from front_of
behind_feed [] tail zero at line tokens le e other line_there = elsewhere 0 tail (at + 1) (line + 1) other line_there tokens e
behind_feed [] tail (suc passed) at line tokens le e other line_there = absurd (omega (arith, le))
behind_feed (b ∷ front) tail (suc passed) at line tokens le e other line_there = behind_feed front tail passed (at + 1) line tokens (one_passed passed b (front ++ 10 ∷ tail) le) e other line_there
behind_feed (b ∷ front) tail zero at line tokens le e other line_there =
    let bytes = front ++ 10 ∷ tail in
    let len = behind (front_of b) bytes in
    let inner = inner_tokens (front_of b) at (len + 1) line (tokens_from len (at + 1) (line_behind b line) bytes) tokens e in
    behind_feed front tail len (at + 1) (line_behind b line) inner.0 (on_its_line (front_of b) bytes) inner.1 other line_there

-- bytes with a feed at a place
at_feed : (bytes : List ℕ) (k : ℕ) → k < length bytes → get_or bytes k 0 ≡ 10 → bytes ≡ take k bytes ++ 10 ∷ drop (suc k) bytes
at_feed bytes k inside feed =
    let front : List ℕ = take k bytes in
    sym (take-append-drop k bytes) ∙ ap (λ (xs : List ℕ). front ++ xs) (drop-cons bytes k 0 inside ∙ ap (λ (b : ℕ). b ∷ drop (suc k) bytes) feed)

-- from the beginning of a line on, or their end, bytes have tokens
from_place : (bytes : List ℕ) (tokens : List Token) (at line : ℕ) → tokens_of 1 bytes ≡ Ok tokens → at ≤ length bytes → (at ≡ length bytes) ⊎ (at ≡ 0) ⊎ (get_or bytes (at - 1) 0 ≡ 10)
    → (there : List Token) × (tokens_of line (drop at bytes) ≡ Ok there)
unfolding tokens_from
from_place bytes tokens at line scanned within (inl end) = ([], let none : drop at bytes ≡ [] = drop_all at bytes (omega arith) in rw none refl)
from_place bytes tokens zero line scanned within (inr begins) = elsewhere 0 bytes 0 1 0 line tokens scanned
from_place bytes tokens (suc k) line scanned within (inr (inl none)) = absurd (omega (arith, none))
from_place bytes tokens (suc k) line scanned within (inr (inr feed)) =
    let less : suc k - 1 ≡ k = omega arith in
    let here : get_or bytes k 0 ≡ 10 = ap (λ n. get_or bytes n 0) (sym less) ∙ feed in
    let parts = at_feed bytes k (omega arith) here in
    behind_feed (take k bytes) (drop (suc k) bytes) 0 0 1 tokens (omega arith) (ap (tokens_of 1) (sym parts) ∙ scanned) 0 line

pub tail_has_tokens : (bytes : List ℕ) (rest : Rest) (tokens : List Token) → tokens_of 1 bytes ≡ Ok tokens → IsPlace bytes rest → (there : List Token) × (tokens_of rest.line (drop rest.at bytes) ≡ Ok there)
tail_has_tokens bytes rest tokens scanned place = from_place bytes tokens rest.at rest.line scanned place.within place.begins
