-- What the tokens of a text are, place by place: comments, the texts of tokens and blanks together are all of it, and no
-- token could be longer. And what the first bad byte of a text is.
use Rattle.std.specs.Prelude.{◌≡◌, ◌≢◌, ℕ, ◌+◌, ◌<◌, ◌≤◌, ◌⊎◌, List, length, get_or, take, Ok, Bool, false, IsTrue, All, Contains}
use Rattle.std.specs.Char.{is_ascii_digit}
use Rattle.text_scan.specs.declared.token.Token.{Token}
use Rattle.text_scan.specs.declared.token.TokenKind.{TokenKind}
use Rattle.text_scan.specs.declared.token.TokenKind.TheVariants.{Name, Number, Sign}
use Rattle.text_scan.specs.declared.token.Front.TheVariants as fronts
use Rattle.text_scan.specs.Lines.{end_line_of}
use Rattle.text_scan.specs.Tokens.{is_name_byte, is_blank, front_of, tokens_of}

-- a place in a comment: a # stands there or before, and no line feed from it on
pub record IsInComment (bytes : List ℕ) (p : ℕ) : Type 0 where
  pub from : ℕ
  pub before : from ≤ p
  pub hash : get_or bytes from 0 ≡ 35
  pub same_line : (q : ℕ) → from ≤ q → q ≤ p → get_or bytes q 0 ≢ 10

-- a place of a token
pub record IsInToken (t : Token) (p : ℕ) : Type 0 where
  pub from_start : t.start ≤ p
  pub before_end : p < t.start + t.len

-- a place of one of the tokens
pub record IsInSome (tokens : List Token) (p : ℕ) : Type 0 where
  pub token : Token
  pub one : Contains tokens token
  pub inside : IsInToken token p

-- bytes that go on with a token of a kind
abbrev pub goes_on : TokenKind → ℕ → Bool
goes_on Name b = is_name_byte b
goes_on Number b = is_ascii_digit b
goes_on Sign b = false

-- a token that is as long as it goes
pub record IsWhole (bytes : List ℕ) (t : Token) : Type 0 where
  pub stops : t.start + t.len < length bytes → goes_on t.kind (get_or bytes (t.start + t.len) 0) ≡ false
  pub sign : t.kind ≡ Sign → t.len ≡ 1

-- the tokens are all that a text has: they stand outside comments, each byte is in one of them, a blank or in a comment,
-- and each is whole
pub record AreAllTokens (bytes : List ℕ) (tokens : List Token) : Type 0 where
  pub outside : All (λ t. (p : ℕ) → IsInToken t p → IsInComment bytes p → ⊥) tokens
  pub covered : (p : ℕ) → p < length bytes → IsInSome tokens p ⊎ IsTrue (is_blank (get_or bytes p 0)) ⊎ IsInComment bytes p
  pub whole : All (λ t. IsWhole bytes t) tokens

-- tokens of a text that end before a place or there, and the byte there goes on with none of them
pub record AreBefore (first_line : ℕ) (bytes : List ℕ) (at : ℕ) (tokens : List Token) : Type 0 where
  pub are : tokens_of first_line (take at bytes) ≡ Ok tokens
  pub ended : All (λ t. t.start + t.len ≡ at → goes_on t.kind (get_or bytes at 0) ≡ false) tokens

-- the first bad byte: the bytes before it have tokens, and it is in no comment, begins no token, is no blank, and goes on
-- with no token before it
pub record IsFirstBad (first_line : ℕ) (bytes : List ℕ) (at line : ℕ) : Type 0 where
  pub inside : at < length bytes
  pub before : (tokens : List Token) × AreBefore first_line bytes at tokens
  pub outside : IsInComment bytes at → ⊥
  pub bad : front_of (get_or bytes at 0) ≡ fronts.Bad
  pub on_line : line ≡ end_line_of first_line (take at bytes)
