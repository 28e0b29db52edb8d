-- What holds of the tokens of a text, and of those behind some of them.
use Rattle.std.specs.Prelude.{◌≡◌, ℕ, ◌+◌, ◌≤◌, List, length, All, AllPairs, IsTrue}
use Rattle.text_scan.specs.declared.token.Token.{Token}
use Rattle.text_scan.specs.Lines.{end_line_of}
use Rattle.text_scan.specs.Words.{word, is_word, kind_of}

-- tokens of the bytes, the first of which is on a line: slices in order, without a byte in common, each the whole text
-- of a token of its kind
pub record AreTokens (first_line : ℕ) (bytes : List ℕ) (tokens : List Token) : Type 0 where
  pub within : All (λ t. t.start + t.len ≤ length bytes) tokens
  pub words : All (λ t. IsTrue (is_word (word bytes t))) tokens
  pub kinds : All (λ t. kind_of (word bytes t) ≡ t.kind) tokens
  pub in_order : AllPairs (λ s t. s.start + s.len ≤ t.start) tokens
  pub lines : AllPairs (λ s t. s.line ≤ t.line) tokens
  pub first : All (λ t. first_line ≤ t.line) tokens
  pub last : All (λ t. t.line ≤ end_line_of first_line bytes) tokens
