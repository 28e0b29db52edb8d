-- The lines of a text that are left to be read.
use Rattle.std.specs.Prelude.{◌≡◌, ℕ, List}
use Rattle.text_scan.specs.declared.token.Token.{Token}
use Rattle.text_scan.specs.Lines.{Line, end_line_of}
use Rattle.text_scan.specs.Scanned.{AreTokens}

-- the number of the line at the end, and the lines
pub record Left : Type 0 where
  pub end : ℕ
  pub lines : List Line

-- the tokens of a text whose end stands on a line
pub record AreLeft (end first_line : ℕ) (bytes : List ℕ) (tokens : List Token) : Type 0 where
  pub scanned : AreTokens first_line bytes tokens
  pub last : end ≡ end_line_of first_line bytes
