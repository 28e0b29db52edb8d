-- Tokens, as the words and lines that definitions speak of.
use Rattle.std.specs.Prelude.{ℕ, ◌+◌, ◌≤◌, List, length, map, All, IsTrue}
use Rattle.text_scan.specs.declared.token.Token.{Token}
use Rattle.text_scan.specs.Words.{word, is_word}

-- the words of tokens
abbrev pub words_of : List ℕ → List Token → List (List ℕ)
words_of bytes tokens = map (word bytes) tokens

-- each token is a slice of the bytes, and the whole text of a token
pub record HaveWords (bytes : List ℕ) (tokens : List Token) : Type 0 where
  pub within : All (λ t. t.start + t.len ≤ length bytes) tokens
  pub words : All (λ t. IsTrue (is_word (word bytes t))) tokens
