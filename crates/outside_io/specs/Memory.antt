-- A source and a sink in memory, which fail at planned calls.
use Rattle.std.specs.Prelude.{ℕ, List, Contains}
use Rattle.outside_io.specs.Causes.{one_more}

-- what a source in memory has left and gives at once, which calls fail, and the calls and faults so far
pub record Supply : Type 0 where
  pub left : List ℕ
  pub piece : ℕ
  pub failing : List ℕ
  pub calls : ℕ
  pub faults : ℕ

-- what a sink in memory holds, has room for and takes at once, which calls fail, and the calls and faults so far
pub record Store : Type 0 where
  pub held : List ℕ
  pub room : ℕ
  pub piece : ℕ
  pub failing : List ℕ
  pub calls : ℕ
  pub faults : ℕ

-- after so many calls the next one is planned to fail
abbrev pub FailsNext : List ℕ → ℕ → Type 0
FailsNext failing calls = Contains failing (one_more calls)
