-- What holds of the lines of a text, and of those behind some of them.
use Rattle.std.specs.Prelude.{ℕ, ◌<◌, ◌≤◌, List, All, AllPairs, IsTrue}
use Rattle.text_scan.specs.Lines.{Line}
use Rattle.text_scan.specs.NormalTexts.{is_line}

-- lines of a text whose end is on line end: each has words, and their numbers ascend up to it
pub record AreLines (end : ℕ) (lines : List Line) : Type 0 where
  pub words : All (λ line. IsTrue (is_line line.words)) lines
  pub ascending : AllPairs (λ k l. k.number < l.number) lines
  pub last : All (λ line. line.number ≤ end) lines
