-- Which worksheets can be printed, and which texts spell one.
use Rattle.std.specs.Prelude.{◌≡◌, ℕ, ◌<◌, ◌≤◌, List, length, drop, map, None, Ok, All}
use Rattle.text_scan.specs.declared.Rest.{Rest}
use Rattle.text_scan.specs.declared.token.Token.{Token}
use Rattle.text_scan.specs.Lines.{lines_of}
use Rattle.text_scan.specs.Tokens.{tokens_of}
use Rattle.operation_spec.specs.declared.operation.Operation.{Operation}
use Rattle.operation_spec.specs.declared.split.Dir.TheVariants.{Forward}
use Rattle.operation_spec.specs.declared.task.Kind.{Kind}
use Rattle.operation_spec.specs.declared.task.Kind.TheVariants as kinds
use Rattle.operation_spec.specs.declared.task.Task.{Task}
use Rattle.operation_spec.specs.Splits.{IsSplit}
use Rattle.operation_spec.specs.ValidOperations.{HasNames, IsValid}
use Rattle.worksheet.specs.declared.sheet.End.{End}
use Rattle.worksheet.specs.declared.sheet.State.{State}
use Rattle.worksheet.specs.declared.sheet.Worksheet.{Worksheet}
use Rattle.worksheet_laws.specs.SheetLines.{sheet_lines}

-- ---- what can stand on the lines of a worksheet

-- a kind of task of a block: terms are the first and the second, and other kinds have no number
abbrev pub HasNumber : Kind → ℕ → Type 0
HasNumber kinds.Pivots t = ⊥
HasNumber kinds.Term t = (0 < t) × (t ≤ 2)
HasNumber _ t = t ≡ 0

-- the inner part is one of three; a solve has none
abbrev pub HasInner : Kind → ℕ → Type 0
HasInner kinds.Solve k = k ≡ 0
HasInner _ k = k < 3

-- a task of a block, in three parts
pub record IsPartTask (a : Task) : Type 0 where
  pub number : HasNumber a.kind a.term
  pub row : a.i < 3
  pub col : a.j < 3
  pub inner : HasInner a.kind a.k

-- a block of three by three parts, with such tasks
pub record IsPartState (s : State) : Type 0 where
  pub row : s.row < 3
  pub col : s.col < 3
  pub done : All IsPartTask s.done

-- one or two
abbrev pub AreOneOrTwo : {X : Type 0} → List X → Type 0
AreOneOrTwo xs = (0 < length xs) × (length xs ≤ 2)

-- ends of one dimension or two of the operation
pub record AreEnds (op : Operation) (ends : List End) : Type 0 where
  pub few : AreOneOrTwo ends
  pub dims : All (λ e. e.dim < length op.dims) ends

-- a worksheet of the operation whose lines can be printed
pub record IsPrintable (op : Operation) (w : Worksheet) : Type 0 where
  pub operation : w.operation ≡ op.name
  pub split : IsSplit op w.split
  pub single : w.split.second ≡ None → w.dirs.second ≡ Forward
  pub invariant : All IsPartTask w.invariant
  pub few : AreOneOrTwo w.guard
  pub guard : All (λ d. d < length op.dims) w.guard
  pub start : AreEnds op w.start
  pub take : AreEnds op w.take
  pub before : All IsPartState w.before
  pub updates : All IsPartTask w.updates
  pub give : AreEnds op w.give
  pub after : All IsPartState w.after

-- ---- texts

-- the bytes from rest on have no bad byte, and their lines are those of a worksheet of the operation
pub record SpellsSheet (bytes : List ℕ) (rest : Rest) (op : Operation) (w : Worksheet) : Type 0 where
  pub tokens : List Token
  pub scanned : tokens_of rest.line (drop rest.at bytes) ≡ Ok tokens
  pub text : map (λ line. line.words) (lines_of (drop rest.at bytes) tokens) ≡ sheet_lines op w
  pub valid : IsValid op
  pub names : HasNames op
  pub printable : IsPrintable op w
