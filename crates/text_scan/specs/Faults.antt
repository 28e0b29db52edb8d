-- Faults of a text: what is wrong, and on which line. Want of memory is none: a text alone never has it. Also the faults
-- of one line: tests in their order, each with the fault that it tells. The first that holds decides.
use Rattle.std.specs.Prelude.{ℕ, List, [], ◌∷◌, Result, Ok, Err, Bool, if◌then◌else◌}
use Rattle.text_scan.specs.FaultKinds.{FaultKind}

-- a kind of fault, and the number of its line
pub record Fault : Type 0 where
  pub kind : FaultKind
  pub line : ℕ

infix 20 ◌on◌
abbrev pub ◌on◌ : FaultKind → ℕ → Fault
kind on line = record { kind = kind; line = line }

-- a test of a line, and the fault that the line has where it holds
pub record Test (F : Type 0) : Type 0 where
  pub holds : Bool
  pub fault : F

-- x where no test holds, and else the fault of the first that does
abbrev pub first_fault : {F A : Type 0} → List (Test F) → A → Result A F
first_fault [] x = Ok x
first_fault (test ∷ tests) x = if test.holds then Err test.fault else first_fault tests x
