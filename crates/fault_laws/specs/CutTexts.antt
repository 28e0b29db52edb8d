-- Texts that are cut off at a line, and the fault of a text that ends too early.
use Rattle.std.specs.Prelude.{◌≡◌, ◌⊎◌, ℕ, List, [], ◌∷◌, ◌++◌}
use Rattle.text_scan.specs.FaultKinds.{Header, Syntax}
use Rattle.text_scan.specs.Faults.{Fault, ◌on◌}

-- there are no bytes, or the last is a line feed
abbrev pub AreWholeLines : List ℕ → Type 0
AreWholeLines bytes = (bytes ≡ []) ⊎ ((front : List ℕ) × (bytes ≡ front ++ 10 ∷ []))

-- a line was due where the text ends on a line: the header, or any other
abbrev pub EndsTooEarly : ℕ → Fault → Type 0
EndsTooEarly end fault = (fault ≡ Header on end) ⊎ (fault ≡ Syntax on end)
