-- What a call promises that reads a source to its end and writes its whole output to a sink.
use Rattle.std.specs.Prelude.{◌≡◌, ◌≢◌, ℕ, List, Option}
use Rattle.std.specs.Io.KnownBytes.{Appends, Consumes}
use Rattle.outside_io.specs.Causes.{Rose, Tells}
use Rattle.outside_io.specs.Whole.{AppendsFront}

-- what a source or a sink tells of itself: its bytes, where it tells them, and its count of faults
pub record StreamState : Type 0 where
  pub bytes : Option (List ℕ)
  pub faults : ℕ

-- the state of a stream, by the words of its trait
abbrev pub state_of : {T : Type 0} → (T → Option (List ℕ)) → (T → ℕ) → T → StreamState
state_of bytes faults stream = record { bytes = bytes stream; faults = faults stream }

-- none of the statuses that come without a whole text: 1 tells a fault of the source, 5 want of memory, 6 a fault of the sink
abbrev pub IsDueStatus : ℕ → Type 0
IsDueStatus status = (status ≢ 1) × (status ≢ 5) × (status ≢ 6)

-- which status and text are due for an input
abbrev pub DueRelation : Type 1
DueRelation = List ℕ → ℕ → List ℕ → Type 0

-- due for the input that the source tells, or for some input where it tells none
abbrev pub DueFrom : DueRelation → Option (List ℕ) → ℕ → List ℕ → Type 0
DueFrom due left status text = (input : List ℕ) × Tells left input × due input status text

-- the status that a call answers, from the states of the source and the sink before and after it
pub record Answers (due : DueRelation) (source source_after sink sink_after : StreamState) (status : ℕ) : Type 0 where
  -- a due status comes with its whole text
  pub whole : IsDueStatus status → (text : List ℕ) × DueFrom due source.bytes status text × Appends sink.bytes sink_after.bytes text
  -- 6 comes with a front of a text that is due
  pub front : status ≡ 6 → (due_status : ℕ) × (text : List ℕ) × DueFrom due source.bytes due_status text × AppendsFront sink.bytes sink_after.bytes text
  -- 1 comes only where the source failed, and 6 only where the sink failed
  pub read_fault : status ≡ 1 → Rose source.faults source_after.faults
  pub write_fault : status ≡ 6 → Rose sink.faults sink_after.faults
  -- and where another status comes, they did not fail
  pub source_quiet : status ≢ 1 → source_after.faults ≡ source.faults
  pub sink_quiet : status ≢ 6 → sink_after.faults ≡ sink.faults
  -- a front of what the source had left was taken, and nothing else
  pub taken : (front : List ℕ) × Consumes source.bytes source_after.bytes front

-- the status came with its whole text, or 6 with a front of it
pub record Delivers (status : ℕ) (text : List ℕ) (sink sink_after : StreamState) (result : ℕ) : Type 0 where
  pub whole : result ≢ 6 → (result ≡ status) × Appends sink.bytes sink_after.bytes text × (sink_after.faults ≡ sink.faults)
  pub front : result ≡ 6 → Rose sink.faults sink_after.faults × AppendsFront sink.bytes sink_after.bytes text
