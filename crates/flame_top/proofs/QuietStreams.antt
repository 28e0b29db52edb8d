-- What a call's promise comes to where its source and its sink tell their bytes and neither fails. Cited by a law.
use Rattle.std.proofs.Common.{◌≡◌, ◌≢◌, ◌++◌, ℕ, List, Option, Some, None, ap}
use Rattle.std.specs.Io.KnownBytes.{Appends}
use Rattle.outside_io.specs.Causes.{Rose, Tells}
use Rattle.flame_top.specs.Answers.{Answers, DueRelation, StreamState}

-- known bytes that grew are the old ones with the text behind them
known_behind : (before after : Option (List ℕ)) (held text : List ℕ) → before ≡ Some held → Appends before after text → after ≡ Some (held ++ text)
known_behind before None held text is grown = absurd (rw is at grown)
known_behind before (Some now) held text is grown = ap (λ (x : List ℕ). Some x) (rw is at grown)

-- a source that tells its bytes has told the input
told_input : (left : Option (List ℕ)) (input read : List ℕ) → left ≡ Some input → Tells left read → input ≡ read
told_input left input read is told = rw is at told

pub quiet_streams : (due : DueRelation) (source source_after sink sink_after : StreamState) (status : ℕ) (input held : List ℕ)
    → Answers due source source_after sink sink_after status
    → source.bytes ≡ Some input → sink.bytes ≡ Some held
    → ¬ (Rose source.faults source_after.faults) → ¬ (Rose sink.faults sink_after.faults)
    → (status ≢ 1) × (status ≢ 6)
    × (status ≢ 5 → (text : List ℕ) × due input status text × (sink_after.bytes ≡ Some (held ++ text)))
quiet_streams due source source_after sink sink_after status input held answers told holds no_read no_write = (read, write, whole)
  where
    read : status ≢ 1
    read is = no_read (answers.read_fault is)

    write : status ≢ 6
    write is = no_write (answers.write_fault is)

    whole : status ≢ 5 → (text : List ℕ) × due input status text × (sink_after.bytes ≡ Some (held ++ text))
    whole not =
        let w = answers.whole (read, not, write) in
        let same : input ≡ w.1.0 = told_input source.bytes input w.1.0 told w.1.1 in
        (w.0, rw (← same) at w.1.2, known_behind sink.bytes sink_after.bytes held w.0 holds w.2)
