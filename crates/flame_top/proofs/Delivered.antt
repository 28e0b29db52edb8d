-- From a composed output and its delivery to what a call promises.
use Rattle.std.proofs.Common.{◌≡◌, ◌≢◌, inl, inr, ℕ, List, [], Option, Some, None, refl, sym, ◌∙◌, arith}
use Rattle.std.proofs.lemmas.Bool.{cases_eq}
use Rattle.std.specs.Io.KnownBytes.{Consumes}
use Rattle.outside_io.specs.Causes.{Tells}
use Rattle.flame_top.specs.Answers.{StreamState, DueRelation, IsDueStatus, DueFrom, Answers, Delivers}

-- nothing is a front of what a source has left
pub nothing_taken : (left : Option (List ℕ)) → (front : List ℕ) × Consumes left left front
nothing_taken None = ([], tt)
nothing_taken (Some left) = ([], refl)

-- some input agrees with what a source tells
pub some_input : (left : Option (List ℕ)) → (input : List ℕ) × Tells left input
some_input None = ([], tt)
some_input (Some left) = (left, refl)

-- a delivery answers its status or 6
pub delivered_no_other : (status : ℕ) (text : List ℕ) (sink sink_after : StreamState) (result : ℕ) → Delivers status text sink sink_after result
    → (n : ℕ) → n ≢ 6 → status ≢ n → result ≢ n
delivered_no_other status text sink sink_after result delivered n not_six not_status is = elim (cases_eq result 6) [
  | inl six ↦ not_six (sym is ∙ six)
  | inr not ↦ not_status (sym (delivered.whole not).0 ∙ is)
]

-- an output that is due is delivered
module _ (due : DueRelation) (source source_after sink sink_after : StreamState) (status : ℕ) (text : List ℕ) (result : ℕ)
    (due_status : IsDueStatus status) (is_due : DueFrom due source.bytes status text) (quiet : source_after.faults ≡ source.faults)
    (taken : (front : List ℕ) × Consumes source.bytes source_after.bytes front)
    (delivered : Delivers status text sink sink_after result) where
  pub answers_from_Delivers : Answers due source source_after sink sink_after result
  answers_from_Delivers = record {
    whole = λ is. (text, rw (delivered.whole is.2).0 is_due, (delivered.whole is.2).1);
    source_quiet = λ not. quiet;
    sink_quiet = λ not. (delivered.whole not).2;
    taken = taken;
    read_fault = λ is. absurd (delivered_no_other status text sink sink_after result delivered 1 (λ e. omega arith) due_status.0 is);
    write_fault = λ is. (delivered.front is).0;
    front = λ is. (status, text, is_due, (delivered.front is).1);
  }

-- what is due by one relation is due by another
module _ (due wider : DueRelation) (widen : (input : List ℕ) (status : ℕ) (text : List ℕ) → due input status text → wider input status text) where
  DueFrom-wider : (left : Option (List ℕ)) (status : ℕ) (text : List ℕ) → DueFrom due left status text → DueFrom wider left status text
  DueFrom-wider left status text is_due = (is_due.0, is_due.1, widen is_due.0 status text is_due.2)

  pub Answers-wider : (source source_after sink sink_after : StreamState) (status : ℕ) → Answers due source source_after sink sink_after status → Answers wider source source_after sink sink_after status
  Answers-wider source source_after sink sink_after status answers = record {
    whole = λ is. let w = answers.whole is in (w.0, DueFrom-wider source.bytes status w.0 w.1, w.2);
    source_quiet = answers.source_quiet;
    sink_quiet = answers.sink_quiet;
    taken = answers.taken;
    read_fault = answers.read_fault;
    write_fault = answers.write_fault;
    front = λ is. let f = answers.front is in (f.0, f.1, DueFrom-wider source.bytes f.0 f.1 f.2, f.3);
  }
