-- The steps into which no edge goes are pushed, each once. Cited where the first steps are pushed, and where a worker has pushed them.
use Rattle.std.proofs.Common.{◌≡◌, ◌≢◌, ℕ, ◌+◌, ◌<◌, ◌≤◌, inl, inr, List, [], ◌∷◌, refl, sym, ap, ◌∙◌, arith}
use Rattle.std.proofs.lemmas.Bool.{cases_eq, ne_eqb}
use Rattle.dependence_queue.specs.Edges.{count_into, edges_of}
use Rattle.dependence_queue.specs.declared.edge.Edge.{Edge}
use Rattle.step_replays.specs.declared.step.Step.{Step}
use Rattle.schedule_core.specs.StepAccesses.{accesses_of}
use Rattle.block_store.specs.declared.key.BoardKey.{BoardKey}
use Rattle.block_store.specs.declared.seat.Board.{Board}
use Rattle.block_store.specs.Keys.{preds}
use Rattle.block_store.specs.Seats.{key_of}
use Rattle.block_store.specs.Tallies.{last_of, weigh}
use Rattle.block_store.proofs.Opening.{counted_preds}
use Rattle.ready_queue.specs.declared.queue.Pass.{Pass}
use Rattle.ready_queue.specs.declared.queue.Ready.{Ready}
use Rattle.ready_queue.specs.PassViews.{same, times}
use Rattle.ready_queue.specs.Queues as queues
use Rattle.ready_queue.proofs.Numbers.{same-eq, same-ne}
use Rattle.dispatcher.specs.declared.shared_run.SharedRun.{SharedRun}
use Rattle.dispatcher.specs.declared.worker.Worker.{Worker}
use Rattle.dispatcher.specs.SharedRuns.{IsSharedRun}
use Rattle.dispatcher.specs.Telling.{root}
use Rattle.dispatcher.specs.Workers.{IsNewWorker, IsWorker}

-- what the edges of a shared run tell of its key
pub shared-preds : (shared : SharedRun) → IsSharedRun shared → (t : ℕ) → count_into shared.edges.now t ≡ preds (key_of shared.board.now) t
shared-preds shared is t =
    ap (λ (edges : List Edge). count_into edges t) (is.edges ∙ ap (λ (steps : List Step). edges_of (accesses_of steps)) (sym is.key.steps_are)) ∙ counted_preds (key_of shared.board.now) t

root-one : (key : BoardKey) (x : ℕ) → preds key x ≡ 0 → root key x ≡ 1
root-one key x none = rw none refl

root-none : (key : BoardKey) (x : ℕ) → preds key x ≢ 0 → root key x ≡ 0
root-none key x some = rw (ne_eqb (preds key x) 0 some) refl

-- of the first n steps those without an edge into them were pushed, once each, and nothing else
pub record AreRoots (key : BoardKey) (n : ℕ) (pushed : List ℕ) : Type 0 where
  pub roots : (x : ℕ) → times x pushed ≤ root key x
  pub all : (x : ℕ) → 0 < x → x ≤ n → root key x ≤ times x pushed
  pub later : (x : ℕ) → n < x → times x pushed ≡ 0

pub roots-none : (key : BoardKey) (pushed : List ℕ) → pushed ≡ [] → AreRoots key 0 pushed
roots-none key pushed none = record {
  roots = λ x. let e : times x pushed ≡ 0 = ap (times x) none in omega (arith);
  all = λ x some low. absurd (omega (arith, some, low));
  later = λ x low. ap (times x) none;
}

pub roots-skip : (key : BoardKey) (n : ℕ) (pushed : List ℕ) → preds key (n + 1) ≢ 0 → AreRoots key n pushed → AreRoots key (n + 1) pushed
roots-skip key n pushed some are = record {
  roots = are.roots;
  all = λ x from low. elim (cases_eq x (n + 1)) [
    | inl same ↦ omega (arith, root-none key (n + 1) some, ap (root key) same)
    | inr other ↦ are.all x from (omega (arith, low))
  ];
  later = λ x low. are.later x (omega arith);
}

pub roots-more : (key : BoardKey) (n : ℕ) (pushed more : List ℕ) → preds key (n + 1) ≡ 0 → more ≡ (n + 1) ∷ pushed → AreRoots key n pushed → AreRoots key (n + 1) more
roots-more key n pushed more none is are = record {
  roots = λ x. elim (cases_eq (n + 1) x) [
    | inl this ↦ omega (arith, count x, same-eq (n + 1) x this, are.later x (omega arith), root-one key x (ap (preds key) (sym this) ∙ none))
    | inr apart ↦ omega (arith, count x, same-ne (n + 1) x apart, are.roots x)
  ];
  all = λ x from low. elim (cases_eq (n + 1) x) [
    | inl this ↦ omega (arith, count x, same-eq (n + 1) x this, root-one key x (ap (preds key) (sym this) ∙ none))
    | inr apart ↦ omega (arith, count x, are.all x from (omega (arith, low)))
  ];
  later = λ x low. omega (arith, count x, same-ne (n + 1) x (λ h. omega arith), are.later x (omega arith));
}
  where
    count : (x : ℕ) → times x more ≡ same (n + 1) x + times x pushed
    count x = ap (times x) is

-- a new worker that has pushed them is as between two steps
pub opened : (board : Board) (ready : Ready) (old : Worker) (pass : Pass) → IsNewWorker board ready old → queues.IsPassOf ready pass
    → ((x : ℕ) → times x (queues.view pass).pushed ≤ root (key_of board) x) → IsWorker board ready (record old { pass = pass })
opened board ready old pass new of roots = record {
  seat = new.worker.seat;
  empty = new.worker.empty;
  free = new.worker.free;
  pass = of;
  tied = record { all = λ x. omega (arith, ap (weigh (last_of x)) new.seat.facts); only = λ x. omega (arith, roots x) };
  buffers = new.worker.buffers;
  long = new.worker.long;
  logged = new.worker.logged;
  noted = new.worker.noted;
}
