-- What a shared run and the key of its board have in common.
use Rattle.std.proofs.Common.{◌≡◌, ◌<◌, ℕ, List, Some, length, slice_get, subst, sym, ap, ◌∙◌, arith}
use Rattle.dependence_queue.specs.declared.edge.Edge.{Edge}
use Rattle.dependence_queue.specs.Edges.{edges_of, successors}
use Rattle.step_replays.specs.declared.step.Step.{Step}
use Rattle.schedule_core.specs.StepAccesses.{accesses_of}
use Rattle.issue_list.specs.CanonicalSteps.{most_steps}
use Rattle.block_store.specs.Keys.{accesses, edge, step_count}
use Rattle.block_store.specs.Seats.{key_of}
use Rattle.ready_queue.specs.Queues.{steps_of}
use Rattle.dispatcher.specs.declared.shared_run.SharedRun.{SharedRun}
use Rattle.dispatcher.specs.SharedRuns.{IsSharedRun}
use Rattle.dispatcher.proofs.Successors.{key-apart, key-listed, key-place, key-successor}

module _ (c : SharedRun) (shared : IsSharedRun c) where
  -- the steps
  pub shared-count : step_count (key_of c.board.now) ≡ length c.run.steps.now
  shared-count = ap (λ (steps : List Step). length steps) shared.key.steps_are

  pub shared-queue : steps_of c.ready.now ≡ step_count (key_of c.board.now)
  shared-queue = shared.queue ∙ sym shared-count

  -- the edges
  key-edges : c.edges.now ≡ edges_of (accesses (key_of c.board.now))
  key-edges = shared.edges ∙ ap (λ (steps : List Step). edges_of (accesses_of steps)) (sym shared.key.steps_are)

  pub shared-successor : (t j a : ℕ) → slice_get (successors c.edges.now t) j ≡ Some a → 0 < edge (key_of c.board.now) t a
  shared-successor t j a at = key-successor (key_of c.board.now) t j a (subst (λ (es : List Edge). slice_get (successors es t) j ≡ Some a) key-edges at)

  pub shared-apart : (t j l a : ℕ) → slice_get (successors c.edges.now t) j ≡ Some a → slice_get (successors c.edges.now t) l ≡ Some a → j ≡ l
  shared-apart t j l a here there = key-apart (key_of c.board.now) t j l a (subst (λ (es : List Edge). slice_get (successors es t) j ≡ Some a) key-edges here)
      (subst (λ (es : List Edge). slice_get (successors es t) l ≡ Some a) key-edges there)

  pub shared-listed : (t a : ℕ) → 0 < edge (key_of c.board.now) t a → (j : ℕ) × (slice_get (successors c.edges.now t) j ≡ Some a)
  shared-listed t a is =
      let j = key-listed (key_of c.board.now) t a is in (j.0, ap (λ (es : List Edge). slice_get (successors es t) j.0) key-edges ∙ j.1)

  -- there are no more of them than steps
  pub shared-place : (t j a : ℕ) → slice_get (successors c.edges.now t) j ≡ Some a → j < most_steps
  shared-place t j a at =
      let low = key-place (key_of c.board.now) t j a (subst (λ (es : List Edge). slice_get (successors es t) j ≡ Some a) key-edges at) in omega (arith, low, shared-count, shared.few)
