-- What holds along each direct edge and passes on over steps between holds along each conflict.
use Rattle.std.proofs.Common.{◌≡◌, ℕ, zero, suc, ◌<◌, ◌≤◌, inl, inr, true, sym, subst, arith}
use Rattle.dependence_queue.specs.declared.access.Access.{Access}
use Rattle.dependence_queue.specs.Conflicts.{conflicts}
use Rattle.dependence_queue.specs.Edges.{access_at}
use Rattle.dependence_queue.specs.Chains.{IsConflict}
use Rattle.dependence_queue.proofs.EdgesBetween.{conflict-comes_in}
use Rattle.schedule_core.specs.EventBlocks.{step_access}
use Rattle.schedule_core.proofs.TurnTests.{same-accesses}
use Rattle.block_store.specs.declared.key.BoardKey.{BoardKey}
use Rattle.block_store.specs.Keys.{accesses, step_count, IsStep, edge}
use Rattle.block_store.proofs.Edges.{direct-edge}

-- a relation of steps
module _ (key : BoardKey) (R : ℕ → ℕ → Type 0) (then : (s r t : ℕ) → IsStep key r → R s r → R r t → R s t) (edges : (s t : ℕ) → 0 < edge key s t → R s t) where
  abbrev by : ℕ → Access
  by = access_at (accesses key)

  -- a conflict is an edge, or comes in by one from a step between that conflicts with the earlier one
  along_below : (k s t : ℕ) → t ≤ k → 0 < s → t ≤ step_count key → s < t → conflicts (by s) (by t) ≡ true → R s t
  along_below zero s t below low within before h = absurd (omega arith)
  along_below (suc k) s t below low within before h = elim (conflict-comes_in by s t before h) [
    | inl direct ↦ edges s t (direct-edge key s t low within direct)
    | inr r ↦
        let after : s < r.0 = r.1 in
        let upto : r.0 < t = r.2 in
        then s r.0 t (omega arith, omega arith) (along_below k s r.0 (omega arith) low (omega arith) after r.3) (edges r.0 t (direct-edge key r.0 t (omega arith) within r.4))
  ]

  pub along-conflicts : (s t : ℕ) → 0 < s → t ≤ step_count key → IsConflict (step_access key.steps.value) s t → R s t
  along-conflicts s t low within h =
      let c = subst (λ f. IsConflict f s t) (sym (same-accesses key.steps.value)) h in
      along_below t s t (omega arith) low within c.0 c.1

-- stamps go forward on each conflict
pub conflicts-forward : (key : BoardKey) (start finish : ℕ → ℕ) → ((t : ℕ) → IsStep key t → start t < finish t) → ((s t : ℕ) → 0 < edge key s t → finish s < start t)
    → (s t : ℕ) → 0 < s → t ≤ step_count key → IsConflict (step_access key.steps.value) s t → finish s < start t
conflicts-forward key start finish own forward s t low within h =
    along-conflicts key (λ a b. finish a < start b) (λ a r b step first last. omega (arith, own r step)) forward s t low within h
