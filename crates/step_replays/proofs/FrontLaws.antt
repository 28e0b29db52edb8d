-- The front of a replay: an outcome more changes nothing of what the steps before it found, so the front grows by each outcome that is one. Cited
-- by the law of fronts.
use Rattle.std.proofs.Common.{◌≡◌, ℕ, suc, ◌<◌, ◌≤◌, ◌⊎◌, inl, inr, List, [], ◌∷◌, ◌++◌, length, refl, sym, ◌∙◌, ap, subst, arith}
use Rattle.std.proofs.Math.Seq.{get_or-append_seam}
use Rattle.std.proofs.lemmas.Bool.{cases_eq}
use Rattle.std.proofs.lemmas.List.{get_or_append_left, length-append}
use Rattle.equation.specs.declared.job.Job.{Job}
use Rattle.step_replays.specs.declared.step.Step.{Step}
use Rattle.step_replays.proofs.AgreeingResults.{AgreeBelow, same-block, same-stopped, same-outcome}
use Rattle.step_replays.specs.Replays.{StepResult, Skipped, nth_result, block_after, IsStopped, IsResult, IsReplay, IsFront}

pub front-first : (job : Job) (b : ℕ) (steps : List Step) → IsFront job b steps [] 0
front-first job b steps = record { within = omega arith; count = refl; each = λ s below. absurd (omega (arith, below)) }

pub front-whole : (job : Job) (b : ℕ) (steps : List Step) (results : List StepResult) → IsFront job b steps results (length steps) → IsReplay job b steps results
front-whole job b steps results front = record { count = front.count; each = front.each }

module _ (job : Job) (b : ℕ) (steps : List Step) (results : List StepResult) (r : StepResult) where
  abbrev more : List StepResult
  more = results ++ r ∷ []

  nth-kept : (s : ℕ) → s < length results → nth_result (results ++ r ∷ []) s ≡ nth_result results s
  nth-kept s below = get_or_append_left results (r ∷ []) Skipped s below

  nth-last : nth_result (results ++ r ∷ []) (length results) ≡ r
  nth-last = get_or-append_seam results r [] Skipped

  kept : (s : ℕ) → s ≤ length results → AgreeBelow s (results ++ r ∷ []) results
  kept s le q before = nth-kept q (omega arith)

  back : (s : ℕ) → s ≤ length results → AgreeBelow s results (results ++ r ∷ [])
  back s le q before = sym (nth-kept q (omega arith))

  pub block-kept : (s x : ℕ) → s ≤ length results → block_after job b steps (results ++ r ∷ []) s x ≡ block_after job b steps results s x
  block-kept s x le = same-block job b steps (results ++ r ∷ []) results s x (kept s le)

  pub stopped-kept : (s : ℕ) → s ≤ length results → IsStopped job b steps results s → IsStopped job b steps (results ++ r ∷ []) s
  stopped-kept s le = same-stopped job b steps results (results ++ r ∷ []) s (back s le)

  pub stopped-back : (s : ℕ) → s ≤ length results → IsStopped job b steps (results ++ r ∷ []) s → IsStopped job b steps results s
  stopped-back s le = same-stopped job b steps (results ++ r ∷ []) results s (kept s le)

  -- an outcome stays one
  outcome-kept : (s : ℕ) → s ≤ length results → (v : StepResult) → IsResult job b steps results s v → IsResult job b steps (results ++ r ∷ []) s v
  outcome-kept s le v = same-outcome job b steps results (results ++ r ∷ []) s (back s le) v

  pub front-next : (n : ℕ) → IsFront job b steps results n → n < length steps → IsResult job b steps results n r → IsFront job b steps (results ++ r ∷ []) (suc n)
  front-next n front below outcome = record {
    within = below;
    count = length-append results (r ∷ []) ∙ omega (arith, front.count);
    each = λ s before. each s before (cases_eq s n);
  }
    where
      each : (s : ℕ) → s < suc n → (s ≡ n) ⊎ ¬ (s ≡ n) → IsResult job b steps (results ++ r ∷ []) s (nth_result (results ++ r ∷ []) s)
      each s before (inl last) =
          let is : nth_result (results ++ r ∷ []) s ≡ r = ap (λ (q : ℕ). nth_result (results ++ r ∷ []) q) (last ∙ sym front.count) ∙ nth-last in
          subst (IsResult job b steps (results ++ r ∷ []) s) (sym is)
          (outcome-kept s (omega (arith, front.count)) r (subst (λ (q : ℕ). IsResult job b steps results q r) (sym last) outcome))
      each s before (inr earlier) =
          subst (IsResult job b steps (results ++ r ∷ []) s) (sym (nth-kept s (omega (arith, front.count))))
          (outcome-kept s (omega (arith, front.count)) (nth_result results s) (front.each s (omega arith)))
