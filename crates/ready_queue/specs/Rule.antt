-- The rule of the queue: what holds of the numbers in it and of all views between any two of its steps.
use Rattle.std.specs.Prelude.{◌≡◌, ℕ, ◌+◌, ◌*◌, ◌<◌, ◌≤◌, ◌⊎◌, List, [], ◌∷◌, length, All, Contains}
use Rattle.ready_queue.specs.declared.pass_view.PassView.{PassView}
use Rattle.ready_queue.specs.PassViews.{times, total, pushed_in, popped_in, unset_pass_view, IsStepNumber}

-- what a view has by itself: it knows the sizes, steps alone were pushed, none of them twice, and where the pass stands for no
-- caller it did nothing
pub record IsPassView (steps callers : ℕ) (v : PassView) : Type 0 where
  pub steps_are : v.steps ≡ steps
  pub callers_are : v.callers ≡ callers
  pub real : (t : ℕ) → 0 < times t v.pushed → IsStepNumber steps t
  pub once : (t : ℕ) → times t v.pushed ≤ 1
  pub spent : v.parts ≡ 0 → (v.pushed ≡ []) × (v.popped ≡ [])

-- each caller is stood for once; each number was pushed as often as it was popped and stands in the queue, which holds as many
-- numbers as were pushed and not popped
pub record ArePassViews (steps callers : ℕ) (items : List ℕ) (views : List PassView) : Type 0 where
  pub some_caller : 0 < callers
  pub each : All (IsPassView steps callers) views
  pub parts : total (λ v. v.parts) views ≡ callers
  pub balance : (t : ℕ) → popped_in views t + times t items ≡ pushed_in views t
  pub count : total (λ v. length v.popped) views + length items ≡ total (λ v. length v.pushed) views

-- the queue is as it was made, and its first pass doesn't know the sizes, or it has sizes
abbrev pub IsRuled : List ℕ → List PassView → Type 0
IsRuled items views = ((items ≡ []) × (views ≡ unset_pass_view ∷ [])) ⊎ ((steps : ℕ) × (callers : ℕ) × ArePassViews steps callers items views)

-- at one moment the queue held these numbers, and this was the view of one of all passes
abbrev pub AreOfOneMoment : List ℕ → PassView → Type 0
AreOfOneMoment items v = (views : List PassView) × IsRuled items views × Contains views v

-- a pass that may push a step finds room for it
abbrev pub HasRoom : PassView → List ℕ → Type 0
HasRoom v items = (t : ℕ) → 0 < v.parts → 0 < v.callers → IsStepNumber v.steps t → times t v.pushed ≡ 0 → length items < v.steps * v.callers
