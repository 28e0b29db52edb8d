-- What the view of a pass says of each number, and what becomes of it.
use Rattle.std.specs.Prelude.{ℕ, ◌+◌, ◌-◌, ◌<◌, ◌≤◌, ◌==◌, if◌then◌else◌, List, [], ◌∷◌}
use Rattle.ready_queue.specs.declared.pass_view.PassView.{PassView}

-- steps are numbered from 1
abbrev pub IsStepNumber : ℕ → ℕ → Type 0
IsStepNumber steps t = (0 < t) × (t ≤ steps)

-- ---- how often

-- 1 where the numbers are equal, else 0
unfoldable pub same : ℕ → ℕ → ℕ
same a b = if a == b then 1 else 0

-- how often t stands in a list
abbrev pub times : ℕ → List ℕ → ℕ
times t [] = 0
times t (u ∷ us) = same u t + times t us

-- the sum over all views
abbrev pub total : (PassView → ℕ) → List PassView → ℕ
total f [] = 0
total f (v ∷ views) = f v + total f views

-- how often t was pushed, and popped, over all views
abbrev pub pushed_in : List PassView → ℕ → ℕ
pushed_in views t = total (λ v. times t v.pushed) views

abbrev pub popped_in : List PassView → ℕ → ℕ
popped_in views t = total (λ v. times t v.popped) views

-- ---- what becomes of a view

-- the view of a pass of a queue for so many steps and callers, which stands for some of them and has done nothing
abbrev pub pass_view : ℕ → ℕ → ℕ → PassView
pass_view steps callers parts = record { steps = steps; callers = callers; parts = parts; pushed = []; popped = [] }

-- the view of the first pass of a queue, which doesn't know the sizes yet
abbrev pub unset_pass_view : PassView
unset_pass_view = pass_view 0 0 0

-- the view with one caller less, and that of a new pass for this caller
abbrev pub kept_pass_view : PassView → PassView
kept_pass_view v = record v { parts = v.parts - 1 }

abbrev pub new_pass_view : PassView → PassView
new_pass_view v = pass_view v.steps v.callers 1

-- one more number was pushed, or popped
abbrev pub after_push : ℕ → PassView → PassView
after_push t v = record v { pushed = t ∷ v.pushed }

abbrev pub after_pop : ℕ → PassView → PassView
after_pop t v = record v { popped = t ∷ v.popped }
