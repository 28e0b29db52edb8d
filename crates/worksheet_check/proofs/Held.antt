-- Which tasks a list holds. Cited by the proofs of the order and of the updates.
use Rattle.std.proofs.Common.{◌≡◌, ◌⊎◌, List, ◌∷◌, ◌++◌, true, sym, ◌∙◌, subst, inl, inr}
use Rattle.std.specs.Prelude.{Contains}
use Rattle.std.proofs.lemmas.Bool.{or_left, or_right, or_cases}
use Rattle.std.proofs.lemmas.List.Folds.{list_any-append, list_any_at}
use Rattle.std.proofs.lemmas.Map.Views.{Contains-from_any}
use Rattle.operation_spec.specs.declared.task.Task.{Task}
use Rattle.invariant_family.specs.Feasible.{same_task, holds}
use Rattle.invariant_family.proofs.SameTasks.{same_task-refl, same_task-true}

pub contains-from_held : (ts : List Task) (a : Task) → holds ts a ≡ true → Contains ts a
contains-from_held ts a h = Contains-from_any {eq = same_task} same_task-true a ts h

pub held-from_contains : (ts : List Task) (a : Task) → Contains ts a → holds ts a ≡ true
held-from_contains ts a (k, below, at) = list_any_at (same_task a) ts k a below (subst (λ b. same_task a b ≡ true) (sym at) (same_task-refl a))

-- of two lists one holds it
pub held-append : (xs ys : List Task) (a : Task) → holds (xs ++ ys) a ≡ true → (holds xs a ≡ true) ⊎ (holds ys a ≡ true)
held-append xs ys a h = or_cases (holds xs a) (holds ys a) (sym (list_any-append (same_task a) xs ys) ∙ h)

pub held-left : (xs ys : List Task) (a : Task) → holds xs a ≡ true → holds (xs ++ ys) a ≡ true
held-left xs ys a h = list_any-append (same_task a) xs ys ∙ or_left (holds xs a) (holds ys a) h

pub held-right : (xs ys : List Task) (a : Task) → holds ys a ≡ true → holds (xs ++ ys) a ≡ true
held-right xs ys a h = list_any-append (same_task a) xs ys ∙ or_right (holds xs a) (holds ys a) h

-- a task of one more is it, or is held by the others
pub held-cons : (x : Task) (xs : List Task) (a : Task) → holds (x ∷ xs) a ≡ true → (a ≡ x) ⊎ (holds xs a ≡ true)
held-cons x xs a h = elim (or_cases (same_task a x) (holds xs a) h) [ inl same ↦ inl (same_task-true a x same) | inr held ↦ inr held ]

pub held-head : (x : Task) (xs : List Task) → holds (x ∷ xs) x ≡ true
held-head x xs = or_left (same_task x x) (holds xs x) (same_task-refl x)

pub held-tail : (x : Task) (xs : List Task) (a : Task) → holds xs a ≡ true → holds (x ∷ xs) a ≡ true
held-tail x xs a h = or_right (same_task a x) (holds xs a) h
