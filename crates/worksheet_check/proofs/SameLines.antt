-- Guards, ends and lines in which nothing is found are those that are due.
use Rattle.std.proofs.Common.{◌≡◌, ℕ, ◌+◌, List, [], ◌∷◌, Bool, true, false, cond, Some, None, refl, ap, ◌∙◌, subst}
use Rattle.std.specs.Prelude.{◌&&◌, ◌==◌}
use Rattle.std.specs.Bool.{Decides}
use Rattle.std.specs.Cmp.Lexicographic.{pointwise}
use Rattle.std.specs.Str.{bytes_eq}
use Rattle.std.proofs.lemmas.Bool.{and_parts, and_from, eqb-true, eq-eqb}
use Rattle.std.proofs.lemmas.Slice.Eq.{slice_eq-Decides, bytes_eq-Decides}
use Rattle.operation_spec.specs.declared.task.Task.{Task}
use Rattle.invariant_family.specs.Feasible.{same_task}
use Rattle.invariant_family.proofs.SameTasks.{same_task-refl, same_task-true}
use Rattle.worksheet.specs.declared.sheet.End.{End}
use Rattle.worksheet.specs.declared.sheet.State.{State}
use Rattle.worksheet.specs.declared.verdict.WsPlace.{WsPlace}
use Rattle.worksheet_check.specs.RoundFindings.{guard_finding, same_bool, same_end, ends_finding, same_state, differing, line_finding}

-- a finding where two aren't the same
kept_none : {X : Type 0} (b : Bool) (f : X) → cond b None (Some f) ≡ None → b ≡ true
kept_none true f h = refl
kept_none false f h = cc

none_kept : {X : Type 0} (b : Bool) (f : X) → b ≡ true → cond b None (Some f) ≡ None
none_kept b f h = rw h refl

-- ---- guard and ends

pub guard_same : (guard due : List ℕ) → guard_finding guard due ≡ None → guard ≡ due
guard_same guard due h = (bytes_eq-Decides guard due).0 (kept_none (bytes_eq guard due) _ h)

pub same_guard : (guard due : List ℕ) → guard ≡ due → guard_finding guard due ≡ None
same_guard guard due h = none_kept (bytes_eq guard due) _ ((bytes_eq-Decides guard due).1 h)

same_bool-true : (a b : Bool) → same_bool a b ≡ true → a ≡ b
same_bool-true true true h = refl
same_bool-true true false h = cc
same_bool-true false true h = cc
same_bool-true false false h = refl

same_bool-refl : (a : Bool) → same_bool a a ≡ true
same_bool-refl true = refl
same_bool-refl false = refl

end_of : ℕ → Bool → End
end_of dim last = record { dim = dim; last = last }

end-decides : (a b : End) → Decides (same_end a b) (a ≡ b)
unfolding end_of
end-decides a b = (
  λ h. let both = and_parts (a.dim == b.dim) (same_bool a.last b.last) h in
      ap (λ d. end_of d a.last) (eqb-true a.dim b.dim both.0) ∙ ap (end_of b.dim) (same_bool-true a.last b.last both.1),
  λ h. subst (λ c. same_end a c ≡ true) h (and_from (a.dim == a.dim) (same_bool a.last a.last) (eq-eqb a.dim a.dim refl) (same_bool-refl a.last)),
)

ends-decide : (ends due : List End) → Decides (pointwise same_end ends due) (ends ≡ due)
ends-decide ends due = slice_eq-Decides {E = same_end} end-decides ends due (pointwise same_end ends due) refl

pub ends_same : (place : WsPlace) (ends due : List End) → ends_finding place ends due ≡ None → ends ≡ due
ends_same place ends due h = (ends-decide ends due).0 (kept_none (pointwise same_end ends due) _ h)

pub same_ends : (place : WsPlace) (ends due : List End) → ends ≡ due → ends_finding place ends due ≡ None
same_ends place ends due h = none_kept (pointwise same_end ends due) _ ((ends-decide ends due).1 h)

-- ---- states

task-decides : (a b : Task) → Decides (same_task a b) (a ≡ b)
task-decides a b = (same_task-true a b, λ h. subst (λ c. same_task a c ≡ true) h (same_task-refl a))

tasks-decide : (a b : List Task) → Decides (pointwise same_task a b) (a ≡ b)
tasks-decide a b = slice_eq-Decides {E = same_task} task-decides a b (pointwise same_task a b) refl

state : ℕ → ℕ → List Task → State
state row col done = record { row = row; col = col; done = done }

pub state-true : (a b : State) → same_state a b ≡ true → a ≡ b
unfolding state
state-true a b h =
    let outer = and_parts (a.row == b.row && a.col == b.col) (pointwise same_task a.done b.done) h in
    let inner = and_parts (a.row == b.row) (a.col == b.col) outer.0 in
    ap (λ r. state r a.col a.done) (eqb-true a.row b.row inner.0) ∙ ap (λ c. state b.row c a.done) (eqb-true a.col b.col inner.1)
    ∙ ap (state b.row b.col) ((tasks-decide a.done b.done).0 outer.1)

pub state-refl : (a : State) → same_state a a ≡ true
state-refl a = and_from (a.row == a.row && a.col == a.col) (pointwise same_task a.done a.done)
    (and_from (a.row == a.row) (a.col == a.col) (eq-eqb a.row a.row refl) (eq-eqb a.col a.col refl)) ((tasks-decide a.done a.done).1 refl)

pub lines_same : (place : ℕ → WsPlace) (p : ℕ) (lines due : List State) → line_finding place p lines due ≡ None → lines ≡ due
lines_same place p [] [] h = refl
lines_same place p [] (d ∷ due) h = cc
lines_same place p (l ∷ lines) [] h = cc
lines_same place p (l ∷ lines) (d ∷ due) h = step (lines_same place (p + 1) lines due) (same_state l d) refl h
  where
    step : (line_finding place (p + 1) lines due ≡ None → lines ≡ due) → (b : Bool) → same_state l d ≡ b → cond b (line_finding place (p + 1) lines due) (differing (place p) (Some l) (Some d)) ≡ None → (l ∷ lines) ≡ (d ∷ due)
    step behind true e none = ap (λ x. x ∷ lines) (state-true l d e) ∙ ap (λ xs. d ∷ xs) (behind none)
    step behind false e none = cc

pub same_lines : (place : ℕ → WsPlace) (p : ℕ) (lines : List State) → line_finding place p lines lines ≡ None
same_lines place p [] = refl
same_lines place p (l ∷ lines) = rw (state-refl l) (same_lines place (p + 1) lines)
