-- What is shown of the first wrong line, of the first wrong update, and of the first task of an invariant that is out of order.
use Rattle.std.proofs.Common.{◌≡◌, ℕ, zero, suc, ◌+◌, ◌≤◌, List, [], ◌∷◌, ◌++◌, length, take, inl, inr, ◌&&◌, Bool, true, false, cond, not, Option, Some, None, refl, sym, ap, ◌∙◌, subst, arith, append_assoc, append-nil}
use Rattle.std.specs.Prelude.{slice_get, Contains}
use Rattle.std.specs.List.{find}
use Rattle.std.specs.Option.{option_map}
use Rattle.std.proofs.lemmas.Bool.{or_cases, or_parts}
use Rattle.operation_spec.specs.declared.operation.Operation.{Operation}
use Rattle.operation_spec.specs.declared.task.Task.{Task}
use Rattle.task_graph.specs.Needs.{does_need}
use Rattle.invariant_family.specs.Feasible.{holds}
use Rattle.worksheet.specs.declared.sheet.State.{State}
use Rattle.worksheet.specs.declared.verdict.Shown.{Shown}
use Rattle.worksheet.specs.declared.verdict.Shown.TheVariants as shown
use Rattle.worksheet.specs.declared.verdict.Verdict.TheVariants.{Wrong}
use Rattle.worksheet.specs.declared.verdict.WsPlace.{WsPlace}
use Rattle.worksheet.specs.declared.verdict.WsPlace.TheVariants as places
use Rattle.worksheet_check.specs.Findings.{finding, verdict_by}
use Rattle.worksheet_check.specs.InvariantFindings.{comes_after, out_of_order}
use Rattle.worksheet_check.specs.RoundFindings.{differing, is_stray, line_finding, line_shown, misses, or_else, same_state, update_finding}
use Rattle.worksheet_check.proofs.Held.{contains-from_held, held-from_contains}
use Rattle.worksheet_check.proofs.RightUpdates.{never_both, not_twice}
use Rattle.worksheet_laws.specs.ShownPlaces.{IsDueFor, IsShownUpdate, Lacks}
use Rattle.worksheet_laws.proofs.FirstFound.{first_found, from_not_held, from_outside, mapped_told, not_held, outside, same_told}

-- ---- lines

-- found and told are a line, counted from p on, of some lines and of those due, at its place
pub record IsOfLine (at : ℕ → WsPlace) (p : ℕ) (lines due : List State) (place : WsPlace) (found told : Shown) : Type 0 where
  pub number : ℕ
  pub placed : place ≡ at (number + p)
  pub found_there : found ≡ line_shown (slice_get lines number)
  pub due_there : told ≡ line_shown (slice_get due number)

-- the first line and the first due one
first_line : (at : ℕ → WsPlace) (p : ℕ) (lines due : List State) → IsOfLine at p lines due (at p) (line_shown (slice_get lines zero)) (line_shown (slice_get due zero))
first_line at p lines due = record { number = zero; placed = ap at (omega arith); found_there = refl; due_there = refl }

pub line_told : (at : ℕ → WsPlace) (p : ℕ) (lines due : List State) (place : WsPlace) (found told : Shown) → verdict_by (line_finding at p lines due) ≡ Wrong place found told
    → IsOfLine at p lines due place found told
line_told at p [] [] place found told h = absurd cc
line_told at p [] (d ∷ due) place found told h = same_told (IsOfLine at p [] (d ∷ due)) place found told _ _ _ h (first_line at p [] (d ∷ due))
line_told at p (l ∷ lines) [] place found told h = same_told (IsOfLine at p (l ∷ lines) []) place found told _ _ _ h (first_line at p (l ∷ lines) [])
line_told at p (l ∷ lines) (d ∷ due) place found told h = step (line_told at (p + 1) lines due place found told) (same_state l d) h
  where
    step : (verdict_by (line_finding at (p + 1) lines due) ≡ Wrong place found told → IsOfLine at (p + 1) lines due place found told) → (b : Bool)
        → verdict_by (cond b (line_finding at (p + 1) lines due) (differing (at p) (Some l) (Some d))) ≡ Wrong place found told → IsOfLine at p (l ∷ lines) (d ∷ due) place found told
    step others true h =
        let next = others h in
        record { number = suc next.number; placed = next.placed ∙ ap at (omega arith); found_there = next.found_there; due_there = next.due_there }
    step others false h = same_told (IsOfLine at p (l ∷ lines) (d ∷ due)) place found told _ _ _ h (first_line at p (l ∷ lines) (d ∷ due))

module _ (op : Operation) where
  -- ---- updates

  -- found and told are an update, counted from p on, of those behind others, and what is due for it, or that one is missing
  pub record IsOfUpdate (due seen : List Task) (p : ℕ) (updates : List Task) (place : WsPlace) (found told : Shown) : Type 0 where
    pub number : ℕ
    pub within : number ≤ length updates
    pub placed : place ≡ places.Update (number + p)
    pub is_shown : IsShownUpdate op due (seen ++ take number updates) (slice_get updates number) found told

  -- the first update, with what is due for it
  first_update : (due seen : List Task) (p : ℕ) (a : Task) (updates : List Task) (told : Shown) → IsDueFor op due seen a told
      → IsOfUpdate due seen p (a ∷ updates) (places.Update p) (shown.One a) told
  first_update due seen p a updates told is = record {
    number = zero;
    within = omega arith;
    placed = ap places.Update (omega arith);
    is_shown = subst (λ xs. IsShownUpdate op due xs (Some a) (shown.One a) told) (sym (append-nil seen)) (refl, is);
  }

  -- an update behind the first
  behind_update : (due seen : List Task) (p : ℕ) (a : Task) (updates : List Task) (place : WsPlace) (found told : Shown) → IsOfUpdate due (seen ++ a ∷ []) (p + 1) updates place found told
      → IsOfUpdate due seen p (a ∷ updates) place found told
  behind_update due seen p a updates place found told next = record {
    number = suc next.number;
    within = (let below : next.number ≤ length updates = next.within in omega arith);
    placed = next.placed ∙ ap places.Update (omega arith);
    is_shown = subst (λ xs. IsShownUpdate op due xs (slice_get updates next.number) found told) (append_assoc seen (a ∷ []) (take next.number updates)) next.is_shown;
  }

  -- a stray update isn't due or was seen
  stray_due : (due seen : List Task) (a : Task) → is_stray due seen a ≡ true → IsDueFor op due seen a shown.Nothing
  stray_due due seen a h = inl (
    elim (or_cases (not (holds due a)) (holds seen a) h) [ inl strange ↦ inl (not_held due a strange) | inr again ↦ inr (contains-from_held seen a again) ],
    refl,
  )

  -- any other lacks a due task
  lacking_due : (due seen : List Task) (a b : Task) → is_stray due seen a ≡ false → find (misses op seen a) due ≡ Some b → IsDueFor op due seen a (shown.One b)
  lacking_due due seen a b h found =
      let parts = or_parts (not (holds due a)) (holds seen a) h in
      inr (
        contains-from_held due a (not_twice (holds due a) ∙ ap not parts.0),
        (λ within. never_both (holds seen a) (held-from_contains seen a within) parts.1),
        (
          b,
          refl,
          first_found (misses op seen a) (Lacks op seen a) (λ c. outside seen (does_need op a c) c) (λ c. from_outside seen (does_need op a c) c) due b found,
        ),
      )

  pub update_told : (due seen : List Task) (p : ℕ) (updates : List Task) (place : WsPlace) (found told : Shown) → verdict_by (update_finding op due seen p updates) ≡ Wrong place found told
      → IsOfUpdate due seen p updates place found told
  update_told due seen p [] place found told h =
      mapped_told (IsOfUpdate due seen p []) place found told (λ b. places.Update p) (λ b. shown.Nothing) shown.One (find (λ b. not (holds seen b)) due) h (λ b one. record {
        number = zero;
        within = omega arith;
        placed = ap places.Update (omega arith);
        is_shown = subst (λ xs. IsShownUpdate op due xs None shown.Nothing (shown.One b)) (sym (append-nil seen))
            (refl, (b, refl, first_found (λ b. not (holds seen b)) (λ b. ¬ Contains seen b) (not_held seen) (from_not_held seen) due b one));
      })
  update_told due seen p (a ∷ updates) place found told h =
      step (update_told due (seen ++ a ∷ []) (p + 1) updates place found told) (is_stray due seen a) refl (find (misses op seen a) due) refl h
    where
      step : (verdict_by (update_finding op due (seen ++ a ∷ []) (p + 1) updates) ≡ Wrong place found told → IsOfUpdate due (seen ++ a ∷ []) (p + 1) updates place found told)
          → (b : Bool) → is_stray due seen a ≡ b → (o : Option Task) → find (misses op seen a) due ≡ o
          → verdict_by (or_else (cond b (Some (finding (places.Update p) (shown.One a) shown.Nothing)) (option_map (λ b. finding (places.Update p) (shown.One a) (shown.One b)) o))
          (update_finding op due (seen ++ a ∷ []) (p + 1) updates)) ≡ Wrong place found told
          → IsOfUpdate due seen p (a ∷ updates) place found told
      step others true e o one h = same_told (IsOfUpdate due seen p (a ∷ updates)) place found told _ _ _ h (first_update due seen p a updates shown.Nothing (stray_due due seen a e))
      step others false e (Some b) one h = same_told (IsOfUpdate due seen p (a ∷ updates)) place found told _ _ _ h (first_update due seen p a updates (shown.One b) (lacking_due due seen a b e one))
      step others false e None one h = behind_update due seen p a updates place found told (others h)

  -- ---- the order of an invariant

  -- the first task that is out of order: none is before it, and with it one is
  pub record IsFirstOut (tasks : List Task) (before : Option Task) (s : List Task) (a : Task) : Type 0 where
    pub at : ℕ
    pub here : slice_get s at ≡ Some a
    pub none_before : out_of_order op tasks before (take at s) ≡ None
    pub with_it : out_of_order op tasks before (take (suc at) s) ≡ Some a

  pub first_out : (tasks : List Task) (before : Option Task) (s : List Task) (a : Task) → out_of_order op tasks before s ≡ Some a → IsFirstOut tasks before s a
  first_out tasks before [] a h = absurd cc
  first_out tasks before (x ∷ s) a h = step (first_out tasks (Some x) s a) (holds tasks x && comes_after op before x) refl h
    where
      step : (out_of_order op tasks (Some x) s ≡ Some a → IsFirstOut tasks (Some x) s a) → (b : Bool) → (holds tasks x && comes_after op before x) ≡ b
          → cond b (out_of_order op tasks (Some x) s) (Some x) ≡ Some a → IsFirstOut tasks before (x ∷ s) a
      step others true e found =
          let next = others found in
          record { at = suc next.at; here = next.here; none_before = rw e next.none_before; with_it = rw e next.with_it }
      step others false e found = record { at = zero; here = found; none_before = refl; with_it = rw e found }
