-- What is found by a search along a list is the first item that passes. Cited by the proof of what verdicts show.
use Rattle.std.proofs.Common.{◌≡◌, ℕ, zero, suc, ◌<◌, List, [], ◌∷◌, ◌&&◌, Bool, true, false, cond, not, Option, Some, None, refl, sym, ap, ◌∙◌, subst, arith}
use Rattle.std.specs.Prelude.{slice_get, Contains, is_some}
use Rattle.std.specs.List.{find, list_any}
use Rattle.std.specs.Option.{option_map}
use Rattle.std.proofs.lemmas.Bool.{and_parts, and_from, false_from_ne_true}
use Rattle.std.proofs.lemmas.List.Folds.{list_any_at}
use Rattle.operation_spec.specs.declared.task.Task.{Task}
use Rattle.invariant_family.specs.Feasible.{holds}
use Rattle.worksheet.specs.declared.verdict.Shown.{Shown}
use Rattle.worksheet.specs.declared.verdict.Verdict.TheVariants.{Wrong}
use Rattle.worksheet.specs.declared.verdict.WsPlace.{WsPlace}
use Rattle.worksheet_check.specs.Findings.{finding, first_finding, verdict_by}
use Rattle.worksheet_check.proofs.Held.{contains-from_held, held-from_contains}
use Rattle.worksheet_check.proofs.RightUpdates.{never_both, not_twice}
use Rattle.worksheet_check.proofs.Searches.{any_found}
use Rattle.worksheet_laws.specs.ShownPlaces.{IsFirstWith}

-- ---- verdicts of findings

-- what is so of a place, of what is found there and of what is due is so of what a verdict shows
module _ (T : WsPlace → Shown → Shown → Type 0) (place : WsPlace) (found due : Shown) where
  pub same_told : (p : WsPlace) (f d : Shown) → Wrong p f d ≡ Wrong place found due → T p f d → T place found due
  same_told p f d h told =
      let at : p ≡ place = cc in
      let there : f ≡ found = cc in
      let wanted : d ≡ due = cc in
      subst (λ x. T x found due) at (subst (λ x. T p x due) there (subst (λ x. T p f x) wanted told))

  -- of a finding where something is found
  pub mapped_told : {X : Type 0} (p : X → WsPlace) (f d : X → Shown) (o : Option X) → verdict_by (option_map (λ x. finding (p x) (f x) (d x)) o) ≡ Wrong place found due
      → ((x : X) → o ≡ Some x → T (p x) (f x) (d x)) → T place found due
  mapped_told p f d None h told = absurd cc
  mapped_told p f d (Some x) h told = same_told (p x) (f x) (d x) h (told x refl)

  -- of a finding where a test fails
  pub tested_told : (b : Bool) (p : WsPlace) (f d : Shown) → verdict_by (cond b None (Some (finding p f d))) ≡ Wrong place found due → T p f d → T place found due
  tested_told true p f d h told = absurd cc
  tested_told false p f d h told = same_told p f d h told

  -- of the first of several findings, where it is so of each
  pub first_told : (o : Option _) (others : List (Option _)) → (verdict_by o ≡ Wrong place found due → T place found due)
      → (verdict_by (first_finding others) ≡ Wrong place found due → T place found due) → verdict_by (first_finding (o ∷ others)) ≡ Wrong place found due → T place found due
  first_told None others here behind h = behind h
  first_told (Some f) others here behind h = here h

-- ---- searches

-- an item that passes is found where there is one
pub any_one : {X : Type 0} (p : X → Bool) (xs : List X) → list_any p xs ≡ true → (x : X) × (find p xs ≡ Some x)
any_one {X} p xs h = step (find p xs) (sym (any_found p xs) ∙ h)
  where
    step : (o : Option X) → is_some o ≡ true → (x : X) × (o ≡ Some x)
    step None h = absurd cc
    step (Some x) h = (x, refl)

module _ {X : Type 0} (p : X → Bool) (P : X → Type 0) (is : (x : X) → p x ≡ true → P x) (back : (x : X) → P x → p x ≡ true) where
  behind : (y : X) (ys : List X) (x : X) → p y ≡ false → IsFirstWith P ys x → IsFirstWith P (y ∷ ys) x
  behind y ys x fails first = record { at = suc first.at; here = first.here; has = first.has; none_before = none }
    where
      none : (j : ℕ) → j < suc first.at → (z : X) → slice_get (y ∷ ys) j ≡ Some z → ¬ P z
      none zero below z e has = let same : y ≡ z = cc in never_both (p y) (subst (λ v. p v ≡ true) (sym same) (back z has)) fails
      none (suc j) below z e has = first.none_before j (omega arith) z e has

  pub first_found : (xs : List X) (x : X) → find p xs ≡ Some x → IsFirstWith P xs x
  first_found [] x h = absurd cc
  first_found (y ∷ ys) x h = step (first_found ys x) (p y) refl h
    where
      step : (find p ys ≡ Some x → IsFirstWith P ys x) → (b : Bool) → p y ≡ b → cond b (Some y) (find p ys) ≡ Some x → IsFirstWith P (y ∷ ys) x
      step others true e found = record {
        at = zero;
        here = found;
        has = (let same : y ≡ x = cc in subst P same (is y e));
        none_before = λ j below. absurd (omega arith);
      }
      step others false e found = behind y ys x e (others found)

-- what is found is in the list and passes
pub found_within : {X : Type 0} (p : X → Bool) (xs : List X) (x : X) → find p xs ≡ Some x → Contains xs x × (p x ≡ true)
found_within p [] x h = absurd cc
found_within p (y ∷ ys) x h = step (found_within p ys x) (p y) refl h
  where
    step : (find p ys ≡ Some x → Contains ys x × (p x ≡ true)) → (b : Bool) → p y ≡ b → cond b (Some y) (find p ys) ≡ Some x → Contains (y ∷ ys) x × (p x ≡ true)
    step others true e found =
        let same : y ≡ x = cc in
        ((zero, omega arith, same), subst (λ v. p v ≡ true) same e)
    step others false e found =
        let ((k, below, at), passes) = others found in
        ((suc k, omega arith, at), passes)

-- an item of the list that passes
pub any_within : {X : Type 0} (p : X → Bool) (xs : List X) (x : X) → Contains xs x → p x ≡ true → list_any p xs ≡ true
any_within p xs x (k, below, at) passes = list_any_at p xs k x below (subst (λ v. p v ≡ true) (sym at) passes)

-- ---- tasks that aren't of a set

pub not_held : (s : List Task) (a : Task) → not (holds s a) ≡ true → ¬ Contains s a
not_held s a h within = never_both (holds s a) (held-from_contains s a within) (not_twice (holds s a) ∙ ap not h)

pub from_not_held : (s : List Task) (a : Task) → ¬ Contains s a → not (holds s a) ≡ true
from_not_held s a outside = ap not (false_from_ne_true (holds s a) (λ held. outside (contains-from_held s a held)))

pub outside : (s : List Task) (b : Bool) (a : Task) → (b && not (holds s a)) ≡ true → (b ≡ true) × (¬ Contains s a)
outside s b a h = let both = and_parts b (not (holds s a)) h in (both.0, not_held s a both.1)

pub from_outside : (s : List Task) (b : Bool) (a : Task) → (b ≡ true) × (¬ Contains s a) → (b && not (holds s a)) ≡ true
from_outside s b a h = and_from b (not (holds s a)) h.0 (from_not_held s a h.1)
