-- The first of some lines, or updates, in which something is found: those before it are right, and it isn't.
use Rattle.std.proofs.Common.{◌≡◌, ◌≢◌, ℕ, zero, suc, ◌+◌, ◌<◌, List, [], ◌∷◌, Bool, true, false, cond, Option, Some, None, refl, sym, ap, ◌∙◌, subst, arith}
use Rattle.std.specs.Prelude.{slice_get}
use Rattle.std.specs.Option.{option_map}
use Rattle.worksheet.specs.declared.sheet.State.{State}
use Rattle.worksheet.specs.declared.verdict.WsPlace.{WsPlace}
use Rattle.worksheet_check.specs.declared.findings.Finding.{Finding}
use Rattle.worksheet_check.specs.RoundFindings.{same_state, differing, line_finding}
use Rattle.worksheet_check.proofs.SameLines.{state-true, state-refl}

-- the place of a finding that was found
pub same_place : (f g : Finding) → Some f ≡ Some g → g.place ≡ f.place
same_place f g h = let same : f ≡ g = cc in ap (λ (x : Finding). x.place) (sym same)

pub never_found : {X : Type 0} (o : Option X) (x : X) → o ≡ None → o ≡ Some x → ⊥
never_found o x h k = let both : None ≡ Some x = sym h ∙ k in cc

-- findings of what a search gives are at one place
pub mapped_place : {X : Type 0} (g : X → Finding) (at : WsPlace) (o : Option X) (f : Finding) → option_map g o ≡ Some f → ((x : X) → (g x).place ≡ at) → f.place ≡ at
mapped_place g at None f h is = cc
mapped_place g at (Some x) f h is = same_place (g x) f h ∙ is x

-- line k, from 0, is the first of these that isn't the one due
pub record IsFirstOther (lines due : List State) (k : ℕ) : Type 0 where
  pub before : (j : ℕ) → j < k → slice_get lines j ≡ slice_get due j
  pub here : slice_get lines k ≢ slice_get due k

at_once : (lines due : List State) → slice_get lines zero ≢ slice_get due zero → IsFirstOther lines due zero
at_once lines due h = record { before = λ j below. absurd (omega arith); here = h }

behind : (l d : State) (lines due : List State) (k : ℕ) → l ≡ d → IsFirstOther lines due k → IsFirstOther (l ∷ lines) (d ∷ due) (suc k)
behind l d lines due k same first = record { before = before; here = first.here }
  where
    before : (j : ℕ) → j < suc k → slice_get (l ∷ lines) j ≡ slice_get (d ∷ due) j
    before zero below = ap Some same
    before (suc j) below = first.before j (omega arith)

-- the place of a finding that was found at once
pub found_here : (place : ℕ → WsPlace) (p : ℕ) (f g : Finding) → f.place ≡ place p → Some f ≡ Some g → g.place ≡ place (zero + p)
found_here place p f g at h = same_place f g h ∙ at ∙ ap place (omega arith)

pub first_other : (place : ℕ → WsPlace) (p : ℕ) (lines due : List State) (f : Finding) → line_finding place p lines due ≡ Some f
    → (k : ℕ) × (f.place ≡ place (k + p)) × IsFirstOther lines due k
first_other place p [] [] f h = cc
first_other place p [] (d ∷ due) f h = (zero, found_here place p _ f refl h, at_once [] (d ∷ due) (λ e. cc))
first_other place p (l ∷ lines) [] f h = (zero, found_here place p _ f refl h, at_once (l ∷ lines) [] (λ e. cc))
first_other place p (l ∷ lines) (d ∷ due) f h = step (first_other place (p + 1) lines due f) (same_state l d) refl h
  where
    step : (line_finding place (p + 1) lines due ≡ Some f → (k : ℕ) × (f.place ≡ place (k + (p + 1))) × IsFirstOther lines due k)
        → (b : Bool) → same_state l d ≡ b → cond b (line_finding place (p + 1) lines due) (differing (place p) (Some l) (Some d)) ≡ Some f
        → (k : ℕ) × (f.place ≡ place (k + p)) × IsFirstOther (l ∷ lines) (d ∷ due) k
    step others true e found =
        let (k, at, first) = others found in
        (suc k, at ∙ ap place (omega arith), behind l d lines due k (state-true l d e) first)
    step others false e found = (
      zero,
      found_here place p _ f refl found,
      at_once (l ∷ lines) (d ∷ due) (λ same.
          let one : l ≡ d = cc in
          let never : same_state l d ≡ true = subst (λ x. same_state l x ≡ true) one (state-refl l) in
          cc),
    )
