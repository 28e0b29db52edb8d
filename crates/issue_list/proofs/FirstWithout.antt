-- The first statement that has no variant with its number: there is one or all have theirs, and it is one. Cited by the law that says so.
use Rattle.std.proofs.Common.{◌≡◌, ℕ, zero, suc, ◌<◌, ◌≤◌, ◌⊎◌, inl, inr, Option, Some, None, List, length, refl, sym, ◌∙◌, subst, arith}
use Rattle.std.proofs.lemmas.Bool.{cases_lt}
use Rattle.invariant_family.specs.declared.variant.Variant.{Variant}
use Rattle.equation.specs.declared.job.Job.{Job}
use Rattle.issue_list.specs.IssuedSteps.{HaveVariants, number_for, variant_of}
use Rattle.issue_list.specs.Choices.{IsFirstWithout}

module _ (job : Job) (numbers : List ℕ) where
  abbrev found : ℕ → Option Variant
  found s = variant_of job s (number_for numbers s)

  -- the first n statements have their variants
  abbrev HaveUpto : ℕ → Type 0
  HaveUpto n = (s : ℕ) → 1 ≤ s → s ≤ n → (v : Variant) × (found s ≡ Some v)

  next : (n : ℕ) → suc n ≤ length job.statements → HaveUpto n → (o : Option Variant) → found (suc n) ≡ o → HaveUpto (suc n) ⊎ ((s : ℕ) × IsFirstWithout job numbers s)
  next n within have None e = inr (suc n, record { from = omega arith; within = within; none = e; before = λ t from less. have t from (omega (arith, less)) })
  next n within have (Some v) e = inl each
    where
      each : HaveUpto (suc n)
      each s from below = elim (cases_lt s (suc n)) [
        | inl less ↦ have s from (omega (arith, less))
        | inr last ↦ (let same : suc n ≡ s = omega (arith, last, below) in (v, subst (λ (t : ℕ). found t ≡ Some v) same e))
      ]

  upto : (n : ℕ) → n ≤ length job.statements → HaveUpto n ⊎ ((s : ℕ) × IsFirstWithout job numbers s)
  upto zero within = inl (λ s from below. absurd (omega (arith, from, below)))
  upto (suc n) within = elim (upto n (omega (arith, within))) [
    | inl have ↦ next n within have (found (suc n)) refl
    | inr first ↦ inr first
  ]

  pub have_or_first : HaveVariants job numbers ⊎ ((s : ℕ) × IsFirstWithout job numbers s)
  have_or_first = upto (length job.statements) (omega arith)

  pub never-both : (s : ℕ) → HaveVariants job numbers → IsFirstWithout job numbers s → ⊥
  never-both s have first = let own = have s first.from first.within in let e : None ≡ Some own.0 = sym first.none ∙ own.1 in absurd (cc)

  not-before : (s t : ℕ) → IsFirstWithout job numbers s → IsFirstWithout job numbers t → s < t → ⊥
  not-before s t first second less = let own = second.before s first.from less in let e : None ≡ Some own.0 = sym first.none ∙ own.1 in absurd (cc)

  pub one-first : (s t : ℕ) → IsFirstWithout job numbers s → IsFirstWithout job numbers t → s ≡ t
  one-first s t first second = elim (cases_lt s t) [
    | inl less ↦ absurd (not-before s t first second less)
    | inr above ↦ (elim (cases_lt t s) [
      | inl less ↦ absurd (not-before t s second first less)
      | inr below ↦ omega (arith, above, below)
    ])
  ]
