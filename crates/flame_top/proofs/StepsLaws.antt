-- For a job, a block size and a choice of variants one refusal is due at most, or what is due for the steps, and one of them is.
use Rattle.std.proofs.Common.{◌≡◌, ◌≢◌, inl, inr, ◌⊎◌, ℕ, ◌<◌, ◌≤◌, List, length, refl, subst, arith}
use Rattle.std.proofs.lemmas.Bool.{cases_eq, cases_lt}
use Rattle.equation.specs.declared.job.Job.{Job}
use Rattle.issue_list.specs.declared.choice.Choice.{Choice}
use Rattle.issue_list.specs.CanonicalSteps.{HasFewParts, IsFirstLong, most_steps}
use Rattle.issue_list.specs.Choices.{HasDueCount, IsFirstWithout, numbers_of}
use Rattle.issue_list.specs.IssuedSteps.{HaveVariants}
use Rattle.issue_list.proofs.FirstWithout.{have_or_first, never-both, one-first}
use Rattle.flame_top.specs.DueTexts.{Says}
use Rattle.flame_top.specs.Refusals.{no_variant_text, too_many_parts_text, too_many_steps_text, variant_count_text}
use Rattle.flame_top.specs.Steps.{CanList, DueBySteps, DueNoVariant, DueRefused, DueTooManyParts, DueTooManySteps, DueVariantCount, dimension_name, steps_by}
use Rattle.flame_top.proofs.FirstLong.{first_long_or_few, long_not_few, one_first_long}
use Rattle.flame_top.proofs.SameDue.{AreAlike, IsDetermined, IsSomeDue, alike_same, same_either, same_says}

module _ (b : ℕ) (choice : Choice) (job : Job) where
  numbers : List ℕ
  numbers = numbers_of job choice

  -- ---- each refusal is determined

  same_count : IsDetermined (DueVariantCount choice job)
  same_count status other text different is is_other =
      same_says 3 (variant_count_text (length (numbers_of job choice)) (length job.statements)) status other text different is.1 is_other.1

  same_without : IsDetermined (DueNoVariant choice job)
  same_without status other text different (count, (s, is, says)) (count_other, (t, is_other, says_other)) =
      same_says 3 (no_variant_text t) status other text different
      (subst (λ n. Says 3 (no_variant_text n) status text) (one-first job (numbers_of job choice) s t is is_other) says) says_other

  same_long : IsDetermined (DueTooManyParts b choice job)
  same_long status other text different (has, long) (has_other, long_other) =
      let one = one_first_long job b long.0 long.1 long_other.0 long_other.1 long.2 long_other.2 in
      same_says 3 (too_many_parts_text long_other.0 (dimension_name job long_other.0 long_other.1)) status other text different
      (subst (λ d. Says 3 (too_many_parts_text long_other.0 (dimension_name job long_other.0 d)) status text) one.1
      (subst (λ s. Says 3 (too_many_parts_text s (dimension_name job s long.1)) status text) one.0 long.3)) long_other.3

  same_many : IsDetermined (DueTooManySteps b choice job)
  same_many status other text different is is_other = same_says 3 too_many_steps_text status other text different is.3 is_other.3

  -- ---- and excludes the later ones

  abbrev FromParts : ℕ → List ℕ → Type 0
  FromParts status text = DueTooManyParts b choice job status text ⊎ DueTooManySteps b choice job status text

  abbrev FromVariants : ℕ → List ℕ → Type 0
  FromVariants status text = DueNoVariant choice job status text ⊎ FromParts status text

  count_first : (status other : ℕ) (text different : List ℕ) → DueVariantCount choice job status text → FromVariants other different → ⊥
  count_first status other text different is (inl none) = is.0 none.0
  count_first status other text different is (inr (inl long)) = is.0 long.0.0
  count_first status other text different is (inr (inr many)) = is.0 many.0.0

  variants_first : (status other : ℕ) (text different : List ℕ) → DueNoVariant choice job status text → FromParts other different → ⊥
  variants_first status other text different is (inl long) = never-both job (numbers_of job choice) is.1.0 long.0.1 is.1.1
  variants_first status other text different is (inr many) = never-both job (numbers_of job choice) is.1.0 many.0.1 is.1.1

  parts_first : (status other : ℕ) (text different : List ℕ) → DueTooManyParts b choice job status text → DueTooManySteps b choice job other different → ⊥
  parts_first status other text different (has, long) many = long_not_few job b long.0 long.1 long.2 many.1

  same_refused : IsDetermined (DueRefused b choice job)
  same_refused = same_either (DueVariantCount choice job) FromVariants same_count
      (same_either (DueNoVariant choice job) FromParts same_without
      (same_either (DueTooManyParts b choice job) (DueTooManySteps b choice job) same_long same_many parts_first) variants_first) count_first

  pub refused_or_listed : (status : ℕ) (text : List ℕ) → DueRefused b choice job status text → CanList b choice job → ⊥
  refused_or_listed status text (inl count) can = count.0 can.variants.0
  refused_or_listed status text (inr (inl none)) can = never-both job (numbers_of job choice) none.1.0 can.variants.1 none.1.1
  refused_or_listed status text (inr (inr (inl (has, long)))) can = long_not_few job b long.0 long.1 long.2 can.parts
  refused_or_listed status text (inr (inr (inr many))) can = let more = many.2 in let few = can.few in omega arith

  -- a refusal has its status
  pub refused_status : (status : ℕ) (text : List ℕ) → DueRefused b choice job status text → status ≡ 3
  refused_status status text (inl count) = count.1.0
  refused_status status text (inr (inl none)) = none.1.2.0
  refused_status status text (inr (inr (inl (has, long)))) = long.3.0
  refused_status status text (inr (inr (inr many))) = many.3.0

  -- ---- a refusal is due, or the steps can be listed

  some_refused_or_listed : IsSomeDue (DueRefused b choice job) ⊎ CanList b choice job
  some_refused_or_listed = go (cases_eq (length (numbers_of job choice)) (length job.statements)) (have_or_first job (numbers_of job choice))
      (first_long_or_few job b) (cases_lt most_steps (length (steps_by job b choice)))
    where
      go : HasDueCount job choice ⊎ ¬ (HasDueCount job choice)
          → HaveVariants job (numbers_of job choice) ⊎ ((s : ℕ) × IsFirstWithout job (numbers_of job choice) s)
          → ((s : ℕ) × (d : ℕ) × IsFirstLong job b s d) ⊎ HasFewParts job b
          → (most_steps < length (steps_by job b choice)) ⊎ (length (steps_by job b choice) ≤ most_steps)
          → IsSomeDue (DueRefused b choice job) ⊎ CanList b choice job
      go (inr not) variants parts steps =
          inl (3, variant_count_text (length (numbers_of job choice)) (length job.statements), inl (not, (refl, refl)))
      go (inl count) (inr none) parts steps = inl (3, no_variant_text none.0, inr (inl (count, (none.0, none.1, (refl, refl)))))
      go (inl count) (inl all) (inl long) steps = inl (
        3,
        too_many_parts_text long.0 (dimension_name job long.0 long.1),
        inr (inr (inl ((count, all), (long.0, long.1, long.2, (refl, refl))))),
      )
      go (inl count) (inl all) (inr few) (inl many) = inl (3, too_many_steps_text, inr (inr (inr ((count, all), few, many, (refl, refl)))))
      go (inl count) (inl all) (inr few) (inr steps) = inr (record { variants = (count, all); parts = few; few = steps })

  -- ---- what is due by steps

  -- two answers are alike where what is due for the steps is
  module _ (alike : List ℕ → List ℕ → Type 0) (itself : (text : List ℕ) → alike text text) (due second : ℕ → List ℕ → Type 0) where
    pub alike_by_steps : AreAlike alike due second → AreAlike alike (DueBySteps b choice job due) (DueBySteps b choice job second)
    alike_by_steps are status other text different (inl refused) (inl refused_other) =
        alike_same alike itself status other text different (same_refused status other text different refused refused_other)
    alike_by_steps are status other text different (inl refused) (inr listed) = absurd (refused_or_listed status text refused listed.0)
    alike_by_steps are status other text different (inr listed) (inl refused) = absurd (refused_or_listed other different refused listed.0)
    alike_by_steps are status other text different (inr listed) (inr listed_other) = are status other text different listed.1 listed_other.1

  module _ (due : ℕ → List ℕ → Type 0) where
    pub some_by_steps : IsSomeDue due → IsSomeDue (DueBySteps b choice job due)
    some_by_steps is = elim some_refused_or_listed [
      | inl refused ↦ (refused.0, refused.1, inl refused.2)
      | inr can ↦ (is.0, is.1, inr (can, is.2))
    ]

    -- what isn't refused is due for the steps
    pub due_unless_refused : (status : ℕ) (text : List ℕ) → DueBySteps b choice job due status text → status ≢ 3 → due status text
    due_unless_refused status text (inl refused) not = absurd (not (refused_status status text refused))
    due_unless_refused status text (inr listed) not = listed.1
