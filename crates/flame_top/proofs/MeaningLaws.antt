-- For what a job means one answer is due, and there is one.
use Rattle.std.proofs.Common.{◌≡◌, inl, inr, ◌⊎◌, ℕ, List, refl, subst, sym, ap, ◌∙◌}
use Rattle.residue_sums.specs.Grids.{Grid}
use Rattle.equation.specs.declared.job.Job.{Job}
use Rattle.equation.specs.declared.job.Place.{Place}
use Rattle.equation.specs.Jobs.{IsJob}
use Rattle.equation.specs.Meanings.{Means, MeansBadPivot}
use Rattle.equation.proofs.JobMeanings.{never_both, one_bad_pivot, one_meaning, some_meaning}
use Rattle.flame_top.specs.DueTexts.{Says}
use Rattle.flame_top.specs.Meaning.{DueBadPivot, DueMeaning, PrintedText}
use Rattle.flame_top.specs.Refusals.{bad_pivot_text}
use Rattle.flame_top.proofs.SameDue.{AreAlike, IsDetermined, IsSomeDue, alike_determined, same_says}

module _ (job : Job) (valid : IsJob job) where
  same_bad : IsDetermined (DueBadPivot job)
  same_bad status other text different bad bad_other =
      let one = one_bad_pivot job valid bad.0 bad_other.0 bad.1 bad_other.1 bad.2 bad_other.2 in
      same_says 4 (bad_pivot_text bad_other.0 bad_other.1) status other text different
      (subst (λ place. Says 4 (bad_pivot_text bad_other.0 place) status text) one.1 (subst (λ number. Says 4 (bad_pivot_text number bad.1) status text) one.0 bad.3)) bad_other.3

  -- two answers are alike where the texts of the same matrices are
  module _ (alike : List ℕ → List ℕ → Type 0) (itself : (text : List ℕ) → alike text text) (printed second : PrintedText) where
    pub alike_meaning : ((after : List Grid) → alike (printed after) (second after)) → AreAlike alike (DueMeaning job printed) (DueMeaning job second)
    alike_meaning are status other text different (inl due) (inl due_other) =
        let one = one_meaning job valid due.0 due_other.0 due.1 due_other.1 in
        let here : text ≡ printed due_other.0 = due.2.1 ∙ ap printed one in (
          due.2.0 ∙ sym due_other.2.0,
          subst (λ (t : List ℕ). alike t different) (sym here) (subst (λ (t : List ℕ). alike (printed due_other.0) t) (sym due_other.2.1) (are due_other.0)),
        )
    alike_meaning are status other text different (inl due) (inr bad) = absurd (never_both job valid due.0 bad.0 bad.1 due.1 bad.2)
    alike_meaning are status other text different (inr bad) (inl due) = absurd (never_both job valid due.0 bad.0 bad.1 due.1 bad.2)
    alike_meaning are status other text different (inr bad) (inr bad_other) =
        alike_determined alike itself (DueBadPivot job) same_bad status other text different bad bad_other

  pub same_meaning : (printed : PrintedText) → IsDetermined (DueMeaning job printed)
  same_meaning printed = alike_meaning (λ text different. text ≡ different) (λ text. refl) printed printed (λ after. refl)

  pub some_due_meaning : (printed : PrintedText) → IsSomeDue (DueMeaning job printed)
  some_due_meaning printed = go (some_meaning job valid)
    where
      go : ((after : List Grid) × Means job after) ⊎ ((number : ℕ) × (place : Place) × MeansBadPivot job number place) → IsSomeDue (DueMeaning job printed)
      go (inl means) = (0, printed means.0, inl (means.0, means.1, (refl, refl)))
      go (inr bad) = (4, bad_pivot_text bad.0 bad.1, inr (bad.0, bad.1, bad.2, (refl, refl)))
