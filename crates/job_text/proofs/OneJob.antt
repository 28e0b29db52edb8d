-- A text spells one job at most, and none where it has a fault. Cited by the laws that say so.
use Rattle.std.proofs.Common.{◌≡◌, ℕ, List, Err, ap, sym, ◌∙◌}
use Rattle.byte_texts.proofs.Binding.{same_ok}
use Rattle.text_scan.specs.Faults.{Fault}
use Rattle.text_scan.specs.declared.Rest.{Rest}
use Rattle.equation.specs.declared.job.Job.{Job}
use Rattle.job_text.specs.declared.stop.Stop.{Stop}
use Rattle.job_text.specs.SpelledJobs.{Spells, job_in}
use Rattle.job_text.proofs.JobAgain.{spelled_job_is_read}

module _ (bytes : List ℕ) (stop : Stop) (job : Job) (rest : Rest) (spells : Spells bytes stop job rest) where
  pub one_job : (other : Job) (end : Rest) → Spells bytes stop other end → (job ≡ other) × (rest ≡ end)
  one_job other end spelled =
      let same : (job, rest) ≡ (other, end) = same_ok {F = Fault} (job, rest) (other, end) (sym (spelled_job_is_read bytes stop job rest spells) ∙ spelled_job_is_read bytes stop other end spelled) in
      (ap (λ (x : Job × Rest). x.0) same, ap (λ (x : Job × Rest). x.1) same)

  pub no_fault : (fault : Fault) → job_in stop bytes ≡ Err fault → ⊥
  no_fault fault refused = let read = spelled_job_is_read bytes stop job rest spells in cc
