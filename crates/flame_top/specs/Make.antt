-- What is due for `make`: the text of the generated job.
use Rattle.std.specs.Prelude.{ℕ, List}
use Rattle.job_text.specs.JobTexts.{job_text}
use Rattle.job_generator.specs.GeneratedJobs.{generated_job}
use Rattle.flame_top.specs.DueTexts.{Says}

abbrev pub DueMake : ℕ → ℕ → ℕ → ℕ → List ℕ → Type 0
DueMake n m seed status text = Says 0 (job_text (generated_job n m seed)) status text
