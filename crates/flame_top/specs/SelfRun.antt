-- What is due for `selfrun`: a refusal of the steps of the generated job by first variants, or else a summary of the matrices that it means,
-- or its first bad pivot.
use Rattle.std.specs.Prelude.{ℕ, List, length}
use Rattle.equation.specs.declared.job.Job.{Job}
use Rattle.issue_list.specs.declared.choice.Choice.TheVariants.{First}
use Rattle.job_generator.specs.GeneratedJobs.{generated_job}
use Rattle.variant_report.specs.declared.self_words.SelfWords.{SelfWords}
use Rattle.variant_report.specs.SummaryTexts.{summary_text}
use Rattle.flame_top.specs.Meaning.{DueMeaning, PrintedText}
use Rattle.flame_top.specs.Steps.{DueBySteps, steps_by}

-- the job that the words ask for
abbrev pub job_of : SelfWords → Job
job_of words = generated_job words.n words.m words.seed

-- the summary of a job's matrices, with the number of its steps
abbrev pub self_text : SelfWords → Job → PrintedText
self_text words job after = summary_text job words (length (steps_by job words.block First)) after

-- for a job
abbrev pub DueSummary : SelfWords → Job → ℕ → List ℕ → Type 0
DueSummary words job = DueBySteps words.block First job (DueMeaning job (self_text words job))

abbrev pub DueSelfRun : SelfWords → ℕ → List ℕ → Type 0
DueSelfRun words = DueSummary words (job_of words)
