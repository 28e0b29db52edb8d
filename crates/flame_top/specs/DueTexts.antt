-- What is due for an input that is read as a job alone, by what is due for the job.
use Rattle.std.specs.Prelude.{◌≡◌, ℕ, ◌⊎◌, List, Err}
use Rattle.text_scan.specs.declared.Rest.{Rest}
use Rattle.text_scan.specs.Faults.{Fault}
use Rattle.equation.specs.declared.job.Job.{Job}
use Rattle.job_text.specs.declared.stop.Stop.TheVariants.{Nothing}
use Rattle.job_text.specs.SpelledJobs.{Spells, job_in}
use Rattle.flame_top.specs.Refusals.{refusal_text}

-- the status and the text are these
abbrev pub Says : ℕ → List ℕ → ℕ → List ℕ → Type 0
Says due_status due_text status text = (status ≡ due_status) × (text ≡ due_text)

-- the first fault of an input that is no text of a job
abbrev pub DueFault : List ℕ → ℕ → List ℕ → Type 0
DueFault input status text = (fault : Fault) × (job_in Nothing input ≡ Err fault) × Says 3 (refusal_text fault) status text

-- for an input that is read as a job alone: what is due for the job that it spells, or the input's fault
abbrev pub DueShort : (Job → ℕ → List ℕ → Type 0) → List ℕ → ℕ → List ℕ → Type 0
DueShort due input status text = ((job : Job) × (rest : Rest) × Spells input Nothing job rest × due job status text) ⊎ DueFault input status text
