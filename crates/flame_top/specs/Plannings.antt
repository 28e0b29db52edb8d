-- What the planning of a run says.
use Rattle.std.specs.Prelude.{◌≡◌, ℕ, List}
use Rattle.text_scan.specs.declared.Rest.{Rest}
use Rattle.job_text.specs.declared.stop.Stop.TheVariants.{Nothing}
use Rattle.job_text.specs.SpelledJobs.{Spells}
use Rattle.step_replays.specs.Fits.{FitsJob}
use Rattle.command_words.specs.declared.command.RunWords.{RunWords}
use Rattle.flame_top.specs.declared.run.Planned.{Planned}
use Rattle.flame_top.specs.declared.run.Planned.TheVariants as planned
use Rattle.flame_top.specs.DueTexts.{DueShort}
use Rattle.flame_top.specs.Run.{DueRun}
use Rattle.flame_top.specs.Steps.{CanList, steps_by}

-- the job that the input spells, with its steps by the chosen variants, which fit it, or the refusal that is due
abbrev pub IsPlanned : RunWords → List ℕ → Planned → Type 0
IsPlanned words input (planned.Run job steps) = (rest : Rest) × Spells input Nothing job rest × CanList words.block words.choice job
    × (steps ≡ steps_by job words.block words.choice) × FitsJob job words.block steps
IsPlanned words input (planned.Refused output) = DueShort (DueRun words) input output.status output.text.items
