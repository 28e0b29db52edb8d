-- What a listing of a job's steps says.
use Rattle.std.specs.Prelude.{◌≡◌, ℕ}
use Rattle.equation.specs.declared.job.Job.{Job}
use Rattle.step_replays.specs.Fits.{FitsJob}
use Rattle.issue_list.specs.declared.choice.Choice.{Choice}
use Rattle.flame_top.specs.declared.steps.Listing.{Listing}
use Rattle.flame_top.specs.declared.steps.Listing.TheVariants.{Refused, Steps}
use Rattle.flame_top.specs.Steps.{CanList, DueRefused, steps_by}

-- the steps by the chosen variants, which fit the job, or the refusal that is due
abbrev pub IsListing : ℕ → Choice → Job → Listing → Type 0
IsListing b choice job (Steps steps) = CanList b choice job × (steps ≡ steps_by job b choice) × FitsJob job b steps
IsListing b choice job (Refused output) = DueRefused b choice job output.status output.text.items
