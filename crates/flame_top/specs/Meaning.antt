-- What is due for what a job means: a text of the matrices that it leaves, or its first bad pivot.
use Rattle.std.specs.Prelude.{ℕ, ◌⊎◌, List}
use Rattle.residue_sums.specs.Grids.{Grid}
use Rattle.equation.specs.declared.job.Job.{Job}
use Rattle.equation.specs.declared.job.Place.{Place}
use Rattle.equation.specs.Meanings.{Means, MeansBadPivot}
use Rattle.flame_top.specs.DueTexts.{Says}
use Rattle.flame_top.specs.Refusals.{bad_pivot_text}

-- how the matrices that a job leaves are printed
abbrev pub PrintedText : Type 0
PrintedText = List Grid → List ℕ

-- the matrices that the job means are printed
abbrev pub DueResult : Job → PrintedText → ℕ → List ℕ → Type 0
DueResult job printed status text = (after : List Grid) × Means job after × Says 0 (printed after) status text

-- or the first bad pivot that it means is named
abbrev pub DueBadPivot : Job → ℕ → List ℕ → Type 0
DueBadPivot job status text = (number : ℕ) × (place : Place) × MeansBadPivot job number place × Says 4 (bad_pivot_text number place) status text

abbrev pub DueMeaning : Job → PrintedText → ℕ → List ℕ → Type 0
DueMeaning job printed status text = DueResult job printed status text ⊎ DueBadPivot job status text
