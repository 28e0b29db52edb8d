-- More verdicts, computed from the definitions and held against those found by hand.
use Rattle.std.proofs.Common.{◌≡◌, ℕ, [], ◌∷◌, refl, Some, None}
use Rattle.operation_spec.specs.declared.task.Kind.TheVariants as kinds
use Rattle.operation_spec.specs.declared.task.Task.{Task}
use Rattle.operation_spec.specs.declared.split.Dirs.{Dirs}
use Rattle.operation_spec.specs.declared.split.Dir.TheVariants.{Forward}
use Rattle.operation_spec.proofs.WorkedOperations.{low, lu}
use Rattle.task_graph.specs.Order.{task_of}
use Rattle.worksheet.specs.declared.sheet.Worksheet.{Worksheet}
use Rattle.worksheet.specs.declared.verdict.Shown.TheVariants as shown
use Rattle.worksheet.specs.declared.verdict.Verdict.TheVariants.{Wrong}
use Rattle.worksheet.specs.declared.verdict.WsPlace.TheVariants as places
use Rattle.worksheet.specs.Worksheets.{worksheet_of}
use Rattle.worksheet_check.specs.Verdicts.{verdict_of}

abbrev solve : ℕ → ℕ → Task
solve i j = task_of kinds.Solve 0 i j 0

abbrev left : ℕ → ℕ → ℕ → Task
left i j k = task_of kinds.Left 0 i j k

abbrev forward : Dirs
forward = record { first = Forward; second = Forward }

-- the last variant of LU
abbrev lu_sheet : Worksheet
lu_sheet = worksheet_of lu (record { first = 0; second = None }) forward (solve 0 0 ∷ solve 0 1 ∷ solve 1 0 ∷ left 1 1 0 ∷ [])

-- an update that no round has
stray : verdict_of lu (record lu_sheet { updates = solve 2 2 ∷ [] }) ≡ Wrong (places.Update 1) (shown.One (solve 2 2)) shown.Nothing
unfolding lu
stray = refl

-- an update that comes a round later, behind one that is due
too_soon : verdict_of lu (record lu_sheet { updates = solve 1 1 ∷ left 2 2 0 ∷ [] }) ≡ Wrong (places.Update 2) (shown.One (left 2 2 0)) shown.Nothing
unfolding lu
too_soon = refl

-- a triangular system along both dimensions, which updates the remaining rows of the remaining columns alone: that of the
-- columns that are done next would be undone
undone : verdict_of low (worksheet_of low (record { first = 0; second = Some 1 }) forward (solve 0 0 ∷ solve 0 1 ∷ left 1 1 0 ∷ []))
    ≡ Wrong places.F4 (shown.One (left 1 1 0)) (shown.One (left 1 0 0))
unfolding low
undone = refl
