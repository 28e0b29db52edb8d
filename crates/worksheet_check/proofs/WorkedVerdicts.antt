-- Verdicts of worksheets of LU, computed from the definitions and held against those found by hand.
use Rattle.std.proofs.Common.{◌≡◌, ℕ, List, [], ◌∷◌, ◌++◌, refl, None}
use Rattle.operation_spec.specs.declared.task.Kind.TheVariants as kinds
use Rattle.operation_spec.specs.declared.task.Task.{Task}
use Rattle.operation_spec.specs.declared.split.Split.{Split}
use Rattle.operation_spec.specs.declared.split.Dirs.{Dirs}
use Rattle.operation_spec.specs.declared.split.Dir.TheVariants.{Forward}
use Rattle.operation_spec.proofs.WorkedOperations.{lu}
use Rattle.task_graph.specs.Order.{task_of}
use Rattle.worksheet.specs.declared.sheet.Worksheet.{Worksheet}
use Rattle.worksheet.specs.declared.verdict.Shown.TheVariants as shown
use Rattle.worksheet.specs.declared.verdict.Verdict.TheVariants.{Right, Wrong}
use Rattle.worksheet.specs.declared.verdict.WsPlace.TheVariants as places
use Rattle.worksheet.specs.Worksheets.{worksheet_of}
use Rattle.worksheet_check.specs.Verdicts.{verdict_of}

abbrev solve : ℕ → ℕ → Task
solve i j = task_of kinds.Solve 0 i j 0

abbrev left : ℕ → ℕ → ℕ → Task
left i j k = task_of kinds.Left 0 i j k

abbrev along_n : Split
along_n = record { first = 0; second = None }

abbrev forward : Dirs
forward = record { first = Forward; second = Forward }

-- the last variant of LU, by the rows and columns of the middle part
abbrev kept : List Task
kept = solve 0 0 ∷ solve 0 1 ∷ solve 1 0 ∷ left 1 1 0 ∷ []

abbrev sheet : Worksheet
sheet = worksheet_of lu along_n forward kept

made : verdict_of lu sheet ≡ Right
unfolding lu
made = refl

-- the last two updates exchanged
exchanged : verdict_of lu (record sheet { updates = solve 1 1 ∷ solve 1 2 ∷ left 2 2 1 ∷ solve 2 1 ∷ [] })
    ≡ Wrong (places.Update 3) (shown.One (left 2 2 1)) (shown.One (solve 2 1))
unfolding lu
exchanged = refl

-- an update twice, and one missing
repeated : verdict_of lu (record sheet { updates = solve 1 1 ∷ solve 1 1 ∷ [] }) ≡ Wrong (places.Update 2) (shown.One (solve 1 1)) shown.Nothing
unfolding lu
repeated = refl

missing : verdict_of lu (record sheet { updates = solve 1 1 ∷ solve 1 2 ∷ solve 2 1 ∷ [] }) ≡ Wrong (places.Update 4) shown.Nothing (shown.One (left 2 2 1))
unfolding lu
missing = refl

-- other invariants
needing : verdict_of lu (record sheet { invariant = solve 0 0 ∷ left 1 1 0 ∷ [] }) ≡ Wrong places.F1 (shown.One (left 1 1 0)) (shown.One (solve 0 1))
unfolding lu
needing = refl

remaining : verdict_of lu (record sheet { invariant = kept ++ solve 1 1 ∷ [] }) ≡ Wrong places.F2 (shown.One (solve 1 1)) shown.Nothing
unfolding lu
remaining = refl

unordered : verdict_of lu (record sheet { invariant = solve 0 1 ∷ solve 0 0 ∷ [] }) ≡ Wrong places.Order (shown.One (solve 0 0)) shown.Nothing
unfolding lu
unordered = refl

-- a line of the state after that is missing
short : verdict_of lu (record sheet { after = [] })
    ≡ Wrong (places.After 1) shown.Nothing (shown.Line record { row = 0; col = 0; done = solve 0 0 ∷ [] })
unfolding lu
short = refl
