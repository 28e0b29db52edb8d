-- Worksheets of small operations, computed from the definitions and held against sheets filled in by hand.
use Rattle.std.proofs.Common.{◌≡◌, ℕ, List, [], ◌∷◌, refl, None, true, false}
use Rattle.operation_spec.specs.declared.task.Kind.TheVariants as kinds
use Rattle.operation_spec.specs.declared.task.Task.{Task}
use Rattle.operation_spec.specs.declared.split.Split.{Split}
use Rattle.operation_spec.specs.declared.split.Dirs.{Dirs}
use Rattle.operation_spec.specs.declared.split.Dir.TheVariants.{Forward, Backward}
use Rattle.operation_spec.proofs.WorkedOperations.{lu, low}
use Rattle.task_graph.specs.Order.{task_of}
use Rattle.worksheet.specs.declared.sheet.State.{State}
use Rattle.worksheet.specs.Worksheets.{worksheet_of}

solve : ℕ → ℕ → Task
solve i j = task_of kinds.Solve 0 i j 0

left : ℕ → ℕ → ℕ → Task
left i j k = task_of kinds.Left 0 i j k

along_n : Split
along_n = record { first = 0; second = None }

forward : Dirs
forward = record { first = Forward; second = Forward }

line : ℕ → ℕ → List Task → State
line i j done = record { row = i; col = j; done = done }

-- the last variant of LU, by the rows and columns of the middle part
lu_kept : List Task
lu_kept = solve 0 0 ∷ solve 0 1 ∷ solve 1 0 ∷ left 1 1 0 ∷ []

lu_sheet : worksheet_of lu along_n forward lu_kept ≡ record {
  operation = lu.name;
  split = along_n;
  dirs = forward;
  invariant = lu_kept;
  guard = 0 ∷ [];
  start = record { dim = 0; last = false } ∷ [];
  take = record { dim = 0; last = false } ∷ [];
  before = line 0 0 (solve 0 0 ∷ []) ∷ line 0 1 (solve 0 1 ∷ []) ∷ line 0 2 (solve 0 2 ∷ [])
      ∷ line 1 0 (solve 1 0 ∷ []) ∷ line 1 1 (left 1 1 0 ∷ []) ∷ line 1 2 (left 1 2 0 ∷ [])
      ∷ line 2 0 (solve 2 0 ∷ []) ∷ line 2 1 (left 2 1 0 ∷ []) ∷ line 2 2 (left 2 2 0 ∷ []) ∷ [];
  updates = solve 1 1 ∷ solve 1 2 ∷ solve 2 1 ∷ left 2 2 1 ∷ [];
  give = record { dim = 0; last = false } ∷ [];
  after = line 0 0 (solve 0 0 ∷ []) ∷ line 0 1 (solve 0 1 ∷ []) ∷ line 0 2 (solve 0 2 ∷ [])
      ∷ line 1 0 (solve 1 0 ∷ []) ∷ line 1 1 (left 1 1 0 ∷ solve 1 1 ∷ []) ∷ line 1 2 (left 1 2 0 ∷ solve 1 2 ∷ [])
      ∷ line 2 0 (solve 2 0 ∷ []) ∷ line 2 1 (left 2 1 0 ∷ solve 2 1 ∷ []) ∷ line 2 2 (left 2 2 0 ∷ left 2 2 1 ∷ []) ∷ [];
}
unfolding lu solve left along_n forward line lu_kept
lu_sheet = refl

-- the columns of the solution from the last one on
along_m : Split
along_m = record { first = 1; second = None }

backward : Dirs
backward = record { first = Backward; second = Forward }

low_sheet : worksheet_of low along_m backward (solve 0 1 ∷ []) ≡ record {
  operation = low.name;
  split = along_m;
  dirs = backward;
  invariant = solve 0 1 ∷ [];
  guard = 1 ∷ [];
  start = record { dim = 1; last = true } ∷ [];
  take = record { dim = 1; last = true } ∷ [];
  before = line 0 0 [] ∷ line 0 1 [] ∷ line 0 2 (solve 0 2 ∷ []) ∷ [];
  updates = solve 0 1 ∷ [];
  give = record { dim = 1; last = true } ∷ [];
  after = line 0 0 [] ∷ line 0 1 (solve 0 1 ∷ []) ∷ line 0 2 (solve 0 2 ∷ []) ∷ [];
}
unfolding low solve along_m backward line
low_sheet = refl
