-- Marks of blocks, by their numbers: which ones steps that failed or were skipped write, and which ones they read.
use Rattle.std.specs.Prelude.{◌≡◌, ◌↔◌, ℕ, ◌<◌, List, [], ◌∷◌, length, slice_index_or, slice_set, Bool, true, false, ◌||◌, IsTrue}
use Rattle.dependence_queue.specs.declared.access.Access.{Access}
use Rattle.dependence_queue.specs.Conflicts.{has_number}
use Rattle.step_replays.specs.declared.step.Step.{Step}
use Rattle.step_replays.specs.Replays.{StepResult, IsStop, nth_access, nth_result}

-- ---- marks as lists

abbrev pub is_marked : List Bool → ℕ → Bool
is_marked marks x = slice_index_or marks x false

abbrev pub has_marked : List Bool → List ℕ → Bool
has_marked marks [] = false
has_marked marks (x ∷ xs) = is_marked marks x || has_marked marks xs

abbrev pub all_marked : List ℕ → List Bool → List Bool
all_marked [] marks = marks
all_marked (x ∷ xs) marks = all_marked xs (slice_set marks x true)

-- an access meets a mark: it writes a block that is marked, or reads one that is marked as written
abbrev pub meets : List Bool → List Bool → Access → Bool
meets written read a = is_marked written a.write || (is_marked read a.write || has_marked written a.reads)

-- ---- what they say

module _ (steps : List Step) (results : List StepResult) (n x : ℕ) where
  -- a step among the first n that failed or was skipped writes block x
  abbrev pub IsLost : Type 0
  IsLost = (q : ℕ) × (q < n) × IsStop (nth_result results q) × ((nth_access steps q).write ≡ x)

  -- or reads it
  abbrev pub IsReadByStop : Type 0
  IsReadByStop = (q : ℕ) × (q < n) × IsStop (nth_result results q) × IsTrue (has_number (nth_access steps q).reads x)

-- the marks of the first n steps, for so many blocks
pub record AreMarks (steps : List Step) (results : List StepResult) (n total : ℕ) (written read : List Bool) : Type 0 where
  pub written_count : length written ≡ total
  pub read_count : length read ≡ total
  pub written_are : (x : ℕ) → x < total → IsTrue (is_marked written x) ↔ IsLost steps results n x
  pub read_are : (x : ℕ) → x < total → IsTrue (is_marked read x) ↔ IsReadByStop steps results n x
