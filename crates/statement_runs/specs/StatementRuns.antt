-- The block tasks of one statement, done one after another on the blocks of its work matrix, of which some are left out.
use Rattle.std.specs.Prelude.{◌≡◌, ◌≢◌, ◌⊎◌, ℕ, suc, ◌<◌, Bool, true, false, List}
use Rattle.residue_sums.specs.Sums.{part_count}
use Rattle.residue_sums.specs.Grids.{Grid}
use Rattle.operation_spec.specs.declared.operation.Operation.{Operation}
use Rattle.operation_spec.specs.declared.task.Task.{Task}
use Rattle.task_graph.specs.Tasks.{has}
use Rattle.task_graph.specs.Needs.{does_need}
use Rattle.equation.specs.declared.job.Place.{Place}
use Rattle.flash_blocks.specs.Blocks.{Blocks, block_of}
use Rattle.block_tasks.specs.Effects.{AreKnown, SuitsForm, IsEffect, IsBadTask}

-- n steps on the blocks w of a work matrix, some of which ran
pub record IsStatementRun (m b : ℕ) (op : Operation) (knowns : List Grid) (work : Grid) (counts : List ℕ) (n : ℕ) (task : ℕ → Task) (did : ℕ → Bool) (known_at : ℕ → ℕ → Blocks) (w : ℕ → Blocks) : Type 0 where
  -- W's structure is one that the form allows
  pub suits : SuitsForm op op.form
  pub start : (i j : ℕ) → i < part_count work.rows b → j < part_count work.cols b → w 0 i j ≡ block_of b work i j
  pub exists : (p : ℕ) → p < n → has op counts (task p) ≡ true
  pub once : (p q : ℕ) → p < n → q < n → task p ≡ task q → p ≡ q
  pub all : (u : Task) → has op counts u ≡ true → (p : ℕ) × (p < n) × (task p ≡ u)
  pub needs_before : (p q : ℕ) → p < n → q < n → does_need op (task p) (task q) ≡ true → q < p
  -- the blocks of the known matrices, at each step
  pub known_are : (p : ℕ) → p < n → AreKnown b knowns (known_at p)
  pub ran : (p : ℕ) → p < n → did p ≡ true → IsEffect m op (known_at p) (w p) (task p) (w (suc p) (task p).i (task p).j)
  pub idle : (p : ℕ) → p < n → did p ≡ false → (i j : ℕ) → w (suc p) i j ≡ w p i j
  pub elsewhere : (p : ℕ) → p < n → (i j : ℕ) → ((task p).i ≢ i) ⊎ ((task p).j ≢ j) → w (suc p) i j ≡ w p i j

-- no task that ran meets a bad pivot
abbrev pub NoneBad : ℕ → ℕ → Operation → ℕ → (ℕ → Task) → (ℕ → Bool) → (ℕ → Blocks) → Type 0
NoneBad m b op n task did w = (p : ℕ) (place : Place) → p < n → did p ≡ true → IsBadTask m b op (w p) (task p) place → ⊥

-- what a task that ran, or task f, needs ran
abbrev pub IsReady : Operation → ℕ → (ℕ → Task) → (ℕ → Bool) → ℕ → Type 0
IsReady op n task did f = (p r : ℕ) → p < n → r < n → (did p ≡ true) ⊎ (p ≡ f) → does_need op (task p) (task r) ≡ true → did r ≡ true
