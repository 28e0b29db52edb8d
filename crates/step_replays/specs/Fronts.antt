-- What the blocks are like while steps are gone through, and what the next step needs of them to divide.
use Rattle.std.specs.Prelude.{ℕ, List}
use Rattle.residue_sums.specs.Grids.{Grid, AreResidues}
use Rattle.operation_spec.specs.declared.task.Task.{Task}
use Rattle.equation.specs.declared.job.Job.{Job}
use Rattle.equation.specs.declared.job.Statement.{Statement}
use Rattle.equation.specs.Jobs.{nth_grid}
use Rattle.flash_blocks.specs.Flashes.{HasShape}
use Rattle.block_tasks.specs.Inverses.{HasPivotsBy}
use Rattle.step_replays.specs.declared.step.Step.{Step}
use Rattle.step_replays.specs.Accesses.{operation_of, statement_of, pivot_number, zero_list_by}
use Rattle.step_replays.specs.Replays.{StepResult, nth_step, block_after, blocks_after, known_blocks}

-- the grid is full, has so many rows and columns, and its entries are below m
abbrev pub IsResidueBlock : ℕ → ℕ → ℕ → Grid → Type 0
IsResidueBlock m rows cols g = HasShape rows cols g × AreResidues m g

-- the pivot list of a statement before its test, all zero
abbrev pub zero_list_of : Job → ℕ → Grid
zero_list_of job s = zero_list_by (operation_of job (statement_of job s)).form (nth_grid job.matrices (statement_of job s).bind.work)

-- the blocks as the first n steps leave them have what a task of statement s divides by, whose dimensions have these lengths
abbrev pub TaskFindsPivots : Job → ℕ → List Step → List StepResult → ℕ → (ℕ → ℕ) → ℕ → Task → Type 0
TaskFindsPivots job b steps results n lengths s task = HasPivotsBy job.modulus b (operation_of job (statement_of job s)) lengths
    (known_blocks (blocks_after job b steps results n) (statement_of job s).bind)
    (blocks_after job b steps results n (statement_of job s).bind.work)
    (block_after job b steps results n (pivot_number job b s)) task.kind task.i task.j

-- step n finds what it divides by
abbrev pub FindsPivots : Job → ℕ → List Step → List StepResult → ℕ → (ℕ → ℕ) → Type 0
FindsPivots job b steps results n lengths = TaskFindsPivots job b steps results n lengths (nth_step steps n).statement (nth_step steps n).task

-- the statement that step n belongs to
abbrev pub statement_at : Job → List Step → ℕ → Statement
statement_at job steps n = statement_of job (nth_step steps n).statement
