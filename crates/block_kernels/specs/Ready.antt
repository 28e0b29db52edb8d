-- What whoever has a block task done has to show: which blocks stand where, and of which sizes they are.
use Rattle.std.specs.Prelude.{◌≡◌, ℕ, ◌+◌, ◌^◌, ◌<◌, ◌≤◌, List, length, map, All, IsTrue}
use Rattle.residue_sums.specs.Sums.{part_count, part_length}
use Rattle.residue_sums.specs.Grids.{Grid, AreResidues}
use Rattle.operation_spec.specs.declared.operation.Operation.{Operation}
use Rattle.operation_spec.specs.ValidOperations.{IsValid}
use Rattle.task_graph.specs.Factors.{known}
use Rattle.task_graph.specs.Tasks.{has, parts_of}
use Rattle.equation.specs.Jobs.{nth_grid}
use Rattle.flash_blocks.specs.Blocks.{Blocks}
use Rattle.block_tasks.specs.Inverses.{HasPivotsBy}
use Rattle.block_kernels.specs.declared.block_task.BlockTask.{BlockTask}
use Rattle.block_kernels.specs.ReadGrids.{blocks_read}

-- the grids that the task reads, out of its store
abbrev pub grids_of : BlockTask → List Grid
grids_of t = map (nth_grid t.store) t.reads.now

-- under block size b these are blocks of a matrix of so many rows and columns
abbrev pub HaveParts : ℕ → ℕ → ℕ → Blocks → Type 0
HaveParts b rows cols blocks = (i j : ℕ) → i < part_count rows b → j < part_count cols b
    → ((blocks i j).rows ≡ part_length rows b i) × ((blocks i j).cols ≡ part_length cols b j)

-- the operation is valid, and the blocks of its known matrices have the sizes that the lengths of its dimensions give them; W has fewer
-- than 2^32 rows, so that a row of a block has a number in the whole matrix
pub record HasKnowns (b : ℕ) (op : Operation) (lengths : ℕ → ℕ) (knowns : ℕ → Blocks) : Type 0 where
  pub valid : IsValid op
  pub positive : 0 < b
  pub few : lengths op.work.rows < 2 ^ 32
  pub parts : (k : ℕ) → k < length op.knowns → HaveParts b (lengths (known op k).rows) (lengths (known op k).cols) (knowns k)

-- the numbers of the blocks that are read are numbers of the store, which holds residues
pub record IsStored (t : BlockTask) : Type 0 where
  pub inside : All (λ x. x < length t.store) t.reads.now
  pub residues : All (AreResidues t.m) t.store

-- ---- block tasks

-- a block task of an operation, the blocks of whose known matrices and of W are these, and which is to change the block g
pub record IsReady (t : BlockTask) (knowns : ℕ → Blocks) (work : Blocks) (g : Grid) : Type 0 where
  pub lengths : ℕ → ℕ
  pub has_knowns : HasKnowns t.b t.op.now lengths knowns
  pub work_parts : HaveParts t.b (lengths t.op.now.work.rows) (lengths t.op.now.work.cols) work
  -- the task is one of the operation's, whose dimensions are cut into these counts of parts
  pub counts : List ℕ
  pub counts_are : (d : ℕ) → d < length t.op.now.dims → parts_of counts d ≡ part_count (lengths d) t.b
  pub exists : IsTrue (has t.op.now counts t.task)
  -- its block is W's, and what it reads are the blocks named in its effect, with the pivot list of its statement
  pub block : g ≡ work t.task.i t.task.j
  pub residues : AreResidues t.m g
  pub stored : IsStored t
  pub list : Grid
  pub reads : grids_of t ≡ blocks_read t.op.now knowns work list t.task
  pub pivots : HasPivotsBy t.m t.b t.op.now lengths knowns work list t.task.kind t.task.i t.task.j

-- the list is read at a place, and has a block of so many rows and columns from a row and a column on
pub record HasListPart (t : BlockTask) (at row col rows cols : ℕ) : Type 0 where
  pub read : at < length t.reads.now
  pub rows_in : row + rows ≤ (nth_grid (grids_of t) at).rows
  pub cols_in : col + cols ≤ (nth_grid (grids_of t) at).cols

-- there are such blocks
pub record CanApply (t : BlockTask) (g : Grid) : Type 0 where
  pub knowns : ℕ → Blocks
  pub work : Blocks
  pub ready : IsReady t knowns work g
