-- The terms of statements, and the blocks that are stored for blocks of factors.
use Rattle.std.specs.Prelude.{ℕ, ◌-◌, ◌<◌, length, false, slice_index, slice_index_or, if◌then◌else◌}
use Rattle.structure_rules.specs.declared.Stored.{Stored}
use Rattle.structure_rules.specs.Structures.{stored_of}
use Rattle.operation_spec.specs.declared.operation.Factor.{Factor}
use Rattle.operation_spec.specs.declared.operation.Term.{Term}
use Rattle.task_graph.specs.Factors.{known}
use Rattle.step_replays.specs.Accesses.{factor_number, work_number}
use Rattle.job_blocks.specs.BlockedJobs.{BlockedJob, HasBlock, binding_at, operation_at}

abbrev pub no_term : Term
no_term = record { minus = false; first = record { known = 0; primed = false }; second = record { known = 0; primed = false } }

-- terms are numbered from 1
abbrev pub term_at : BlockedJob → ℕ → ℕ → Term
term_at x s t = slice_index_or (operation_at x s).terms (t - 1) no_term

-- the block that is stored for block (i, k) of op(F)
abbrev pub stored_at : BlockedJob → ℕ → Factor → ℕ → ℕ → Stored
stored_at x s f i k = if f.primed then stored_of (known (operation_at x s) f.known).structure k i
    else stored_of (known (operation_at x s) f.known).structure i k

-- op(F) has a block (i, k): its operand is known, and the matrix that it is bound to has the block that is stored for it
pub record HasFactorBlock (x : BlockedJob) (s : ℕ) (f : Factor) (i k : ℕ) : Type 0 where
  pub known : f.known < length (operation_at x s).knowns
  pub bound : f.known < length (binding_at x s).knowns
  pub stored : HasBlock x (slice_index (binding_at x s).knowns f.known) (stored_at x s f i k).row (stored_at x s f i k).col

-- ---- numbers of blocks that a statement names

abbrev pub work_at : BlockedJob → ℕ → ℕ → ℕ → ℕ
work_at x s i j = work_number x.b x.job.matrices (binding_at x s) i j

abbrev pub factor_at : BlockedJob → ℕ → Factor → ℕ → ℕ → ℕ
factor_at x s f i k = factor_number x.b x.job.matrices (operation_at x s) (binding_at x s) f i k
