-- The tasks that can meet no bad pivot: updates, solves of the forms that find no factors, and solves off the diagonal.
use Rattle.std.proofs.Common.{◌≡◌, ◌≢◌, ℕ, refl}
use Rattle.operation_spec.specs.declared.operation.Form.{Form}
use Rattle.operation_spec.specs.declared.operation.Form.TheVariants.{Assign, Left, Right, Sylvester, Lu, Ldl}
use Rattle.operation_spec.specs.declared.task.Kind.{Kind}
use Rattle.operation_spec.specs.declared.task.Kind.TheVariants as kinds
use Rattle.equation.specs.declared.job.Place.{Place}
use Rattle.flash_blocks.specs.Blocks.{Blocks}
use Rattle.block_tasks.specs.Effects.{bad_by, bad_factor}
use Rattle.block_kernels.specs.declared.block_task.BlockTask.{BlockTask}
use Rattle.block_kernels.specs.Outcomes.{HasNoBadPivot}

-- the form finds factors, which a kernel may find impossible
abbrev pub FindsFactors : Form → Type 0
FindsFactors Lu = Unit {0}
FindsFactors Ldl = Unit {0}
FindsFactors form = ⊥

module _ (m b : ℕ) (work : Blocks) (i j : ℕ) (place : Place) where
  update_bad : (form : Form) (kind : Kind) → kind ≢ kinds.Solve → ¬ (bad_by m b form work kind i j place)
  update_bad form kinds.Solve other bad = other refl
  update_bad form kinds.Pivots other bad = bad
  update_bad form kinds.Term other bad = bad
  update_bad form kinds.Left other bad = bad
  update_bad form kinds.Right other bad = bad

  solve_bad : (form : Form) → ¬ (FindsFactors form) → ¬ (bad_factor m b form work i j place)
  solve_bad Lu none bad = none tt
  solve_bad Ldl none bad = none tt
  solve_bad Assign none bad = bad
  solve_bad (Left t) none bad = bad
  solve_bad (Right u) none bad = bad
  solve_bad (Sylvester t u negative) none bad = bad

  apart_bad : (form : Form) → i ≢ j → ¬ (bad_factor m b form work i j place)
  apart_bad Lu apart bad = apart bad.0
  apart_bad Ldl apart bad = apart bad.0
  apart_bad Assign apart bad = bad
  apart_bad (Left t) apart bad = bad
  apart_bad (Right u) apart bad = bad
  apart_bad (Sylvester t u negative) apart bad = bad

module _ (t : BlockTask) (work : Blocks) where
  pub update_has_none : t.task.kind ≢ kinds.Solve → HasNoBadPivot t work
  update_has_none other place = update_bad t.m t.b work t.task.i t.task.j place t.op.now.form t.task.kind other

  pub solve_has_none : t.task.kind ≡ kinds.Solve → ¬ (FindsFactors t.op.now.form) → HasNoBadPivot t work
  solve_has_none kind none place bad = solve_bad t.m t.b work t.task.i t.task.j place t.op.now.form none (rw kind at bad)

  pub apart_has_none : t.task.kind ≡ kinds.Solve → t.task.i ≢ t.task.j → HasNoBadPivot t work
  apart_has_none kind apart place bad = apart_bad t.m t.b work t.task.i t.task.j place t.op.now.form apart (rw kind at bad)
