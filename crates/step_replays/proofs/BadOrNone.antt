-- Whether a step is stopped, and whether it meets a bad pivot, can be told from what the steps before it left. Cited where a step has an outcome.
use Rattle.std.proofs.Common.{ℕ, ◌+◌, ◌*◌, ◌<◌, ◌≤◌, ◌⊎◌, inl, inr, Bool, true, false, List, refl, arith}
use Rattle.std.specs.Prelude.{IsTrue}
use Rattle.std.proofs.lemmas.Bool.{cases_eq, false≢true}
use Rattle.residue_sums.specs.Tables.{Table}
use Rattle.residue_sums.specs.Grids.{AreResidues, entry}
use Rattle.operation_spec.specs.declared.operation.Operation.{Operation}
use Rattle.operation_spec.specs.declared.operation.Form.{Form}
use Rattle.operation_spec.specs.declared.operation.Form.TheVariants.{Assign, Left, Right, Sylvester, Lu, Ldl}
use Rattle.operation_spec.specs.declared.task.Kind.{Kind}
use Rattle.operation_spec.specs.declared.task.Kind.TheVariants as kinds
use Rattle.operation_spec.specs.declared.task.Task.{Task}
use Rattle.equation.specs.declared.job.Job.{Job}
use Rattle.equation.specs.declared.job.Statement.{Statement}
use Rattle.equation.specs.Jobs.{nth_grid}
use Rattle.equation.specs.Kernels.{combined}
use Rattle.equation.specs.Pivots.{IsBadForLdl, IsBadForLu, IsFirstByRows, IsFirstOnDiagonal}
use Rattle.equation.proofs.AssignedGrids.{HasResidues-entry}
use Rattle.equation.proofs.FirstNumbers.{first_or_none}
use Rattle.equation.proofs.NextFactors.{bad_for_ldl_or_not, bad_for_lu_or_not}
use Rattle.equation.proofs.PivotDecisions.{PlaceOrNone}
use Rattle.equation.proofs.UnitPivots.{bad_by_rows_or_units, bad_on_diagonal_or_units}
use Rattle.flash_blocks.specs.Blocks.{Blocks}
use Rattle.dependence_queue.specs.Conflicts.{conflicts}
use Rattle.block_tasks.specs.Effects.{IsBadDiagonal, block_diagonal, bad_factor, bad_pivots}
use Rattle.step_replays.specs.declared.step.Step.{Step}
use Rattle.step_replays.specs.Accesses.{operation_of}
use Rattle.step_replays.specs.Replays.{StepResult, Ran, Skipped, Failed, nth_access, nth_result, known_blocks, IsStop, IsStopped, bad_step_by, IsBadStep}

-- ---- stopped or not

stop-or_not : (x : StepResult) → IsStop x ⊎ ¬ (IsStop x)
stop-or_not (Ran v) = inr (λ stop. stop)
stop-or_not Skipped = inl tt
stop-or_not (Failed place) = inl tt

true-or_not : (t : Bool) → IsTrue t ⊎ ¬ (IsTrue t)
true-or_not true = inl refl
true-or_not false = inr (λ h. false≢true h)

pub stopped-or_not : (job : Job) (b : ℕ) (steps : List Step) (results : List StepResult) (s : ℕ) → IsStopped job b steps results s ⊎ ¬ (IsStopped job b steps results s)
stopped-or_not job b steps results s = elim (first_or_none Stops tell s) [
  | inl found ↦ inl (found.number, found.within, found.such.0, found.such.1)
  | inr none ↦ inr (λ stopped. none stopped.0 stopped.1 (stopped.2, stopped.3))
]
  where
    Stops : ℕ → Type 0
    Stops q = IsStop (nth_result results q) × IsTrue (conflicts (nth_access steps q) (nth_access steps s))

    tell : (q : ℕ) → ((p : ℕ) → p < q → ¬ (Stops p)) → Stops q ⊎ ¬ (Stops q)
    tell q earlier = elim (stop-or_not (nth_result results q)) [
      | inr ran ↦ inr (λ h. ran h.0)
      | inl stop ↦ elim (true-or_not (conflicts (nth_access steps q) (nth_access steps s))) [
        | inl conflict ↦ inl (stop, conflict)
        | inr free ↦ inr (λ h. free h.1)
      ]
    ]

-- ---- a bad pivot or none

on-diagonal : (m n : ℕ) → 2 ≤ m → (pivot : ℕ → ℕ) → PlaceOrNone (IsFirstOnDiagonal m n pivot)
on-diagonal m n two pivot = elim (bad_on_diagonal_or_units m two n pivot) [
  | inl found ↦ inl found
  | inr units ↦ inr (λ place is. is.bad (units place.row is.within))
]

by-rows : (m rows cols : ℕ) → 2 ≤ m → (pivot : Table) → PlaceOrNone (IsFirstByRows m rows cols pivot)
by-rows m rows cols two pivot = elim (bad_by_rows_or_units m two rows cols pivot) [
  | inl found ↦ inl found
  | inr units ↦ inr (λ place is. is.bad (units place.row place.col is.row is.col))
]

pivots-or_none : (m b : ℕ) → 2 ≤ m → (op : Operation) (knowns : ℕ → Blocks) (rows cols : ℕ) (form : Form) → PlaceOrNone (bad_pivots m b op knowns rows cols form)
pivots-or_none m b two op knowns rows cols Assign = inr (λ place bad. bad)
pivots-or_none m b two op knowns rows cols Lu = inr (λ place bad. bad)
pivots-or_none m b two op knowns rows cols Ldl = inr (λ place bad. bad)
pivots-or_none m b two op knowns rows cols (Left t) = on-diagonal m rows two (λ q. block_diagonal b op knowns t q q)
pivots-or_none m b two op knowns rows cols (Right u) = on-diagonal m cols two (λ q. block_diagonal b op knowns u q q)
pivots-or_none m b two op knowns rows cols (Sylvester t u negative) =
    by-rows m rows cols two (combined m negative (λ i j. block_diagonal b op knowns t i i) (λ i j. block_diagonal b op knowns u j j))

-- of a factorisation of block (i, j), where it can be told of each place whether it is the first bad one
diagonal-or_none : (IsBad : Table → ℕ → Type 0) (b : ℕ) (work : Blocks) (i j : ℕ)
    → ((k : ℕ) → ((q : ℕ) → q < k → ¬ (IsBad (entry (work i j)) q)) → IsBad (entry (work i j)) k ⊎ ¬ (IsBad (entry (work i j)) k))
    → PlaceOrNone (IsBadDiagonal IsBad b work i j)
diagonal-or_none IsBad b work i j tell = elim (cases_eq i j) [
  | inr apart ↦ inr (λ place bad. apart bad.0)
  | inl same ↦ elim (first_or_none (IsBad (entry (work i j))) tell (work i j).rows) [
    | inl found ↦ inl (record { row = i * b + found.number; col = i * b + found.number }, (same, refl, (found.number, refl, found.within, found.such)))
    | inr none ↦ inr (λ place bad. none bad.2.0 bad.2.2 bad.2.3)
  ]
]

factor-or_none : (m b : ℕ) → 2 ≤ m → (form : Form) (work : Blocks) (i j : ℕ) → AreResidues m (work i j) → PlaceOrNone (bad_factor m b form work i j)
factor-or_none m b two Assign work i j residues = inr (λ place bad. bad)
factor-or_none m b two (Left t) work i j residues = inr (λ place bad. bad)
factor-or_none m b two (Right u) work i j residues = inr (λ place bad. bad)
factor-or_none m b two (Sylvester t u negative) work i j residues = inr (λ place bad. bad)
factor-or_none m b two Lu work i j residues =
    diagonal-or_none (IsBadForLu m) b work i j (bad_for_lu_or_not m two (entry (work i j)) (HasResidues-entry m (work i j) (omega (arith, two)) residues))
factor-or_none m b two Ldl work i j residues =
    diagonal-or_none (IsBadForLdl m) b work i j (bad_for_ldl_or_not m two (entry (work i j)) (HasResidues-entry m (work i j) (omega (arith, two)) residues))

pub bad-or_none : (job : Job) (b : ℕ) → 2 ≤ job.modulus → (blocks : ℕ → Blocks) (s : Statement) (u : Task) → AreResidues job.modulus (blocks s.bind.work u.i u.j)
    → PlaceOrNone (IsBadStep job b blocks s u)
bad-or_none job b two blocks s u residues = by_kind u.kind
  where
    by_kind : (kind : Kind) → PlaceOrNone (λ place. bad_step_by job b blocks s kind u place)
    by_kind kinds.Pivots = pivots-or_none job.modulus b two (operation_of job s) (known_blocks blocks s.bind) (nth_grid job.matrices s.bind.work).rows (nth_grid job.matrices s.bind.work).cols
        (operation_of job s).form
    by_kind kinds.Term = inr (λ place bad. bad)
    by_kind kinds.Left = inr (λ place bad. bad)
    by_kind kinds.Right = inr (λ place bad. bad)
    by_kind kinds.Solve = factor-or_none job.modulus b two (operation_of job s).form (blocks s.bind.work) u.i u.j residues
