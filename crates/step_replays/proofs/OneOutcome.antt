-- A step has one outcome at most, by what the steps before it left. Cited where replays are one.
use Rattle.std.proofs.Common.{◌≡◌, ◌≢◌, ℕ, suc, ◌<◌, ◌≤◌, inl, inr, true, length, refl, sym, ◌∙◌, ap, subst, arith}
use Rattle.std.specs.Prelude.{slice_index}
use Rattle.std.proofs.lemmas.Bool.{and_parts, false≢true}
use Rattle.std.proofs.lemmas.List.{get_or_past}
use Rattle.std.proofs.lemmas.List.Elements.{All-get_or}
use Rattle.std.proofs.lemmas.Bool.{cases_lt}
use Rattle.residue_sums.specs.Sums.{part_length}
use Rattle.residue_sums.specs.Grids.{Grid, AreResidues}
use Rattle.operation_spec.specs.declared.operation.Operation.{Operation}
use Rattle.operation_spec.specs.declared.operation.Form.{Form}
use Rattle.operation_spec.specs.declared.operation.Form.TheVariants.{Assign, Left, Right, Sylvester, Lu, Ldl}
use Rattle.operation_spec.specs.declared.task.Kind.{Kind}
use Rattle.operation_spec.specs.declared.task.Kind.TheVariants as kinds
use Rattle.operation_spec.specs.declared.task.Task.{Task}
use Rattle.task_graph.specs.Tasks.{has, has_task, is_work_block}
use Rattle.task_graph.specs.Needs.{factors_diagonal}
use Rattle.task_graph.proofs.WorkBlocks.{lower-block}
use Rattle.equation.specs.declared.job.Place.{Place}
use Rattle.equation.specs.Jobs.{nth_grid}
use Rattle.equation.proofs.ValidForms.{lu-square, ldl-square, ldl-lower}
use Rattle.flash_blocks.specs.Blocks.{Blocks}
use Rattle.block_tasks.specs.Inverses.{HasPivotsBy}
use Rattle.step_replays.specs.Accesses.{statement_of, pivot_number}
use Rattle.step_replays.specs.Replays.{StepResult, Ran, Skipped, Failed, known_blocks, pivots_task, bad_step_by, step_value_by, IsBadStep, IsStepValue}
use Rattle.step_replays.specs.Fits.{IsTaskOf}
use Rattle.step_replays.proofs.Numbers.{IsBlock}
use Rattle.step_replays.proofs.ReplayBlocks.{block-kind, shape, task-block, residues-at}
use Rattle.step_replays.proofs.BlockPivots.{IsSolvable}
use Rattle.step_replays.proofs.FoundPivots.{pivots-found}
use Rattle.step_replays.proofs.OneBadStep.{one-bad_step}
use Rattle.step_replays.proofs.OneEffect.{one-effect, one-pivots}
use Rattle.step_replays.proofs.JobReplays.{JobReplay, own_valid, own_fits, two, step_at, block_at, blocks_at, IsResultAt, IsStoppedAt, own_statement, own_operation, own_binding, own_counts}

module _ (replay : JobReplay) (s t : ℕ) (s_in : s < length replay.steps) (own : (step_at replay s).statement ≡ suc t) (t_in : t < length replay.job.statements) where
  abbrev op : Operation
  op = own_operation replay t

  abbrev m : ℕ
  m = replay.job.modulus

  abbrev task : Task
  task = (step_at replay s).task

  abbrev knowns : ℕ → Blocks
  knowns = known_blocks (blocks_at replay s) (own_binding replay t)

  abbrev work : Blocks
  work = blocks_at replay s (own_binding replay t).work

  abbrev list : Grid
  list = block_at replay s (pivot_number replay.job replay.b (suc t))

  le : s ≤ length replay.steps
  le = omega (arith, s_in)

  -- the work matrix of a factorisation is square
  square-matrix : factors_diagonal op.form ≡ true → (nth_grid replay.job.matrices (own_binding replay t).work).rows ≡ (nth_grid replay.job.matrices (own_binding replay t).work).cols
  square-matrix factors = by_form op.form refl factors
    where
      by_form : (form : Form) → op.form ≡ form → factors_diagonal form ≡ true
          → (nth_grid replay.job.matrices (own_binding replay t).work).rows ≡ (nth_grid replay.job.matrices (own_binding replay t).work).cols
      by_form Assign e h = absurd (false≢true h)
      by_form (Left f) e h = absurd (false≢true h)
      by_form (Right f) e h = absurd (false≢true h)
      by_form (Sylvester f g negative) e h = absurd (false≢true h)
      by_form Lu e h = lu-square op (own_valid replay t t_in) (own_fits replay t t_in).lengths (nth_grid replay.job.matrices (own_binding replay t).work) (own_fits replay t t_in).work e
      by_form Ldl e h = ldl-square op (own_valid replay t t_in) (own_fits replay t t_in).lengths (nth_grid replay.job.matrices (own_binding replay t).work) (own_fits replay t t_in).work e

  known-residues : (k p q : ℕ) → AreResidues m (knowns k p q)
  known-residues k p q = residues-at replay s (slice_index (own_binding replay t).knowns k) p q le (elim (cases_lt k (length (own_binding replay t).knowns)) [
    | inl known ↦ All-get_or (λ (k : ℕ). k < length replay.job.matrices) (own_binding replay t).knowns k 0 known (own_fits replay t t_in).knowns_in
    | inr past ↦ (let none : slice_index (own_binding replay t).knowns k ≡ 0 = get_or_past (own_binding replay t).knowns k 0 past in
        let some = (own_fits replay t t_in).work_in in omega arith)
  ])

  pub solvable : has (own_operation replay t) (own_counts replay t) (step_at replay s).task ≡ true
      → IsSolvable replay.job.modulus (own_operation replay t) (known_blocks (blocks_at replay s) (own_binding replay t)) (blocks_at replay s (own_binding replay t).work) (step_at replay s).task.i (step_at replay s).task.j
  solvable block =
      let there = task-block replay t task t_in block in
      let w : ℕ = (own_binding replay t).work in
      record {
        residues = known-residues;
        square = λ factors.
            let sizes = square-matrix factors in
            let diagonal : IsBlock replay.b replay.job.matrices w task.j task.j = (there.0, rw sizes there.2, there.2) in
            (shape replay s w task.i task.j le there).cols ∙ ap (λ (n : ℕ). part_length n replay.b task.j) (sym sizes) ∙ sym (shape replay s w task.j task.j le diagonal).rows;
        low = λ form. lower-block op (own_counts replay t) task.i task.j (ldl-lower op (own_valid replay t t_in) form)
            (and_parts (is_work_block op (own_counts replay t) task.i task.j) (has_task op (own_counts replay t) task.kind task.term task.i task.j task.k) block).0;
      }

  abbrev IsBadHere : Place → Type 0
  IsBadHere place = IsBadStep replay.job replay.b (blocks_at replay s) (own_statement replay t) task place

  abbrev IsValueHere : Grid → Type 0
  IsValueHere v = IsStepValue replay.job replay.b (blocks_at replay s) (own_statement replay t) task (block_at replay s (step_at replay s).access.write) v

  -- the value of a block task
  block-value : has op (own_counts replay t) task ≡ true → ¬ (IsStoppedAt replay s) → ((place : Place) → IsBadHere place → ⊥) → (v w : Grid) → IsValueHere v → IsValueHere w → v ≡ w
  block-value block free good v w = by_kind task.kind (block-kind op (own_counts replay t) task block) (pivots-found replay t t_in s s_in own free (own_fits replay t t_in)) good
    where
      by_kind : (kind : Kind) → kind ≢ kinds.Pivots
          → HasPivotsBy m replay.b op (own_fits replay t t_in).lengths knowns work list kind task.i task.j
          → ((place : Place) → bad_step_by replay.job replay.b (blocks_at replay s) (own_statement replay t) kind task place → ⊥)
          → step_value_by replay.job replay.b (blocks_at replay s) (own_statement replay t) kind task (block_at replay s (step_at replay s).access.write) v
          → step_value_by replay.job replay.b (blocks_at replay s) (own_statement replay t) kind task (block_at replay s (step_at replay s).access.write) w → v ≡ w
      by_kind kinds.Pivots other has good = absurd (other refl)
      by_kind kinds.Term other has good = one-effect m replay.b replay.valid.modulus op (own_valid replay t t_in) knowns work (own_fits replay t t_in).lengths list
          kinds.Term task.term task.i task.j task.k v w (solvable block) has good
      by_kind kinds.Left other has good = one-effect m replay.b replay.valid.modulus op (own_valid replay t t_in) knowns work (own_fits replay t t_in).lengths list
          kinds.Left task.term task.i task.j task.k v w (solvable block) has good
      by_kind kinds.Right other has good = one-effect m replay.b replay.valid.modulus op (own_valid replay t t_in) knowns work (own_fits replay t t_in).lengths list
          kinds.Right task.term task.i task.j task.k v w (solvable block) has good
      by_kind kinds.Solve other has good = one-effect m replay.b replay.valid.modulus op (own_valid replay t t_in) knowns work (own_fits replay t t_in).lengths list
          kinds.Solve task.term task.i task.j task.k v w (solvable block) has good

  -- of any task
  one-value : IsTaskOf op (own_counts replay t) task → ¬ (IsStoppedAt replay s) → ((place : Place) → IsBadHere place → ⊥) → (v w : Grid) → IsValueHere v → IsValueHere w → v ≡ w
  one-value (inr block) free good v w v_is w_is = block-value block free good v w v_is w_is
  one-value (inl pivots) free good v w v_is w_is =
      let test : (u : Grid) → IsValueHere u → IsStepValue replay.job replay.b (blocks_at replay s) (own_statement replay t) pivots_task (block_at replay s (step_at replay s).access.write) u
      = λ u is. subst (λ (x : Task). IsStepValue replay.job replay.b (blocks_at replay s) (own_statement replay t) x (block_at replay s (step_at replay s).access.write) u) pivots.0 is in
      one-pivots m replay.b op knowns op.form (block_at replay s (step_at replay s).access.write) v w (test v v_is) (test w w_is)

-- any step
pub one-outcome : (replay : JobReplay) (s : ℕ) → s < length replay.steps → (x y : StepResult) → IsResultAt replay s x → IsResultAt replay s y → x ≡ y
one-outcome replay s s_in x y x_is y_is = go x y x_is y_is
  where
    go : (x y : StepResult) → IsResultAt replay s x → IsResultAt replay s y → x ≡ y
    go Skipped Skipped h g = refl
    go Skipped (Ran w) h g = absurd (g.0 h)
    go Skipped (Failed q) h g = absurd (g.0 h)
    go (Ran v) Skipped h g = absurd (h.0 g)
    go (Failed p) Skipped h g = absurd (h.0 g)
    go (Ran v) (Failed q) h g = absurd (h.1 q g.1)
    go (Failed p) (Ran w) h g = absurd (g.1 p h.1)
    go (Failed p) (Failed q) h g =
        ap (λ (place : Place). Failed place) (one-bad_step replay.job replay.b (two replay) (blocks_at replay s) (statement_of replay.job (step_at replay s).statement) (step_at replay s).task p q h.1 g.1)
    go (Ran v) (Ran w) h g =
        let fits = replay.fits.exists s s_in in
        let own = fits.0 in
        ap (λ (u : Grid). Ran u) (one-value replay s own.0 s_in own.1 own.2 (rw own.1 at fits.1) h.0 (rw own.1 at h.1) v w (rw own.1 at h.2) (rw own.1 at g.2))
