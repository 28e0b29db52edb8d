-- A state, in canonical order, denotes what its block holds, in whatever order the done tasks are listed.
use Rattle.std.proofs.Common.{◌≡◌, ◌≢◌, ℕ, ◌+◌, ◌<◌, List, Bool, true, false, refl, sym, ◌∙◌, ap, subst, arith}
use Rattle.residue_sums.specs.Residues.{Cong}
use Rattle.residue_sums.specs.Tables.{Table}
use Rattle.residue_sums.specs.Grids.{entry}
use Rattle.residue_sums.proofs.Congruence.{Cong-add, Cong-by, Cong-sym, same_from_Cong}
use Rattle.operation_spec.specs.declared.task.Task.{Task}
use Rattle.equation.specs.Equations.{Satisfies}
use Rattle.equation.proofs.ValidForms.{ldl-lower}
use Rattle.task_graph.specs.Listing.{block_of}
use Rattle.task_graph.specs.Tasks.{has, is_work_block}
use Rattle.block_values.specs.declared.leaf.Leaf.TheVariants.{Work}
use Rattle.block_values.specs.Trees.{Tree, Block}
use Rattle.block_values.specs.Values.{Setting, IsValue}
use Rattle.block_values.specs.States.{with_updates, has_solved, state_tree}
use Rattle.block_values.specs.Orders.{in_order, AreAll}
use Rattle.block_values.specs.Held.{with_products}
use Rattle.block_values.specs.Settings.{IsSetting}
use Rattle.block_values.specs.PartitionedEquations.{HasBlock}
use Rattle.block_values.proofs.PureTrees.{value}
use Rattle.block_values.proofs.TaskShares.{shares, with_updates-shares}
use Rattle.block_values.proofs.BlockSums.{with_updates-below}
use Rattle.block_values.proofs.Fitting.{IsFitting, IsFitting-setting}
use Rattle.block_values.proofs.HeldTrees.{updates_are, held_value}
use Rattle.block_values.proofs.Orders.{shares-in_order, has_solved-in_order, among-contains, contains-among, IsOnce-pairs}
use Rattle.block_values.proofs.BlockTasks.{in_order-block}
use Rattle.block_values.proofs.AllForms.{HaveValues-whole}

module _ (s : Setting) (counts : List ℕ) (is : IsSetting s counts) where
  fitting : IsFitting s is.lengths counts
  fitting = IsFitting-setting s counts is

  -- the order of the updates is free
  order_free : (i j : ℕ) (done : List Task) (r c : ℕ) → with_products s (in_order s.op done) (entry s.work) r c ≡ with_products s done (entry s.work) r c
  order_free i j done r c =
      let sorted = in_order s.op done in
      let start : Tree = Block Work false i j in
      let fit : IsFitting s is.lengths counts = fitting in
      let first = with_updates-shares s sorted start r c fit.pos in
      let second = with_updates-shares s done start r c fit.pos in
      sym (updates_are s sorted start (entry s.work) (λ r c. refl) r c)
      ∙ same_from_Cong (with_updates-below s sorted start r c fit.pos (fit.work_residues r c)) (with_updates-below s done start r c fit.pos (fit.work_residues r c))
      (Cong-by (Cong-add first (Cong-sym second)) (omega (arith, shares-in_order s s.op true done r c, shares-in_order s s.op false done r c)))
      ∙ updates_are s done start (entry s.work) (λ r c. refl) r c

  -- without a solve
  pub unsolved_state : (i j : ℕ) (done : List Task) → has_solved done ≡ false
      → IsValue s (state_tree s.op i j (in_order s.op done)) (with_products s done (entry s.work))
      × ((y : Table) → IsValue s (state_tree s.op i j (in_order s.op done)) y → (r c : ℕ) → y r c ≡ with_products s done (entry s.work) r c)
  unsolved_state i j done unsolved =
      let held = held_value s i j (in_order s.op done) (has_solved-in_order s.op done ∙ unsolved) in
      (held.0 (with_products s done (entry s.work)) (λ r c. sym (order_free i j done r c)), λ y is_value r c. held.1 y is_value r c ∙ order_free i j done r c)

  -- with all tasks
  pub solved_state : Satisfies s.modulus s.op s.knowns s.work s.solution → (i j : ℕ) → is_work_block s.op counts i j ≡ true
      → (done : List Task) → AreAll s.op counts i j done → HasBlock s i j (state_tree s.op i j (in_order s.op done))
  solved_state satisfies i j work done are =
      let all = in_order-block s.op counts (ldl-lower s.op is.valid) i j work done (IsOnce-pairs done are.once)
      (λ a among. are.own a (contains-among a done among)) (λ a at. among-contains a done (are.all a at)) in
      subst (λ tasks. HasBlock s i j (state_tree s.op i j tasks)) (sym all) (((HaveValues-whole s counts is).1 satisfies).0 i j work)
