-- Where each block of W's structure has a value of its expression, the equation of the whole holds, and the other way round.
use Rattle.std.proofs.Common.{◌≡◌, ℕ, ◌<◌, List, true}
use Rattle.std.specs.Prelude.{◌↔◌}
use Rattle.structure_rules.specs.Structures.{IsInside}
use Rattle.equation.specs.Equations.{left_side, right_side}
use Rattle.task_graph.specs.Tasks.{is_work_block}
use Rattle.block_values.specs.Values.{Setting}
use Rattle.block_values.specs.States.{full_tree}
use Rattle.block_values.specs.PartitionedEquations.{HasBlock, EquationHolds}
use Rattle.block_values.proofs.Assigned.{IsFitting}
use Rattle.block_values.proofs.SolvedParts.{work_parts, lt-from_test}
use Rattle.block_values.proofs.Whole.{EquationHolds-whole, EquationHolds-block}

-- from the equivalence of each block, whatever the form
module _ (s : Setting) (lengths : ℕ → ℕ) (counts : List ℕ) (is : IsFitting s lengths counts)
    (each : (i j : ℕ) → is_work_block s.op counts i j ≡ true → HasBlock s i j (full_tree s.op counts i j) ↔ EquationHolds s i j) where
  abbrev pub WholeHolds : Type 0
  WholeHolds = (r c : ℕ) → r < lengths s.op.work.rows → c < lengths s.op.work.cols → IsInside s.op.work.structure r c
      → left_side s.modulus s.op s.knowns s.solution r c ≡ right_side s.modulus s.op s.knowns s.work r c

  pub blocks_are_whole : ((i j : ℕ) → is_work_block s.op counts i j ≡ true → HasBlock s i j (full_tree s.op counts i j)) ↔ WholeHolds
  blocks_are_whole = (
    λ blocks. EquationHolds-whole s lengths counts is (λ i j work. (each i j work).0 (blocks i j work)),
    λ whole i j work. (each i j work).1 (EquationHolds-block s lengths counts is whole i j
        (lt-from_test i _ (work_parts s.op counts i j work).0) (lt-from_test j _ (work_parts s.op counts i j work).1)),
  )
