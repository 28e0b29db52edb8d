-- The blocks of W. Cited by the laws of tasks.
use Rattle.std.proofs.Common.{◌≡◌, ℕ, ◌<◌, ◌≤◌, subst, List, true, ◌&&◌, not, nat_lt}
use Rattle.std.proofs.lemmas.Bool.{and_parts, ltb-true, ltb-false, not-true}
use Rattle.structure_rules.specs.declared.Structure.TheVariants.{Lower}
use Rattle.structure_rules.specs.Structures.{is_zero}
use Rattle.operation_spec.specs.declared.operation.Operation.{Operation}
use Rattle.task_graph.specs.Tasks.{parts_of, is_work_block}

-- a block of W is within the parts of its rows and columns
pub work-block : (op : Operation) (counts : List ℕ) (i j : ℕ) → is_work_block op counts i j ≡ true
    → (i < parts_of counts op.work.rows) × (j < parts_of counts op.work.cols)
work-block op counts i j h =
    let rows = nat_lt i (parts_of counts op.work.rows) in
    let cols = nat_lt j (parts_of counts op.work.cols) in
    let p = and_parts rows cols (and_parts (rows && cols) (not (is_zero op.work.structure i j)) h).0 in
    (ltb-true i (parts_of counts op.work.rows) p.0, ltb-true j (parts_of counts op.work.cols) p.1)

-- a lower W has no block above its diagonal
pub lower-block : (op : Operation) (counts : List ℕ) (i j : ℕ) → op.work.structure ≡ Lower → is_work_block op counts i j ≡ true → j ≤ i
lower-block op counts i j lower h =
    let p = and_parts (nat_lt i (parts_of counts op.work.rows) && nat_lt j (parts_of counts op.work.cols)) (not (is_zero op.work.structure i j)) h in
    ltb-false i j (not-true (nat_lt i j) (subst (λ s. not (is_zero s i j) ≡ true) lower p.1))
