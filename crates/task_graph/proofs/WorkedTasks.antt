-- The tasks of small operations and their needs, computed from the definitions and held against lists worked by hand.
use Rattle.std.proofs.Common.{◌≡◌, ℕ, List, [], ◌∷◌, false, true, codes, filter, map, refl}
use Rattle.structure_rules.specs.declared.Structure.TheVariants.{Diagonal, General, Upper}
use Rattle.operation_spec.specs.declared.operation.Operation.{Operation}
use Rattle.operation_spec.specs.declared.operation.Form.TheVariants.{Assign, Left, Right, Sylvester}
use Rattle.operation_spec.specs.declared.task.Kind.TheVariants as kinds
use Rattle.operation_spec.specs.declared.task.Task.{Task}
use Rattle.operation_spec.proofs.WorkedOperations.{operand, factor, added, lu, ldl, sym, low_right, syl_lower}
use Rattle.task_graph.specs.declared.cut.Sides.TheVariants.{One, Two}
use Rattle.task_graph.specs.Classes.{class_of}
use Rattle.task_graph.specs.Order.{task_of, tasks_of}
use Rattle.task_graph.specs.Needs.{does_need}

solve : ℕ → ℕ → Task
solve i j = task_of kinds.Solve 0 i j 0

left : ℕ → ℕ → ℕ → Task
left i j k = task_of kinds.Left 0 i j k

right : ℕ → ℕ → ℕ → Task
right i j k = task_of kinds.Right 0 i j k

product : ℕ → ℕ → Task
product t k = task_of kinds.Term t 0 0 k

needs_of : Operation → List ℕ → Task → List Task
needs_of op counts task = filter (does_need op task) (tasks_of op counts)

lu_tasks : tasks_of lu (2 ∷ []) ≡ solve 0 0 ∷ solve 0 1 ∷ solve 1 0 ∷ left 1 1 0 ∷ solve 1 1 ∷ []
unfolding lu solve left
lu_tasks = refl

lu_needs : map (needs_of lu (2 ∷ [])) (tasks_of lu (2 ∷ [])) ≡ [] ∷ (solve 0 0 ∷ []) ∷ (solve 0 0 ∷ []) ∷ (solve 0 1 ∷ solve 1 0 ∷ []) ∷ (left 1 1 0 ∷ []) ∷ []
unfolding lu solve left needs_of
lu_needs = refl

ldl_tasks : tasks_of ldl (2 ∷ []) ≡ solve 0 0 ∷ solve 1 0 ∷ left 1 1 0 ∷ solve 1 1 ∷ []
unfolding ldl solve left
ldl_tasks = refl

ldl_needs : map (needs_of ldl (2 ∷ [])) (tasks_of ldl (2 ∷ [])) ≡ [] ∷ (solve 0 0 ∷ []) ∷ (solve 0 0 ∷ solve 1 0 ∷ []) ∷ (left 1 1 0 ∷ []) ∷ []
unfolding ldl solve left needs_of
ldl_needs = refl

-- the update of a block below the diagonal reads two blocks of a column of L and one of D
ldl_below : needs_of ldl (3 ∷ []) (left 2 1 0) ≡ solve 0 0 ∷ solve 1 0 ∷ solve 2 0 ∷ []
unfolding ldl solve left needs_of
ldl_below = refl

-- the mirrored block of a symmetric factor is no zero block
sym_tasks : tasks_of sym (2 ∷ 1 ∷ []) ≡ task_of kinds.Term 1 0 0 0 ∷ task_of kinds.Term 1 0 0 1 ∷ task_of kinds.Term 1 1 0 0 ∷ task_of kinds.Term 1 1 0 1 ∷ []
unfolding sym
sym_tasks = refl

low_right_tasks : tasks_of low_right (2 ∷ 2 ∷ []) ≡ solve 0 1 ∷ right 0 0 1 ∷ solve 0 0 ∷ solve 1 1 ∷ right 1 0 1 ∷ solve 1 0 ∷ []
unfolding low_right solve right
low_right_tasks = refl

syl_lower_tasks : tasks_of syl_lower (2 ∷ 2 ∷ [])
    ≡ solve 0 1 ∷ right 0 0 1 ∷ solve 0 0 ∷ left 1 1 0 ∷ solve 1 1 ∷ left 1 0 0 ∷ right 1 0 1 ∷ solve 1 0 ∷ []
unfolding syl_lower solve left right
syl_lower_tasks = refl

-- X * T = W with an upper T and an upper W
inv_right : Operation
inv_right = record {
  name = codes "inv";
  dims = codes "n" ∷ [];
  work = operand (codes "W") Upper 0 0;
  knowns = operand (codes "T") Upper 0 0 ∷ [];
  form = Right (factor 0 false);
  terms = [];
}

-- block (1, 1) isn't updated, since X has no block at (1, 0)
inv_right_tasks : tasks_of inv_right (2 ∷ []) ≡ solve 0 0 ∷ right 0 1 0 ∷ solve 0 1 ∷ solve 1 1 ∷ []
unfolding inv_right solve right
inv_right_tasks = refl

inv_right_needs : map (needs_of inv_right (2 ∷ [])) (tasks_of inv_right (2 ∷ [])) ≡ [] ∷ (solve 0 0 ∷ []) ∷ (right 0 1 0 ∷ []) ∷ [] ∷ []
unfolding inv_right solve right needs_of
inv_right_needs = refl

-- X = W + A' * B
mul_primed : Operation
mul_primed = record {
  name = codes "mul";
  dims = codes "m" ∷ codes "n" ∷ codes "k" ∷ [];
  work = operand (codes "W") General 0 1;
  knowns = operand (codes "A") General 2 0 ∷ operand (codes "B") General 2 1 ∷ [];
  form = Assign;
  terms = record { minus = false; first = factor 0 true; second = factor 1 false } ∷ [];
}

-- the product goes along the rows of A
mul_primed_tasks : tasks_of mul_primed (1 ∷ 1 ∷ 2 ∷ []) ≡ task_of kinds.Term 1 0 0 0 ∷ task_of kinds.Term 1 0 0 1 ∷ []
unfolding mul_primed
mul_primed_tasks = refl

mul_primed_needs : map (needs_of mul_primed (1 ∷ 1 ∷ 2 ∷ [])) (tasks_of mul_primed (1 ∷ 1 ∷ 2 ∷ [])) ≡ [] ∷ [] ∷ []
unfolding mul_primed needs_of
mul_primed_needs = refl

-- T * X = W with an upper T
upp : Operation
upp = record {
  name = codes "upp";
  dims = codes "n" ∷ codes "m" ∷ [];
  work = operand (codes "W") General 0 1;
  knowns = operand (codes "T") Upper 0 0 ∷ [];
  form = Left (factor 0 false);
  terms = [];
}

-- the rows come from the last one up, and the columns of each from the first
upp_tasks : tasks_of upp (2 ∷ 2 ∷ []) ≡ solve 1 0 ∷ solve 1 1 ∷ left 0 0 1 ∷ solve 0 0 ∷ left 0 1 1 ∷ solve 0 1 ∷ []
unfolding upp solve left
upp_tasks = refl

-- T * X + X * U = W with diagonal T and U
syl_diagonal : Operation
syl_diagonal = record {
  name = codes "syl";
  dims = codes "m" ∷ codes "n" ∷ [];
  work = operand (codes "W") General 0 1;
  knowns = operand (codes "T") Diagonal 0 0 ∷ operand (codes "U") Diagonal 1 1 ∷ [];
  form = Sylvester (factor 0 false) (factor 1 false) false;
  terms = [];
}

-- no block is updated, and both rows and columns come from the first
syl_diagonal_tasks : tasks_of syl_diagonal (2 ∷ 2 ∷ []) ≡ solve 0 0 ∷ solve 0 1 ∷ solve 1 0 ∷ solve 1 1 ∷ []
unfolding syl_diagonal solve
syl_diagonal_tasks = refl

-- X = W + A * B - C' * D, where each product has an inner dimension of its own
two_terms : Operation
two_terms = record {
  name = codes "two";
  dims = codes "m" ∷ codes "n" ∷ codes "k" ∷ codes "l" ∷ [];
  work = operand (codes "W") General 0 1;
  knowns = operand (codes "A") General 0 2 ∷ operand (codes "B") General 2 1 ∷ operand (codes "C") General 3 0 ∷ operand (codes "D") General 3 1 ∷ [];
  form = Assign;
  terms = added 0 1 ∷ record { minus = true; first = factor 2 true; second = factor 3 false } ∷ [];
}

-- the products of the first term come first, each term's along its own dimension
two_terms_tasks : tasks_of two_terms (1 ∷ 1 ∷ 2 ∷ 3 ∷ []) ≡ product 1 0 ∷ product 1 1 ∷ product 2 0 ∷ product 2 1 ∷ product 2 2 ∷ []
unfolding two_terms product
two_terms_tasks = refl

-- a class keeps its term, and its inner part is one of that term's dimension
two_terms_classes : map (class_of two_terms (One ∷ One ∷ One ∷ Two 1 ∷ [])) (tasks_of two_terms (1 ∷ 1 ∷ 1 ∷ 3 ∷ []))
    ≡ product 1 0 ∷ product 2 0 ∷ product 2 1 ∷ product 2 1 ∷ []
unfolding two_terms product
two_terms_classes = refl
