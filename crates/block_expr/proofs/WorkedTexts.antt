-- Expressions of small operations, simplified and as text, computed from the definitions and held against texts worked by hand.
use Rattle.std.specs.Fmt.{digits}
use Rattle.std.proofs.Common.{◌≡◌, ℕ, List, [], ◌∷◌, codes, refl}
use Rattle.operation_spec.specs.declared.operation.Operation.{Operation}
use Rattle.operation_spec.proofs.WorkedOperations.{lu, ldl, sym, low, low_primed, upp_right, syl_lower}
use Rattle.task_graph.specs.Listing.{block_of, products_of, joined, updates_of, task_if_any}
use Rattle.block_values.specs.States.{full_tree}
use Rattle.block_expr.specs.Expanded.{expanded_left, expanded_right}
use Rattle.block_expr.specs.Simplified.{simplified}
use Rattle.block_expr.specs.Texts.{tree_text}

-- ---- states with all tasks done

abbrev full_text : Operation → List ℕ → ℕ → ℕ → List ℕ
full_text op counts i j = tree_text op (full_tree op counts i j)

lu_00 : full_text lu (2 ∷ []) 0 0 ≡ codes "lu(W[0,0])"
unfolding digits lu block_of products_of joined updates_of task_if_any
lu_00 = refl

lu_01 : full_text lu (2 ∷ []) 0 1 ≡ codes "inv(X.l[0,0])*(W[0,1])"
unfolding digits lu block_of products_of joined updates_of task_if_any
lu_01 = refl

lu_10 : full_text lu (2 ∷ []) 1 0 ≡ codes "(W[1,0])*inv(X.u[0,0])"
unfolding digits lu block_of products_of joined updates_of task_if_any
lu_10 = refl

lu_11 : full_text lu (2 ∷ []) 1 1 ≡ codes "lu(W[1,1] - X.l[1,0]*X.u[0,1])"
unfolding digits lu block_of products_of joined updates_of task_if_any
lu_11 = refl

ldl_10 : full_text ldl (2 ∷ []) 1 0 ≡ codes "(W[1,0])*inv(X.d[0,0]*X.l'[0,0])"
unfolding digits ldl block_of products_of joined updates_of task_if_any
ldl_10 = refl

ldl_11 : full_text ldl (2 ∷ []) 1 1 ≡ codes "ldl(W[1,1] - X.l[1,0]*X.d[0,0]*X.l'[0,1])"
unfolding digits ldl block_of products_of joined updates_of task_if_any
ldl_11 = refl

-- the mirrored block of a symmetric operand is no zero block
sym_00 : full_text sym (2 ∷ 1 ∷ []) 0 0 ≡ codes "W[0,0] + A[0,0]*B[0,0] + A[0,1]*B[1,0]"
unfolding digits sym block_of products_of joined updates_of task_if_any
sym_00 = refl

-- X * T' = W - A * T with an upper T: in T' block (1, 0) is there, and in T it is zero
upper_00 : full_text upp_right (1 ∷ 2 ∷ []) 0 0 ≡ codes "(W[0,0] - A[0,0]*T[0,0] - X[0,1]*T'[1,0])*inv(T'[0,0])"
unfolding digits upp_right block_of products_of joined updates_of task_if_any
upper_00 = refl

-- in the form with a difference the products on the right are added
syl_10 : full_text syl_lower (2 ∷ 2 ∷ []) 1 0 ≡ codes "sylvester(T[1,1],-U[0,0],W[1,0] - T[1,0]*X[0,0] + X[1,1]*U[1,0])"
unfolding digits syl_lower block_of products_of joined updates_of task_if_any
syl_10 = refl

-- ---- expanded equations

low_left : tree_text low (expanded_left low (2 ∷ 1 ∷ []) 0 0) ≡ codes "T[0,0]*X[0,0] + T[0,1]*X[1,0]"
unfolding digits low
low_left = refl

low_simplified : tree_text low (simplified low (expanded_left low (2 ∷ 1 ∷ []) 0 0)) ≡ codes "T[0,0]*X[0,0]"
unfolding digits low
low_simplified = refl

-- the same with T': its zero blocks are below the diagonal
primed_simplified : tree_text low_primed (simplified low_primed (expanded_left low_primed (2 ∷ 1 ∷ []) 0 0)) ≡ codes "T'[0,0]*X[0,0] + T'[0,1]*X[1,0]"
unfolding digits low_primed
primed_simplified = refl

sym_simplified : tree_text sym (simplified sym (expanded_right sym (2 ∷ 1 ∷ []) 0 0)) ≡ codes "W[0,0] + A[0,0]*B[0,0] + A[0,1]*B[1,0]"
unfolding digits sym
sym_simplified = refl

-- the sign of a difference stays
syl_simplified : tree_text syl_lower (simplified syl_lower (expanded_left syl_lower (2 ∷ 2 ∷ []) 0 1)) ≡ codes "T[0,0]*X[0,1] - X[0,1]*U[1,1]"
unfolding digits syl_lower
syl_simplified = refl
