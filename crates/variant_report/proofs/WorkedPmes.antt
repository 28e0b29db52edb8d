-- Texts of partitioned matrix expressions, computed for small operations.
use Rattle.std.proofs.Common.{◌≡◌, ℕ, refl}
use Rattle.std.specs.Prelude.{codes, None, Some}
use Rattle.std.specs.Fmt.{digits}
use Rattle.operation_spec.specs.declared.split.Split.{Split}
use Rattle.operation_spec.proofs.WorkedOperations.{lu, ldl, low, sym}
use Rattle.task_graph.specs.Listing.{block_of, products_of, joined, updates_of, task_if_any}
use Rattle.variant_report.specs.PmeTexts.{pme_text}

abbrev along : ℕ → Split
along d = record { first = d; second = None }

lu_text : pme_text lu (along 0) ≡ codes "pme lu split n\nX[0,0] = lu(W[0,0])\nX[0,1] = inv(X.l[0,0])*(W[0,1])\nX[1,0] = (W[1,0])*inv(X.u[0,0])\nX[1,1] = lu(W[1,1] - X.l[1,0]*X.u[0,1])\ntasks 5\n1 solve(0,0)\n2 solve(0,1) needs 1\n3 solve(1,0) needs 1\n4 left(1,1,0) needs 2 3\n5 solve(1,1) needs 4\nend\n"
unfolding digits lu block_of products_of joined updates_of task_if_any
lu_text = refl

-- only the blocks of a lower W
ldl_text : pme_text ldl (along 0) ≡ codes "pme ldl split n\nX[0,0] = ldl(W[0,0])\nX[1,0] = (W[1,0])*inv(X.d[0,0]*X.l'[0,0])\nX[1,1] = ldl(W[1,1] - X.l[1,0]*X.d[0,0]*X.l'[0,1])\ntasks 4\n1 solve(0,0)\n2 solve(1,0) needs 1\n3 left(1,1,0) needs 1 2\n4 solve(1,1) needs 3\nend\n"
unfolding digits ldl block_of products_of joined updates_of task_if_any
ldl_text = refl

-- the mirrored block of a symmetric operand is no zero block
sym_text : pme_text sym (along 0) ≡ codes "pme sym split n\nX[0,0] = W[0,0] + A[0,0]*B[0,0] + A[0,1]*B[1,0]\nX[1,0] = W[1,0] + A[1,0]*B[0,0] + A[1,1]*B[1,0]\ntasks 4\n1 term1(0,0,0)\n2 term1(0,0,1)\n3 term1(1,0,0)\n4 term1(1,0,1)\nend\n"
unfolding digits sym block_of products_of joined updates_of task_if_any
sym_text = refl

-- along both dimensions
low_text : pme_text low (record { first = 0; second = Some 1 })
    ≡ codes "pme low split n m\nX[0,0] = inv(T[0,0])*(W[0,0])\nX[0,1] = inv(T[0,0])*(W[0,1])\nX[1,0] = inv(T[1,1])*(W[1,0] - T[1,0]*X[0,0])\nX[1,1] = inv(T[1,1])*(W[1,1] - T[1,0]*X[0,1])\ntasks 6\n1 solve(0,0)\n2 solve(0,1)\n3 left(1,0,0) needs 1\n4 solve(1,0) needs 3\n5 left(1,1,0) needs 2\n6 solve(1,1) needs 5\nend\n"
unfolding digits low block_of products_of joined updates_of task_if_any
low_text = refl
