use Rattle.matrix_core.proofs.Identity.{IsIdentityTo}
use Rattle.matrix_core.proofs.matrix.Matrix.identity.Given as goal

abbrev pub invariant-loop-i : goal.invariant-loop-i
invariant-loop-i l = IsIdentityTo l.n l.i l.matrix
