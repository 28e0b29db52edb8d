use Rattle.std.proofs.Common.{◌<◌, ◌+◌, ◌*◌, All}
use Rattle.matrix_algebra.proofs.LuInPlace.{LuWritten}
use Rattle.algebra_witness.specs.Entries.{entries}
use Rattle.algebra_witness.proofs.LuSteps.{Inverted}
use Rattle.algebra_witness.proofs.factorization.factor_lu.Given as goal

abbrev pub invariant-loop-i : goal.invariant-loop-i
invariant-loop-i l = record {
  residues : All (λ x. x < l.modulus) l.w;
  room : All (λ x. x < l.modulus) l.inverses;
  so_far : LuWritten l.modulus l.n (entries l.n l.n l.fn.w) (entries l.n l.n l.w) (l.i * l.n);
  inverted : Inverted l.modulus l.n l.w l.inverses l.i;
}

abbrev pub invariant-loop-j : goal.invariant-loop-j
invariant-loop-j l = record {
  residues : All (λ x. x < l.modulus) l.w;
  so_far : LuWritten l.modulus l.n (entries l.n l.n l.fn.w) (entries l.n l.n l.w) (l.i * l.n + l.j);
  inverted : Inverted l.modulus l.n l.w l.inverses l.i;
}
