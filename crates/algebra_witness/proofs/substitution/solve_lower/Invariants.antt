use Rattle.std.proofs.Common.{◌<◌, ◌+◌, ◌*◌, All}
use Rattle.residue_sums.specs.Residues.{Cong}
use Rattle.residue_sums.specs.Tables.{product}
use Rattle.structure_rules.specs.declared.Structure.TheVariants.{General, Lower}
use Rattle.structure_rules.specs.Structures.{view}
use Rattle.matrix_algebra.proofs.InPlace.{WrittenBelow}
use Rattle.matrix_algebra.proofs.Places.{rowwise}
use Rattle.algebra_witness.specs.Entries.{entries}
use Rattle.algebra_witness.proofs.substitution.solve_lower.Given as goal

abbrev pub invariant-loop-i : goal.invariant-loop-i
invariant-loop-i l = record {
  residues : All (λ x. x < l.modulus) l.w;
  so_far : WrittenBelow l.n l.p General (rowwise l.p (λ k. k) (λ k. k))
      (λ x i j. Cong l.modulus (product l.n (view Lower (entries l.n l.n l.t)) (view General x) i j) (entries l.n l.p l.fn.w i j))
      (entries l.n l.p l.fn.w) (entries l.n l.p l.w) (l.i * l.p);
}

abbrev pub invariant-loop-j : goal.invariant-loop-j
invariant-loop-j l = record {
  residues : All (λ x. x < l.modulus) l.w;
  so_far : WrittenBelow l.n l.p General (rowwise l.p (λ k. k) (λ k. k))
      (λ x i j. Cong l.modulus (product l.n (view Lower (entries l.n l.n l.t)) (view General x) i j) (entries l.n l.p l.fn.w i j))
      (entries l.n l.p l.fn.w) (entries l.n l.p l.w) (l.i * l.p + l.j);
}
