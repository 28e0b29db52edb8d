use Rattle.std.proofs.Common.{◌≡◌, ◌<◌, ◌+◌, ◌*◌, arith}
use Rattle.std.proofs.lemmas.List.Elements.{All-set}
use Rattle.algebra_witness.proofs.LowerSolve.{lower_step}
use Rattle.algebra_witness.proofs.substitution.solve_lower.Goals as goal

pub loop-j-preserved : goal.loop-j-preserved
loop-j-preserved c =
    let next : c.loop-i.i * c.args.p + (c.loop-j.j + 1) ≡ c.loop-i.i * c.args.p + c.loop-j.j + 1 = omega arith in
    record {
      residues = All-set (λ x. x < c.args.modulus) _ _ _ c.mul.ensures.range c.loop-j.invariant.residues;
      so_far = rw next (lower_step c.args.modulus c.args.n c.args.p c.args.t.now c.args.w.now c.loop-j.w c.loop-i.i c.loop-j.j
          c.row_times_column-others.result c.sub-rest.result _ c.mul.result
          (omega arith) c.loop-i-test.true c.loop-j-test.true c.row_times_column-others.ensures.range c.loop-j.invariant.so_far
          (c.requires.units _ c.loop-i-test.true) c.row_times_column-others.ensures.value c.sub-rest.ensures.value c.mul.ensures.value);
    }
