use Rattle.std.proofs.Common.{◌≡◌, ◌<◌, ◌+◌, ◌*◌, length, Err, arith, ap}
use Rattle.std.proofs.lemmas.List.Elements.{All-set}
use Rattle.matrix_algebra.specs.Factors.{IsLuBadPivot}
use Rattle.matrix_algebra.proofs.LuInPlace.{IsLu-written}
use Rattle.matrix_algebra.proofs.LuFactors.{lu_bad_pivot_unique, no_lu_bad_pivot}
use Rattle.matrix_algebra.proofs.Packed.{view-upper_above}
use Rattle.algebra_witness.specs.Entries.{entries}
use Rattle.algebra_witness.proofs.LuSteps.{lu_step, Inverted-write, Inverted-more, units_of_inverted, bad_pivot_here}
use Rattle.algebra_witness.proofs.factorization.factor_lu.Goals as goal

pub loop-j-preserved : goal.loop-j-preserved
loop-j-preserved c =
    let next : c.loop-i.i * c.args.n + (c.loop-j.j + 1) ≡ c.loop-i.i * c.args.n + c.loop-j.j + 1 = omega arith in
    let full : length c.loop-j.w ≡ c.args.n * c.args.n = omega arith in
    record {
      residues = All-set (λ x. x < c.args.modulus) _ _ _ c.mul.ensures.range c.loop-j.invariant.residues;
      so_far = rw next (lu_step c.args.modulus c.args.n c.args.w.now c.loop-j.w c.loop-i.inverses c.loop-i.i c.loop-j.j c.min.result
          c.row_times_column-others.result c.scale_of-scale.result c.mul.result full c.loop-i-test.true c.loop-j-test.true
          c.row_times_column-others.ensures.range c.loop-j.invariant.so_far c.loop-j.invariant.inverted
          c.min.ensures c.row_times_column-others.ensures.value (rw c.value-m.ensures.value at c.mul.ensures.value)
          c.scale_of-scale.ensures.lower c.scale_of-scale.ensures.upper);
      inverted = Inverted-write c.args.modulus c.args.n c.args.w.now c.loop-j.w c.loop-i.inverses c.loop-i.i c.loop-j.j c.min.result
          c.row_times_column-others.result c.scale_of-scale.result c.mul.result full c.loop-i-test.true c.loop-j-test.true
          c.loop-j.invariant.inverted;
    }

pub returns-in-None-clause-bad_pivot : goal.returns-in-None-clause-bad_pivot
returns-in-None-clause-bad_pivot c k =
    let here : IsLuBadPivot c.args.modulus c.args.n (entries c.args.n c.args.n c.args.w.now) c.loop-i.i =
    bad_pivot_here c.args.modulus c.args.n c.args.w.now c.loop-j.w c.loop-i.inverses c.loop-i.i c.loop-j.j c.value-m.ensures.range.at_least_two
    c.loop-i-test.true c.loop-j-test.false c.loop-j.invariant.so_far c.loop-j.invariant.inverted (λ unit. absurd (let none = c.in-None.ensures.units.1 unit in cc)) in (
      (λ e. let same : c.loop-i.i ≡ k = cc in rw same at here),
      (λ bad. ap Err (lu_bad_pivot_unique c.args.modulus c.args.n c.value-m.ensures.range.at_least_two _ c.loop-i.i k here bad)),
    )

pub loop-i-preserved : goal.loop-i-preserved
loop-i-preserved c =
    let next : (c.loop-i.i + 1) * c.args.n ≡ c.loop-i.i * c.args.n + c.loop-j.j = omega arith in
    let room : c.loop-i.i < length c.loop-i.inverses = omega arith in
    record {
      residues = c.loop-j.invariant.residues;
      room = All-set (λ x. x < c.args.modulus) _ _ _ c.in-Some.ensures.range c.loop-i.invariant.room;
      so_far = rw next c.loop-j.invariant.so_far;
      inverted = Inverted-more c.args.modulus c.args.n c.loop-j.w c.loop-i.inverses c.loop-i.i c.in-Some.inverse c.value-m.ensures.range.at_least_two room
          c.loop-j.invariant.inverted c.in-Some.ensures.product;
    }

pub returns-clause-factors : goal.returns-clause-factors
returns-clause-factors c =
    let done : c.loop-i.i ≡ c.args.n = omega arith in
    IsLu-written c.args.modulus c.args.n c.args.n (c.loop-i.i * c.args.n) _ _ (omega arith) (rw done (omega arith)) c.loop-i.invariant.so_far

pub returns-clause-units : goal.returns-clause-units
returns-clause-units c =
    let done : c.loop-i.i ≡ c.args.n = omega arith in
    units_of_inverted c.args.modulus c.args.n c.loop-i.w c.loop-i.inverses c.args.n c.value-m.ensures.range.at_least_two (rw done at c.loop-i.invariant.inverted)

pub returns-clause-bad_pivot : goal.returns-clause-bad_pivot
returns-clause-bad_pivot c k = (
  (λ e. absurd (cc)),
  (λ bad. absurd (no_lu_bad_pivot c.args.modulus c.args.n c.value-m.ensures.range.at_least_two _ _ _ (returns-clause-factors c)
      (λ i row. rw (view-upper_above (entries c.args.n c.args.n c.loop-i.w) i i (omega arith)) (returns-clause-units c i row)) k bad)),
)
