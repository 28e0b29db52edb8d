use Rattle.std.proofs.Common.{◌≡◌, ◌+◌, ◌-◌, subst, refl, below_more, arith}
use Rattle.equation.specs.Candidates.{HoldsHere}
use Rattle.equation.proofs.residuals.first_among.Goals as goal

pub returns-then-not-holds : goal.returns-then-not-holds
returns-then-not-holds c = record {
  row = refl;
  from = omega arith;
  to = omega arith;
  fails = λ here. let wrong = c.if-not-holds.ensures.1 here in absurd (cc);
  first = λ j from before.
      let place : c.args.at.col + (j - c.args.at.col) ≡ j = omega arith in
      subst (HoldsHere c.args.c.now c.args.at.row) place (c.loop-j.invariant (j - c.args.at.col) (omega arith));
}

pub loop-j-preserved : goal.loop-j-preserved
loop-j-preserved c = below_more _ _ c.loop-j.invariant (c.if-not-holds.ensures.0 refl)
