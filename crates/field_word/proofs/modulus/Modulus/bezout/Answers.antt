use Rattle.std.proofs.Common.{◌<◌, arith}
use Rattle.std.proofs.Math.Nat.{mod-lt}
use Rattle.std.proofs.lemmas.Nat.Gcd.{IsGcd-from_zero, IsGcd-from_mod}
use Rattle.residue_sums.proofs.Congruence.{Cong-from_same, Cong-by, Cong-multiple}
use Rattle.field_word.proofs.Euclid.{Factors-step, products_step, low_factor_below, factor_from_negative}
use Rattle.field_word.proofs.modulus.Modulus.bezout.Goals as goal

pub loop-low-init : goal.loop-low-init
loop-low-init c = record {
  divisor = λ g is. rw c.self.view_is at is;
  factors = (Cong-by (Cong-multiple c.args.self 1) (omega arith), Cong-from_same (omega arith));
  products = omega arith;
  order = omega arith;
  range = omega arith;
}

pub loop-low-preserved : goal.loop-low-preserved
loop-low-preserved c =
    let before = c.loop-low.invariant in
    let pos : 0 < c.loop-low.low = omega arith in
    record {
      divisor = λ g is. before.divisor g (IsGcd-from_mod c.loop-low.high c.loop-low.low g is);
      factors = Factors-step c.args.self c.args.a c.loop-low.high c.loop-low.low c.loop-low.high_factor c.loop-low.low_factor c.loop-low.is_high_positive before.factors;
      products = products_step c.args.self c.loop-low.high c.loop-low.low c.loop-low.high_factor c.loop-low.low_factor before.products;
      order = mod-lt c.loop-low.high pos;
      range = low_factor_below c.args.self c.loop-low.high c.loop-low.low c.loop-low.high_factor c.loop-low.low_factor (omega arith) pos before.order before.products;
    }

pub returns-then-is_high_positive-clause-divisor : goal.returns-then-is_high_positive-clause-divisor
returns-then-is_high_positive-clause-divisor c =
    c.loop-low.invariant.divisor c.loop-low.high (IsGcd-from_zero c.loop-low.high c.loop-low.low c.loop-low-test.false)

pub returns-else-is_high_positive-clause-divisor : goal.returns-else-is_high_positive-clause-divisor
returns-else-is_high_positive-clause-divisor c =
    c.loop-low.invariant.divisor c.loop-low.high (IsGcd-from_zero c.loop-low.high c.loop-low.low c.loop-low-test.false)

pub returns-else-is_high_positive-clause-factor : goal.returns-else-is_high_positive-clause-factor
returns-else-is_high_positive-clause-factor c =
    let negative = rw c.if-is_high_positive.false at c.loop-low.invariant.factors in
    factor_from_negative c.args.self c.args.a c.loop-low.high c.loop-low.high_factor c.neg.result c.loop-low.invariant.range negative.0 c.neg.ensures.value
