use Rattle.std.proofs.Common.{arith, ◌+◌, ◌∙◌}
use Rattle.std.proofs.lemmas.Str.Parse.{digit_at}
use Rattle.byte_texts.proofs.Digits.{digits_more, digits_below}
use Rattle.byte_texts.proofs.decimals.digits_number.Goals as goal

pub overflow_sub-digit : goal.overflow_sub-digit
overflow_sub-digit c = (digit_at c.args.digits.now c.loop-digit.digit-index c.requires c.loop-digit-test.true).0

pub one_digit_more-requires : goal.one_digit_more-requires
one_digit_more-requires c =
    let digit = digit_at c.args.digits.now c.loop-digit.digit-index c.requires c.loop-digit-test.true in
    omega (arith, digit.0, digit.1)

pub returns-in_err-value : goal.returns-in_err-value
returns-in_err-value c =
    let more = digits_more c.args.digits.now c.loop-digit.digit-index c.loop-digit.value c.requires c.loop-digit-test.true c.loop-digit.invariant.value in
    rw c.from_residual.ensures (digits_below c.args.digits.now (c.loop-digit.digit-index + 1) 18446744073709551616 (rw (← more) c.in_err-value.ensures))

pub loop-digit-preserved : goal.loop-digit-preserved
loop-digit-preserved c = record {
  value = c.in_ok-value.ensures.0 ∙ digits_more c.args.digits.now c.loop-digit.digit-index c.loop-digit.value c.requires c.loop-digit-test.true c.loop-digit.invariant.value;
  below = c.in_ok-value.ensures.1;
}
