use Rattle.std.proofs.Common.{arith}
use Rattle.std.specs.Char.{is_ascii_digit}
use Rattle.std.proofs.lemmas.List.Sums.{prefix_len-le-length}
use Rattle.byte_texts.proofs.Digits.{leading_digits}
use Rattle.byte_texts.proofs.decimals.read_decimal.Goals as goal

pub split_at-requires : goal.split_at-requires
split_at-requires c = omega (arith, c.digits_len-count.ensures, prefix_len-le-length is_ascii_digit c.args.bytes.now)

pub digits_number-requires : goal.digits_number-requires
digits_number-requires c = rw (c.split_at.ensures.front, c.digits_len-count.ensures) (leading_digits c.args.bytes.now)
