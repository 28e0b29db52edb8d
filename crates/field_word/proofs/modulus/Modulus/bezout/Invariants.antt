use Rattle.std.proofs.Common.{◌≡◌, ℕ, ◌+◌, ◌*◌, ◌<◌}
use Rattle.std.specs.Int.{IsGcd}
use Rattle.field_word.proofs.Euclid.{Factors}
use Rattle.field_word.proofs.modulus.Modulus.bezout.Given as goal

abbrev pub invariant-loop-low : goal.invariant-loop-low
invariant-loop-low l = record {
  divisor : (g : ℕ) → IsGcd l.high l.low g → IsGcd l.fn.self l.a g;
  factors : Factors l.fn.self l.a l.high l.low l.high_factor l.low_factor l.is_high_positive;
  products : l.high * l.low_factor + l.low * l.high_factor ≡ l.fn.self;
  order : l.low < l.high;
  range : l.high_factor < l.fn.self;
}

abbrev pub decreases-loop-low : goal.decreases-loop-low
decreases-loop-low l = l.low
