use Rattle.std.proofs.Common.{◌≤◌, arith}
use Rattle.command_words.proofs.NumberWords.{out_of_range}
use Rattle.command_words.proofs.numbers.number_in.Goals as goal
use Rattle.command_words.proofs.numbers.number_in.Goals.{then-number-from-via-then-number-from, then-number-from-via-else-number-from+then-from-number}

pub returns-then-number-from : goal.returns-then-number-from
returns-then-number-from c =
    let number = c.in_ok-number.number in
    let out : c.args.low ≤ number → number ≤ c.args.high → ⊥ = λ from to. elim c.then-number-from.branch [
      | then-number-from-via-then-number-from w ↦ omega arith
      | then-number-from-via-else-number-from+then-from-number w ↦ omega arith
    ] in
    out_of_range c.args.word.now number c.args.low c.args.high c.in_ok-number.ensures.0 (omega arith) (cc (c.in_ok-number.ensures.1, c.as_bytes.ensures.value)) out
