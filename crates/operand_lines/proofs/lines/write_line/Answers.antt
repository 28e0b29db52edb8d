use Rattle.std.proofs.Common.{◌≡◌, ℕ, ◌+◌, ◌-◌, inl, inr, ◌∙◌, arith}
use Rattle.std.proofs.lemmas.Bool.{cases_lt}
use Rattle.operand_lines.proofs.lines.write_line.Goals as goal

pub returns-clause-here : goal.returns-clause-here
returns-clause-here c k below =
    let cut : ℕ = c.cut_of-cut.result in
    elim (cases_lt k cut) [
      | inl first ↦ c.write_piece-2.ensures.others (c.args.at + k) (inl (omega arith)) ∙ c.write_piece.ensures.here k first
      | inr later ↦ (let at : c.args.at + cut + (k - cut) ≡ c.args.at + k = omega arith in
          let col : c.args.from + cut + (k - cut) ≡ c.args.from + k = omega arith in
          rw (at, col) at (c.write_piece-2.ensures.here (k - cut) (omega arith)))
    ]
