use Rattle.std.proofs.Common.{◌+◌, ◌*◌, inl, inr, ◌∙◌, arith}
use Rattle.std.proofs.lemmas.Bool.{cases_eq}
use Rattle.operand_lines.proofs.PanelPlaces.{line_before}
use Rattle.operand_lines.proofs.lines.fill_straight.Goals as goal

pub loop-g-preserved : goal.loop-g-preserved
loop-g-preserved c e k below within = elim (cases_eq e c.loop-g.g) [
  | inl same ↦ rw same (c.write_line.ensures.here k within)
  | inr other ↦ c.write_line.ensures.others (e * c.args.window.height + k) (inl (line_before e c.loop-g.g c.args.window.height k (omega arith) within))
      ∙ c.loop-g.invariant e k (omega arith) within
]
