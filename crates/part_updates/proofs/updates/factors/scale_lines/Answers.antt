use Rattle.std.proofs.Common.{ℕ, ◌+◌, ◌*◌, ◌%◌, ◌≤◌, inl, inr, ap, ◌∙◌, arith}
use Rattle.std.proofs.lemmas.Bool.{cases_eq}
use Rattle.matrix_parts.specs.Opers.{op_table}
use Rattle.operand_lines.proofs.PanelPlaces.{line_before, line_room}
use Rattle.part_updates.proofs.updates.factors.scale_lines.Goals as goal

pub loop-g-preserved : goal.loop-g-preserved
loop-g-preserved c = record {
  here = λ e k below within. elim (cases_eq e c.loop-g.g) [
    | inl same ↦ rw same (c.scale_line.ensures.here k within
        ∙ ap (λ (x : ℕ). x * op_table c.args.d.now (c.args.piece.inner + k) (c.args.piece.inner + k) % c.args.m)
        (c.loop-g.invariant.behind c.loop-g.g k (omega arith) (omega arith) within))
    | inr other ↦ c.scale_line.ensures.others (e * c.args.piece.height + k) (inl (line_before e c.loop-g.g c.args.piece.height k (omega arith) within))
        ∙ c.loop-g.invariant.here e k (omega arith) within
  ];
  behind = λ e k after before within. c.scale_line.ensures.others (e * c.args.piece.height + k)
      (inr (omega (arith, line_room c.loop-g.g e c.args.piece.height (omega arith))))
      ∙ c.loop-g.invariant.behind e k (omega arith) before within;
}
