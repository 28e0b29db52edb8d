use Rattle.std.proofs.Common.{◌+◌, ◌*◌, length, slice_index, inl, inr, ◌∙◌, arith}
use Rattle.std.proofs.lemmas.Bool.{cases_eq}
use Rattle.std.proofs.lemmas.List.{get_or-set_same}
use Rattle.operand_lines.proofs.PanelPlaces.{place_apart, line_before}
use Rattle.operand_lines.proofs.lines.put_across.Goals as goal

pub loop-g-preserved : goal.loop-g-preserved
loop-g-preserved c = record {
  here = λ e below. elim (cases_eq e c.loop-g.g) [
    | inl same ↦ rw same (get_or-set_same c.loop-g.panel (c.loop-g.g * c.args.height + c.args.k) (slice_index c.args.numbers.now c.loop-g.g) 0
        (omega (arith, line_before c.loop-g.g (length c.args.numbers.now) c.args.height c.args.k (omega arith) c.requires.inside, c.loop-g.auto.panel)))
    | inr other ↦ place_apart c.loop-g.panel c.loop-g.g c.args.k e c.args.k c.args.height (slice_index c.args.numbers.now c.loop-g.g) c.requires.inside c.requires.inside (inl other)
        ∙ c.loop-g.invariant.here e (omega arith)
  ];
  others = λ e q within apart. place_apart c.loop-g.panel c.loop-g.g c.args.k e q c.args.height (slice_index c.args.numbers.now c.loop-g.g) c.requires.inside within (inr apart)
      ∙ c.loop-g.invariant.others e q within apart;
}
