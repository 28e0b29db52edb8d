use Rattle.std.proofs.Common.{◌+◌, ◌*◌, inl, inr, ◌∙◌, arith}
use Rattle.std.proofs.lemmas.Bool.{cases_eq}
use Rattle.std.proofs.lemmas.List.{get_or-set_same}
use Rattle.operand_lines.proofs.PanelPlaces.{place_apart, line_before}
use Rattle.operand_lines.proofs.lines.view_across.Goals as goal

pub loop-g-preserved : goal.loop-g-preserved
loop-g-preserved c = record {
  here = λ e below. elim (cases_eq e c.loop-g.g) [
    | inl same ↦ rw same (get_or-set_same c.loop-g.panel (c.loop-g.g * c.args.window.height + c.args.k) c.view_entry.result 0
        (omega (arith, line_before c.loop-g.g c.args.window.lines c.args.window.height c.args.k (omega arith) c.requires.inside, c.loop-g.auto.panel)) ∙ c.view_entry.ensures)
    | inr other ↦ place_apart c.loop-g.panel c.loop-g.g c.args.k e c.args.k c.args.window.height c.view_entry.result c.requires.inside c.requires.inside (inl other)
        ∙ c.loop-g.invariant.here e (omega arith)
  ];
  others = λ e q within apart. place_apart c.loop-g.panel c.loop-g.g c.args.k e q c.args.window.height c.view_entry.result c.requires.inside within (inr apart)
      ∙ c.loop-g.invariant.others e q within apart;
}
