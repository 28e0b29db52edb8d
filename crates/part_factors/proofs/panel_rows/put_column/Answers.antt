use Rattle.std.proofs.Common.{◌+◌, ◌*◌, ◌<◌, inl, inr, length, ◌∙◌, arith}
use Rattle.std.proofs.lemmas.Bool.{cases_eq}
use Rattle.std.proofs.lemmas.Nat.{mul-add-lt}
use Rattle.part_factors.proofs.PanelPlaceWrites.{in_panel-set_same, in_panel-set_other}
use Rattle.part_factors.proofs.panel_rows.put_column.Goals as goal

pub loop-j-preserved : goal.loop-j-preserved
loop-j-preserved c =
    let place : c.loop-j.j * c.args.height + c.args.k < length c.loop-j.panel =
    omega (arith, mul-add-lt c.loop-j.j c.args.height c.args.k (length c.args.values.now) (omega arith) c.requires.within, c.requires.lines, c.loop-j.auto.panel) in
    record {
      here = λ j up. elim (cases_eq j c.loop-j.j) [
        | inl same ↦ rw same (in_panel-set_same c.loop-j.panel c.args.height c.loop-j.j c.args.k _ place)
        | inr apart ↦ in_panel-set_other c.loop-j.panel c.args.height c.loop-j.j c.args.k _ j c.args.k c.requires.within c.requires.within (inl apart) ∙ c.loop-j.invariant.here j (omega arith)
      ];
      others = λ j p within apart. in_panel-set_other c.loop-j.panel c.args.height c.loop-j.j c.args.k _ j p c.requires.within within (inr apart) ∙ c.loop-j.invariant.others j p within apart;
    }
