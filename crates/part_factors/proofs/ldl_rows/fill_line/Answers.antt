use Rattle.std.proofs.Common.{◌≡◌, ℕ, ◌+◌, ◌-◌, ◌*◌, ◌%◌, ◌<◌, inl, inr, length, ap₂, ◌∙◌, arith}
use Rattle.std.proofs.lemmas.Bool.{cases_eq}
use Rattle.residue_sums.specs.Grids.{entry}
use Rattle.matrix_parts.specs.Lent.{grid_of}
use Rattle.part_factors.proofs.PanelPlaceWrites.{in_panel-set_same, in_panel-set_other}
use Rattle.part_factors.proofs.ldl_rows.fill_line.Goals as goal

pub loop-k-preserved : goal.loop-k-preserved
loop-k-preserved c =
    let line : ℕ = c.args.at.row - c.args.at.from in
    let place : (c.args.at.row - c.args.at.from) * c.args.at.height + c.loop-k.k < length c.loop-k.panel =
    omega (arith, c.requires.line, c.requires.height, c.loop-k.auto.panel) in
    let value : c.product.result ≡ entry (grid_of c.args.w.now) c.loop-k.k c.loop-k.k * entry (grid_of c.args.w.now) c.args.at.row c.loop-k.k % c.args.m =
    c.product.ensures.value ∙ ap₂ (λ (a b : ℕ). a * b % c.args.m) c.get.ensures c.get-in-loop-k.ensures in
    record {
      here = λ k up. elim (cases_eq k c.loop-k.k) [
        | inl same ↦ rw same (in_panel-set_same c.loop-k.panel c.args.at.height (c.args.at.row - c.args.at.from) c.loop-k.k _ place ∙ value)
        | inr apart ↦ in_panel-set_other c.loop-k.panel c.args.at.height (c.args.at.row - c.args.at.from) c.loop-k.k _ (c.args.at.row - c.args.at.from) k (omega (arith, c.requires.height)) (omega (arith, c.requires.height)) (inr apart)
            ∙ c.loop-k.invariant.here k (omega arith)
      ];
      others = λ j k within apart. in_panel-set_other c.loop-k.panel c.args.at.height (c.args.at.row - c.args.at.from) c.loop-k.k _ j k (omega (arith, c.requires.height)) within (inl apart)
          ∙ c.loop-k.invariant.others j k within apart;
    }
