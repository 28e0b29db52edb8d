use Rattle.std.proofs.Common.{ℕ, ◌*◌, ◌%◌, ◌<◌, inl, inr, ap, ◌∙◌, arith}
use Rattle.std.proofs.lemmas.Bool.{cases_eq}
use Rattle.residue_sums.specs.Grids.{entry}
use Rattle.matrix_parts.proofs.Kept.{IsKept-then}
use Rattle.part_solves.proofs.ldl_solves.scale_columns.Goals as goal

pub loop-i-preserved : goal.loop-i-preserved
loop-i-preserved c =
    let so_far = c.loop-i.invariant in
    let step = c.scale_row.ensures in
    let i : ℕ = c.loop-i.i in
    let row_in : i < c.args.w.now.rows = omega (arith, c.rows-i-end.ensures) in
    record {
      loan = step.loan ∙ so_far.loan;
      part = step.part;
      kept = IsKept-then c.args.w.now c.loop-i.w c.scale_row.new.w so_far.kept step.kept;
      scaled = λ a b row col. elim (cases_eq a i) [
        | inl same ↦ rw same (step.here b (omega (arith, so_far.kept.cols)) ∙ ap (λ (v : ℕ). (v * entry c.args.scales.now 0 b) % c.args.m) (so_far.pending i b (omega arith) row_in col))
        | inr other ↦ step.others a b (omega (arith, so_far.kept.rows)) (omega (arith, so_far.kept.cols)) other ∙ so_far.scaled a b (omega arith) col
      ];
      pending = λ a b later row col. step.others a b (omega (arith, so_far.kept.rows)) (omega (arith, so_far.kept.cols)) (λ e. omega arith) ∙ so_far.pending a b (omega arith) row col;
    }
