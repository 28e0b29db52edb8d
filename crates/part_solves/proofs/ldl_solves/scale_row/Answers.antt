use Rattle.std.proofs.Common.{◌≡◌, ℕ, ◌*◌, ◌%◌, ◌<◌, inl, inr, ◌∙◌, arith, below_more}
use Rattle.residue_sums.specs.Grids.{entry}
use Rattle.matrix_parts.specs.Lent.{grid_of}
use Rattle.matrix_parts.proofs.Kept.{IsKept-then}
use Rattle.part_solves.proofs.ldl_solves.scale_row.Goals as goal

pub loop-j-preserved : goal.loop-j-preserved
loop-j-preserved c =
    let so_far = c.loop-j.invariant in
    let step = c.set.ensures in
    let i : ℕ = c.args.i in
    let rows : i < c.loop-j.w.rows = omega (arith, so_far.kept.rows, c.requires.row_in) in
    let old : c.get.result ≡ entry (grid_of c.args.w.now) i c.loop-j.j = c.get.ensures ∙ so_far.others i c.loop-j.j c.requires.row_in (omega (arith, c.cols-j-end.ensures)) (inr (omega arith)) in
    record {
      loan = step.loan ∙ so_far.loan;
      part = step.part;
      kept = IsKept-then c.args.w.now c.loop-j.w c.set.new.self so_far.kept step.kept;
      here = below_more (λ b. entry (grid_of c.set.new.self) i b ≡ (entry (grid_of c.args.w.now) i b * entry c.args.scales.now 0 b) % c.args.m) c.loop-j.j
          (λ b below. step.others i b rows (omega (arith, so_far.kept.cols, c.cols-j-end.ensures)) (inr (λ e. omega arith)) ∙ so_far.here b below)
          (step.here ∙ (rw (old, c.get-in-loop-j.ensures) at c.product-scaled.ensures.value));
      others = λ a b row col place. elim place [
        | inl apart ↦ step.others a b (omega (arith, so_far.kept.rows)) (omega (arith, so_far.kept.cols)) (inl apart) ∙ so_far.others a b row col (inl apart)
        | inr later ↦ step.others a b (omega (arith, so_far.kept.rows)) (omega (arith, so_far.kept.cols)) (inr (λ e. omega arith)) ∙ so_far.others a b row col (inr (omega arith))
      ];
    }
