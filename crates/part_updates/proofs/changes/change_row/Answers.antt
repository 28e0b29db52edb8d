use Rattle.std.proofs.Common.{rules, ℕ, ◌+◌, inl, inr, slice_index, ap, ◌∙◌, arith}
use Rattle.std.proofs.lemmas.Bool.{cases_eq}
use Rattle.residue_sums.specs.Grids.{entry}
use Rattle.matrix_parts.specs.Lent.{grid_of}
use Rattle.matrix_parts.proofs.Kept.{IsKept-then}
use Rattle.part_updates.specs.Changes.{added}
use Rattle.part_updates.proofs.changes.change_row.Goals as goal

pub loop-j-preserved : goal.loop-j-preserved
loop-j-preserved c = record {
  loan = c.change_entry.ensures.loan ∙ c.loop-j.invariant.loan;
  part = c.change_entry.ensures.part;
  kept = IsKept-then _ _ _ c.loop-j.invariant.kept c.change_entry.ensures.kept;
  here = λ k below inside. elim (cases_eq k c.loop-j.j) [
    | inl same ↦ rw same (c.change_entry.ensures.here (rw same at inside)
        ∙ ap (λ (x : ℕ). added c.args.change.now.m c.args.change.now.minus x (slice_index c.args.residues.now c.loop-j.j))
        (c.loop-j.invariant.others c.args.i (c.args.from + c.loop-j.j) c.requires.row_in (omega arith) (inr (inr (omega arith)))))
    | inr other ↦ c.change_entry.ensures.others c.args.i (c.args.from + k) (omega (arith, c.loop-j.invariant.kept.rows)) (omega (arith, c.loop-j.invariant.kept.cols)) (inr (λ e. other (omega arith)))
        ∙ c.loop-j.invariant.here k (omega arith) inside
  ];
  range = λ k below. elim (cases_eq k c.loop-j.j) [
    | inl same ↦ rw same c.change_entry.ensures.range
    | inr other ↦ rw (c.change_entry.ensures.others c.args.i (c.args.from + k) (omega (arith, c.loop-j.invariant.kept.rows)) (omega (arith, c.loop-j.invariant.kept.cols)) (inr (λ e. other (omega arith))))
        (c.loop-j.invariant.range k (omega arith))
  ];
  zero = search rules;
  others = search rules;
}
