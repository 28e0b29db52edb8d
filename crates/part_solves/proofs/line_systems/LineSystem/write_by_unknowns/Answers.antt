use Rattle.std.proofs.Common.{◌≡◌, ◌+◌, inl, inr, ◌∙◌, arith}
use Rattle.std.proofs.lemmas.Bool.{cases_eq}
use Rattle.matrix_parts.specs.Lent.{grid_of}
use Rattle.matrix_parts.proofs.Kept.{IsKept-then}
use Rattle.part_solves.specs.LineSystems.{line_count}
use Rattle.part_solves.proofs.LinesDone.{line_count-kept}
use Rattle.part_solves.proofs.line_systems.LineSystem.write_by_unknowns.Goals as goal

pub loop-k-preserved : goal.loop-k-preserved
loop-k-preserved c =
    let so_far = c.loop-k.invariant in
    let written = so_far.written in
    let step = c.write_across.ensures in
    let turned = c.args.self.now.turned in
    let count : line_count turned (grid_of c.loop-k.w) ≡ line_count turned (grid_of c.args.w.now) = line_count-kept turned c.args.w.now c.loop-k.w so_far.kept in
    record {
      loan = step.loan ∙ so_far.loan;
      part = step.part;
      kept = IsKept-then c.args.w.now c.loop-k.w c.write_across.new.w so_far.kept step.kept;
      written = record {
        here = λ g k line below inner. elim (cases_eq k c.loop-k.k) [
          | inl same ↦ rw same (step.here g line (rw same at inner))
          | inr other ↦ step.others (c.args.first + g) k (omega (arith, c.requires.lines_in)) (omega (arith, c.size-k-end.ensures)) (inl other) ∙ written.here g k line (omega arith) inner
        ];
        others = λ h k row below place. elim place [
          | inl before ↦ step.others h k (omega arith) below (inr (inl before)) ∙ written.others h k row below (inl before)
          | inr (inl behind) ↦ step.others h k (omega arith) below (inr (inr (inl behind))) ∙ written.others h k row below (inr (inl behind))
          | inr (inr (inl later)) ↦ step.others h k (omega arith) below (inl (λ e. omega arith)) ∙ written.others h k row below (inr (inr (inl (omega arith))))
          | inr (inr (inr out)) ↦ step.others h k (omega arith) below (inr (inr (inr out))) ∙ written.others h k row below (inr (inr (inr out)))
        ];
        residues = λ a b row col. step.residues a b (omega (arith, so_far.kept.rows)) (omega (arith, so_far.kept.cols));
      };
    }
