use Rattle.std.proofs.Common.{◌≡◌, ◌+◌, inl, inr, ◌∙◌, arith}
use Rattle.std.proofs.lemmas.Bool.{cases_eq}
use Rattle.matrix_parts.specs.Lent.{grid_of}
use Rattle.matrix_parts.proofs.Kept.{IsKept-then}
use Rattle.part_solves.specs.LineSystems.{line_count}
use Rattle.part_solves.proofs.LinesDone.{line_count-kept}
use Rattle.part_solves.proofs.line_systems.LineSystem.write_by_lines.Goals as goal

pub loop-g-preserved : goal.loop-g-preserved
loop-g-preserved c =
    let so_far = c.loop-g.invariant in
    let written = so_far.written in
    let step = c.write_line.ensures in
    let turned = c.args.self.now.turned in
    let count : line_count turned (grid_of c.loop-g.w) ≡ line_count turned (grid_of c.args.w.now) = line_count-kept turned c.args.w.now c.loop-g.w so_far.kept in
    record {
      loan = step.loan ∙ so_far.loan;
      part = step.part;
      kept = IsKept-then c.args.w.now c.loop-g.w c.write_line.new.w so_far.kept step.kept;
      written = record {
        here = λ g k line below inner. elim (cases_eq g c.loop-g.g) [
          | inl same ↦ rw same (step.here k below (rw same at inner))
          | inr other ↦ step.others (c.args.first + g) k (omega (arith, c.requires.lines_in)) below (inl (λ e. omega arith)) ∙ written.here g k (omega arith) below inner
        ];
        others = λ h k row below place. elim place [
          | inl before ↦ step.others h k (omega arith) below (inl (λ e. omega arith)) ∙ written.others h k row below (inl before)
          | inr (inl behind) ↦ step.others h k (omega arith) below (inl (λ e. omega arith)) ∙ written.others h k row below (inr (inl (omega arith)))
          | inr (inr (inl past)) ↦ absurd (omega arith)
          | inr (inr (inr out)) ↦ step.others h k (omega arith) below (inr out) ∙ written.others h k row below (inr (inr (inr out)))
        ];
        residues = λ a b row col. step.residues a b (omega (arith, so_far.kept.rows)) (omega (arith, so_far.kept.cols));
      };
    }
