use Rattle.std.proofs.Common.{◌≡◌, ℕ, ◌+◌, inl, inr, ◌∙◌, arith, below_more}
use Rattle.residue_sums.specs.Tables.{oriented}
use Rattle.residue_sums.specs.Grids.{entry}
use Rattle.matrix_parts.specs.Opers.{op_rows}
use Rattle.matrix_parts.specs.Lent.{grid_of}
use Rattle.matrix_parts.proofs.Kept.{IsKept-then}
use Rattle.part_solves.specs.LineSystems.{IsInLine, line_of, line_count, line_size}
use Rattle.part_solves.proofs.LinesDone.{line_count-kept, line_size-kept}
use Rattle.part_solves.proofs.line_systems.LineSystem.write_across.Goals as goal

pub loop-g-preserved : goal.loop-g-preserved
loop-g-preserved c =
    let so_far = c.loop-g.invariant in
    let step = c.write_unknown.ensures in
    let turned = c.args.self.now.turned in
    let inside = c.args.self.now.inside in
    let n : ℕ = op_rows c.args.self.now.table in
    let first : ℕ = c.args.lines.first in
    let k : ℕ = c.args.k in
    let count : line_count turned (grid_of c.loop-g.w) ≡ line_count turned (grid_of c.args.w.now) = line_count-kept turned c.args.w.now c.loop-g.w so_far.kept in
    let size : line_size turned (grid_of c.loop-g.w) ≡ line_size turned (grid_of c.args.w.now) = line_size-kept turned c.args.w.now c.loop-g.w so_far.kept in
    record {
      loan = step.loan ∙ so_far.loan;
      part = step.part;
      kept = IsKept-then c.args.w.now c.loop-g.w c.write_unknown.new.w so_far.kept step.kept;
      here = below_more (λ g. IsInLine turned inside (first + g) k → oriented turned (entry (grid_of c.write_unknown.new.w)) (first + g) k ≡ line_of c.args.panel.now n g k) c.loop-g.g
          (λ g below inner. step.others (first + g) k (omega (arith, c.requires.lines_in)) (omega (arith, c.requires.system.size, c.requires.unknown_in)) (inl (λ e. omega arith)) ∙ so_far.here g below inner)
          (λ inner. rw c.size-n.ensures at (step.here inner));
      others = λ h q row below place. elim place [
        | inl apart ↦ step.others h q (omega arith) (omega (arith, c.requires.system.size)) (inr (inl apart)) ∙ so_far.others h q row below (inl apart)
        | inr (inl before) ↦ step.others h q (omega arith) (omega (arith, c.requires.system.size)) (inl (λ e. omega arith)) ∙ so_far.others h q row below (inr (inl before))
        | inr (inr (inl behind)) ↦ step.others h q (omega arith) (omega (arith, c.requires.system.size)) (inl (λ e. omega arith)) ∙ so_far.others h q row below (inr (inr (inl (omega arith))))
        | inr (inr (inr out)) ↦ step.others h q (omega arith) (omega (arith, c.requires.system.size)) (inr (inr out)) ∙ so_far.others h q row below (inr (inr (inr out)))
      ];
      residues = λ a b row col. step.residues a b (omega (arith, so_far.kept.rows)) (omega (arith, so_far.kept.cols));
    }
