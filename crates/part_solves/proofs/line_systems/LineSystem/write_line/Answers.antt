use Rattle.std.proofs.Common.{◌≡◌, ℕ, ◌+◌, inl, inr, ◌∙◌, arith, below_more}
use Rattle.residue_sums.specs.Tables.{oriented}
use Rattle.residue_sums.specs.Grids.{entry}
use Rattle.matrix_parts.specs.Opers.{op_rows}
use Rattle.matrix_parts.specs.Lent.{grid_of}
use Rattle.matrix_parts.proofs.Kept.{IsKept-then}
use Rattle.part_solves.specs.LineSystems.{IsInLine, line_of, line_count, line_size}
use Rattle.part_solves.proofs.LinesDone.{line_count-kept, line_size-kept}
use Rattle.part_solves.proofs.line_systems.LineSystem.write_line.Goals as goal

pub loop-k-preserved : goal.loop-k-preserved
loop-k-preserved c =
    let so_far = c.loop-k.invariant in
    let step = c.write_unknown.ensures in
    let turned = c.args.self.now.turned in
    let n : ℕ = op_rows c.args.self.now.table in
    let line : ℕ = c.args.first + c.args.g in
    let count : line_count turned (grid_of c.loop-k.w) ≡ line_count turned (grid_of c.args.w.now) = line_count-kept turned c.args.w.now c.loop-k.w so_far.kept in
    let size : line_size turned (grid_of c.loop-k.w) ≡ line_size turned (grid_of c.args.w.now) = line_size-kept turned c.args.w.now c.loop-k.w so_far.kept in
    record {
      loan = step.loan ∙ so_far.loan;
      part = step.part;
      kept = IsKept-then c.args.w.now c.loop-k.w c.write_unknown.new.w so_far.kept step.kept;
      here = below_more (λ k. IsInLine turned c.args.self.now.inside line k → oriented turned (entry (grid_of c.write_unknown.new.w)) line k ≡ line_of c.args.panel.now n c.args.g k) c.loop-k.k
          (λ k below inner. step.others line k (omega (arith, c.requires.line_in)) (omega (arith, c.requires.system.size, c.size-n.ensures)) (inr (inl (λ e. omega arith))) ∙ so_far.here k below inner)
          (λ inner. rw c.size-n.ensures at (step.here inner));
      others = λ h k row below place. elim place [
        | inl apart ↦ step.others h k (omega arith) (omega (arith, c.requires.system.size)) (inl apart) ∙ so_far.others h k row below (inl apart)
        | inr (inl later) ↦ step.others h k (omega arith) (omega (arith, c.requires.system.size)) (inr (inl (λ e. omega arith))) ∙ so_far.others h k row below (inr (inl (omega arith)))
        | inr (inr out) ↦ step.others h k (omega arith) (omega (arith, c.requires.system.size)) (inr (inr out)) ∙ so_far.others h k row below (inr (inr out))
      ];
      residues = λ a b row col. step.residues a b (omega (arith, so_far.kept.rows)) (omega (arith, so_far.kept.cols));
    }
