use Rattle.std.proofs.Common.{◌≡◌, ℕ, ◌+◌, ◌*◌, inr, sym, subst, ◌∙◌, arith}
use Rattle.residue_sums.proofs.Congruence.{Cong-trans, Cong-from_same}
use Rattle.matrix_parts.specs.Opers.{op_rows, op_table}
use Rattle.part_solves.specs.LineSystems.{order_in}
use Rattle.part_solves.specs.SylvesterSystems.{IsPieceTo, columns_of}
use Rattle.part_solves.proofs.LineSteps.{others-agree}
use Rattle.part_solves.proofs.sylvester.SylvesterSystem.put_entries.Goals as goal

pub loop-r-preserved : goal.loop-r-preserved
loop-r-preserved c =
    let so_far = c.loop-r.invariant in
    let step = c.put_entry.ensures in
    let t = c.args.self.now.columns.table in
    let n : ℕ = op_rows t in
    let i : ℕ = c.args.i in
    let g : ℕ = c.column_at-e.result.unknown in
    let start : ℕ = order_in t i * c.args.p.lines in
    let next : start + c.loop-r.r + 1 ≡ start + (c.loop-r.r + 1) = omega arith in
    record {
      solved = λ before sums_are begun. subst (λ (q : ℕ). IsPieceTo c.args.self.now c.args.p before (columns_of c.put_entry.new.panel n) q) next
          ((rw c.column_at-e.ensures.place at step.solved) before
          (Cong-trans (sums_are g c.column_at-e.ensures.equation.below)
          (Cong-from_same (others-agree n i (op_table t) (λ k. columns_of c.args.panel.now n k g) (λ k. columns_of c.loop-r.panel n k g) (λ k below apart. sym (so_far.others g k below apart)))))
          (so_far.solved before sums_are begun));
      others = λ g k below apart. step.others g k below (inr apart) ∙ so_far.others g k below apart;
      residues = step.residues;
    }
