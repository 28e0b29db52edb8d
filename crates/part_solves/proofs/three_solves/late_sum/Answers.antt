use Rattle.std.proofs.Common.{◌≡◌, ℕ, ◌*◌, length, slice_index, ◌∙◌, arith}
use Rattle.residue_sums.proofs.Congruence.{Cong-add, Cong-by, Cong-from_mod, Cong-from_same}
use Rattle.residue_sums.proofs.Sums.{sum_below-more}
use Rattle.part_solves.proofs.three_solves.late_sum.Goals as goal

pub loop-k-init : goal.loop-k-init
loop-k-init c = record {
  value = Cong-from_same (omega arith);
  small = omega arith;
}

pub loop-k-preserved : goal.loop-k-preserved
loop-k-preserved c =
    let f : ℕ → ℕ = λ k. slice_index c.args.row.now k * slice_index c.args.line.now k in
    record {
      value = Cong-by (Cong-add c.loop-k.invariant.value (Cong-from_mod c.product-sum.ensures.value)) (omega (arith, sum_below-more f c.loop-k.k));
      small = omega arith;
    }

pub returns-clause-value : goal.returns-clause-value
returns-clause-value c =
    let all : c.loop-k.k ≡ length c.args.row.now = omega arith in
    c.residue.ensures.value ∙ rw all at c.loop-k.invariant.value.same
