use Rattle.std.proofs.Common.{◌<◌, sym, arith, slice_index}
use Rattle.std.proofs.Math.Nat.{mod-eq_of_lt}
use Rattle.residue_sums.proofs.Sums.{mod_sum_step}
use Rattle.algebra_witness.proofs.parts.sum.Goals as goal

pub loop-x-preserved : goal.loop-x-preserved
loop-x-preserved c =
    let below : slice_index c.args.a.now c.loop-x.x-index < c.args.modulus = c.requires c.loop-x.x-index 0 (omega arith) in
    mod_sum_step c.args.modulus (slice_index c.args.a.now) c.loop-x.x-index c.loop-x.invariant (sym (mod-eq_of_lt below)) c.add-total.ensures.value
