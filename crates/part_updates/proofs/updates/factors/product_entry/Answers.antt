use Rattle.std.proofs.Common.{◌*◌}
use Rattle.matrix_parts.specs.Opers.{op_table}
use Rattle.residue_sums.proofs.Sums.{mod_sum_step}
use Rattle.part_updates.proofs.updates.factors.product_entry.Goals as goal

pub loop-k-preserved : goal.loop-k-preserved
loop-k-preserved c = mod_sum_step c.args.m (λ k. op_table c.args.d.now c.args.i k * op_table c.args.b.now k c.args.j) c.loop-k.k c.loop-k.invariant
    (rw (c.get.ensures, c.get-in-loop-k.ensures) at c.product.ensures.value) (rw c.modulus-modulus.ensures.value at c.add-sum.ensures.value)
