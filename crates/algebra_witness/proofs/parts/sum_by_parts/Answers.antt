use Rattle.std.proofs.Common.{◌≡◌, ◌∙◌, ap, arith, length, slice_index, ◌%◌}
use Rattle.residue_sums.specs.Sums.{sum_below, part_count, part_sum}
use Rattle.residue_sums.proofs.Parts.{div_ceil_is_part_count, sum_below-all_parts}
use Rattle.algebra_witness.proofs.parts.sum_by_parts.Goals as goal

pub returns : goal.returns
returns c =
    let n = length c.args.a.now in
    let f = slice_index c.args.a.now in
    let all : c.loop-p.p ≡ part_count n c.args.size = omega (arith, div_ceil_is_part_count n c.args.size c.requires.size) in
    c.loop-p.invariant ∙ ap (λ q. sum_below (part_sum n c.args.size f) q % c.args.modulus) all ∙ ap (λ s. s % c.args.modulus) (sum_below-all_parts n c.args.size f c.requires.size)
