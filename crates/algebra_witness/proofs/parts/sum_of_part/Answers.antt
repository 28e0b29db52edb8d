use Rattle.std.proofs.Common.{◌≡◌, ◌∙◌, ◌+◌, ◌*◌, ◌-◌, ◌%◌, ap, arith, length}
use Rattle.residue_sums.specs.Sums.{part_length}
use Rattle.algebra_witness.proofs.Slices.{sum_below-slice}
use Rattle.algebra_witness.proofs.parts.sum_of_part.Goals as goal

pub returns-clause-value : goal.returns-clause-value
returns-clause-value c =
    let start = c.args.p * c.args.size in
    let taken : start + c.min.result - start ≡ part_length (length c.args.a.now) c.args.size c.args.p = omega arith in
    c.sum.ensures ∙ ap (λ s. s % c.args.modulus) (sum_below-slice c.args.a.now start (start + c.min.result - start) (part_length (length c.args.a.now) c.args.size c.args.p) taken (omega arith))
