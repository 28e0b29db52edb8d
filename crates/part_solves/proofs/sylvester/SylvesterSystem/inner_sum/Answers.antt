use Rattle.std.proofs.Common.{◌≡◌, ℕ, ◌+◌, ◌*◌, arith}
use Rattle.residue_sums.proofs.Sums.{mod_sum_step}
use Rattle.matrix_parts.specs.Opers.{op_rows, op_table}
use Rattle.part_solves.specs.LineSystems.{line_of}
use Rattle.part_solves.specs.SylvesterSystems.{block_of, columns_of}
use Rattle.part_solves.proofs.sylvester.SylvesterSystem.inner_sum.Goals as goal

pub loop-k-preserved : goal.loop-k-preserved
loop-k-preserved c =
    let e = c.args.e in
    let u = c.args.self.now.rows.table in
    let g : ℕ = e.from + c.loop-k.k in
    let coefficient : line_of c.args.factor.now (op_rows u) e.unknown (c.args.p.first + g) ≡ op_table u (c.args.p.first + e.unknown) (c.args.p.first + g) =
    c.requires.factor e.unknown (c.args.p.first + g) c.requires.equation.below (omega (arith, c.requires.piece, c.requires.equation.within)) in
    mod_sum_step c.args.self.now.columns.reducer
    (λ k. block_of c.args.p.first (op_table u) e.unknown (e.from + k) * columns_of c.args.panel.now (op_rows c.args.self.now.columns.table) c.args.i (e.from + k))
    c.loop-k.k c.loop-k.invariant
    (rw (c.size.ensures, c.size-2.ensures, coefficient) at c.product-product.ensures.value)
    (rw c.modulus-m.ensures.value at c.add-sum.ensures.value)
