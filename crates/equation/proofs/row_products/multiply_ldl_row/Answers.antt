use Rattle.std.proofs.Common.{◌≡◌, ℕ, ◌+◌, ◌*◌, ◌%◌, ◌<◌, ◌∙◌, true, ap, sym, arith}
use Rattle.residue_sums.specs.Tables.{Table, oriented, times}
use Rattle.residue_sums.specs.Grids.{entry}
use Rattle.residue_sums.proofs.Sums.{sum_step}
use Rattle.structure_rules.specs.declared.Structure.TheVariants.{Diagonal, UnitLower}
use Rattle.structure_rules.specs.Structures.{view}
use Rattle.structure_rules.proofs.Views.{view-zero}
use Rattle.equation.proofs.RowProducts.{lower_small, product-ends, room_for_product, scaled_above, scaled_entry, scaled_small}
use Rattle.equation.proofs.row_products.multiply_ldl_row.Goals as goal

-- x is an entry of L * D
scaled_is : (m n i k x l d : ℕ) (w : Table) → k < n → x ≡ (l * d) % m → l ≡ view UnitLower w i k → d ≡ w k k
    → x ≡ times m n (view UnitLower w) (view Diagonal w) i k
scaled_is m n i k x l d w below x_is l_is d_is =
    x_is ∙ ap (λ (v : ℕ). (v * d) % m) l_is ∙ ap (λ (v : ℕ). (view UnitLower w i k * v) % m) d_is ∙ sym (scaled_entry m n w i k below)

pub add_row-requires-clause-room : goal.add_row-requires-clause-room
add_row-requires-clause-room c = λ j within.
    let w : Table = entry c.args.w.now in
    let n : ℕ = c.args.w.now.rows in
    let x_is = scaled_is c.args.m n c.args.at.row c.loop-k.k c.mul-x.result c.view_entry.result c.get.result w (omega arith) c.mul-x.ensures.value c.view_entry.ensures c.get.ensures in
    room_for_product (times c.args.m n (view UnitLower w) (view Diagonal w)) (oriented true (view UnitLower w))
    (scaled_small c.args.m n c.args.w.now c.requires.modulus c.requires.residues) (lower_small c.args.m n c.args.w.now c.requires.modulus c.requires.residues)
    c.args.at.row (c.args.at.col + j) c.loop-k.k _ _ (omega arith) (c.loop-k.invariant j within) x_is

pub loop-k-preserved : goal.loop-k-preserved
loop-k-preserved c = λ j within.
    let w : Table = entry c.args.w.now in
    let n : ℕ = c.args.w.now.rows in
    let x_is = scaled_is c.args.m n c.args.at.row c.loop-k.k c.mul-x.result c.view_entry.result c.get.result w (omega arith) c.mul-x.ensures.value c.view_entry.ensures c.get.ensures in
    sum_step (λ p. times c.args.m n (view UnitLower w) (view Diagonal w) c.args.at.row p * oriented true (view UnitLower w) p (c.args.at.col + j)) c.loop-k.k
    (c.loop-k.invariant j (omega arith))
    (ap (λ (v : ℕ). v * oriented true (view UnitLower w) c.loop-k.k (c.args.at.col + j)) x_is)
    (c.add_row.ensures j (omega arith))

pub returns : goal.returns
returns c = λ j within.
    let w : Table = entry c.args.w.now in
    let n : ℕ = c.args.w.now.rows in
    c.loop-k.invariant j (omega arith)
    ∙ product-ends n (times c.args.m n (view UnitLower w) (view Diagonal w)) (oriented true (view UnitLower w)) c.args.at.row (c.args.at.col + j)
    (c.args.at.row + 1) (c.args.at.col + j + 1) c.loop-k.k (omega arith) (omega arith)
    (λ k past below. scaled_above c.args.m n w c.args.at.row k (omega (arith, c.requires.modulus.at_least_two)) (omega arith) below)
    (λ k past below. view-zero UnitLower w (c.args.at.col + j) k (omega arith))
