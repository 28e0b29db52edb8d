use Rattle.std.proofs.Common.{◌≡◌, ℕ, ◌+◌, ◌*◌, ◌∙◌}
use Rattle.residue_sums.specs.Grids.{entry}
use Rattle.residue_sums.proofs.Sums.{mod_sum_step}
use Rattle.matrix_parts.specs.Opers.{op_table}
use Rattle.matrix_parts.specs.Lent.{grid_of}
use Rattle.part_solves.specs.LineSystems.{line_table}
use Rattle.part_solves.proofs.line_systems.LineSystem.plain_sum.Goals as goal

pub loop-k-preserved : goal.loop-k-preserved
loop-k-preserved c =
    let at : ℕ = c.args.e.from + c.loop-k.k in
    let x : c.get-x.result ≡ line_table c.args.self.now.turned c.args.self.now.inside (entry (grid_of c.args.w.now)) c.args.line at = c.get-x.ensures ∙ c.lines_of-lines.ensures.table c.args.line at in
    mod_sum_step c.args.self.now.reducer
    (λ k. op_table c.args.self.now.table c.args.e.unknown (c.args.e.from + k) * line_table c.args.self.now.turned c.args.self.now.inside (entry (grid_of c.args.w.now)) c.args.line (c.args.e.from + k))
    c.loop-k.k c.loop-k.invariant
    (rw (c.modulus-m.ensures.value, c.get.ensures, x) at c.mul-product.ensures.value)
    (rw c.modulus-m.ensures.value at c.add-sum.ensures.value)
