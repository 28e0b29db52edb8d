use Rattle.std.proofs.Common.{ℕ, ◌+◌, ◌*◌, ◌%◌, ◌∙◌, ap, arith}
use Rattle.residue_sums.specs.Grids.{entry}
use Rattle.matrix_parts.specs.Opers.{op_cols, op_table}
use Rattle.part_updates.proofs.ScaledPanels.{times-diagonal}
use Rattle.part_updates.proofs.updates.factors.fill_scaled.Goals as goal

pub returns : goal.returns
returns c g k line within = times-diagonal c.args.m (op_cols c.args.d.now) c.args.d.now.primed c.args.d.now.structure (entry c.args.d.now.part) (op_table c.args.b.now)
    (c.args.piece.inner + k) (c.args.piece.left + g) _ c.requires.diagonal (omega (arith, c.requires.square))
    (c.scale_lines.ensures g k line within
    ∙ ap (λ (x : ℕ). x * op_table c.args.d.now (c.args.piece.inner + k) (c.args.piece.inner + k) % c.args.m)
    (c.fill_lines.ensures g k line within ∙ c.turned.ensures.table (c.args.piece.left + g) (c.args.piece.inner + k)))
