use Rattle.std.proofs.Common.{◌+◌, inl, ap, ◌∙◌, arith}
use Rattle.residue_sums.specs.Grids.{Grid, entry}
use Rattle.matrix_parts.proofs.Kept.{IsKept-then}
use Rattle.block_store.proofs.PartGrids.{next-row, part-of_table}
use Rattle.block_store.proofs.copying.copy_part.Goals as goal

pub loop-i-preserved : goal.loop-i-preserved
loop-i-preserved c =
    let before = c.loop-i.invariant in
    let wrote = c.write_row.ensures in record {
      loan = wrote.loan ∙ before.loan;
      part = wrote.part;
      kept = IsKept-then _ _ _ before.kept wrote.kept;
      copied = next-row c.loop-i.buffer c.write_row.new.self (λ i j. entry c.args.matrix.now (c.args.part.row + i) (c.args.part.col + j)) c.loop-i.i c.args.part.cols before.copied
          (λ j col. wrote.here j (omega (arith, col, c.row_piece-piece.ensures.len)) ∙ c.row_piece-piece.ensures.entries j col
          ∙ ap (λ (g : Grid). entry g (c.args.part.row + c.loop-i.i) (c.args.part.col + j)) c.whole-entries.ensures)
          (λ a j above col. wrote.others a j (omega (arith, above, before.kept.rows, c.requires.size.rows)) (omega (arith, col, before.kept.cols, c.requires.size.cols)) (inl (λ e. omega (arith, above, e))));
    }

pub returns-clause-copied : goal.returns-clause-copied
returns-clause-copied c =
    let kept = c.loop-i.invariant.kept in
    part-of_table c.loop-i.buffer (λ i j. entry c.args.matrix.now (c.args.part.row + i) (c.args.part.col + j)) c.args.part.rows c.args.part.cols
    (kept.rows ∙ c.requires.size.rows) (kept.cols ∙ c.requires.size.cols)
    (λ i j row col. c.loop-i.invariant.copied i j (omega (arith, row, kept.rows, c.requires.size.rows)) (omega (arith, col, kept.cols, c.requires.size.cols)))
