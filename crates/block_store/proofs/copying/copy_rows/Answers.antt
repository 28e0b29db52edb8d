use Rattle.std.proofs.Common.{inl, ◌∙◌, arith}
use Rattle.residue_sums.specs.Grids.{entry}
use Rattle.matrix_parts.proofs.Kept.{IsKept-then}
use Rattle.block_store.proofs.PartGrids.{next-row, part-is}
use Rattle.block_store.proofs.copying.copy_rows.Goals as goal

pub loop-i-preserved : goal.loop-i-preserved
loop-i-preserved c =
    let before = c.loop-i.invariant in
    let wrote = c.write_row.ensures in record {
      loan = wrote.loan ∙ before.loan;
      part = wrote.part;
      kept = IsKept-then _ _ _ before.kept wrote.kept;
      copied = next-row c.loop-i.to c.write_row.new.self (entry c.args.from.now) c.loop-i.i c.args.from.now.cols before.copied
          (λ j col. wrote.here j (omega (arith, col, c.row.ensures.len)) ∙ c.row.ensures.entries j col)
          (λ a j above col. wrote.others a j (omega (arith, above, before.kept.rows)) (omega (arith, col, before.kept.cols)) (inl (λ e. omega (arith, above, e))));
    }

pub returns-clause-copied : goal.returns-clause-copied
returns-clause-copied c =
    let kept = c.loop-i.invariant.kept in
    part-is c.loop-i.to c.args.from.now c.rows-i-end.ensures.full (kept.rows ∙ c.requires.rows) (kept.cols ∙ c.requires.cols)
    (λ i j row col. c.loop-i.invariant.copied i j (omega (arith, row, kept.rows)) (omega (arith, col, kept.cols)))
