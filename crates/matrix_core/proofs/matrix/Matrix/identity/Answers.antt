use Rattle.residue_sums.proofs.Grids.{IsFull-with_entry}
use Rattle.matrix_core.proofs.Identity.{one_more}
use Rattle.matrix_core.proofs.matrix.Matrix.identity.Goals as goal

pub loop-i-preserved : goal.loop-i-preserved
loop-i-preserved c =
    let so_far = c.loop-i.invariant in
    rw c.set.ensures (record {
      rows = so_far.rows;
      cols = so_far.cols;
      full = IsFull-with_entry c.loop-i.matrix c.loop-i.i c.loop-i.i 1 so_far.full;
      entries = one_more c.loop-i.matrix c.args.n c.loop-i.i so_far c.loop-i-test.true;
    })
