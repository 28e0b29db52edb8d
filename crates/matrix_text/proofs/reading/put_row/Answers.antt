use Rattle.std.proofs.Common.{◌<◌, length, arith}
use Rattle.matrix_text.proofs.RowNumbers.{number_each}
use Rattle.matrix_text.proofs.reading.put_row.Goals as goal

pub entry-requires : goal.entry-requires
entry-requires c =
    let inside : c.loop-i.i < length c.args.line.now.words = omega (arith, c.loop-i-test.true, c.len-i-end.ensures) in
    number_each c.args.line.now.words c.loop-i.i c.requires inside
