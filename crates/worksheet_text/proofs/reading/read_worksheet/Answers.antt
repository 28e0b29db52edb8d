use Rattle.std.proofs.Common.{◌<◌, length, arith}
use Rattle.job_text.proofs.AfterPlaces.{line_below}
use Rattle.worksheet_text.proofs.SheetPlaces.{none_at_end}
use Rattle.worksheet_text.proofs.reading.read_worksheet.Goals as goal

pub read_text-requires-clause-low : goal.read_text-requires-clause-low
read_text-requires-clause-low c =
    let below : c.args.rest.at < length c.args.bytes.now = omega (arith, c.requires.place.within, c.if-rest-bytes.false) in
    omega (arith, line_below c.args.bytes.now c.args.rest c.requires.place below, c.requires.short)

pub returns-then-rest-bytes : goal.returns-then-rest-bytes
returns-then-rest-bytes c = none_at_end c.args.bytes.now c.args.rest c.args.operations.now c.if-rest-bytes.true
