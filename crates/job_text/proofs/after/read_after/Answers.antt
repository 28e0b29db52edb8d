use Rattle.std.proofs.Common.{◌<◌, length, arith}
use Rattle.job_text.proofs.NoBadByte.{no_bad_byte}
use Rattle.job_text.proofs.AfterPlaces.{at_end, line_below}
use Rattle.job_text.proofs.AfterTaken.{after_found}
use Rattle.std.proofs.lemmas.List.{take_rest}
use Rattle.job_text.proofs.after.read_after.Goals as goal

pub read_text-requires-clause-low : goal.read_text-requires-clause-low
read_text-requires-clause-low c =
    let below : c.args.rest.at < length c.args.bytes.now = omega (arith, c.requires.place.within, c.if-rest-bytes.false) in
    omega (arith, line_below c.args.bytes.now c.args.rest c.requires.place below, c.requires.short)

pub returns-then-rest-bytes-clause-read : goal.returns-then-rest-bytes-clause-read
returns-then-rest-bytes-clause-read c = rw (at_end c.args.bytes.now c.args.rest c.args.job.now c.if-rest-bytes.true) c.read_nothing.ensures.read

pub returns-then-rest-bytes-clause-found : goal.returns-then-rest-bytes-clause-found
returns-then-rest-bytes-clause-found c = after_found c.args.bytes.now c.args.rest c.args.job.now c.read_nothing.result (omega (arith, c.requires.job.modulus)) (returns-then-rest-bytes-clause-read c) c.read_nothing.ensures.sizes

pub returns-else-rest-bytes-clause-found : goal.returns-else-rest-bytes-clause-found
returns-else-rest-bytes-clause-found c =
    after_found c.args.bytes.now c.args.rest c.args.job.now c.read_text.result (omega (arith, c.requires.job.modulus)) (rw (take_rest c.args.bytes.now c.args.rest.at) at c.read_text.ensures.read) c.read_text.ensures.sizes

pub returns-then-rest-bytes-clause-no_bad_byte : goal.returns-then-rest-bytes-clause-no_bad_byte
returns-then-rest-bytes-clause-no_bad_byte c =
    no_bad_byte c.args.bytes.now c.args.rest c.args.job.now c.requires.scanned.0 c.read_nothing.result c.requires.scanned.1 c.requires.place (returns-then-rest-bytes-clause-read c)

pub returns-else-rest-bytes-clause-no_bad_byte : goal.returns-else-rest-bytes-clause-no_bad_byte
returns-else-rest-bytes-clause-no_bad_byte c =
    no_bad_byte c.args.bytes.now c.args.rest c.args.job.now c.requires.scanned.0 c.read_text.result c.requires.scanned.1 c.requires.place (rw (take_rest c.args.bytes.now c.args.rest.at) at c.read_text.ensures.read)
