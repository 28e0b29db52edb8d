use Rattle.std.proofs.Common.{arith}
use Rattle.std.proofs.KnownBytes.{Consumes-trans}
use Rattle.outside_io.proofs.Pieces.{long_input}
use Rattle.outside_io.proofs.whole.read_all.Goals as goal

pub returns-clause-too_long : goal.returns-clause-too_long
returns-clause-too_long g c = λ too_long. long_input _ _ _ c.args.limit c.loop-buf.invariant.consumed (omega arith)

pub returns-in_err-extend_from_slice-clause-taken : goal.returns-in_err-extend_from_slice-clause-taken
returns-in_err-extend_from_slice-clause-taken g c = (_, Consumes-trans _ _ _ _ _ c.loop-buf.invariant.consumed c.in_ok-count.ensures.bytes.0)
