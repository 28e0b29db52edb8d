use Rattle.std.proofs.Common.{rules, arith}
use Rattle.block_store.proofs.Allowing.{not_empty}
use Rattle.block_store.proofs.Telling.{loads_allowed}
use Rattle.block_store.proofs.seat.Board.clock.Goals as goal

pub load-requires : goal.load-requires
load-requires c = let s = c.args.seat.now in (
  search rules,
  omega (arith, c.args.self.now.sized),
  loads_allowed c.args.self.now.table.shared.key _ s.inner.id s.inner.me (not_empty _ s.alive),
)
