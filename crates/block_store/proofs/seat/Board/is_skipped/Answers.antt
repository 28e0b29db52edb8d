use Rattle.std.proofs.Common.{rules, arith}
use Rattle.block_store.proofs.Allowing.{not_empty}
use Rattle.block_store.proofs.Telling.{looks_allowed}
use Rattle.block_store.proofs.seat.Board.is_skipped.Goals as goal

pub load-found-requires : goal.load-found-requires
load-found-requires c = let s = c.args.seat.now in (
  search rules,
  omega (arith, c.args.self.now.sized, c.requires.step),
  looks_allowed c.args.self.now.table.shared.key _ s.inner.id s.inner.me (not_empty _ s.alive) c.args.t,
)
