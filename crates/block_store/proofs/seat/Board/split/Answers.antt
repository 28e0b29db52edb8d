use Rattle.std.proofs.Common.{rules, arith}
use Rattle.block_store.proofs.Seating.{splits}
use Rattle.block_store.proofs.seat.Board.split.Goals as goal

pub split_seat-inner-requires : goal.split_seat-inner-requires
split_seat-inner-requires c = let s = c.args.seat.now in (
  search rules,
  omega (arith, c.args.self.now.sized),
  splits c.args.self.now.table.shared.key s.inner.id s.inner.me.0 c.requires.more,
)
