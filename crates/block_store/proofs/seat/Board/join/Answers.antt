use Rattle.std.proofs.Common.{rules, arith}
use Rattle.block_store.proofs.Allowing.{not_empty}
use Rattle.block_store.proofs.Seating.{joins}
use Rattle.block_store.proofs.seat.Board.join.Goals as goal

pub join_seat-requires : goal.join_seat-requires
join_seat-requires c = let s = c.args.seat.now in let o = c.args.other in (
  search rules,
  search rules,
  search rules,
  omega (arith, c.args.self.now.sized),
  joins c.args.self.now.table.shared.key s.inner.id s.inner.me.0 o.inner.id o.inner.me.0 (not_empty _ s.alive),
)
