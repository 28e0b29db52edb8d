use Rattle.std.proofs.Common.{rules, arith, ◌<◌, ℕ, subst}
use Rattle.block_store.specs.Keys.{edge}
use Rattle.block_store.specs.Plays.{NotNoticed, MayNotify}
use Rattle.block_store.proofs.Edges.{edge-steps}
use Rattle.block_store.proofs.Allowing.{notices_allowed, not_empty}
use Rattle.block_store.proofs.seat.Board.notify_named.Goals as goal

pub fetch_sub-found-requires : goal.fetch_sub-found-requires
fetch_sub-found-requires g c = let s = c.args.seat.now in let p = c.args.self.now.table.shared.key in let e = edge-steps p c.args.t c.args.next c.requires.edge in (
  search rules,
  omega (arith, c.args.self.now.sized, e.1),
  notices_allowed p _ s.inner.id s.inner.me (not_empty _ s.alive) g.J.Subject.step c.args.next
      (subst (λ (t : ℕ). NotNoticed s.inner.me.0 t c.args.next) c.requires.named c.requires.fresh)
      (subst (λ (t : ℕ). 0 < edge p t c.args.next) c.requires.named c.requires.edge)
      (subst (λ (t : ℕ). MayNotify s.inner.me.0 t c.args.next) c.requires.named c.requires.ended),
)
