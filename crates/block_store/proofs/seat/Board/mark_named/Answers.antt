use Rattle.std.proofs.Common.{rules, arith, ◌<◌, ℕ, subst}
use Rattle.block_store.specs.Keys.{edge}
use Rattle.block_store.specs.Plays.{NotMarked, HasEndedBad}
use Rattle.block_store.proofs.Edges.{edge-steps}
use Rattle.block_store.proofs.Allowing.{marks_allowed, not_empty}
use Rattle.block_store.proofs.seat.Board.mark_named.Goals as goal

pub fetch_or-requires : goal.fetch_or-requires
fetch_or-requires g c = let s = c.args.seat.now in let p = c.args.self.now.table.shared.key in let e = edge-steps p c.args.t c.args.next c.requires.edge in (
  search rules,
  omega (arith, c.args.self.now.sized, e.1),
  marks_allowed p _ s.inner.id s.inner.me (not_empty _ s.alive) g.J.Subject.step c.args.next
      (subst (λ (t : ℕ). NotMarked s.inner.me.0 t c.args.next) c.requires.named c.requires.fresh)
      (subst (λ (t : ℕ). 0 < edge p t c.args.next) c.requires.named c.requires.edge)
      (subst (λ (t : ℕ). HasEndedBad s.inner.me.0 t) c.requires.named c.requires.ended),
)
