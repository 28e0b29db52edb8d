use Rattle.std.proofs.Common.{rules, arith, ℕ, subst}
use Rattle.block_store.specs.Plays.{HasClaimed, NotBegun}
use Rattle.block_store.proofs.Allowing.{begins_allowed, not_empty}
use Rattle.block_store.proofs.seat.Board.begin_named.Goals as goal

pub fetch_add-requires : goal.fetch_add-requires
fetch_add-requires g c = let s = c.args.seat.now in (
  search rules,
  omega (arith, c.args.self.now.sized),
  begins_allowed c.args.self.now.table.shared.key _ s.inner.id s.inner.me (not_empty _ s.alive) g.J.Subject.step
      (subst (λ (t : ℕ). HasClaimed s.inner.me.0 t) c.requires.named c.requires.claimed) (subst (λ (t : ℕ). NotBegun s.inner.me.0 t) c.requires.named c.requires.fresh),
)
