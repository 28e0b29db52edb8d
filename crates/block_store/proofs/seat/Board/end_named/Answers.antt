use Rattle.std.proofs.Common.{rules, arith, true, ◌≡◌, ◌⊎◌, ℕ, subst}
use Rattle.block_store.specs.declared.outcome.StepOutcome.{StepOutcome}
use Rattle.block_store.specs.Keys.{is_bad, IsOutcome}
use Rattle.block_store.specs.Plays.{HasBegun, HasPut, NotEnded}
use Rattle.block_store.proofs.Allowing.{ends_allowed, not_empty}
use Rattle.block_store.proofs.seat.Board.end_named.Goals as goal

pub fetch_add-requires : goal.fetch_add-requires
fetch_add-requires g c =
    let s = c.args.seat.now in
    let key = c.args.self.now.table.shared.key in (
      search rules,
      omega (arith, c.args.self.now.sized),
      ends_allowed key _ s.inner.id s.inner.me (not_empty _ s.alive) g.J.Subject.step g.J.Subject.outcome
          (subst (λ (t : ℕ). HasBegun s.inner.me.0 t) c.requires.named.0 c.requires.begun)
          (subst (λ (t : ℕ). NotEnded s.inner.me.0 t) c.requires.named.0 c.requires.fresh)
          (subst (λ (o : StepOutcome). IsOutcome key g.J.Subject.step o) c.requires.named.1 (subst (λ (t : ℕ). IsOutcome key t c.args.outcome) c.requires.named.0 c.requires.right))
          (subst (λ (o : StepOutcome). (is_bad o ≡ true) ⊎ HasPut s.inner.me.0 g.J.Subject.step) c.requires.named.1
          (subst (λ (t : ℕ). (is_bad c.args.outcome ≡ true) ⊎ HasPut s.inner.me.0 t) c.requires.named.0 c.requires.done)),
    )
