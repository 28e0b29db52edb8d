use Rattle.std.proofs.Common.{rules, arith, ◌≡◌, ◌+◌, ℕ, subst}
use Rattle.atomic_table.specs.Table.{Allows, rest}
use Rattle.block_store.specs.declared.view.Fact.TheVariants.{Gave}
use Rattle.block_store.specs.Holding.{turn_word, IsRuled}
use Rattle.block_store.specs.Views.{learned}
use Rattle.block_store.proofs.Allowing.{not_empty}
use Rattle.block_store.proofs.BlockTurns.{gives_allowed}
use Rattle.block_store.proofs.seat.Board.give_named.Goals as goal

pub swap-requires : goal.swap-requires
swap-requires g c =
    let s = c.args.seat.now in
    let key = c.args.self.now.table.shared.key in
    let slots = c.args.self.now.table.shared.table_id.slots in
    let t = c.args.t in
    let x = c.args.block in
    let n = c.requires.named in
    let place : turn_word key x ≡ c.args.self.now.steps + 1 + c.args.block = omega (arith, c.args.self.now.counted) in
    let made = gives_allowed key slots s.inner.id s.inner.me (not_empty _ s.alive) t x c.requires.block c.requires.runs c.requires.top.0 c.requires.top.1 c.requires.holds c.requires.uses c.requires.top.2 in
    let moved = subst (λ (i : ℕ). Allows (λ z. IsRuled key z.words z.homes z.views) slots s.inner.id s.inner.me i (λ _. 0) (λ n m. (m.0 ≡ learned (Gave x) s.inner.me.0) × (m.1 ≡ rest s.inner.me.1))) place made in (
      search rules,
      omega (arith, c.args.self.now.counted, c.args.self.now.sized, c.requires.block),
      subst (λ (y : ℕ). Allows (λ z. IsRuled key z.words z.homes z.views) slots s.inner.id s.inner.me (c.args.self.now.steps + 1 + c.args.block) (λ _. 0) (λ n m. (m.0 ≡ learned (Gave y) s.inner.me.0) × (m.1 ≡ rest s.inner.me.1))) n.1 moved,
    )
