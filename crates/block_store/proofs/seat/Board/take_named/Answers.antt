use Rattle.std.proofs.Common.{rules, arith, true, nat_eq, ◌≡◌, ◌+◌, ◌<◌, inl, inr, eqb, ℕ, ◌∷◌, sym, subst}
use Rattle.std.proofs.lemmas.Bool.Decides.{nat_tests}
use prog.Atomic.{either}
use Rattle.atomic_table.specs.Table.{Me, Allows}
use Rattle.residue_sums.specs.Grids.{Grid}
use Rattle.block_store.specs.declared.key.BoardKey.{BoardKey}
use Rattle.block_store.specs.declared.view.Fact.TheVariants.{Took}
use Rattle.block_store.specs.declared.view.View.{View}
use Rattle.block_store.specs.Blocks.{block_count, uses, IsFound}
use Rattle.block_store.specs.Holding.{turn_word, IsRuled}
use Rattle.block_store.specs.Plays.{HasTaken, IsRunning}
use Rattle.block_store.specs.Views.{learned}
use Rattle.block_store.proofs.Allowing.{not_empty}
use Rattle.block_store.proofs.BlockTurns.{takes_allowed}
use Rattle.block_store.proofs.seat.Board.take_named.Goals as goal

pub compare_exchange-found-requires : goal.compare_exchange-found-requires
compare_exchange-found-requires g c =
    let s = c.args.seat.now in
    let key = c.args.self.now.table.shared.key in
    let slots = c.args.self.now.table.shared.table_id.slots in
    let t = g.J.Subject.step in
    let x = g.J.Subject.block in
    let n = c.requires.named in
    let place : turn_word key x ≡ c.args.self.now.steps + 1 + c.args.block = omega (arith, c.args.self.now.counted, n.1) in
    let made = takes_allowed key slots s.inner.id s.inner.me (not_empty _ s.alive) t x (subst (λ (y : ℕ). y < block_count key) n.1 c.requires.block)
    (subst (λ (y : ℕ). IsRunning s.inner.me.0 y) n.0 c.requires.runs)
    (subst (λ (y : ℕ). uses key t y ≡ true) n.1 (subst (λ (y : ℕ). uses key y c.args.block ≡ true) n.0 c.requires.uses)) in
    let moved = subst (λ (i : ℕ). Allows (λ z. IsRuled key z.words z.homes z.views) slots s.inner.id s.inner.me i (λ n. either (eqb n 0) 1 n) (λ n m. HasTaken key t x i n s.inner.me m)) place made in (
      search rules,
      omega (arith, c.args.self.now.counted, c.args.self.now.sized, c.requires.block),
      subst (λ (k : BoardKey). Allows (λ z. IsRuled key z.words z.homes z.views) slots s.inner.id s.inner.me (c.args.self.now.steps + 1 + c.args.block) (λ n. either (eqb n 0) 1 n) (λ n m. HasTaken k t x (c.args.self.now.steps + 1 + c.args.block) n s.inner.me m))
          (sym c.requires.seat.1) moved,
    )

is_zero : (n : ℕ) → nat_eq n 0 ≡ true → n ≡ 0
is_zero n h = grind (arith, nat_tests)

took : (key : BoardKey) (t x word n : ℕ) (m m' : Me Grid View) → n ≡ 0 → HasTaken key t x word n m m' → (m'.0 ≡ learned (Took x) m.0) × ((b : Grid) × (m'.1 ≡ (x, b) ∷ m.1) × IsFound key t x b)
took key t x word n m m' e (inl h) = (h.1, h.2)
took key t x word n m m' e (inr h) = absurd (h.0 e)

pub returns-clause-taken : goal.returns-clause-taken
returns-clause-taken g c = λ e.
    let key = c.args.self.now.table.shared.key in
    let s = c.args.seat.now in
    let now = c.compare_exchange-found.new.seat in
    let n = c.requires.named in
    let t = g.J.Subject.step in
    let x = g.J.Subject.block in
    let word = c.args.self.now.steps + 1 + c.args.block in
    let told = took key t x word c.compare_exchange-found.result s.inner.me now.me (is_zero _ e)
    (subst (λ (k : BoardKey). HasTaken k t x word c.compare_exchange-found.result s.inner.me now.me) c.requires.seat.1 c.compare_exchange-found.ensures.2) in
    subst (λ (y : ℕ). (now.me.0 ≡ learned (Took y) s.inner.me.0) × ((b : Grid) × (now.me.1 ≡ (y, b) ∷ s.inner.me.1) × IsFound key c.args.t y b)) (sym n.1)
    (subst (λ (u : ℕ). (now.me.0 ≡ learned (Took x) s.inner.me.0) × ((b : Grid) × (now.me.1 ≡ (x, b) ∷ s.inner.me.1) × IsFound key u x b)) (sym n.0) told)
