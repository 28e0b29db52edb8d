use Rattle.std.proofs.Common.{rules, arith, true, nat_eq, ◌≡◌, ◌≢◌, ℕ, [], Option, None, inl, inr, refl, sym, ap, ◌∙◌, subst}
use Rattle.std.proofs.lemmas.Bool.Decides.{nat_tests}
use Rattle.block_store.specs.declared.view.Fact.TheVariants.{Claimed}
use Rattle.block_store.specs.declared.view.View.{View}
use Rattle.block_store.specs.Plays.{IsFresh}
use Rattle.block_store.specs.Views.{learned}
use Rattle.block_store.proofs.Allowing.{not_empty}
use Rattle.block_store.proofs.Claiming.{claims_allowed, hit, bare, with_mark}
use Rattle.block_store.proofs.seat.Board.claim.Goals as goal

pub compare_exchange-found-requires : goal.compare_exchange-found-requires
compare_exchange-found-requires c = let s = c.args.seat.now in (
  search rules,
  omega (arith, c.args.self.now.sized, c.requires.step),
  claims_allowed c.args.self.now.table.shared.key _ s.inner.id s.inner.me (not_empty _ s.alive) 0 4294967296 c.args.t c.requires.step (inl refl) refl,
)

pub compare_exchange-again-requires : goal.compare_exchange-again-requires
compare_exchange-again-requires c =
    let s = c.args.seat.now in
    let mid = c.compare_exchange-found.new.seat in
    let same = c.compare_exchange-found.ensures.2.0 ∙ bare 0 c.args.t c.compare_exchange-found.result s.inner.me.0 (λ e. omega arith) c.if-found-eq-MARK.true in (
      search rules,
      omega (arith, c.args.self.now.sized, c.requires.step),
      claims_allowed c.args.self.now.table.shared.key _ mid.id mid.me (subst (λ (v : View). v.workers ≢ []) (sym same) (not_empty _ s.alive))
          8589934592 12884901888 c.args.t c.requires.step (inr refl) refl,
    )

found_mark : (n : ℕ) → nat_eq n 8589934592 ≡ true → n ≡ 8589934592
found_mark n h = grind (arith, nat_tests)

-- a view with a mark in mind has the same facts
fresh-without : (t : ℕ) (v w : View) → w ≡ with_mark t v → IsFresh t w → IsFresh t v
fresh-without t v w e f = let g = subst (IsFresh t) e f in record { claim = g.claim; begin = g.begin; end = g.end; put = g.put; notices = g.notices; marks = g.marks }

pub returns-then-found-eq-MARK-clause-claimed : goal.returns-then-found-eq-MARK-clause-claimed
returns-then-found-eq-MARK-clause-claimed c = λ e.
    let s = c.args.seat.now.inner.me.0 in
    let t = c.args.t in
    let mid = c.compare_exchange-found.new.seat.me.0 in
    let same = c.compare_exchange-found.ensures.2.0 ∙ bare 0 t c.compare_exchange-found.result s (λ z. omega arith) c.if-found-eq-MARK.true in
    let told = c.compare_exchange-again.ensures.2 in
    let is = found_mark _ e in (
      told.0 ∙ (hit 8589934592 t _ mid is ∙ (ap (λ (v : View). learned (Claimed t) (record v { found_mark = None })) same
          ∙ ap (λ (h : Option ℕ). learned (Claimed t) (record s { found_mark = h })) (sym c.args.seat.now.idle))),
      fresh-without t s mid same (told.2 is),
    )
