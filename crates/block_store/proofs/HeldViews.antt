-- Steps that move no block keep the part of the rule that is about blocks; what a seat knows of the blocks that its steps use.
use Rattle.std.proofs.Common.{◌≡◌, ◌≢◌, ℕ, ◌+◌, ◌<◌, ◌≤◌, ◌⊎◌, inl, inr, true, List, length, get_or, set, Option, refl, sym, subst, arith}
use mathlib.Core.Option.{some}
use mathlib.Core.Option as maybe
use lib.ListN.{get_elem?}
use Rattle.std.proofs.lemmas.List.{get_or-set_other}
use Rattle.atomic_table.proofs.Lists.{at_set}
use Rattle.residue_sums.specs.Grids.{Grid}
use Rattle.residue_sums.proofs.Sums.{sum_below-same}
use Rattle.block_store.specs.declared.key.BoardKey.{BoardKey}
use Rattle.block_store.specs.declared.view.Fact.{Fact}
use Rattle.block_store.specs.declared.view.View.{View}
use Rattle.block_store.specs.Blocks.{is_writer, uses, writes_to, IsValue}
use Rattle.block_store.specs.Holding.{version, turn_word, IsHeld, IsHolder}
use Rattle.block_store.specs.Keys.{step_count, IsStep}
use Rattle.block_store.specs.Plays.{IsRunning}
use Rattle.block_store.specs.Rule.{IsKept}
use Rattle.block_store.specs.Tallies.{weigh, begin_of, end_of, took_of, gave_of, put_of, begins, ends, puts, tooks, gaves}
use Rattle.block_store.specs.Views.{learned}
use Rattle.block_store.proofs.Tallies.{EachLe, amount-same, amount-has, amount-others}
use Rattle.block_store.proofs.Kept.{begins-le, not_ended}
use Rattle.block_store.proofs.Learning.{after, still}
use Rattle.block_store.proofs.Versions.{cond-agree, version_is}

pub version-same : (key : BoardKey) (views views' : List View) → ((t : ℕ) → puts views' t ≡ puts views t) → ((t : ℕ) → ends views' t ≡ ends views t)
    → (x : ℕ) → version views' key x ≡ version views key x
version-same key views views' p e x = sum_below-same _ _ (step_count key + 1) (λ t q. cond-agree (is_writer key x t) _ _ (λ w. omega (arith, p t, e t)))

-- the turn words are other ones than the words of the clock and of the steps
pub turns-stay : (key : BoardKey) (words : List ℕ) (i n : ℕ) → i ≤ step_count key → (x : ℕ) → get_or (set words i n) (turn_word key x) 0 ≡ get_or words (turn_word key x) 0
turns-stay key words i n low x = get_or-set_other words i (turn_word key x) n 0 (λ h. omega arith)

-- where no block is taken, given or put, and no step ends
pub held-same : (key : BoardKey) (words words' : List ℕ) (homes : List (maybe.Option Grid)) (views views' : List View) → IsHeld key words homes views
    → length words' ≡ length words → ((x : ℕ) → get_or words' (turn_word key x) 0 ≡ get_or words (turn_word key x) 0)
    → ((x : ℕ) → tooks views' x ≡ tooks views x) → ((x : ℕ) → gaves views' x ≡ gaves views x) → ((t : ℕ) → puts views' t ≡ puts views t) → ((t : ℕ) → ends views' t ≡ ends views t)
    → ((j : ℕ) (v : View) → get_elem? views' j ≡ some v → IsHolder v) → IsHeld key words' homes views'
held-same key words words' homes views views' held long turns a g p e each = record {
  long = omega (arith, held.long);
  many = held.many;
  turn = λ x lt. omega (arith, held.turn x lt, turns x, a x, g x);
  one = λ x. omega (arith, held.one x, a x, g x);
  home = λ x lt z.
      let h = held.home x lt (omega (arith, a x, g x)) in
      (h.0, h.1, subst (λ v. IsValue key x v h.0) (sym (version-same key views views' p e x)) h.2);
  holders = each;
}

module _ (key : BoardKey) (words : List ℕ) (homes : List (maybe.Option Grid)) (views : List View) (kept : IsKept key words views) (held : IsHeld key words homes views)
    (id : ℕ) (v : View) (at : get_elem? views id ≡ some v) where
  pub holders-after : (w : View) → IsHolder w → (j : ℕ) (u : View) → get_elem? (set views id w) j ≡ some u → IsHolder u
  holders-after w is j u there = go (at_set views id j w u there)
    where
      go : ((j ≡ id) × (w ≡ u)) ⊎ ((j ≢ id) × (get_elem? views j ≡ some u)) → IsHolder u
      go (inl h) = subst IsHolder h.1 is
      go (inr h) = held.holders j u h.1

  -- a fact that says nothing of blocks or ends
  pub held-still : (words' : List ℕ) (e : Fact) → length words' ≡ length words → ((x : ℕ) → get_or words' (turn_word key x) 0 ≡ get_or words (turn_word key x) 0)
      → ((x : ℕ) → took_of x e ≡ 0) → ((x : ℕ) → gave_of x e ≡ 0) → ((t : ℕ) → put_of t e ≡ 0) → ((t : ℕ) → end_of t e ≡ 0) → IsHeld key words' homes (after views id v e)
  held-still words' e long turns a g p z =
      let own = held.holders id v at in
      held-same key words words' homes views (after views id v e) held long turns (λ x. still views id v e at (took_of x) (a x)) (λ x. still views id v e at (gave_of x) (g x))
      (λ t. still views id v e at (put_of t) (p t)) (λ t. still views id v e at (end_of t) (z t))
      (holders-after (learned e v) (record { puts_begun = λ t. omega (arith, own.puts_begun t, p t); gaves_taken = λ x. omega (arith, own.gaves_taken x, g x) }))

  -- the seat keeps a clock value or a mark
  pub held-quiet : (c : ℕ) (found : Option ℕ) → IsHeld key words homes (set views id (record v { clock = c; found_mark = found }))
  held-quiet c found =
      let w : View = record v { clock = c; found_mark = found } in
      let own = held.holders id v at in
      held-same key words words homes views (set views id w) held refl (λ x. refl) (λ x. amount-same (took_of x) views id v w at refl) (λ x. amount-same (gave_of x) views id v w at refl)
      (λ t. amount-same (put_of t) views id v w at refl) (λ t. amount-same (end_of t) views id v w at refl)
      (holders-after w (record { puts_begun = own.puts_begun; gaves_taken = own.gaves_taken }))

  -- ---- what the seat knows

  gave-le : (x : ℕ) → EachLe (gave_of x) (took_of x) views
  gave-le x j u there = (held.holders j u there).gaves_taken x

  -- this seat holds x, so no other does
  pub held_once : (x : ℕ) → weigh (gave_of x) v.facts < weigh (took_of x) v.facts → tooks views x ≡ gaves views x + 1
  held_once x holds = omega (arith, held.one x, amount-others (gave_of x) (took_of x) views id v (gave-le x) at)

  module _ (t : ℕ) (runs : IsRunning v t) where
    -- what this seat hasn't ended or put, nobody has
    pub none_put : puts views t ≡ 0
    none_put = omega (
      arith,
      kept.claims_are.once t,
      begins-le key words views kept t,
      runs.begun,
      runs.unput,
      amount-others (put_of t) (begin_of t) views id v (λ j u there. (held.holders j u there).puts_begun t) at,
    )

    pub none_ended : ends views t ≡ 0
    none_ended = not_ended key words views kept id v at t runs.begun runs.unended

    pub some_begin : 0 < begins views t
    some_begin = omega (arith, amount-has (begin_of t) views id v at, runs.begun)

    pub some_step : IsStep key t
    some_step = kept.claims_are.real t (omega (arith, some_begin, begins-le key words views kept t))

    -- the version that the step finds
    pub finds : (x : ℕ) → uses key t x ≡ true → version views key x ≡ writes_to key x t
    finds x touch = version_is key words views kept held.holders t x some_step touch some_begin none_ended none_put
