-- What stays while a seat moves the blocks of a step.
use Rattle.std.proofs.Common.{◌≡◌, ℕ, refl, arith}
use Rattle.block_store.specs.declared.key.BoardKey.{BoardKey}
use Rattle.block_store.specs.declared.view.Fact.{Fact}
use Rattle.block_store.specs.declared.view.Fact.TheVariants.{Claimed, Refused, Began, Ended, Marked, Noticed, Took, Away, Gave, Put}
use Rattle.block_store.specs.declared.view.View.{View}
use Rattle.block_store.specs.Plays.{HasBegun, NotEnded}
use Rattle.block_store.specs.Tallies.{begin_of, end_of, last_of, mark_of, notice_of, weigh}
use Rattle.ready_queue.specs.declared.pass_view.PassView.{PassView}
use Rattle.dispatcher.specs.Doing.{HasMovedBlocks, IsBlockFact}
use Rattle.dispatcher.specs.Telling.{AreTied, HasToldNone}
use Rattle.dispatcher.proofs.QuietFacts.{HaveSameEvents, IsNoEvent, more-weigh, quiet-events}

-- what holds of the facts on blocks holds of each that a step moves by
block-any : (P : Fact → Type 0) → ((x : ℕ) → P (Took x)) → ((x : ℕ) → P (Away x)) → ((x : ℕ) → P (Gave x)) → ((u x : ℕ) → P (Put u x))
    → (t : ℕ) (f : Fact) → IsBlockFact t f → P f
block-any P took away gave put t (Took x) moves = took x
block-any P took away gave put t (Away x) moves = away x
block-any P took away gave put t (Gave x) moves = gave x
block-any P took away gave put t (Put u x) moves = put u x
block-any P took away gave put t (Claimed u) moves = elim moves [ ]
block-any P took away gave put t (Refused u n) moves = elim moves [ ]
block-any P took away gave put t (Began u n) moves = elim moves [ ]
block-any P took away gave put t (Ended u n o) moves = elim moves [ ]
block-any P took away gave put t (Marked s u) moves = elim moves [ ]
block-any P took away gave put t (Noticed s u left) moves = elim moves [ ]

module _ (t : ℕ) (v w : View) (moved : HasMovedBlocks t v w) where
  pub moved-events : HaveSameEvents v.facts w.facts
  moved-events = rw moved.facts (quiet-events (IsBlockFact t) (block-any IsNoEvent (λ x. tt) (λ x. tt) (λ x. tt) (λ u x. tt) t) moved.more v.facts moved.only)

  -- what no fact on blocks weighs
  same-weigh : (h : Fact → ℕ) → ((x : ℕ) → h (Took x) ≡ 0) → ((x : ℕ) → h (Away x) ≡ 0) → ((x : ℕ) → h (Gave x) ≡ 0) → ((u x : ℕ) → h (Put u x) ≡ 0)
      → weigh h w.facts ≡ weigh h v.facts
  same-weigh h took away gave put = rw moved.facts (more-weigh h (IsBlockFact t) (block-any (λ (f : Fact). h f ≡ 0) took away gave put t) moved.more v.facts moved.only)

  pub moved-begun : (u : ℕ) → HasBegun v u → HasBegun w u
  moved-begun u begun = omega (arith, begun, same-weigh (begin_of u) (λ x. refl) (λ x. refl) (λ x. refl) (λ s x. refl))

  pub moved-unended : (u : ℕ) → NotEnded v u → NotEnded w u
  moved-unended u unended = omega (arith, unended, same-weigh (end_of u) (λ x. refl) (λ x. refl) (λ x. refl) (λ s x. refl))

  pub moved-untold : (u : ℕ) → HasToldNone u v → HasToldNone u w
  moved-untold u none = record {
    notices = λ next. omega (arith, none.notices next, same-weigh (notice_of u next) (λ x. refl) (λ x. refl) (λ x. refl) (λ s x. refl));
    marks = λ next. omega (arith, none.marks next, same-weigh (mark_of u next) (λ x. refl) (λ x. refl) (λ x. refl) (λ s x. refl));
  }

  moved-last : (x : ℕ) → weigh (last_of x) w.facts ≡ weigh (last_of x) v.facts
  moved-last x = same-weigh (last_of x) (λ y. refl) (λ y. refl) (λ y. refl) (λ s y. refl)

  pub moved-tied : (key : BoardKey) (pass : PassView) → AreTied key pass v → AreTied key pass w
  moved-tied key pass tied = record {
    all = λ x. omega (arith, tied.all x, moved-last x);
    only = λ x. omega (arith, tied.only x, moved-last x);
  }
