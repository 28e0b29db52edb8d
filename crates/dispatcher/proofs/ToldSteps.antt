-- What stays while the steps behind one that has ended are told.
use Rattle.std.proofs.Common.{◌≡◌, ◌≢◌, ℕ, zero, suc, ◌+◌, ◌<◌, ◌≤◌, ◌⊎◌, inl, inr, Bool, true, false, List, [], ◌∷◌, slice_get, Some, None, refl, sym, ap, ◌∙◌, subst, arith}
use Rattle.std.proofs.lemmas.Bool.{cases_eq, eq-eqb, ne_eqb}
use Rattle.std.proofs.lemmas.List.Elements.{All-cons, All-nil}
use Rattle.std.proofs.lemmas.Option.{same_Some}
use Rattle.block_store.specs.declared.key.BoardKey.{BoardKey}
use Rattle.block_store.specs.declared.outcome.StepOutcome.{StepOutcome}
use Rattle.block_store.specs.declared.outcome.StepOutcome.TheVariants.{Ran, Skipped, Failed}
use Rattle.block_store.specs.declared.view.Fact.{Fact}
use Rattle.block_store.specs.declared.view.Fact.TheVariants.{Claimed, Refused, Began, Ended, Marked, Noticed, Took, Away, Gave, Put}
use Rattle.block_store.specs.declared.view.View.{View}
use Rattle.block_store.specs.Keys.{edge, is_bad, preds, step_count}
use Rattle.block_store.specs.Plays.{MayNotify, NoLast, NotHolds, NotMarked, NotNoticed}
use Rattle.block_store.specs.Sums.{same_pair}
use Rattle.block_store.specs.Tallies.{gave_of, last_of, notice_of, took_of, weigh}
use Rattle.block_store.specs.Views.{learned}
use Rattle.block_store.proofs.Sums.{same-eq, same_pair-eq, same_pair-left, same_pair-right, sum_below-at}
use Rattle.block_store.proofs.Edges.{edge-steps}
use Rattle.ready_queue.specs.declared.pass_view.PassView.{PassView}
use Rattle.ready_queue.specs.PassViews.{after_push, same, times}
use Rattle.dispatcher.specs.Telling.{HasEndedAs, HasTold, HasToldAll, HasToldNone, AreTied, IsTellingFact, marked_view, root, told_view}
use Rattle.dispatcher.proofs.QuietFacts.{HaveSameEvents, IsNoEvent, more-weigh, quiet-events}

-- ---- the view once a pair is marked, where it has to be, and once it is told

pub marked-may : (bad : Bool) (t next : ℕ) (v : View) → HasEndedAs bad t v → MayNotify (marked_view bad t next v) t next
marked-may true t next v ended = omega (arith, same_pair-eq t next t next refl refl)
marked-may false t next v ended = omega arith

pub marked-unnoticed : (bad : Bool) (t next : ℕ) (v : View) → NotNoticed v t next → NotNoticed (marked_view bad t next v) t next
marked-unnoticed true t next v none = omega arith
marked-unnoticed false t next v none = none

pub marked-last : (bad : Bool) (t next x : ℕ) (v : View) → weigh (last_of x) (marked_view bad t next v).facts ≡ weigh (last_of x) v.facts
marked-last true t next x v = omega arith
marked-last false t next x v = refl

pub ended-told : (b bad : Bool) (t next left : ℕ) (v : View) → HasEndedAs bad t v → HasEndedAs bad t (told_view b t next left v)
ended-told true true t next left v ended = omega arith
ended-told true false t next left v ended = omega arith
ended-told false true t next left v ended = omega arith
ended-told false false t next left v ended = omega arith

-- another step is told no more than before
pub others-untold : (b : Bool) (t next left u : ℕ) (v : View) → next ≢ u → NotNoticed v t u → NotMarked v t u
    → NotNoticed (told_view b t next left v) t u × NotMarked (told_view b t next left v) t u
others-untold true t next left u v other none unmarked = (omega (arith, none, same_pair-right t next t u other), omega (arith, unmarked, same_pair-right t next t u other))
others-untold false t next left u v other none unmarked = (omega (arith, none, same_pair-right t next t u other), omega (arith, unmarked))

-- no step in this row from place k on is told yet
abbrev pub AreUntold : ℕ → View → List ℕ → ℕ → Type 0
AreUntold t v row k = (j a : ℕ) → k ≤ j → slice_get row j ≡ Some a → NotNoticed v t a × NotMarked v t a

-- the step at place k is told, and no place behind it has that step
pub untold-next : (b : Bool) (t next left k : ℕ) (v : View) (row : List ℕ) → ((j l a : ℕ) → slice_get row j ≡ Some a → slice_get row l ≡ Some a → j ≡ l)
    → slice_get row k ≡ Some next → AreUntold t v row k → AreUntold t (told_view b t next left v) row (k + 1)
untold-next b t next left k v row apart here untold j a behind at =
    let before = untold j a (omega arith) at in
    others-untold b t next left a v (λ e. omega (arith, apart k j a (here ∙ ap Some e) at)) before.0 before.1

pub untold-all : (t : ℕ) (v : View) (row : List ℕ) → HasToldNone t v → AreUntold t v row 0
untold-all t v row none j a behind at = (none.notices a, none.marks a)

-- each step in this row below place k is told
abbrev pub AreTold : ℕ → View → List ℕ → ℕ → Type 0
AreTold t v row k = (j a : ℕ) → j < k → slice_get row j ≡ Some a → 0 < weigh (notice_of t a) v.facts

noticed-now : (b : Bool) (t next left : ℕ) (v : View) → 0 < weigh (notice_of t next) (told_view b t next left v).facts
noticed-now true t next left v = omega (arith, same_pair-eq t next t next refl refl)
noticed-now false t next left v = omega (arith, same_pair-eq t next t next refl refl)

noticed-stay : (b : Bool) (t next left u : ℕ) (v : View) → 0 < weigh (notice_of t u) v.facts → 0 < weigh (notice_of t u) (told_view b t next left v).facts
noticed-stay true t next left u v told = omega (arith, told)
noticed-stay false t next left u v told = omega (arith, told)

pub told-next : (b : Bool) (t next left k : ℕ) (v : View) (row : List ℕ) → slice_get row k ≡ Some next → AreTold t v row k → AreTold t (told_view b t next left v) row (k + 1)
told-next b t next left k v row here told j a below at = elim (cases_eq j k) [
  | inl same ↦
      let is : next ≡ a = same_Some next a (sym here ∙ (ap (λ i. slice_get row i) (sym same) ∙ at)) in
      subst (λ u. 0 < weigh (notice_of t u) (told_view b t next left v).facts) is (noticed-now b t next left v)
  | inr other ↦ noticed-stay b t next left a v (told j a (omega (arith, below)) at)
]

-- and where the row has all steps behind t, and ends there, all are told
pub told-all : (key : BoardKey) (t k : ℕ) (v : View) (row : List ℕ) → ((next : ℕ) → 0 < edge key t next → (j : ℕ) × (slice_get row j ≡ Some next))
    → slice_get row k ≡ None → AreTold t v row k → HasToldAll key t v
told-all key t k v row listed none told next is = let j = listed next is in told j.0 next (before-none row k j.0 next none j.1) j.1
  where
    before-none : (row : List ℕ) (k j a : ℕ) → slice_get row k ≡ None → slice_get row j ≡ Some a → j < k
    before-none [] k j a none at = absurd (let past : None ≡ Some a = at in cc)
    before-none (b ∷ row) zero j a none at = absurd (let past : Some b ≡ None = none in cc)
    before-none (b ∷ row) (suc k) zero a none at = omega arith
    before-none (b ∷ row) (suc k) (suc j) a none at = omega (arith, before-none row k j a none at)

-- ---- nothing else was done

pub told-nothing : (t : ℕ) (v : View) → HasTold t v v
told-nothing t v = record { more = []; facts = refl; only = All-nil (IsTellingFact t); clock = refl }

told-fact : (t : ℕ) (f : Fact) (v w : View) → IsTellingFact t f → HasTold t v w → HasTold t v (learned f w)
told-fact t f v w telling told = record {
  more = f ∷ told.more;
  facts = ap (λ (fs : List Fact). f ∷ fs) told.facts;
  only = All-cons (IsTellingFact t) f told.more telling told.only;
  clock = told.clock;
}

pub told-pair : (bad : Bool) (t next left : ℕ) (v w : View) → HasTold t v w → HasTold t v (told_view bad t next left w)
told-pair true t next left v w told = told-fact t (Noticed t next left) v (learned (Marked t next) w) refl (told-fact t (Marked t next) v w refl told)
told-pair false t next left v w told = told-fact t (Noticed t next left) v w refl told

-- what holds of a mark and of a notice holds of each fact that tells
telling-any : (P : Fact → Type 0) → ((s u : ℕ) → P (Marked s u)) → ((s u left : ℕ) → P (Noticed s u left)) → (t : ℕ) (f : Fact) → IsTellingFact t f → P f
telling-any P marked noticed t (Marked s u) telling = marked s u
telling-any P marked noticed t (Noticed s u left) telling = noticed s u left
telling-any P marked noticed t (Claimed u) telling = elim telling [ ]
telling-any P marked noticed t (Refused u n) telling = elim telling [ ]
telling-any P marked noticed t (Began u n) telling = elim telling [ ]
telling-any P marked noticed t (Ended u n o) telling = elim telling [ ]
telling-any P marked noticed t (Took x) telling = elim telling [ ]
telling-any P marked noticed t (Away x) telling = elim telling [ ]
telling-any P marked noticed t (Gave x) telling = elim telling [ ]
telling-any P marked noticed t (Put u x) telling = elim telling [ ]

pub told-events : (t : ℕ) (v w : View) → HasTold t v w → HaveSameEvents v.facts w.facts
told-events t v w told = rw told.facts (quiet-events (IsTellingFact t) (telling-any IsNoEvent (λ s u. tt) (λ s u left. tt) t) told.more v.facts told.only)

pub told-free : (t x : ℕ) (v w : View) → HasTold t v w → NotHolds v x → NotHolds w x
told-free t x v w told free = rw told.facts (omega (
  arith,
  free,
  more-weigh (took_of x) (IsTellingFact t) (telling-any (λ (f : Fact). took_of x f ≡ 0) (λ s u. refl) (λ s u left. refl) t) told.more v.facts told.only,
  more-weigh (gave_of x) (IsTellingFact t) (telling-any (λ (f : Fact). gave_of x f ≡ 0) (λ s u. refl) (λ s u left. refl) t) told.more v.facts told.only,
))

-- ---- what is pushed

same-is : (a b : ℕ) → a ≡ b → same a b ≡ 1
unfolding same
same-is a b e = rw (eq-eqb a b e) refl

same-not : (a b : ℕ) → a ≢ b → same a b ≡ 0
unfolding same
same-not a b other = rw (ne_eqb a b other) refl

-- a step into which an edge goes is no root
pub no-root : (key : BoardKey) (t next : ℕ) → 0 < edge key t next → root key next ≡ 0
no-root key t next is =
    let steps = edge-steps key t next is in
    let some = sum_below-at (λ s. edge key s next) t (step_count key + 1) (omega (arith, steps.0.1)) in
    let heavy : preds key next ≢ 0 = λ none. omega arith in
    rw (ne_eqb (preds key next) 0 heavy) refl

pub tied-told : (key : BoardKey) (bad : Bool) (t next left : ℕ) (pass : PassView) (v : View) → left ≢ 0 → AreTied key pass v → AreTied key pass (told_view bad t next left v)
tied-told key bad t next left pass v some tied = record {
  all = λ x. omega (arith, tied.all x, marked-last bad t next x v, same_pair-right next left x 0 some);
  only = λ x. omega (arith, tied.only x, marked-last bad t next x v);
}

pub not-pushed : (key : BoardKey) (bad : Bool) (t next : ℕ) (pass : PassView) (v : View) → AreTied key pass v → 0 < edge key t next → NoLast next (marked_view bad t next v)
    → times next pass.pushed ≡ 0
not-pushed key bad t next pass v tied is none = omega (arith, tied.only next, marked-last bad t next next v, no-root key t next is)

pub tied-pushed : (key : BoardKey) (bad : Bool) (t next : ℕ) (pass : PassView) (v : View) → AreTied key pass v → 0 < edge key t next → NoLast next (marked_view bad t next v)
    → AreTied key (after_push next pass) (told_view bad t next 0 v)
tied-pushed key bad t next pass v tied is none = record { all = λ x. all x (cases_eq x next); only = λ x. only x (cases_eq x next) }
  where
    -- the number that is pushed, and any other one
    all : (x : ℕ) → (x ≡ next) ⊎ (x ≢ next) → same_pair next 0 x 0 + weigh (last_of x) (marked_view bad t next v).facts ≤ same next x + times x pass.pushed
    all x (inl e) = omega (arith, same-is next x (sym e), same_pair-eq next 0 x 0 (sym e) refl, tied.all x, marked-last bad t next x v)
    all x (inr other) = omega (arith, same_pair-left next 0 x 0 (λ e. other (sym e)), tied.all x, marked-last bad t next x v)

    only : (x : ℕ) → (x ≡ next) ⊎ (x ≢ next) → same next x + times x pass.pushed ≤ (same_pair next 0 x 0 + weigh (last_of x) (marked_view bad t next v).facts) + root key x
    only x (inl e) = omega (
      arith,
      same-is next x (sym e),
      same_pair-eq next 0 x 0 (sym e) refl,
      ap (λ y. times y pass.pushed) e,
      not-pushed key bad t next pass v tied is none,
    )
    only x (inr other) = omega (arith, tied.only x, marked-last bad t next x v, same-not next x (λ e. other (sym e)))

-- ---- a step that has just ended

pub ended-as : (t n : ℕ) (o : StepOutcome) (v : View) → HasEndedAs (is_bad o) t (learned (Ended t n o) v)
ended-as t n Ran v = omega (arith, same-eq t t refl)
ended-as t n Skipped v = omega (arith, same-eq t t refl)
ended-as t n (Failed row col) v = omega (arith, same-eq t t refl)
