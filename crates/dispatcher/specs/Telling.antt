-- What a seat learns while it tells the steps behind one that has ended, and what it pushes for that.
use Rattle.std.specs.Prelude.{◌≡◌, ℕ, ◌+◌, ◌≤◌, ◌<◌, ◌⊎◌, List, ◌++◌, All, Bool, true, false, ◌==◌, if◌then◌else◌}
use Rattle.block_store.specs.declared.key.BoardKey.{BoardKey}
use Rattle.block_store.specs.declared.view.Fact.{Fact}
use Rattle.block_store.specs.declared.view.Fact.TheVariants.{Refused, Marked, Noticed}
use Rattle.block_store.specs.declared.view.View.{View}
use Rattle.block_store.specs.Keys.{edge, preds, IsStep}
use Rattle.block_store.specs.Plays.{NotMarked, NotNoticed, HasEndedBad}
use Rattle.block_store.specs.Tallies.{In, weigh, good_of, last_of, notice_of}
use Rattle.block_store.specs.Views.{learned}
use Rattle.ready_queue.specs.declared.pass_view.PassView.{PassView}
use Rattle.ready_queue.specs.PassViews.{times}
use Rattle.ready_queue.specs.Queues as queues
use Rattle.ready_queue.specs.declared.queue.Pass.{Pass}

-- step t has ended in this view, badly or well
abbrev pub HasEndedAs : Bool → ℕ → View → Type 0
HasEndedAs true t v = HasEndedBad v t
HasEndedAs false t v = 0 < weigh (good_of t) v.facts

-- the view has told no step of the end of t
pub record HasToldNone (t : ℕ) (v : View) : Type 0 where
  pub notices : (u : ℕ) → NotNoticed v t u
  pub marks : (u : ℕ) → NotMarked v t u

-- a step was marked or told, for step t
abbrev pub IsTellingFact : ℕ → Fact → Type 0
IsTellingFact t (Marked s u) = s ≡ t
IsTellingFact t (Noticed s u left) = s ≡ t
IsTellingFact t _ = ⊥

-- nothing was done but to tell steps of the end of t
pub record HasTold (t : ℕ) (before after : View) : Type 0 where
  pub more : List Fact
  pub facts : after.facts ≡ more ++ before.facts
  pub only : All (IsTellingFact t) more
  pub clock : after.clock ≡ before.clock

-- 1 for a step into which no edge goes, else 0
abbrev pub root : BoardKey → ℕ → ℕ
root key x = if preds key x == 0 then 1 else 0

-- a step that a seat with this view told last was pushed, in the view of a pass, and nothing else was but steps into which no edge
-- goes
pub record AreTied (key : BoardKey) (pass : PassView) (v : View) : Type 0 where
  pub all : (x : ℕ) → weigh (last_of x) v.facts ≤ times x pass.pushed
  pub only : (x : ℕ) → times x pass.pushed ≤ weigh (last_of x) v.facts + root key x

-- the same of a pass
abbrev pub IsTied : BoardKey → Pass → View → Type 0
IsTied key pass v = AreTied key (queues.view pass) v

-- what a pass had pushed it has pushed still
abbrev pub KeepsPushes : Pass → Pass → Type 0
KeepsPushes old new = (x : ℕ) → times x (queues.view old).pushed ≤ times x (queues.view new).pushed

-- each step into which no edge goes was pushed
abbrev pub HasPushedRoots : BoardKey → Pass → Type 0
HasPushedRoots key pass = (x : ℕ) → IsStep key x → root key x ≤ times x (queues.view pass).pushed

-- ---- one step is told

-- the view once `next` is marked to be skipped, where t ended badly
abbrev pub marked_view : Bool → ℕ → ℕ → View → View
marked_view true t next v = learned (Marked t next) v
marked_view false t next v = v

-- and once it is told, with so many edges left
abbrev pub told_view : Bool → ℕ → ℕ → ℕ → View → View
told_view bad t next left v = learned (Noticed t next left) (marked_view bad t next v)

-- ---- all steps behind one are told

-- each step to which an edge goes from t is told of its end
abbrev pub HasToldAll : BoardKey → ℕ → View → Type 0
HasToldAll key t v = (next : ℕ) → 0 < edge key t next → 0 < weigh (notice_of t next) v.facts

-- step t has ended in this view, and the steps behind it are told
pub record HasFinished (key : BoardKey) (t : ℕ) (v : View) : Type 0 where
  pub bad : Bool
  pub ended : HasEndedAs bad t v
  pub told : HasToldAll key t v

-- a seat was refused step t and learned nothing else, or it has ended it and told the steps behind it
abbrev pub HasHandled : BoardKey → ℕ → View → View → Type 0
HasHandled key t before after = ((word : ℕ) × (after ≡ learned (Refused t word) before)) ⊎ HasFinished key t after

-- ---- all steps that were popped

-- what a view had learned it has still
abbrev pub KeepsFacts : View → View → Type 0
KeepsFacts old new = (more : List Fact) × (new.facts ≡ more ++ old.facts)

-- the view was refused step t, or has ended it and told the steps behind it
abbrev pub IsHandled : BoardKey → ℕ → View → Type 0
IsHandled key t v = ((word : ℕ) × In (Refused t word) v.facts) ⊎ HasFinished key t v

-- each number that a pass popped since it was an old one
abbrev pub AreHandled : BoardKey → Pass → Pass → View → Type 0
AreHandled key old new v = (t : ℕ) → times t (queues.view old).popped < times t (queues.view new).popped → IsHandled key t v
