-- The rule of the board: what holds of its words and of all views between any two atomic steps.
use Rattle.std.specs.Prelude.{◌≡◌, ◌≢◌, ℕ, ◌+◌, ◌*◌, ◌<◌, ◌≤◌, List, [], length, slice_index, Some}
use mathlib.Core.Option.{some}
use lib.ListN.{get_elem?}
use Rattle.block_store.specs.declared.key.BoardKey.{BoardKey}
use Rattle.block_store.specs.declared.outcome.StepOutcome.{StepOutcome}
use Rattle.block_store.specs.declared.view.Fact.TheVariants.{Ended}
use Rattle.block_store.specs.declared.view.View.{View}
use Rattle.issue_list.specs.CanonicalSteps.{most_steps}
use Rattle.block_store.specs.Keys.{step_count, IsStep, IsOutcome, edge, preds}
use Rattle.block_store.specs.Sums.{below}
use Rattle.block_store.specs.Tallies.{weigh, stand_for, In, claim_of, begin_of, end_of, good_of, bad_of, mark_of, notice_of, claims, begins, ends, marks, notices, lasts, stamps, start, finish, noticed_into, marked_into, mark, drawn}

module _ (key : BoardKey) where
  -- the word of a step holds the number of edges into it that aren't noticed, the bit 2 ^ 32 where it is claimed, and the bit 2 ^ 33
  -- where it is marked to be skipped; word 0 is the clock, which is the number of stamps
  pub record AreWords (words : List ℕ) (views : List View) : Type 0 where
    pub long : step_count key + 1 ≤ length words
    pub word : (t : ℕ) → IsStep key t
        → slice_index words t + noticed_into views key t ≡ preds key t + 4294967296 * claims views t + 8589934592 * mark views key t
    pub clock : slice_index words 0 ≡ drawn views key

  -- a step is claimed once, and then each edge into it is noticed; a pair is noticed once and marked once, and is an edge; where
  -- one was noticed with 0 left, all edges into its second step are noticed
  pub record AreClaims (views : List View) : Type 0 where
    pub once : (t : ℕ) → claims views t ≤ 1
    pub real : (t : ℕ) → 0 < claims views t → IsStep key t
    pub ready : (t : ℕ) → 0 < claims views t → noticed_into views key t ≡ preds key t
    pub noticed : (s t : ℕ) → notices views s t ≤ edge key s t
    pub marked : (s t : ℕ) → marks views s t ≤ edge key s t
    pub last : (t : ℕ) → 0 < lasts views t → noticed_into views key t ≡ preds key t

  -- each number below the clock was drawn once; a step starts before it finishes, and the first step of an edge finishes before
  -- the second one starts
  pub record AreStamps (clock : ℕ) (views : List View) : Type 0 where
    pub drawn_once : (n : ℕ) → stamps views n ≡ below clock n
    pub start_low : (t : ℕ) → 0 < begins views t → start views t < clock
    pub finish_low : (t : ℕ) → 0 < ends views t → finish views t < clock
    pub start_first : (t : ℕ) → 0 < ends views t → start views t < finish views t
    pub edge_ended : (s t : ℕ) → 0 < edge key s t → 0 < begins views t → 0 < ends views s
    pub edge_forward : (s t : ℕ) → 0 < edge key s t → 0 < begins views t → finish views s < start views t

  -- what a view has by itself: it begins what it claimed, ends what it began, marks what ended badly, notices what ran or is marked,
  -- and its outcomes are those of the replay; the view of no worker is empty, and any other one has the key
  pub record IsView (clock : ℕ) (v : View) : Type 0 where
    pub begun : (t : ℕ) → weigh (begin_of t) v.facts ≤ weigh (claim_of t) v.facts
    pub ended : (t : ℕ) → weigh (end_of t) v.facts ≤ weigh (begin_of t) v.facts
    pub marked : (s t : ℕ) → weigh (mark_of s t) v.facts ≤ weigh (bad_of s) v.facts
    pub noticed : (s t : ℕ) → weigh (notice_of s t) v.facts ≤ weigh (good_of s) v.facts + weigh (mark_of s t) v.facts
    pub outcomes : (t n : ℕ) (o : StepOutcome) → In (Ended t n o) v.facts → IsOutcome key t o
    pub loaded : v.clock ≤ clock
    pub spent : v.workers ≡ [] → v.facts ≡ []
    pub knows : v.workers ≢ [] → v.key ≡ key

  -- all of it; a mark that was found stands, each worker is stood for once, and the board isn't too large for its words
  pub record IsKept (words : List ℕ) (views : List View) : Type 0 where
    pub words_are : AreWords words views
    pub claims_are : AreClaims views
    pub stamps_are : AreStamps (slice_index words 0) views
    pub each_view : (j : ℕ) (v : View) → get_elem? views j ≡ some v → IsView (slice_index words 0) v
    pub found_marks : (j : ℕ) (v : View) → get_elem? views j ≡ some v → (t : ℕ) → v.found_mark ≡ Some t → 0 < marked_into views key t
    pub workers_are : (worker : ℕ) → stand_for worker views ≡ below key.workers worker
    pub small : step_count key ≤ most_steps
