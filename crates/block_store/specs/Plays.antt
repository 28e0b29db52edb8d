-- What a step of the board tells its caller, and what a clause says of a view.
use Rattle.std.specs.Prelude.{◌≡◌, ◌≢◌, ℕ, ◌+◌, ◌*◌, ◌%◌, ◌<◌, ◌≤◌, ◌==◌, ◌⊎◌, List, [], ◌∷◌, Some, None, if◌then◌else◌}
use Rattle.atomic_table.specs.Table.{Me}
use Rattle.residue_sums.specs.Grids.{Grid}
use Rattle.step_replays.specs.Replays.{StepResult}
use Rattle.block_store.specs.declared.key.BoardKey.{BoardKey}
use Rattle.block_store.specs.declared.view.Fact.TheVariants.{Claimed, Refused, Took, Away}
use Rattle.block_store.specs.declared.view.View.{View}
use Rattle.block_store.specs.Blocks.{IsFound}
use Rattle.block_store.specs.Holding.{turn_word}
use Rattle.block_store.specs.Keys.{step_count, IsReplayOf, outcome_at, skip_of}
use Rattle.block_store.specs.Rule.{AreClaims, AreStamps, IsView}
use Rattle.block_store.specs.Sums.{below}
use Rattle.block_store.specs.Tallies.{weigh, claim_of, begin_of, end_of, good_of, bad_of, mark_of, notice_of, last_of, put_of, gave_of, stamp_of, took_of, count_in, drawn}
use Rattle.block_store.specs.Views.{learned, timed}

-- ---- what a view has of a step or a pair

module _ (v : View) where
  abbrev pub HasClaimed : ℕ → Type 0
  HasClaimed t = 0 < weigh (claim_of t) v.facts

  abbrev pub HasBegun : ℕ → Type 0
  HasBegun t = 0 < weigh (begin_of t) v.facts

  abbrev pub NotBegun : ℕ → Type 0
  NotBegun t = weigh (begin_of t) v.facts ≡ 0

  abbrev pub NotEnded : ℕ → Type 0
  NotEnded t = weigh (end_of t) v.facts ≡ 0

  -- t ended and failed or was skipped
  abbrev pub HasEndedBad : ℕ → Type 0
  HasEndedBad t = 0 < weigh (bad_of t) v.facts

  -- s ended and ran, or the pair is marked
  abbrev pub MayNotify : ℕ → ℕ → Type 0
  MayNotify s t = 0 < weigh (good_of s) v.facts + weigh (mark_of s t) v.facts

  abbrev pub NotNoticed : ℕ → ℕ → Type 0
  NotNoticed s t = weigh (notice_of s t) v.facts ≡ 0

  abbrev pub NotMarked : ℕ → ℕ → Type 0
  NotMarked s t = weigh (mark_of s t) v.facts ≡ 0

-- ---- what a view has of blocks

module _ (v : View) where
  -- t put its block, or didn't
  abbrev pub HasPut : ℕ → Type 0
  HasPut t = 0 < weigh (put_of t) v.facts

  abbrev pub NotPut : ℕ → Type 0
  NotPut t = weigh (put_of t) v.facts ≡ 0

  -- the seat holds block x, or doesn't
  abbrev pub Holds : ℕ → Type 0
  Holds x = weigh (gave_of x) v.facts < weigh (took_of x) v.facts

  abbrev pub NotHolds : ℕ → Type 0
  NotHolds x = weigh (gave_of x) v.facts ≡ weigh (took_of x) v.facts

  -- t runs: it has begun, and has neither ended nor put its block
  pub record IsRunning (t : ℕ) : Type 0 where
    pub begun : HasBegun v t
    pub unended : NotEnded v t
    pub unput : NotPut t

-- the view has nothing of t: no claim, no start, no finish, no block put, and no pair from t
pub record IsFresh (t : ℕ) (v : View) : Type 0 where
  pub claim : weigh (claim_of t) v.facts ≡ 0
  pub begin : weigh (begin_of t) v.facts ≡ 0
  pub end : weigh (end_of t) v.facts ≡ 0
  pub put : weigh (put_of t) v.facts ≡ 0
  pub notices : (u : ℕ) → weigh (notice_of t u) v.facts ≡ 0
  pub marks : (u : ℕ) → weigh (mark_of t u) v.facts ≡ 0

-- no pair into t was noticed with 0 left
abbrev pub NoLast : ℕ → View → Type 0
NoLast t v = weigh (last_of t) v.facts ≡ 0

-- ---- claims

-- the view after an exchange on the word of t, which was to be `first` and was `found`: t is claimed, or its bare mark was found, which
-- isn't the end of it, or t is refused
abbrev pub claim_view : ℕ → ℕ → ℕ → View → View
claim_view first t found v =
    if found == first then learned (Claimed t) (record v { found_mark = None })
    else if found == 8589934592 then record v { found_mark = Some t }
    else learned (Refused t found) (record v { found_mark = None })

-- a word that was found is no bare mark; then it has a count or the claimed bit where it isn't 0, and after a mark it is not
abbrev pub IsTaken : ℕ → ℕ → View → Type 0
IsTaken t found v = found ≢ 8589934592 → (found ≢ 0) ⊎ (v.found_mark ≡ Some t) → 0 < found % 8589934592

-- ---- stamps

-- a stamp that was just drawn: below twice the number of steps, and new in this view
abbrev pub IsNewStamp : ℕ → View → Type 0
IsNewStamp n v = (n < 2 * step_count v.key) × (weigh (stamp_of n) v.facts ≡ 0)

-- ---- loads

-- the view stands for all workers
abbrev pub StandsForAll : BoardKey → View → Type 0
StandsForAll key v = (worker : ℕ) → count_in worker v.workers ≡ below key.workers worker

-- what the rule says of one view that stands for all workers, where the clock is n
pub record IsWhole (key : BoardKey) (n : ℕ) (v : View) : Type 0 where
  pub claims_are : AreClaims key (v ∷ [])
  pub stamps_are : AreStamps key n (v ∷ [])
  pub drawn_are : n ≡ drawn (v ∷ []) key
  pub own : IsView key n v

-- the clock was loaded, and was n: what that tells of this view, and of all where the seat stands for all workers
pub record IsTimed (n : ℕ) (before after : View) : Type 0 where
  pub view : after ≡ timed n before
  pub later : before.clock ≤ n
  pub bound : n ≤ 2 * step_count before.key
  pub whole : StandsForAll before.key before → IsWhole before.key n after

-- the word of t was loaded, and was n: where this seat claimed t, it says whether t is skipped
pub record HasLooked (t n : ℕ) (before after : View) : Type 0 where
  pub view : after ≡ before
  pub word : HasClaimed before t → (results : List StepResult) → IsReplayOf before.key results
      → n ≡ 4294967296 + 8589934592 * skip_of (outcome_at results t)

-- ---- blocks

-- a word was exchanged for step t, and was n: block x comes as t finds it, or it is away, and then the word is that of its turn
abbrev pub HasTaken : BoardKey → ℕ → ℕ → ℕ → ℕ → Me Grid View → Me Grid View → Type 0
HasTaken key t x word n me next =
    ((n ≡ 0) × (next.0 ≡ learned (Took x) me.0) × ((g : Grid) × (next.1 ≡ (x, g) ∷ me.1) × IsFound key t x g))
    ⊎ ((n ≢ 0) × (next.0 ≡ learned (Away x) me.0) × (next.1 ≡ me.1) × (word ≡ turn_word key x))
