-- The part of the rule that is about blocks, and the whole rule.
use Rattle.std.specs.Prelude.{◌≡◌, ℕ, ◌+◌, ◌<◌, ◌≤◌, max, List, length, slice_index, if◌then◌else◌}
use mathlib.Core.Option.{Option, some}
use lib.ListN.{get_elem?}
use Rattle.residue_sums.specs.Sums.{sum_below}
use Rattle.residue_sums.specs.Grids.{Grid}
use Rattle.block_store.specs.declared.key.BoardKey.{BoardKey}
use Rattle.block_store.specs.declared.view.View.{View}
use Rattle.block_store.specs.Keys.{step_count}
use Rattle.block_store.specs.Blocks.{block_count, is_writer, writes_to, IsValue}
use Rattle.block_store.specs.Tallies.{weigh, took_of, gave_of, put_of, begin_of, tooks, gaves, puts, ends}
use Rattle.block_store.specs.Rule.{IsKept}

-- how many of the steps that write block x have put it or ended
abbrev pub version : List View → BoardKey → ℕ → ℕ
version views key x = sum_below (λ t. if is_writer key x t then max (puts views t) (ends views t) else 0) (step_count key + 1)

-- the word of a block's turn
abbrev pub turn_word : BoardKey → ℕ → ℕ
turn_word key x = step_count key + 1 + x

-- a view puts a block once, for a step that it has begun, and gives back no more often than it takes
pub record IsHolder (v : View) : Type 0 where
  pub puts_begun : (t : ℕ) → weigh (put_of t) v.facts ≤ weigh (begin_of t) v.facts
  pub gaves_taken : (x : ℕ) → weigh (gave_of x) v.facts ≤ weigh (took_of x) v.facts

module _ (key : BoardKey) where
  -- a turn word is 1 exactly where one seat holds the block, and else 0; a block that none holds is in its slot, as the steps that
  -- have put it or ended leave it
  pub record IsHeld (words : List ℕ) (homes : List (Option Grid)) (views : List View) : Type 0 where
    pub long : step_count key + 1 + block_count key ≤ length words
    pub many : length homes ≡ block_count key
    pub turn : (x : ℕ) → x < block_count key → slice_index words (turn_word key x) + gaves views x ≡ tooks views x
    pub one : (x : ℕ) → tooks views x ≤ gaves views x + 1
    pub home : (x : ℕ) → x < block_count key → tooks views x ≡ gaves views x
        → (g : Grid) × (get_elem? homes x ≡ some (some g)) × IsValue key x (version views key x) g
    pub holders : (j : ℕ) (v : View) → get_elem? views j ≡ some v → IsHolder v

  pub record IsRuled (words : List ℕ) (homes : List (Option Grid)) (views : List View) : Type 0 where
    pub kept : IsKept key words views
    pub held : IsHeld words homes views

-- ---- the slots at the beginning and in the end

-- each block as it is before any write
pub record AreFirst (key : BoardKey) (slots : List Grid) : Type 0 where
  pub many : length slots ≡ block_count key
  pub each : (x : ℕ) → x < block_count key → (g : Grid) × (get_elem? slots x ≡ some g) × IsValue key x 0 g

-- as it is after all writes
pub record HaveLast (key : BoardKey) (slots : List Grid) : Type 0 where
  pub many : length slots ≡ block_count key
  pub each : (x : ℕ) → x < block_count key
      → (g : Grid) × (get_elem? slots x ≡ some g) × IsValue key x (writes_to key x (step_count key + 1)) g
