-- What a seat learns while it copies the blocks of a step, and what stands in the buffers behind that.
use Rattle.std.specs.Prelude.{◌≡◌, ◌≢◌, ℕ, ◌+◌, ◌*◌, ◌<◌, ◌≤◌, List, ◌∷◌, ◌++◌, All, slice_index, slice_index_or}
use Rattle.residue_sums.specs.Grids.{Grid}
use Rattle.step_replays.specs.Replays.{StepResult}
use Rattle.block_kernels.specs.declared.stored_blocks.Cut.{Cut}
use Rattle.block_kernels.specs.LaidBlocks.{cut_grid}
use Rattle.block_store.specs.declared.key.BoardKey.{BoardKey}
use Rattle.block_store.specs.declared.outcome.StepOutcome.TheVariants.{Skipped}
use Rattle.block_store.specs.declared.view.Fact.{Fact}
use Rattle.block_store.specs.declared.view.Fact.TheVariants.{Took, Away, Gave}
use Rattle.block_store.specs.declared.view.View.{View}
use Rattle.block_store.specs.Blocks.{access_of, block_rows, block_cols, IsFound}
use Rattle.block_store.specs.Keys.{outcome_at, IsReplayOf}
use Rattle.block_store.specs.Plays.{NotHolds}
use Rattle.block_store.specs.Tallies.{weigh, took_of, gave_of}

-- step t isn't skipped in the replay of the steps
abbrev pub IsActive : BoardKey → ℕ → Type 0
IsActive key t = (results : List StepResult) → IsReplayOf key results → outcome_at results t ≢ Skipped

-- ---- what a seat learns

-- a block was taken, found away or given back
abbrev pub IsCopyFact : Fact → Type 0
IsCopyFact (Took x) = Unit {0}
IsCopyFact (Away x) = Unit {0}
IsCopyFact (Gave x) = Unit {0}
IsCopyFact _ = ⊥

-- nothing but blocks was copied
pub record HasCopied (before after : View) : Type 0 where
  pub more : List Fact
  pub facts : after.facts ≡ more ++ before.facts
  pub only : All IsCopyFact more
  pub clock : after.clock ≡ before.clock

-- the seat holds block x, and no other one
pub record HoldsOne (x : ℕ) (v : View) : Type 0 where
  pub one : weigh (took_of x) v.facts ≡ weigh (gave_of x) v.facts + 1
  pub others : (y : ℕ) → y ≢ x → NotHolds v y

-- x was taken last, as step t finds it, and then these blocks
pub record IsKeptOn (key : BoardKey) (t x : ℕ) (others all : List (ℕ × Grid)) (g : Grid) : Type 0 where
  pub top : all ≡ (x, g) ∷ others
  pub found : IsFound key t x g

-- ---- what stands in the buffers

-- a grid has the rows and columns of block x
pub record HasBlockSize (key : BoardKey) (x : ℕ) (g : Grid) : Type 0 where
  pub rows : g.rows ≡ block_rows key x
  pub cols : g.cols ≡ block_cols key x

-- block x by its entries, row by row
abbrev pub block_with : BoardKey → ℕ → List ℕ → Grid
block_with key x entries = record { rows = block_rows key x; cols = block_cols key x; entries = entries }

-- at a cut that ends before a place of the room stands block x as step t finds it
pub record IsCopied (key : BoardKey) (t x : ℕ) (room : List ℕ) (place : ℕ) (cut : Cut) : Type 0 where
  pub below : cut.at + cut.rows * cut.cols ≤ place
  pub found : IsFound key t x (cut_grid room cut)

-- at the first k cuts stand the first k blocks that step t reads, all before a place of the room
abbrev pub AreCopied : BoardKey → ℕ → ℕ → List ℕ → List Cut → ℕ → Type 0
AreCopied key t k room cuts place = (j : ℕ) (d : Cut) → j < k
    → IsCopied key t (slice_index (access_of key t).reads j) room place (slice_index_or cuts j d)
