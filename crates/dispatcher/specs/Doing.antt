-- What a seat learns while it moves the blocks of a step.
use Rattle.std.specs.Prelude.{◌≡◌, ℕ, List, ◌++◌, All}
use Rattle.block_store.specs.declared.view.Fact.{Fact}
use Rattle.block_store.specs.declared.view.Fact.TheVariants.{Took, Away, Gave, Put}
use Rattle.block_store.specs.declared.view.View.{View}

-- a block was taken, found away, given back, or put for step t
abbrev pub IsBlockFact : ℕ → Fact → Type 0
IsBlockFact t (Took x) = Unit {0}
IsBlockFact t (Away x) = Unit {0}
IsBlockFact t (Gave x) = Unit {0}
IsBlockFact t (Put u x) = u ≡ t
IsBlockFact t _ = ⊥

-- nothing but blocks was moved, for step t
pub record HasMovedBlocks (t : ℕ) (before after : View) : Type 0 where
  pub more : List Fact
  pub facts : after.facts ≡ more ++ before.facts
  pub only : All (IsBlockFact t) more
  pub clock : after.clock ≡ before.clock
