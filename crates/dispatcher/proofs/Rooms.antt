-- The least room for steps, with one step more. Cited where room for all steps is found.
use Rattle.std.proofs.Common.{◌≡◌, ℕ, ◌+◌, max, List, below_more, arith}
use Rattle.step_replays.specs.declared.step.Step.{Step}
use Rattle.step_replays.specs.Replays.{nth_access}
use Rattle.block_store.specs.declared.key.BoardKey.{BoardKey}
use Rattle.dispatcher.specs.declared.room.Room.{Room}
use Rattle.dispatcher.specs.BufferSizes.{need_of, HaveRoom, IsWithin, NeedRoom}

-- by fields the greater one of two
pub record IsLarger (room other larger : Room) : Type 0 where
  pub reads : larger.reads ≡ max room.reads other.reads
  pub cuts : larger.cuts ≡ max room.cuts other.cuts
  pub write : larger.write ≡ max room.write other.write

left-within : (room other larger : Room) → IsLarger room other larger → IsWithin room larger
left-within room other larger is = record { reads = omega (arith, is.reads); cuts = omega (arith, is.cuts); write = omega (arith, is.write) }

right-within : (room other larger : Room) → IsLarger room other larger → IsWithin other larger
right-within room other larger is = record { reads = omega (arith, is.reads); cuts = omega (arith, is.cuts); write = omega (arith, is.write) }

-- what is as large as both is as large as the greater one
both-within : (room other larger more : Room) → IsLarger room other larger → IsWithin room more → IsWithin other more → IsWithin larger more
both-within room other larger more is left right = record {
  reads = omega (arith, is.reads, left.reads, right.reads);
  cuts = omega (arith, is.cuts, left.cuts, right.cuts);
  write = omega (arith, is.write, left.write, right.write);
}

within-then : (a b c : Room) → IsWithin a b → IsWithin b c → IsWithin a c
within-then a b c first second = record {
  reads = omega (arith, first.reads, second.reads);
  cuts = omega (arith, first.cuts, second.cuts);
  write = omega (arith, first.write, second.write);
}

module _ (key : BoardKey) (steps : List Step) (n : ℕ) (room larger : Room) (is : IsLarger room (need_of key (nth_access steps n)) larger) where
  pub room-more : HaveRoom key steps n room → HaveRoom key steps (n + 1) larger
  room-more have = below_more (λ p. IsWithin (need_of key (nth_access steps p)) larger) n
      (λ p low. within-then (need_of key (nth_access steps p)) room larger (have p low) (left-within room (need_of key (nth_access steps n)) larger is))
      (right-within room (need_of key (nth_access steps n)) larger is)

  pub need-more : NeedRoom key steps n room → NeedRoom key steps (n + 1) larger
  need-more need other have = both-within room (need_of key (nth_access steps n)) larger other is
      (need other (λ p low. have p (omega (arith, low)))) (have n (omega arith))
