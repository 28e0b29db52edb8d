-- Blocks that a step reads are copied one behind the other: how far that has come. Cited by the loop that copies them.
use Rattle.std.proofs.Common.{◌≡◌, ℕ, ◌+◌, ◌<◌, List, length, get_or, drop, ap, arith}
use Rattle.std.proofs.lemmas.List.{drop_more}
use Rattle.block_kernels.specs.declared.stored_blocks.Cut.{Cut}
use Rattle.block_store.specs.declared.key.BoardKey.{BoardKey}
use Rattle.block_store.specs.declared.seat.Seat.{Seat}
use Rattle.block_store.specs.Blocks.{access_of}
use Rattle.block_store.specs.Plays.{NotHolds}
use Rattle.block_store.specs.Seats.{view, IsSame}
use Rattle.dispatcher.specs.Copying.{AreCopied, HasCopied}
use Rattle.dispatcher.specs.SharedRuns.{entries_of, entry_count}

-- the first k reads were copied, and end at a place before which there is room for those that are left
pub record IsReading (key : BoardKey) (t : ℕ) (old new : Seat) (k place : ℕ) (room : List ℕ) (cuts : List Cut) : Type 0 where
  pub same : IsSame old new
  pub copied : HasCopied (view old) (view new)
  pub free : (y : ℕ) → NotHolds (view new) y
  pub left : place + entries_of key (drop k (access_of key t).reads) ≡ entries_of key (access_of key t).reads
  pub stand : AreCopied key t k room cuts place

-- the next read has its room
pub next-room : (key : BoardKey) (reads : List ℕ) (k place x : ℕ) → k < length reads → x ≡ get_or reads k 0 → place + entries_of key (drop k reads) ≡ entries_of key reads
    → (place + entry_count key x) + entries_of key (drop (k + 1) reads) ≡ entries_of key reads
next-room key reads k place x below read left =
    let more : entries_of key (drop k reads) ≡ entry_count key (get_or reads k 0) + entries_of key (drop (k + 1) reads) = ap (entries_of key) (drop_more reads k 0 below) in
    omega (arith, left, more, ap (entry_count key) read)
