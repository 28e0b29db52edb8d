use Rattle.std.proofs.Common.{◌≡◌, ℕ, ◌<◌, ◌≤◌, true, false, get_or, take, vec_len, vec_capacity}
use Rattle.std.specs.Mem.Slots.{slots_items, slots_filled, slots_len}
use Rattle.block_store.proofs.board_end.taken_out.Given as goal

abbrev pub invariant-loop-x : goal.invariant-loop-x
invariant-loop-x l = record {
  filled : (k : ℕ) → l.x ≤ k → k < slots_len l.closed.slots → get_or (slots_filled l.closed.slots) k false ≡ true;
  empty : (k : ℕ) → k < l.x → get_or (slots_filled l.closed.slots) k false ≡ false;
  len : slots_len l.closed.slots ≡ slots_len l.fn.closed.slots;
  items : slots_items l.closed.slots ≡ slots_items l.fn.closed.slots;
  taken : l.blocks.items ≡ take l.x (slots_items l.fn.closed.slots);
  count : vec_len l.blocks ≡ l.x;
  room : slots_len l.fn.closed.slots ≤ vec_capacity l.blocks;
}
