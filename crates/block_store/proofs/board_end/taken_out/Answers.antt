use Rattle.std.proofs.Common.{◌≡◌, ℕ, ◌+◌, ◌<◌, ◌≤◌, suc, Bool, true, false, List, ◌∷◌, [], ◌++◌, length, get_or, take, sym, ap, ◌∙◌, subst, arith}
use mathlib.Core.Option.{some}
use lib.ListN.{get_elem?}
use Rattle.residue_sums.specs.Grids.{Grid}
use Rattle.std.specs.Mem.Slots.{slots_counts, slots_filled, slots_items, slots_len}
use Rattle.block_store.proofs.TakenOut.{emptied, still-filled, take-more}
use Rattle.block_store.proofs.board_end.taken_out.Goals as goal

pub loop-x-preserved : goal.loop-x-preserved
loop-x-preserved c =
    let before = c.loop-x.invariant in
    let others = c.take.ensures.others in
    let old = slots_filled c.loop-x.closed.slots in
    let x = c.loop-x.x in
    let within : x < length old = omega (arith, (slots_counts c.loop-x.closed.slots).1, before.len, c.slot_count-x-end.ensures) in
    let one : x + 1 ≡ suc x = omega arith in
    record {
      filled = subst (λ (fs : List Bool). (k : ℕ) → x + 1 ≤ k → k < slots_len c.take.new.self.slots → get_or fs k false ≡ true) (sym others.1)
          (still-filled old x (slots_len c.take.new.self.slots) (λ k high low. before.filled k high (omega (arith, low, others.2))));
      empty = subst (λ (fs : List Bool). (k : ℕ) → k < x + 1 → get_or fs k false ≡ false) (sym others.1) (emptied old x within before.empty);
      len = others.2 ∙ before.len;
      items = others.0 ∙ before.items;
      taken = c.push_reserved.ensures.items ∙ ap (λ (xs : List Grid). xs ++ c.take.result ∷ []) before.taken
          ∙ sym (ap (λ (n : ℕ). take n (slots_items c.args.closed.slots)) one
          ∙ take-more (slots_items c.args.closed.slots) x c.take.result (subst (λ (xs : List Grid). get_elem? xs x ≡ some c.take.result) before.items c.take.ensures.value));
      count = c.push_reserved.ensures.len ∙ ap (λ (n : ℕ). n + 1) before.count;
      room = omega (arith, before.room, c.push_reserved.ensures.capacity);
    }
