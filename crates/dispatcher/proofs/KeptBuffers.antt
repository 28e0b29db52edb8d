-- Buffers that were written into keep their room. Cited where a step is done.
use Rattle.std.proofs.Common.{◌≡◌, ℕ, List, length, sym, ap, ◌∙◌, arith}
use Rattle.std.specs.List.{range_with_len}
use Rattle.std.specs.Vec.{with_items}
use Rattle.std.specs.declared.vec.Vec.{Vec}
use Rattle.block_kernels.specs.declared.stored_blocks.Cut.{Cut}
use Rattle.block_store.specs.declared.key.BoardKey.{BoardKey}
use Rattle.dispatcher.specs.declared.buffers.Buffers.{Buffers}
use Rattle.dispatcher.specs.SharedRuns.{AreBuffers}

long : {X Z : Type 0} (v : Vec X Z) (ws : List X) → length (with_items v ws).items ≡ length v.items
long v ws = sym (with_items v ws).ok.0 ∙ v.ok.0

pub buffers-kept : (key : BoardKey) (d : Buffers) (reads write spare : List ℕ) (cuts : List Cut) → AreBuffers key d
    → AreBuffers key (record { reads = with_items d.reads reads; cuts = with_items d.cuts cuts; numbers = d.numbers; write = with_items d.write write; spare = with_items d.spare spare })
buffers-kept key d reads write spare cuts is = record {
  reads = λ t step. omega (arith, is.reads t step, long d.reads reads);
  cuts = λ t step. omega (arith, is.cuts t step, long d.cuts cuts);
  numbers = is.numbers ∙ ap (range_with_len 0) (sym (long d.cuts cuts));
  write = λ t step. omega (arith, is.write t step, long d.write write);
  spare = omega (arith, is.spare, long d.spare spare);
}
