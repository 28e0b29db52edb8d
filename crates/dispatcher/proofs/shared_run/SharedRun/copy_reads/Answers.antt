use Rattle.std.proofs.Common.{◌≡◌, ℕ, ◌+◌, ◌*◌, ◌≤◌, length, drop, refl, ap, ap₂, ◌∙◌, arith}
use Rattle.block_store.specs.Blocks.{access_of}
use Rattle.block_store.specs.Seats.{key_of, view}
use Rattle.dispatcher.specs.SharedRuns.{entries_of, entry_count}
use Rattle.dispatcher.proofs.CopiedViews.{copied-runs, copied-then}
use Rattle.dispatcher.proofs.Readings.{next-room}
use Rattle.dispatcher.proofs.RoomCuts.{copied-next}
use Rattle.dispatcher.proofs.Tries.{same-then}
use Rattle.dispatcher.proofs.shared_run.SharedRun.copy_reads.Goals as goal

pub copy_block-requires-clause-runs : goal.copy_block-requires-clause-runs
copy_block-requires-clause-runs g c = copied-runs (view c.args.seat.now) (view c.loop-k.seat) c.args.t c.loop-k.invariant.copied c.requires.runs

pub loop-k-preserved : goal.loop-k-preserved
loop-k-preserved g c =
    let key = key_of c.args.self.now.board.now in
    let reads = (access_of key c.args.t).reads in
    let so_far = c.loop-k.invariant in
    let did = c.copy_block.ensures in
    let size = c.size-size.ensures in
    let end : ℕ = c.loop-k.at + c.size-size.result.rows * c.size-size.result.cols in
    let count : c.size-size.result.rows * c.size-size.result.cols ≡ entry_count key c.read_at-x.result = ap₂ (λ (r s : ℕ). r * s) size.rows size.cols in
    let next : end + entries_of key (drop (c.loop-k.k + 1) reads) ≡ entries_of key reads
    = ap (λ (n : ℕ). c.loop-k.at + n + entries_of key (drop (c.loop-k.k + 1) reads)) count
    ∙ next-room key reads c.loop-k.k c.loop-k.at c.read_at-x.result (omega (arith, c.loop-k-test.true, c.read_count-count.ensures)) c.read_at-x.ensures.is so_far.left in
    let inside : end ≤ length c.loop-k.room = omega (arith, next, c.requires.room, c.loop-k.auto.room) in
    record {
      same = same-then c.args.seat.now c.loop-k.seat c.copy_block.new.seat so_far.same did.same;
      copied = copied-then (view c.args.seat.now) (view c.loop-k.seat) (view c.copy_block.new.seat) so_far.copied did.copied;
      free = did.free;
      left = next;
      stand = copied-next key c.args.t c.loop-k.k c.loop-k.room c.copy_block.new.entries c.loop-k.cuts c.loop-k.at end c.read_at-x.result
          (record { at = c.loop-k.at; rows = c.size-size.result.rows; cols = c.size-size.result.cols }) so_far.stand c.read_at-x.ensures.is
          (omega (arith, c.loop-k-test.true, c.read_count-count.ensures, c.requires.cuts, c.loop-k.auto.cuts)) inside refl size.rows size.cols refl
          (omega (arith, inside, c.copy_block.auto.entries)) did.found;
    }
