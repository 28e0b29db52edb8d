use Rattle.std.proofs.Common.{◌≡◌, drop}
use Rattle.dependence_queue.specs.Uses.{read_by}
use Rattle.dependence_queue.proofs.block_use.note_reads.Given as goal

-- the blocks that are left, read after those so far, leave what all do
abbrev pub invariant-loop-block : goal.invariant-loop-block
invariant-loop-block l = read_by l.step (drop l.block-index l.reads) l.uses ≡ read_by l.step l.reads l.initial.uses
