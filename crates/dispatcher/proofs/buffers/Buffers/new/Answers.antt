use Rattle.std.proofs.Common.{ℕ, ◌<◌, List, length, sym, subst}
use Rattle.step_replays.specs.declared.step.Step.{Step}
use Rattle.step_replays.specs.Replays.{nth_access}
use Rattle.block_store.specs.Seats.{key_of}
use Rattle.dispatcher.specs.BufferSizes.{NamesBlocks}
use Rattle.dispatcher.proofs.PlanBlocks.{names-blocks}
use Rattle.dispatcher.proofs.buffers.Buffers.new.Goals as goal

pub room_for-requires-clause-names : goal.room_for-requires-clause-names
room_for-requires-clause-names c =
    subst (λ (steps : List Step). (p : ℕ) → p < length steps → NamesBlocks (key_of c.args.board.now) (nth_access steps p)) (sym c.as_slice.ensures)
    (names-blocks c.args.plan.now c.args.board.now c.requires.plan c.requires.board)
