use Rattle.std.proofs.Common.{◌<◌, subst, sym}
use Rattle.dependence_queue.specs.declared.access.Access.{Access}
use Rattle.block_store.specs.Blocks.{block_count}
use Rattle.block_store.specs.Seats.{key_of}
use Rattle.dispatcher.proofs.SharedSteps.{write-there}
use Rattle.dispatcher.proofs.shared_run.SharedRun.written.Goals as goal

pub returns-clause-there : goal.returns-clause-there
returns-clause-there c =
    subst (λ (a : Access). a.write < block_count (key_of c.args.self.now.board.now)) (sym c.access.ensures) (write-there c.args.self.now c.requires.shared c.args.t c.requires.step)
