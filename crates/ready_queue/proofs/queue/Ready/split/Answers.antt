use Rattle.ready_queue.proofs.NewPasses.{cuts}
use Rattle.ready_queue.proofs.queue.Ready.split.Goals as goal

pub another-inner-requires-clause-rule : goal.another-inner-requires-clause-rule
another-inner-requires-clause-rule c = cuts _ _ c.requires.more c.requires.sizes
