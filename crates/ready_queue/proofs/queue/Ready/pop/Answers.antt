use Rattle.std.proofs.Common.{arith}
use Rattle.ready_queue.proofs.PushesAndPops.{pops, finds}
use Rattle.ready_queue.proofs.queue.Ready.pop.Goals as goal

pub pop_as-requires-clause-rule : goal.pop_as-requires-clause-rule
pop_as-requires-clause-rule g c =
    let pass = c.requires.pass in
    (pops _ _ (omega (arith, pass.parts_are)) (omega (arith, pass.callers_are, c.args.self.now.called)), finds _ _)
