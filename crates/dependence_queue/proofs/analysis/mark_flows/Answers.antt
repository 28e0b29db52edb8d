use Rattle.std.proofs.Common.{arith, get_or}
use Rattle.dependence_queue.proofs.analysis.mark_flows.Goals as goal

pub mark_writer-requires : goal.mark_writer-requires
mark_writer-requires c s e =
    let h = (c.requires.steps (get_or c.args.reads.now c.loop-block.block-index 0) c.index-uses-block.result
    (c.requires.blocks c.loop-block.block-index 0 (omega arith))).writer s e in
    (h.0, omega (arith, h.1))
