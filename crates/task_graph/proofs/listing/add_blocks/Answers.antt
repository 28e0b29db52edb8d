use Rattle.std.proofs.Common.{ap, arith}
use Rattle.task_graph.specs.Listing.{block_of, blocks_of}
use Rattle.task_graph.proofs.Joined.{grown-none, grown-next, grown-all, grown_past, passed_on}
use Rattle.task_graph.proofs.listing.add_blocks.Goals as goal

pub loop-at-init : goal.loop-at-init
unfolding blocks_of
loop-at-init c = record { grown = grown-none _ _; few = c.requires }

pub loop-at-preserved : goal.loop-at-preserved
unfolding blocks_of
loop-at-preserved c =
    let same = ap (block_of c.args.op.now c.args.parts.now c.args.i) c.col_at.ensures in
    record {
      grown = grown-next _ c.loop-at.at _ c.loop-at.invariant.grown same c.in_ok-add_block.ensures.ok;
      few = c.in_ok-add_block.ensures.few;
    }

pub returns-in_err-add_block-clause-too_many : goal.returns-in_err-add_block-clause-too_many
unfolding blocks_of
returns-in_err-add_block-clause-too_many c h =
    let same = ap (block_of c.args.op.now c.args.parts.now c.args.i) c.col_at.ensures in
    grown_past _ c.loop-at.at _ _ _ (omega arith) c.loop-at.invariant.grown same
    (c.in_err-add_block.ensures.too_many (passed_on c.from_residual.result c.from_residual.ensures.1 h))

pub returns-clause-ok : goal.returns-clause-ok
unfolding blocks_of
returns-clause-ok c = grown-all _ c.loop-at.at _ _ (omega arith) (omega arith) c.loop-at.invariant.grown
