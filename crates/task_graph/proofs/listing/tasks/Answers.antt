use Rattle.std.proofs.Common.{[], length, ap, ◌∙◌, arith}
use Rattle.task_graph.specs.Tasks.{parts_of}
use Rattle.task_graph.specs.Listing.{blocks_of, rows_of}
use Rattle.task_graph.proofs.Joined.{grown-none, grown-next, grown-all, grown_past, passed_on}
use Rattle.task_graph.proofs.TasksInOrder.{rows_of-tasks_of}
use Rattle.task_graph.proofs.listing.tasks.Goals as goal

pub loop-at-init : goal.loop-at-init
unfolding rows_of
loop-at-init c = record {
  grown = c.new-found.ensures.items ∙ grown-none _ [];
  few = omega (arith, ap length c.new-found.ensures.items);
}

pub loop-at-preserved : goal.loop-at-preserved
unfolding rows_of
loop-at-preserved c =
    let same = ap (λ i. blocks_of c.args.op.now c.args.parts.now i (parts_of c.args.parts.now c.args.op.now.work.cols)) c.row_at.ensures in
    record {
      grown = grown-next _ c.loop-at.at [] c.loop-at.invariant.grown same c.in_ok-add_blocks.ensures.ok;
      few = c.in_ok-add_blocks.ensures.few;
    }

pub returns-in_err-add_blocks-clause-too_many : goal.returns-in_err-add_blocks-clause-too_many
unfolding rows_of
returns-in_err-add_blocks-clause-too_many c h =
    let same = ap (λ i. blocks_of c.args.op.now c.args.parts.now i (parts_of c.args.parts.now c.args.op.now.work.cols)) c.row_at.ensures in
    let over = grown_past _ c.loop-at.at (parts_of c.args.parts.now c.args.op.now.work.rows) _ [] (omega arith) c.loop-at.invariant.grown same
    (c.in_err-add_blocks.ensures.too_many (passed_on c.from_residual.result c.from_residual.ensures.1 h)) in
    let all = ap length (rows_of-tasks_of c.args.op.now c.args.parts.now) in omega (arith, over, all)

pub returns-clause-found : goal.returns-clause-found
unfolding rows_of
returns-clause-found c =
    grown-all _ c.loop-at.at (parts_of c.args.parts.now c.args.op.now.work.rows) [] (omega arith) (omega arith) c.loop-at.invariant.grown
    ∙ rows_of-tasks_of c.args.op.now c.args.parts.now
