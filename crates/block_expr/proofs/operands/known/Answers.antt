use Rattle.std.proofs.Common.{ap, ◌∙◌, Bor}
use Rattle.std.specs.Prelude.{unwrap_or}
use Rattle.std.proofs.lemmas.Option.{unwrap_or-slice_get}
use Rattle.operation_spec.specs.declared.operation.Operand.{Operand}
use Rattle.task_graph.proofs.Terms.{now-unwrap_or}
use Rattle.block_expr.proofs.operands.known.Goals as goal

pub returns : goal.returns
returns c =
    let op = c.args.op.now in
    ap (λ (r : Bor Operand). r.now) c.unwrap_or.ensures ∙ now-unwrap_or c.get.result _
    ∙ ap (λ o. unwrap_or o op.work) c.get.ensures.item ∙ unwrap_or-slice_get op.knowns c.args.n op.work
