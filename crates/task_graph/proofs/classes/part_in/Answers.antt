use Rattle.std.proofs.Common.{ap, ◌∙◌}
use Rattle.std.specs.Prelude.{unwrap_or}
use Rattle.std.proofs.lemmas.Option.{unwrap_or-slice_get}
use Rattle.task_graph.specs.declared.cut.Sides.TheVariants.{One}
use Rattle.task_graph.specs.Classes.{side_of}
use Rattle.task_graph.proofs.classes.part_in.Goals as goal

pub returns : goal.returns
returns c =
    c.side_of.ensures ∙ ap (λ s. side_of s c.args.index)
    (c.unwrap_or.ensures ∙ ap (λ o. unwrap_or o One) (c.copied.ensures ∙ c.get.ensures.item) ∙ unwrap_or-slice_get c.args.cut.now c.args.dim One)
