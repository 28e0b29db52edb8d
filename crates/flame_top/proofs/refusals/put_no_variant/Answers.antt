use Rattle.std.specs.Prelude.{codes, decimal}
use Rattle.flame_top.proofs.JoinedTexts.{joined_number}
use Rattle.flame_top.proofs.refusals.put_no_variant.Goals as goal

pub returns : goal.returns
returns c =
    joined_number c.args.out.now.items (codes "refused NoVariant statement ") (decimal c.args.statement) (codes "\n") _ _
    c.in_ok-put_numbered.ensures c.in_ok-push.ensures.items
