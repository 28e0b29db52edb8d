use Rattle.std.specs.Prelude.{codes, decimal}
use Rattle.flame_top.proofs.JoinedTexts.{joined_name}
use Rattle.flame_top.proofs.refusals.put_too_many_parts.Goals as goal

pub returns : goal.returns
returns c =
    joined_name c.args.out.now.items (codes "refused TooManyParts statement ") (decimal c.args.statement) (codes " dimension ") c.args.dimension.now (codes "\n") _ _ _ _
    c.in_ok-put_numbered.ensures c.in_ok-extend_from_slice.ensures.items c.in_ok-extend_from_slice-2.ensures.items c.in_ok-push.ensures.items
