use Rattle.std.specs.Prelude.{codes, decimal}
use Rattle.flame_top.proofs.JoinedTexts.{joined_numbers}
use Rattle.flame_top.proofs.refusals.put_bad_pivot.Goals as goal

pub returns : goal.returns
returns c =
    joined_numbers c.args.out.now.items (codes "no inverse statement ") (decimal c.args.statement) (codes " row ") (decimal c.args.place.row)
    (codes " column ") (decimal c.args.place.col) (codes "\n") _ _ _ _
    c.in_ok-put_numbered.ensures c.in_ok-put_numbered-2.ensures c.in_ok-put_numbered-3.ensures c.in_ok-push.ensures.items
