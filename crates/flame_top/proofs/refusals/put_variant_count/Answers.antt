use Rattle.std.specs.Prelude.{codes, decimal}
use Rattle.flame_top.proofs.JoinedTexts.{joined_counts}
use Rattle.flame_top.proofs.refusals.put_variant_count.Goals as goal

pub returns : goal.returns
returns c =
    joined_counts c.args.out.now.items (codes "refused VariantCount given ") (decimal c.args.given) (codes " due ") (decimal c.args.due) (codes "\n") _ _ _ _
    c.in_ok-extend_from_slice.ensures.items c.in_ok-put_decimal.ensures.ok c.in_ok-put_numbered.ensures c.in_ok-push.ensures.items
