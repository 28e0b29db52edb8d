use Rattle.std.proofs.Common.{◌≡◌, ◌++◌, drop, map}
use Rattle.block_expr.specs.Seen.{tree_of}
use Rattle.variant_report.specs.PmeTexts.{block_lines}
use Rattle.variant_report.proofs.pmes.put_block_lines.Given as goal

-- what is appended, and the lines of the blocks that are left
abbrev pub invariant-loop-at : goal.invariant-loop-at
invariant-loop-at l = l.out.items ++ block_lines l.op (drop l.at l.places) (map tree_of (drop l.at l.blocks))
    ≡ l.fn.out.items ++ block_lines l.op l.places (map tree_of l.blocks)
