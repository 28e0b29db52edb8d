use Rattle.std.proofs.Common.{◌≡◌, ◌++◌}
use Rattle.block_expr.specs.Places.{each_below, if_work_block}
use Rattle.block_expr.proofs.places.add_row.Given as goal

abbrev pub invariant-loop-j : goal.invariant-loop-j
invariant-loop-j l = l.found.items ≡ l.fn.found.items ++ each_below (if_work_block l.op l.parts l.i) l.j
