use Rattle.std.proofs.Common.{◌≡◌}
use Rattle.block_expr.specs.Places.{each_below, row_places}
use Rattle.block_expr.proofs.places.work_places.Given as goal

abbrev pub invariant-loop-i : goal.invariant-loop-i
invariant-loop-i l = l.found.items ≡ each_below (row_places l.op l.parts) l.i
