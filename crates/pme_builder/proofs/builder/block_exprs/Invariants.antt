use Rattle.std.proofs.Common.{◌≡◌, ◌++◌, map, drop}
use Rattle.block_expr.specs.Seen.{tree_of}
use Rattle.pme_builder.specs.Pmes.{state_at}
use Rattle.pme_builder.proofs.builder.block_exprs.Given as goal

abbrev pub invariant-loop-place : goal.invariant-loop-place
invariant-loop-place l = map tree_of l.blocks ++ map (state_at l.op l.found) (drop l.place-index l.places) ≡ map (state_at l.op l.found) l.places
