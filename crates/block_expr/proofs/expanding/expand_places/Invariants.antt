use Rattle.std.proofs.Common.{◌≡◌, ◌++◌, map, drop}
use Rattle.block_expr.specs.Expanded.{equation_of, expanded_block}
use Rattle.block_expr.proofs.expanding.expand_places.Given as goal

abbrev pub invariant-loop-place : goal.invariant-loop-place
invariant-loop-place l = map equation_of l.found ++ map (expanded_block l.op l.parts) (drop l.place-index l.places) ≡ map (expanded_block l.op l.parts) l.places
