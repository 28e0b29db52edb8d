use Rattle.std.proofs.Common.{◌≤◌, length, take}
use Rattle.std.specs.Prelude.{All}
use Rattle.residue_sums.specs.Grids.{Grid}
use Rattle.schedule_core.proofs.held.most_entries.Given as goal

-- the blocks so far have no more entries
abbrev pub invariant-loop-block : goal.invariant-loop-block
invariant-loop-block l = All (λ (g : Grid). length g.entries ≤ l.most) (take l.block-index l.blocks)
