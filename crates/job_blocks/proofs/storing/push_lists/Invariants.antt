use Rattle.std.proofs.Common.{◌≡◌, ◌++◌, drop}
use Rattle.std.specs.List.{flat_map}
use Rattle.job_blocks.specs.Tables.{zero_list, zero_lists}
use Rattle.job_blocks.proofs.storing.push_lists.Given as goal

abbrev pub invariant-loop-statement : goal.invariant-loop-statement
invariant-loop-statement l =
    l.blocks.items ++ flat_map (zero_list l.job) (drop l.statement-index l.job.statements) ≡ l.initial.blocks.items ++ zero_lists l.job
