use Rattle.std.proofs.Common.{◌≡◌, drop}
use Rattle.dependence_queue.specs.Marks.{mark_all}
use Rattle.dependence_queue.specs.Uses.{flows_into}
use Rattle.dependence_queue.proofs.analysis.mark_flows.Given as goal

-- the marks that are left, after those so far, leave what all do
abbrev pub invariant-loop-block : goal.invariant-loop-block
invariant-loop-block l = mark_all (flows_into l.step l.uses (drop l.block-index l.reads)) l.rows ≡ mark_all (flows_into l.step l.uses l.reads) l.initial.rows
