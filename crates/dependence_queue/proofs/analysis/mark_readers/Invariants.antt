use Rattle.std.proofs.Common.{◌≡◌, drop, map}
use Rattle.dependence_queue.specs.declared.edge.EdgeKind.TheVariants.{Anti}
use Rattle.dependence_queue.specs.Marks.{found_edge, mark_all}
use Rattle.dependence_queue.proofs.analysis.mark_readers.Given as goal

-- the marks that are left, after those so far, leave what all do
abbrev pub invariant-loop-from : goal.invariant-loop-from
invariant-loop-from l = mark_all (map (found_edge Anti l.step) (drop l.from-index l.readers)) l.rows ≡ mark_all (map (found_edge Anti l.step) l.readers) l.initial.rows
