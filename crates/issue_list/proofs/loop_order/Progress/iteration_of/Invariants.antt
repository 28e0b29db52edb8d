use Rattle.std.proofs.Common.{◌≡◌, ◌<◌, ◌-◌, true, false, [], length, get_or}
use Rattle.task_graph.specs.Classes.{class_of}
use Rattle.invariant_family.specs.Feasible.{holds}
use Rattle.issue_list.proofs.loop_order.Progress.iteration_of.Given as goal

abbrev pub invariant-loop-before : goal.invariant-loop-before
invariant-loop-before l = record {
  apart : l.before < l.after;
  within : l.after < length l.self.cuts.now;
  undone : holds l.self.kept.now (class_of l.self.op.now (get_or l.self.cuts.now l.before []) l.task) ≡ false;
  done : holds l.self.kept.now (class_of l.self.op.now (get_or l.self.cuts.now l.after []) l.task) ≡ true;
}

abbrev pub decreases-loop-before : goal.decreases-loop-before
decreases-loop-before l = l.after - l.before
