use Rattle.std.proofs.Common.{◌≡◌, ℕ, ◌+◌, true, [], get_or, subst, arith}
use Rattle.task_graph.specs.Classes.{class_of}
use Rattle.invariant_family.specs.Feasible.{holds}
use Rattle.issue_list.proofs.loop_order.Progress.iteration_of.Goals as goal

pub returns-clause-done : goal.returns-clause-done
returns-clause-done c =
    let self = c.args.self.now in
    let next : c.loop-before.after ≡ c.loop-before.before + 1 = omega (arith, c.loop-before.invariant.apart) in
    subst (λ (t : ℕ). holds self.kept.now (class_of self.op.now (get_or self.cuts.now t []) c.args.task) ≡ true) next c.loop-before.invariant.done
