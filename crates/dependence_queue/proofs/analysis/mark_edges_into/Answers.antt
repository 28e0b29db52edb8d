use Rattle.std.proofs.Common.{arith, subst, sym, ℕ, List, length}
use Rattle.std.specs.Prelude.{All}
use Rattle.dependence_queue.specs.Marks.{IsStepOf}
use Rattle.dependence_queue.specs.Uses.{HasSteps}
use Rattle.dependence_queue.proofs.CodeSteps.{marked_into}
use Rattle.dependence_queue.proofs.analysis.mark_edges_into.Goals as goal

pub mark_readers-requires : goal.mark_readers-requires
mark_readers-requires c k d below =
    let used : HasSteps (length c.args.rows.now) c.index-uses-access.result =
    subst (HasSteps (length c.args.rows.now)) (sym c.index-uses-access.is) (c.requires.steps c.args.access.now.write c.index-uses-access.result c.requires.blocks.write) in
    let readers : All (IsStepOf (length c.args.rows.now)) c.as_slice-2.result.now =
    subst (λ (xs : List ℕ). All (IsStepOf (length c.args.rows.now)) xs) (sym c.as_slice-2.ensures) used.readers in
    let h = readers k d below in
    (h.0, omega (arith, h.1))

pub mark_writer-requires : goal.mark_writer-requires
mark_writer-requires c s e =
    let used : HasSteps (length c.args.rows.now) c.index-uses-access.result =
    subst (HasSteps (length c.args.rows.now)) (sym c.index-uses-access.is) (c.requires.steps c.args.access.now.write c.index-uses-access.result c.requires.blocks.write) in
    let h = used.writer s e in
    (h.0, omega (arith, h.1))

pub returns : goal.returns
returns c = marked_into c.args.step c.args.access.now c.args.uses.now c.index-uses-access.result c.as_slice.result.now c.as_slice-2.result.now
    c.args.rows.now c.mark_flows.new.rows c.mark_readers.new.rows c.mark_writer.new.rows c.requires.blocks.write c.index-uses-access.is c.as_slice.ensures c.as_slice-2.ensures
    c.in_ok-mark_flows.ensures c.in_ok-mark_readers.ensures c.in_ok-mark_writer.ensures
