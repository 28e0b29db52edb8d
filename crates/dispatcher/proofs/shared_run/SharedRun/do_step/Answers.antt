use Rattle.std.proofs.Common.{sym, subst}
use Rattle.block_store.specs.declared.view.View.{View}
use Rattle.block_store.specs.Plays.{NotHolds}
use Rattle.dispatcher.proofs.shared_run.SharedRun.do_step.Goals as goal

pub returns-then-is_skipped-clause-free : goal.returns-then-is_skipped-clause-free
returns-then-is_skipped-clause-free g c = λ x. subst (λ (v : View). NotHolds v x) (sym c.is_skipped.ensures.view) (c.requires.free x)

pub compute-outcome-requires-clause-free : goal.compute-outcome-requires-clause-free
compute-outcome-requires-clause-free g c = λ x. subst (λ (v : View). NotHolds v x) (sym c.is_skipped.ensures.view) (c.requires.free x)
