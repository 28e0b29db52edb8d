use Rattle.std.proofs.Common.{◌≡◌, ◌<◌, ℕ, List, length, slice_get, get_or, Some, sym, ap, ◌∙◌, subst}
use Rattle.std.proofs.lemmas.Option.{same_Some, slice_get-get_or, slice_get_within}
use Rattle.dispatcher.specs.Workers.{HasSeenEnd}
use Rattle.dispatcher.specs.declared.worker.Worker.{Worker}
use Rattle.dispatcher.proofs.shared_run.SharedRun.work_all.Goals as goal

pub for_each_mut-requires-clause-accepts : goal.for_each_mut-requires-clause-accepts
for_each_mut-requires-clause-accepts g c κs within = λ i p lt e.
    let at = slice_get-get_or c.args.workers.now i p.now lt ∙ ap Some (sym e) in
    (c.requires.shared, (c.requires.workers i p.now at, (record { shared = c.type_bounds.sync-R.shared }, record { shared = c.type_bounds.sync-G.shared })))

-- what stands at a place
at_place : (xs : List Worker) (k : ℕ) (w d : Worker) → slice_get xs k ≡ Some w → get_or xs k d ≡ w
at_place xs k w d at = same_Some (get_or xs k d) w (sym (slice_get-get_or xs k d (slice_get_within xs k w at)) ∙ at)

pub returns-clause-done : goal.returns-clause-done
returns-clause-done g c = λ k w v at at_end.
    let lt : k < length c.args.workers.now = slice_get_within c.args.workers.now k w at in
    let r = (c.for_each_mut.ensures k w lt).1 in
    let old : r.argument.now ≡ w = r.argument_is ∙ at_place c.args.workers.now k w w at in
    let new : r.after_call.now ≡ v = r.left ∙ at_place c.for_each_mut.new.s k v w at_end in
    subst (λ (z : Worker × Worker). HasSeenEnd c.args.self.now.board.now c.args.self.now.ready.now z.0 z.1) (λ i. (old i, new i)) r.call
