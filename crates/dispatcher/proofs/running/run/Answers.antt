use Rattle.std.proofs.Common.{◌≡◌, ℕ, List, Some, length, slice_get, sym, ap, ◌∙◌, subst, arith}
use Rattle.std.proofs.lemmas.List.{with_items_is}
use Rattle.block_store.specs.Seats.{key_of}
use Rattle.dispatcher.specs.declared.worker.Worker.{Worker}
use Rattle.dispatcher.specs.Joining.{standing}
use Rattle.dispatcher.specs.Workers.{IsNewWorker}
use Rattle.dispatcher.proofs.JoinedWorkers.{HaveEnded}
use Rattle.dispatcher.proofs.RunOutcomes.{first-pivot}
use Rattle.dispatcher.proofs.running.run.Goals as goal

pub go-requires-clause-workers : goal.go-requires-clause-workers
go-requires-clause-workers g c κs within =
    subst (λ (xs : List Worker). (k : ℕ) (w : Worker) → slice_get xs k ≡ Some w → IsNewWorker c.args.board.now c.args.crew.ready w) (sym c.as_mut_slice.ensures.value) c.requires.crew.each

pub collect-requires-clause-workers : goal.collect-requires-clause-workers
collect-requires-clause-workers g c =
    let same : length c.go.new.workers ≡ length c.args.crew.workers.items = c.go.ensures.many ∙ ap length c.as_mut_slice.ensures.value in
    let kept = with_items_is c.args.crew.workers c.go.new.workers (omega (arith, same, c.args.crew.workers.ok.0)) in
    subst (HaveEnded c.args.board.now c.args.crew.ready) (sym kept) c.go.ensures.ended

pub collect-requires-clause-all : goal.collect-requires-clause-all
collect-requires-clause-all g c = λ k.
    let same : length c.go.new.workers ≡ length c.args.crew.workers.items = c.go.ensures.many ∙ ap length c.as_mut_slice.ensures.value in
    let kept = with_items_is c.args.crew.workers c.go.new.workers (omega (arith, same, c.args.crew.workers.ok.0)) in
    ap (standing k) kept ∙ c.go.ensures.all k ∙ ap (standing k) c.as_mut_slice.ensures.value ∙ c.requires.crew.all k

pub returns-clause-pivot : goal.returns-clause-pivot
returns-clause-pivot g c =
    let p = c.args.plan.now in
    first-pivot p.job.now p.b p.steps.now _ (key_of c.args.board.now) c.requires.board c.requires.plan.job c.requires.plan.size c.requires.plan.fit
    c.collect.result.failed c.collect.ensures.failed
