use Rattle.std.proofs.Common.{◌*◌, ℕ, length, refl, sym, ap, ◌∙◌}
use Rattle.dispatcher.proofs.NewWorkers.{new-worker, none-clone}
use Rattle.dispatcher.proofs.worker.Worker.new.Goals as goal

pub returns-clause-new : goal.returns-clause-new
returns-clause-new c = λ ready pass.
    new-worker c.args.board.now ready _ (2 * c.len.result) c.requires.seat pass c.in_ok-buffers.ensures (c.in_ok-log.ensures.items_if_clones_equal (none-clone _ (λ e h. h)))
    (ap (λ (n : ℕ). 2 * n) (c.len.ensures ∙ ap length (sym c.requires.board.steps_are))) refl
