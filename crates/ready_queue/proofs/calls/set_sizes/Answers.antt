use Rattle.std.proofs.Common.{◌<◌, ℕ, subst}
use Rattle.ready_queue.proofs.NewPasses.{sets}
use Rattle.ready_queue.proofs.calls.set_sizes.Goals as goal

pub another-requires-clause-rule : goal.another-requires-clause-rule
another-requires-clause-rule g c = sets _ g.J.Sizes.steps g.J.Sizes.callers _ c.requires.first.1 (subst (λ (n : ℕ). 0 < n) c.requires.named.1 c.requires.callers)
