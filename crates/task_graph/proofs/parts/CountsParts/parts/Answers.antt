use Rattle.std.proofs.Common.{ℕ}
use Rattle.std.proofs.lemmas.Option.{unwrap_or-slice_get}
use Rattle.task_graph.proofs.parts.CountsParts.parts.Goals as goal

pub returns : goal.returns
returns c = cc (unwrap_or-slice_get {X = ℕ} c.args.self.now c.args.dim 0)
