use Rattle.std.proofs.Common.{ℕ}
use Rattle.std.proofs.lemmas.Option.{unwrap_or-slice_get}
use Rattle.issue_list.proofs.loop_order.parts_of.Goals as goal

pub returns : goal.returns
returns c = cc (unwrap_or-slice_get {X = ℕ} c.args.counts.now c.args.dim 0)
