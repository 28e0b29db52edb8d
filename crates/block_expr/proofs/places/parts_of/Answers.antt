use Rattle.std.proofs.Common.{ℕ}
use Rattle.std.proofs.lemmas.Option.{unwrap_or-slice_get}
use Rattle.block_expr.proofs.places.parts_of.Goals as goal

pub returns : goal.returns
returns c = cc (unwrap_or-slice_get {X = ℕ} c.args.parts.now c.args.dim 0)
