use Rattle.std.proofs.Common.{ℕ}
use Rattle.std.proofs.lemmas.Option.{unwrap_or-slice_get}
use Rattle.issue_list.proofs.choice.Choice.number.Goals as goal

pub returns-in-Each : goal.returns-in-Each
returns-in-Each c = rw c.in-Each.is (cc (unwrap_or-slice_get {X = ℕ} c.in-Each.numbers c.args.place 0))
