use Rattle.std.proofs.lemmas.Fmt.{decimal_digit}
use Rattle.task_texts.proofs.tasks.digit.Goals as goal

pub returns : goal.returns
returns c = decimal_digit c.args.n c.requires
