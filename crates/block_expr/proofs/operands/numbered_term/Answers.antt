use Rattle.block_expr.proofs.NumberedTerms.{numbered_term-at}
use Rattle.block_expr.proofs.operands.numbered_term.Goals as goal

pub returns : goal.returns
returns c = cc (numbered_term-at c.args.op.now c.args.number c.if-number-eq0.false)
