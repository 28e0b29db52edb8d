use Rattle.std.proofs.Common.{◌+◌, ◌∙◌, arith}
use Rattle.equation.proofs.CandidateSides.{lu_is}
use Rattle.equation.proofs.candidate.Candidate.write_factored_lu.Goals as goal

pub returns : goal.returns
returns c = λ j within.
    c.write_product.ensures j (omega arith)
    ∙ lu_is c.args.self.now c.requires.candidate c.requires.form c.seen-l.result c.seen-u.result c.seen-l.ensures c.seen-u.ensures c.args.at.row (c.args.at.col + j)
