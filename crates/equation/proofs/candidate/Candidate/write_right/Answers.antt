use Rattle.std.proofs.Common.{◌+◌, ◌<◌, ℕ, take, sym, subst, arith}
use Rattle.residue_sums.specs.Grids.{entry}
use Rattle.equation.specs.Candidates.{knowns_of, work_of}
use Rattle.equation.proofs.TermPieces.{entry_with_term, HasResidues-so_far}
use Rattle.equation.proofs.candidate.Candidate.write_right.Goals as goal

pub add_term-requires-clause-residues : goal.add_term-requires-clause-residues
add_term-requires-clause-residues c = λ j within.
    subst (λ (v : ℕ). v < c.args.self.now.m) (sym (c.loop-term.invariant j within))
    (HasResidues-so_far c.args.self.now c.requires.candidate (take c.loop-term.term-index c.args.self.now.op.now.terms) c.args.at.row (c.args.at.col + j))

pub loop-term-preserved : goal.loop-term-preserved
loop-term-preserved c = λ j within.
    entry_with_term c.args.self.now.m c.args.self.now.op.now (knowns_of c.args.self.now) (entry (work_of c.args.self.now)) c.args.at.row (c.args.at.col + j)
    c.as_slice-term-items.result.now c.loop-term.term-index _ _ _ c.as_slice-term-items.ensures c.loop-term-test.true
    (c.loop-term.invariant j (omega arith)) (c.add_term.ensures j (omega arith))
