use Rattle.std.proofs.Common.{take}
use Rattle.residue_sums.specs.Grids.{entry}
use Rattle.equation.specs.Candidates.{HasPiece, knowns_of, work_of}
use Rattle.equation.specs.Equations.{with_terms}
use Rattle.equation.proofs.candidate.Candidate.write_right.Given as goal

abbrev pub invariant-loop-term : goal.invariant-loop-term
invariant-loop-term l = HasPiece (with_terms l.self.m l.self.op.now (knowns_of l.self) (take l.term-index l.self.op.now.terms) (entry (work_of l.self))) l.at l.out
