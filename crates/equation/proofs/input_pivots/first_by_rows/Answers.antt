use Rattle.std.proofs.Common.{arith}
use Rattle.equation.specs.Candidates.{view_rows, view_table}
use Rattle.equation.proofs.InputPivots.{first_by_rows_found, units_more}
use Rattle.equation.proofs.input_pivots.first_by_rows.Goals as goal

pub returns-in-Some : goal.returns-in-Some
returns-in-Some c =
    first_by_rows_found c.args.m (view_rows c.args.t.now) (view_rows c.args.u.now) c.args.minus (λ i. view_table c.args.t.now i i) (λ j. view_table c.args.u.now j j)
    c.loop-i.i c.entry.result (omega arith) c.entry.ensures c.loop-i.invariant c.in-Some.col c.in-Some.ensures.0 c.in-Some.ensures.1 c.in-Some.ensures.2

pub loop-i-preserved : goal.loop-i-preserved
loop-i-preserved c =
    units_more c.args.m (view_rows c.args.t.now) (view_rows c.args.u.now) c.args.minus (λ i. view_table c.args.t.now i i) (λ j. view_table c.args.u.now j j)
    c.loop-i.i c.entry.result (omega arith) c.entry.ensures c.loop-i.invariant c.in_default.ensures
