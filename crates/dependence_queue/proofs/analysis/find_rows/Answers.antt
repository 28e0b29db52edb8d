use Rattle.std.proofs.Common.{arith, ◌∙◌, ap, length, List, []}
use Rattle.std.proofs.lemmas.List.{take_at, length-replicate}
use Rattle.dependence_queue.specs.declared.edge.Edge.{Edge}
use Rattle.dependence_queue.specs.Edges.{access_at}
use Rattle.dependence_queue.proofs.FoundRows.{rows-all}
use Rattle.dependence_queue.proofs.analysis.find_rows.Goals as goal

pub returns : goal.returns
returns c = take_at c.mark_edges.new.rows _ c.in_ok-rows.rows.len (omega arith)
    ∙ rows-all (access_at c.args.accesses.now) (length c.args.accesses.now) c.mark_edges.new.rows
    (omega (arith, ap length c.in_ok-rows.ensures, length-replicate {A = List Edge} (length c.args.accesses.now) [])) c.in_ok-mark_edges.ensures
