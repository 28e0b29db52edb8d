use Rattle.variant_report.specs.TraceTexts.{edge_line}
use Rattle.variant_report.proofs.PlacedTexts.{next_text}
use Rattle.variant_report.proofs.traces.put_edge_lines.Goals as goal

pub loop-at-preserved : goal.loop-at-preserved
loop-at-preserved c = next_text edge_line c.args.edges.now c.loop-at.at _ _ _ c.in_ok-put_edge_at.ensures c.loop-at.invariant
