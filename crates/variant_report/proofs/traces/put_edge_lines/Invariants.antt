use Rattle.std.proofs.Common.{◌≡◌, ◌++◌, drop}
use Rattle.std.specs.List.{flat_map}
use Rattle.variant_report.specs.TraceTexts.{edge_line}
use Rattle.variant_report.proofs.traces.put_edge_lines.Given as goal

-- what is appended, and the lines of the edges that are left
abbrev pub invariant-loop-at : goal.invariant-loop-at
invariant-loop-at l = l.out.items ++ flat_map edge_line (drop l.at l.edges) ≡ l.fn.out.items ++ flat_map edge_line l.edges
