-- The verdict of a check: the first wrong place of a worksheet, in order, with what was found there and what is due.
use Rattle.std.specs.Prelude.{List, [], ◌∷◌, ◌++◌, Option}
use Rattle.operation_spec.specs.declared.operation.Operation.{Operation}
use Rattle.worksheet.specs.declared.sheet.Worksheet.{Worksheet}
use Rattle.worksheet.specs.declared.verdict.Verdict.{Verdict}
use Rattle.worksheet.specs.declared.verdict.WsPlace.TheVariants as places
use Rattle.worksheet.specs.Worksheets.{worksheet_of}
use Rattle.worksheet_check.specs.declared.findings.Finding.{Finding}
use Rattle.worksheet_check.specs.Findings.{first_finding, verdict_by}
use Rattle.worksheet_check.specs.InvariantFindings.{invariant_findings}
use Rattle.worksheet_check.specs.RoundFindings.{guard_finding, ends_finding, line_finding, update_finding}

-- the other lines against those that are due, in order
abbrev pub line_findings : Operation → Worksheet → Worksheet → List (Option Finding)
line_findings op w due = guard_finding w.guard due.guard
    ∷ ends_finding places.Start w.start due.start
    ∷ ends_finding places.Take w.take due.take
    ∷ line_finding places.Before 1 w.before due.before
    ∷ update_finding op due.updates [] 1 w.updates
    ∷ ends_finding places.Give w.give due.give
    ∷ line_finding places.After 1 w.after due.after
    ∷ []

-- due is the worksheet of the same split, directions and invariant
abbrev pub verdict_of : Operation → Worksheet → Verdict
verdict_of op w = verdict_by (first_finding (invariant_findings op w ++ line_findings op w (worksheet_of op w.split w.dirs w.invariant)))
