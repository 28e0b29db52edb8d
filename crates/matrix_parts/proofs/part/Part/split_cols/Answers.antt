use Rattle.std.proofs.Common.{◌≡◌, ◌+◌, ◌-◌, ◌*◌, ◌<◌, ◌≤◌, arith}
use Rattle.matrix_parts.proofs.Rects.{IsBlockOf-rect}
use Rattle.matrix_parts.proofs.part.Part.split_cols.Goals.{then-rows-gt0, else-rows-gt0}
use Rattle.matrix_parts.proofs.part.Part.split_cols.Goals as goal

pub returns-clause-left : goal.returns-clause-left
returns-clause-left c =
    let p = c.self.inside in
    let at_most : c.args.at ≤ p.cols = rw (← c.self.view_is) at c.requires in
    rw (← c.self.view_is, c.of.ensures) (IsBlockOf-rect p.entries.now p.first p.stride p.rows p.cols 0 0 p.rows c.args.at p.first (omega arith) (omega (arith, at_most)) (λ some. omega arith))

pub returns-clause-right : goal.returns-clause-right
returns-clause-right c =
    let p = c.self.inside in
    let at_most : c.args.at ≤ p.cols = rw (← c.self.view_is) at c.requires in
    let begins : 0 < p.rows → c.if-rows-gt0.right ≡ p.first + 0 * p.stride + c.args.at = λ some. elim c.if-rows-gt0.branch [ then-rows-gt0 w ↦ omega (arith, w.right-is) | else-rows-gt0 w ↦ absurd (omega (arith, w.if-rows-gt0)) ] in
    rw (← c.self.view_is, c.of-2.ensures) (IsBlockOf-rect p.entries.now p.first p.stride p.rows p.cols 0 c.args.at p.rows (p.cols - c.args.at) c.if-rows-gt0.right (omega arith) (omega (arith, at_most)) begins)
