use Rattle.std.proofs.Common.{◌≡◌, ◌+◌, ◌-◌, ◌*◌, ◌<◌, ◌≤◌, arith}
use Rattle.matrix_parts.proofs.Rects.{IsWithin-block, IsBlockOf-rect}
use Rattle.matrix_parts.proofs.part.Part.split_rows.Goals.{then-at-rows, else-at-rows}
use Rattle.matrix_parts.proofs.part.Part.split_rows.Goals as goal

pub of-requires-2 : goal.of-requires-2
of-requires-2 c =
    let p = c.self.inside in
    let at_most : c.args.at ≤ p.rows = rw (← c.self.view_is) at c.requires in
    let begins : 0 < p.rows - c.args.at → c.if-at-rows.below ≡ p.first + c.args.at * p.stride + 0 = λ some. elim c.if-at-rows.branch [ then-at-rows w ↦ omega (arith, w.below-is) | else-at-rows w ↦ absurd (omega (arith, w.if-at-rows)) ] in
    IsWithin-block p.entries.now p.first p.stride p.rows p.cols c.args.at 0 (p.rows - c.args.at) p.cols c.if-at-rows.below (omega (arith, at_most)) (omega arith) begins c.self.invariant

pub returns-clause-above : goal.returns-clause-above
returns-clause-above c =
    let p = c.self.inside in
    let at_most : c.args.at ≤ p.rows = rw (← c.self.view_is) at c.requires in
    rw (← c.self.view_is, c.of.ensures) (IsBlockOf-rect p.entries.now p.first p.stride p.rows p.cols 0 0 c.args.at p.cols p.first (omega (arith, at_most)) (omega arith) (λ some. omega arith))

pub returns-clause-below : goal.returns-clause-below
returns-clause-below c =
    let p = c.self.inside in
    let at_most : c.args.at ≤ p.rows = rw (← c.self.view_is) at c.requires in
    let begins : 0 < p.rows - c.args.at → c.if-at-rows.below ≡ p.first + c.args.at * p.stride + 0 = λ some. elim c.if-at-rows.branch [ then-at-rows w ↦ omega (arith, w.below-is) | else-at-rows w ↦ absurd (omega (arith, w.if-at-rows)) ] in
    rw (← c.self.view_is, c.of-2.ensures) (IsBlockOf-rect p.entries.now p.first p.stride p.rows p.cols c.args.at 0 (p.rows - c.args.at) p.cols c.if-at-rows.below (omega (arith, at_most)) (omega arith) begins)
