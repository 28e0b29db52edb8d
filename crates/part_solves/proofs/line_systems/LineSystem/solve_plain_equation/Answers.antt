use Rattle.std.proofs.Common.{◌≡◌, ℕ, ◌+◌, inl, inr, refl, sym, ◌∙◌, arith}
use Rattle.residue_sums.specs.Grids.{entry}
use Rattle.matrix_algebra.proofs.Triangles.{IsTriangle-view, structure_of}
use Rattle.matrix_algebra.proofs.Places.{IsOrder-order_of}
use Rattle.matrix_parts.specs.Opers.{op_rows, op_table}
use Rattle.matrix_parts.specs.Lent.{grid_of}
use Rattle.part_solves.specs.LineSystems.{IsInLine, line_table, order_in}
use Rattle.part_solves.proofs.LineSteps.{IsSolvedTo-next, IsInLine-or_not, equation_solved}
use Rattle.part_solves.proofs.LinesDone.{line_table-inside, line_table-outside, line_table-agree}
use Rattle.part_solves.proofs.line_systems.LineSystem.solve_plain_equation.Goals as goal

pub returns-clause-solved : goal.returns-clause-solved
returns-clause-solved c before so_far =
    let system = c.args.self.now in
    let t = system.table in
    let n : ℕ = op_rows t in
    let e = c.args.e in
    let line : ℕ = c.args.line in
    let old = entry (grid_of c.args.w.now) in
    let new = entry (grid_of c.write_unknown.new.w) in
    let right : c.get-right.result ≡ line_table system.turned system.inside old line e.unknown = c.get-right.ensures ∙ c.lines_of.ensures.table line e.unknown in
    let value : IsInLine system.turned system.inside line e.unknown → c.unknown-value.result ≡ line_table system.turned system.inside new line e.unknown =
    λ inner. sym (line_table-inside system.turned system.inside new line e.unknown c.requires.ready.readable.work inner ∙ c.write_unknown.ensures.here inner) in
    IsSolvedTo-next system.reducer n (IsInLine system.turned system.inside line) (op_table t) (order_in t)
    (IsTriangle-view t.primed t.structure n (entry t.part) c.requires.ready.readable.triangular) (IsOrder-order_of (structure_of t.primed t.structure) n)
    (IsInLine-or_not system.turned system.inside line)
    before (line_table system.turned system.inside old line) (line_table system.turned system.inside new line) e.unknown (order_in t e.unknown) c.requires.equation.below refl so_far
    (λ k below apart. line_table-agree system.turned system.inside new old line k c.requires.ready.readable.work
    (c.write_unknown.ensures.others line k c.requires.line_in (omega (arith, c.requires.system.size)) (inr (inl apart))))
    (λ inner. equation_solved system.reducer n e.unknown e.from e.len c.plain_sum-sum.result (line_table system.turned system.inside new line e.unknown)
    (line_table system.turned system.inside old line e.unknown) (op_table t) (line_table system.turned system.inside old line) (λ k. op_table t e.unknown (e.from + k))
    c.requires.equation.within c.requires.equation.apart c.requires.equation.zeros (λ k below. refl) c.plain_sum-sum.ensures.value
    (rw (right, value inner) at (c.unknown-value.ensures.solves (op_table t e.unknown e.unknown) c.inverse_at.ensures.inverts)))
    (λ out. line_table-outside system.turned system.inside new line e.unknown out ∙ sym (line_table-outside system.turned system.inside old line e.unknown out))

pub returns-clause-others : goal.returns-clause-others
returns-clause-others c h k line below place = elim place [
  | inl apart ↦ c.write_unknown.ensures.others h k line (omega (arith, c.requires.system.size)) (inl apart)
  | inr out ↦ c.write_unknown.ensures.others h k line (omega (arith, c.requires.system.size)) (inr (inr out))
]
