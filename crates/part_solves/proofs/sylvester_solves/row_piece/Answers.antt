use Rattle.std.proofs.Common.{◌≡◌, ℕ, ◌+◌, ◌-◌, ◌<◌, List, get_or, take, drop, refl, get_or-take, get_or-drop, ◌∙◌, arith}
use Rattle.part_solves.proofs.sylvester_solves.row_piece.Goals as goal

piece_place : (xs : List ℕ) (from len k : ℕ) → k < len → get_or (take (from + len - from) (drop from xs)) k 0 ≡ get_or xs (from + k) 0
piece_place xs from len k below =
    let width : from + len - from ≡ len = omega arith in
    rw (width, get_or-take, get_or-drop) refl

pub returns-clause-entries : goal.returns-clause-entries
returns-clause-entries c k below = piece_place c.row.result.now c.args.p.from c.args.p.len k below ∙ c.row.ensures.entries (c.args.p.from + k) (omega (arith, c.requires.within))
