use Rattle.std.proofs.Common.{◌+◌, arith}
use Rattle.std.proofs.lemmas.Nat.{mul-le}
use Rattle.matrix_parts.specs.Lent.{grid_of}
use Rattle.matrix_parts.specs.Opers.{op_table}
use Rattle.part_updates.specs.Changes.{part_product}
use Rattle.part_updates.specs.ProductFactors.{second_table}
use Rattle.part_updates.proofs.ChangedAreas.{changed_by_same}
use Rattle.part_updates.proofs.PartProducts.{part_product-needed}
use Rattle.part_updates.proofs.updates.columns.update_needed.Goals as goal

pub update_piece-requires-clause-room : goal.update_piece-requires-clause-room
update_piece-requires-clause-room c =
    let needed = c.needed_of-needed.result in
    omega (arith, mul-le needed.lines needed.height c.args.piece.lines c.args.piece.height (omega arith) (omega arith))

pub returns-clause-changed : goal.returns-clause-changed
returns-clause-changed c =
    let m = c.args.change.now.m in
    let a = op_table c.args.factors.now.first in
    let b = second_table m c.args.factors.now in
    let needed = c.needed_of-needed.result in
    let part = part_product m needed.inner needed.height a b in
    changed_by_same m c.args.change.now.minus c.args.change.now.inside part (part_product m c.args.piece.inner c.args.piece.height a b)
    0 c.args.w.now.rows c.args.piece.left (c.args.piece.left + c.args.piece.lines) (grid_of c.args.w.now) (grid_of c.update_piece.new.w)
    (λ i j h. part_product-needed m a b i j c.args.piece.inner c.args.piece.height needed.inner needed.height c.needed_of-needed.ensures.from c.needed_of-needed.ensures.within
    (λ k after before beside. c.needed_of-needed.ensures.zero m k j after before beside h.from_left h.before_right))
    (rw (c.needed_of-needed.ensures.left, c.needed_of-needed.ensures.lines) at c.update_piece.ensures.changed)
