use Rattle.matrix_parts.specs.Lent.{grid_of}
use Rattle.matrix_parts.specs.Opers.{op_cols, op_table}
use Rattle.part_updates.proofs.PartProducts.{updated_ldl}
use Rattle.part_updates.proofs.updates.update_ldl.Goals as goal

pub returns-clause-updated : goal.returns-clause-updated
returns-clause-updated c = updated_ldl c.args.m c.args.inside (op_cols c.args.a) (op_table c.args.a) (op_table c.args.d) (op_table c.args.b)
    (grid_of c.args.w.now) (grid_of c.update_by.new.w) (rw c.new.ensures at c.update_by.ensures.updated)
