use Rattle.matrix_parts.specs.Lent.{grid_of}
use Rattle.block_kernels.proofs.PivotReads.{first_diagonal, left_diagonal, right_diagonal, second_diagonal}
use Rattle.block_kernels.proofs.block_task.BlockTask.list_pivot.Goals as goal

pub factor_pivot-requires : goal.factor_pivot-requires
factor_pivot-requires c =
    let can = c.requires.can in
    record {
      has = record {
        knowns = can.knowns;
        size = c.args.list.now.cols;
        diagonal = left_diagonal c.args.self.now can.knowns can.rows can.cols (grid_of c.args.list.now) can.pivots c.in-Left.t c.in-Left.is;
        within = c.requires.col_in;
      };
    }

pub factor_pivot-requires-in-Right : goal.factor_pivot-requires-in-Right
factor_pivot-requires-in-Right c =
    let can = c.requires.can in
    record {
      has = record {
        knowns = can.knowns;
        size = c.args.list.now.cols;
        diagonal = right_diagonal c.args.self.now can.knowns can.rows can.cols (grid_of c.args.list.now) can.pivots c.in-Right.t c.in-Right.is;
        within = c.requires.col_in;
      };
    }

pub pair_pivot-requires-clause-first : goal.pair_pivot-requires-clause-first
pair_pivot-requires-clause-first c =
    let can = c.requires.can in
    record {
      knowns = can.knowns;
      size = c.args.list.now.rows;
      diagonal = first_diagonal c.args.self.now can.knowns can.rows can.cols (grid_of c.args.list.now) can.pivots c.in-Sylvester.t c.in-Sylvester.u c.in-Sylvester.minus c.in-Sylvester.is;
      within = c.requires.row_in;
    }

pub pair_pivot-requires-clause-second : goal.pair_pivot-requires-clause-second
pair_pivot-requires-clause-second c =
    let can = c.requires.can in
    rw c.rows.ensures (record {
      knowns = can.knowns;
      size = c.args.list.now.cols;
      diagonal = second_diagonal c.args.self.now can.knowns can.rows can.cols (grid_of c.args.list.now) can.pivots c.in-Sylvester.t c.in-Sylvester.u c.in-Sylvester.minus c.in-Sylvester.is;
      within = c.requires.col_in;
    })

pub returns-in-Left-clause-value : goal.returns-in-Left-clause-value
returns-in-Left-clause-value c = λ knowns rows cols are.
    rw c.in-Left.is (c.factor_pivot.ensures.value knowns c.args.list.now.cols
    (left_diagonal c.args.self.now knowns rows cols (grid_of c.args.list.now) are c.in-Left.t c.in-Left.is) c.requires.col_in)

pub returns-in-Right-clause-value : goal.returns-in-Right-clause-value
returns-in-Right-clause-value c = λ knowns rows cols are.
    rw c.in-Right.is (c.factor_pivot-in-Right.ensures.value knowns c.args.list.now.cols
    (right_diagonal c.args.self.now knowns rows cols (grid_of c.args.list.now) are c.in-Right.t c.in-Right.is) c.requires.col_in)

pub returns-in-Sylvester-clause-value : goal.returns-in-Sylvester-clause-value
returns-in-Sylvester-clause-value c = λ knowns rows cols are.
    rw c.in-Sylvester.is (c.pair_pivot.ensures.value knowns c.args.list.now.cols
    (rw c.rows.ensures (first_diagonal c.args.self.now knowns rows cols (grid_of c.args.list.now) are c.in-Sylvester.t c.in-Sylvester.u c.in-Sylvester.minus c.in-Sylvester.is))
    (rw c.rows.ensures (second_diagonal c.args.self.now knowns rows cols (grid_of c.args.list.now) are c.in-Sylvester.t c.in-Sylvester.u c.in-Sylvester.minus c.in-Sylvester.is))
    (rw c.rows.ensures c.requires.row_in) c.requires.col_in)
