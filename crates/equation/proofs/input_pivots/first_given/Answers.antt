use Rattle.std.proofs.Common.{◌∙◌, List, sym}
use Rattle.residue_sums.specs.Grids.{Grid}
use Rattle.equation.specs.Candidates.{view_rows, view_table}
use Rattle.equation.specs.Jobs.{known_grids, nth_grid}
use Rattle.equation.proofs.FactorSizes.{left_known, right_known, sylvester_knowns}
use Rattle.equation.proofs.FactorViews.{triangle_view_cols, triangle_view_rows, view_is}
use Rattle.equation.proofs.InputPivots.{left_exact, right_exact, sylvester_exact}
use Rattle.equation.proofs.ValidForms.{left-on, right-on, sylvester-on}
use Rattle.equation.proofs.input_pivots.first_given.Goals as goal

pub factor_view-requires-clause-known : goal.factor_view-requires-clause-known
factor_view-requires-clause-known c = left_known c.args.op.now c.requires.valid c.in-Left.t c.in-Left.is

pub factor_view-u-requires-clause-known : goal.factor_view-u-requires-clause-known
factor_view-u-requires-clause-known c = (sylvester_knowns c.args.op.now c.requires.valid c.in-Sylvester.t c.in-Sylvester.u c.in-Sylvester.minus c.in-Sylvester.is).1

pub first_by_rows-requires-clause-first_square : goal.first_by_rows-requires-clause-first_square
first_by_rows-requires-clause-first_square c =
    triangle_view_rows c.args.m c.args.op.now c.args.matrices.now c.args.bind.now c.requires.valid c.requires.fits c.args.op.now.work.rows c.in-Sylvester.t (sylvester_knowns c.args.op.now c.requires.valid c.in-Sylvester.t c.in-Sylvester.u c.in-Sylvester.minus c.in-Sylvester.is).0
    (sylvester-on c.args.op.now c.requires.valid c.in-Sylvester.t c.in-Sylvester.u c.in-Sylvester.minus c.in-Sylvester.is).0 c.factor_view-t.result c.factor_view-t.ensures
    ∙ sym (triangle_view_cols c.args.m c.args.op.now c.args.matrices.now c.args.bind.now c.requires.valid c.requires.fits c.args.op.now.work.rows c.in-Sylvester.t (sylvester_knowns c.args.op.now c.requires.valid c.in-Sylvester.t c.in-Sylvester.u c.in-Sylvester.minus c.in-Sylvester.is).0
    (sylvester-on c.args.op.now c.requires.valid c.in-Sylvester.t c.in-Sylvester.u c.in-Sylvester.minus c.in-Sylvester.is).0 c.factor_view-t.result c.factor_view-t.ensures)

pub first_by_rows-requires-clause-second_square : goal.first_by_rows-requires-clause-second_square
first_by_rows-requires-clause-second_square c =
    triangle_view_rows c.args.m c.args.op.now c.args.matrices.now c.args.bind.now c.requires.valid c.requires.fits c.args.op.now.work.cols c.in-Sylvester.u (sylvester_knowns c.args.op.now c.requires.valid c.in-Sylvester.t c.in-Sylvester.u c.in-Sylvester.minus c.in-Sylvester.is).1
    (sylvester-on c.args.op.now c.requires.valid c.in-Sylvester.t c.in-Sylvester.u c.in-Sylvester.minus c.in-Sylvester.is).1 c.factor_view-u.result c.factor_view-u.ensures
    ∙ sym (triangle_view_cols c.args.m c.args.op.now c.args.matrices.now c.args.bind.now c.requires.valid c.requires.fits c.args.op.now.work.cols c.in-Sylvester.u (sylvester_knowns c.args.op.now c.requires.valid c.in-Sylvester.t c.in-Sylvester.u c.in-Sylvester.minus c.in-Sylvester.is).1
    (sylvester-on c.args.op.now c.requires.valid c.in-Sylvester.t c.in-Sylvester.u c.in-Sylvester.minus c.in-Sylvester.is).1 c.factor_view-u.result c.factor_view-u.ensures)

pub first_on_diagonal-requires-clause-square : goal.first_on_diagonal-requires-clause-square
first_on_diagonal-requires-clause-square c =
    triangle_view_rows c.args.m c.args.op.now c.args.matrices.now c.args.bind.now c.requires.valid c.requires.fits c.args.op.now.work.rows c.in-Left.t (left_known c.args.op.now c.requires.valid c.in-Left.t c.in-Left.is) (left-on c.args.op.now c.requires.valid c.in-Left.t c.in-Left.is)
    c.factor_view.result c.factor_view.ensures
    ∙ sym (triangle_view_cols c.args.m c.args.op.now c.args.matrices.now c.args.bind.now c.requires.valid c.requires.fits c.args.op.now.work.rows c.in-Left.t (left_known c.args.op.now c.requires.valid c.in-Left.t c.in-Left.is) (left-on c.args.op.now c.requires.valid c.in-Left.t c.in-Left.is)
    c.factor_view.result c.factor_view.ensures)

pub returns-in-Left : goal.returns-in-Left
returns-in-Left c =
    let knowns : List Grid = known_grids c.args.matrices.now c.args.bind.now in
    let rows = triangle_view_rows c.args.m c.args.op.now c.args.matrices.now c.args.bind.now c.requires.valid c.requires.fits c.args.op.now.work.rows c.in-Left.t (left_known c.args.op.now c.requires.valid c.in-Left.t c.in-Left.is) (left-on c.args.op.now c.requires.valid c.in-Left.t c.in-Left.is)
    c.factor_view.result c.factor_view.ensures ∙ sym c.requires.fits.work.rows in
    left_exact c.args.m c.args.op.now knowns (nth_grid c.args.matrices.now c.args.bind.now.work) c.first_on_diagonal.result c.in-Left.t
    (view_table c.factor_view.result) (view_rows c.factor_view.result) (view_is c.args.m c.args.op.now knowns c.in-Left.t c.factor_view.result c.factor_view.ensures)
    c.first_on_diagonal.ensures c.in-Left.is rows

pub returns-in-Right : goal.returns-in-Right
returns-in-Right c =
    let knowns : List Grid = known_grids c.args.matrices.now c.args.bind.now in
    let rows = triangle_view_rows c.args.m c.args.op.now c.args.matrices.now c.args.bind.now c.requires.valid c.requires.fits c.args.op.now.work.cols c.in-Right.t (right_known c.args.op.now c.requires.valid c.in-Right.t c.in-Right.is) (right-on c.args.op.now c.requires.valid c.in-Right.t c.in-Right.is)
    c.factor_view-in-Right.result c.factor_view-in-Right.ensures ∙ sym c.requires.fits.work.cols in
    right_exact c.args.m c.args.op.now knowns (nth_grid c.args.matrices.now c.args.bind.now.work) c.first_on_diagonal-in-Right.result c.in-Right.t
    (view_table c.factor_view-in-Right.result) (view_rows c.factor_view-in-Right.result)
    (view_is c.args.m c.args.op.now knowns c.in-Right.t c.factor_view-in-Right.result c.factor_view-in-Right.ensures)
    c.first_on_diagonal-in-Right.ensures c.in-Right.is rows

pub returns-in-Sylvester : goal.returns-in-Sylvester
returns-in-Sylvester c =
    let knowns : List Grid = known_grids c.args.matrices.now c.args.bind.now in
    let rows = triangle_view_rows c.args.m c.args.op.now c.args.matrices.now c.args.bind.now c.requires.valid c.requires.fits c.args.op.now.work.rows c.in-Sylvester.t (sylvester_knowns c.args.op.now c.requires.valid c.in-Sylvester.t c.in-Sylvester.u c.in-Sylvester.minus c.in-Sylvester.is).0
    (sylvester-on c.args.op.now c.requires.valid c.in-Sylvester.t c.in-Sylvester.u c.in-Sylvester.minus c.in-Sylvester.is).0 c.factor_view-t.result c.factor_view-t.ensures ∙ sym c.requires.fits.work.rows in
    let cols = triangle_view_rows c.args.m c.args.op.now c.args.matrices.now c.args.bind.now c.requires.valid c.requires.fits c.args.op.now.work.cols c.in-Sylvester.u (sylvester_knowns c.args.op.now c.requires.valid c.in-Sylvester.t c.in-Sylvester.u c.in-Sylvester.minus c.in-Sylvester.is).1
    (sylvester-on c.args.op.now c.requires.valid c.in-Sylvester.t c.in-Sylvester.u c.in-Sylvester.minus c.in-Sylvester.is).1 c.factor_view-u.result c.factor_view-u.ensures ∙ sym c.requires.fits.work.cols in
    sylvester_exact c.args.m c.args.op.now knowns (nth_grid c.args.matrices.now c.args.bind.now.work) c.first_by_rows.result c.in-Sylvester.t c.in-Sylvester.u
    (view_table c.factor_view-t.result) (view_table c.factor_view-u.result) (view_rows c.factor_view-t.result) (view_rows c.factor_view-u.result)
    (view_is c.args.m c.args.op.now knowns c.in-Sylvester.t c.factor_view-t.result c.factor_view-t.ensures)
    (view_is c.args.m c.args.op.now knowns c.in-Sylvester.u c.factor_view-u.result c.factor_view-u.ensures)
    rows cols c.in-Sylvester.minus c.in-Sylvester.is c.first_by_rows.ensures
