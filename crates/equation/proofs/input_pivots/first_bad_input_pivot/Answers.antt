use Rattle.std.proofs.Common.{List, MatchOption, subst}
use Rattle.residue_sums.specs.Grids.{Grid}
use Rattle.equation.specs.declared.job.Place.{Place}
use Rattle.equation.specs.Jobs.{known_grids, nth_grid}
use Rattle.equation.specs.Pivots.{IsFirstBadInputPivot}
use Rattle.equation.proofs.input_pivots.first_bad_input_pivot.Goals as goal

pub returns : goal.returns
returns c = subst
    (λ (grids : List Grid). MatchOption c.first_given.result
    ((place : Place) → ¬ (IsFirstBadInputPivot c.args.m c.args.op.now (known_grids grids c.args.bind.now) (nth_grid grids c.args.bind.now.work) place))
    (IsFirstBadInputPivot c.args.m c.args.op.now (known_grids grids c.args.bind.now) (nth_grid grids c.args.bind.now.work)))
    c.as_slice.ensures c.first_given.ensures
