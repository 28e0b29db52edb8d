use Rattle.block_expr.proofs.PlainSettings.{IsPlain-setting}
use Rattle.block_expr.proofs.SimplifiedSolves.{simplified_both}
use Rattle.block_expr.proofs.ShapedTrees.{shaped-left, shaped-right, shaped-state}
use Rattle.block_expr.proofs.laws.simplified_expressions_keep_their_values.Goals as goal

pub returns-clause-kept : goal.returns-clause-kept
returns-clause-kept c s counts is = simplified_both s (IsPlain-setting s counts is)

pub returns-clause-expanded : goal.returns-clause-expanded
returns-clause-expanded c s counts is i j work = (shaped-left s counts is i j work, shaped-right s counts is i j)

pub returns-clause-states : goal.returns-clause-states
returns-clause-states c = shaped-state
