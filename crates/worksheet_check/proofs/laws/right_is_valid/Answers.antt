use Rattle.worksheet_check.proofs.RightVerdicts.{right_valid, valid_right}
use Rattle.worksheet_check.proofs.laws.right_is_valid.Goals as goal

pub returns : goal.returns
returns c op w = (right_valid op w, valid_right op w)
