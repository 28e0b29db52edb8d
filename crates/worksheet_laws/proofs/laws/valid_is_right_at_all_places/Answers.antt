use Rattle.worksheet_laws.proofs.ValidPlaces.{right_where_valid, valid_where_right}
use Rattle.worksheet_laws.proofs.laws.valid_is_right_at_all_places.Goals as goal

pub returns : goal.returns
returns c op w = (right_where_valid op w, valid_where_right op w)
