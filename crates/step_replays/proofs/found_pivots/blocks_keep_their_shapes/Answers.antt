use Rattle.step_replays.proofs.FrontShapes.{block-shape, list-shape}
use Rattle.step_replays.proofs.found_pivots.blocks_keep_their_shapes.Goals as goal

pub returns-clause-blocks : goal.returns-clause-blocks
returns-clause-blocks c job b steps results n valid pos fits front k i j k_in row col =
    block-shape (record { job = job; b = b; steps = steps; results = results; pos = pos; valid = valid; fits = fits; done = n; outcomes = front }) n front.within k i j (k_in, row, col)

pub returns-clause-lists : goal.returns-clause-lists
returns-clause-lists c job b steps results n valid pos fits front s some_in s_in some =
    list-shape (record { job = job; b = b; steps = steps; results = results; pos = pos; valid = valid; fits = fits; done = n; outcomes = front }) n front.within s some_in s_in some
