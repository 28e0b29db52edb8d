use Rattle.std.proofs.Common.{length, ◌≤◌, arith}
use Rattle.step_replays.proofs.SingleBlocks.{one-block}
use Rattle.step_replays.proofs.laws.one_block_is_the_matrix.Goals as goal

pub returns : goal.returns
returns c job b steps results n valid pos fits front s k le =
    let inside : s ≤ length steps = omega (arith, front.within) in
    one-block (record { job = job; b = b; steps = steps; results = results; pos = pos; valid = valid; fits = fits; done = n; outcomes = front }) s k inside
