use Rattle.command_words.proofs.WordFronts.{no_m, no_seed}
use Rattle.command_words.proofs.fronts.make_numbers.Goals as goal

pub returns-in_err-m : goal.returns-in_err-m
returns-in_err-m c = rw c.from_residual-in_err-m.ensures (no_m _ _ _ c.in_ok-n.ensures.2 c.in_err-m.ensures)

pub returns-in_err-seed : goal.returns-in_err-seed
returns-in_err-seed c = rw c.from_residual-in_err-seed.ensures (no_seed _ _ _ _ _ c.in_ok-n.ensures.2 c.in_ok-m.ensures.2 c.in_err-seed.ensures)
