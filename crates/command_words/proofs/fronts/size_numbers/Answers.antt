use Rattle.command_words.proofs.WordFronts.{no_workers, no_workers_word}
use Rattle.command_words.proofs.fronts.size_numbers.Goals as goal

pub returns-in_err-behind-2 : goal.returns-in_err-behind-2
returns-in_err-behind-2 c =
    rw c.from_residual-in_err-behind-2.ensures (no_workers_word _ _ _ _ c.in_ok-behind.ensures c.in_ok-block.ensures.2 c.in_err-behind-2.ensures)

pub returns-in_err-workers : goal.returns-in_err-workers
returns-in_err-workers c =
    rw c.from_residual-in_err-workers.ensures (no_workers _ _ _ _ _ c.in_ok-behind.ensures c.in_ok-block.ensures.2 c.in_ok-behind-2.ensures c.in_err-workers.ensures)
