use Rattle.ready_queue.proofs.queue.Ready.new.Given as goal

abbrev pub ghosts-set_sizes : goal.ghosts-set_sizes
ghosts-set_sizes a = record { steps = a.steps; callers = a.callers }
