use Rattle.std.proofs.Common.{◌≡◌, ℕ, ◌<◌, true, List, get_or, subst, sym, ap, ◌∙◌}
use Rattle.dependence_queue.specs.declared.access.Access.{Access}
use Rattle.block_store.specs.Blocks.{block_count, uses}
use Rattle.block_store.specs.Seats.{key_of}
use Rattle.dispatcher.proofs.SharedSteps.{reads-there, read-used}
use Rattle.dispatcher.proofs.shared_run.SharedRun.read_at.Goals as goal

pub returns-clause-is : goal.returns-clause-is
returns-clause-is c = ap (λ (xs : List ℕ). get_or xs c.args.k 0) (c.as_slice.ensures ∙ ap (λ (a : Access). a.reads) c.access.ensures)

pub returns-clause-there : goal.returns-clause-there
returns-clause-there c =
    subst (λ (xs : List ℕ). get_or xs c.args.k 0 < block_count (key_of c.args.self.now.board.now)) (sym (c.as_slice.ensures ∙ ap (λ (a : Access). a.reads) c.access.ensures))
    (reads-there c.args.self.now c.requires.shared c.args.t c.requires.step c.args.k 0 c.requires.within)

pub returns-clause-used : goal.returns-clause-used
returns-clause-used c =
    subst (λ (xs : List ℕ). uses (key_of c.args.self.now.board.now) c.args.t (get_or xs c.args.k 0) ≡ true) (sym (c.as_slice.ensures ∙ ap (λ (a : Access). a.reads) c.access.ensures))
    (read-used c.args.self.now c.requires.shared c.args.t c.requires.step c.args.k 0 c.requires.within)
