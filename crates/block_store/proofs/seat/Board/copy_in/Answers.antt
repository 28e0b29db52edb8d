use Rattle.std.proofs.Common.{rules, ◌≡◌, ◌∷◌, sym, subst}
use Rattle.atomic_table.specs.Table.{rest}
use Rattle.block_store.specs.Plays.{Holds, IsRunning}
use Rattle.block_store.proofs.TopBlocks.{holds-taken, inside-found, runs-on, top-of}
use Rattle.block_store.proofs.seat.Board.copy_in.Goals as goal

pub read-requires-clause-top : goal.read-requires-clause-top
read-requires-clause-top c =
    let t = c.take.ensures.taken (search rules) in
    (t.1.0, top-of _ _ _ _ t.1.1, inside-found c.args.self.now.table.shared.key c.args.t c.args.block c.args.part t.1.0 c.requires.shapes c.requires.inside t.1.2)

pub give-requires-clause-runs : goal.give-requires-clause-runs
give-requires-clause-runs c =
    let t = c.take.ensures.taken (search rules) in
    subst (λ s. IsRunning s.me.0 c.args.t) (sym c.read.ensures.same) (runs-on _ _ c.args.t c.args.block c.requires.runs t.0)

pub give-requires-clause-holds : goal.give-requires-clause-holds
give-requires-clause-holds c =
    let t = c.take.ensures.taken (search rules) in
    subst (λ s. Holds s.me.0 c.args.block) (sym c.read.ensures.same) (holds-taken _ _ c.args.block c.requires.free t.0)

pub give-requires-clause-top : goal.give-requires-clause-top
give-requires-clause-top c =
    let t = c.take.ensures.taken (search rules) in
    (t.1.0, subst (λ s. s.me.1 ≡ (c.args.block, t.1.0) ∷ rest s.me.1) (sym c.read.ensures.same) (top-of _ _ _ _ t.1.1), t.1.2)
