use Rattle.block_store.specs.Seats.{key_of, view}
use Rattle.dispatcher.proofs.Handling.{facts-same, facts-then, handled-end, handled-next, handled-now}
use Rattle.dispatcher.proofs.Pushes.{pushes-then}
use Rattle.dispatcher.proofs.WorkerSteps.{same-seats}
use Rattle.dispatcher.proofs.shared_run.SharedRun.work.Goals as goal

pub loop-preserved : goal.loop-preserved
loop-preserved g c =
    let key = key_of c.args.self.now.board.now in
    let start = c.args.worker.now in
    let old = c.loop.worker in
    let taken = c.next-in-loop.new.worker in
    let new = c.handle.new.worker in
    let inv = c.loop.invariant in
    let next = c.in-Some-next.ensures in
    let done = c.handle.ensures in
    let kept = facts-then (view old.seat) (view taken.seat) (view new.seat) (facts-same (view old.seat) (view taken.seat) next.facts) done.facts in
    record {
      worker = done.worker;
      same = same-seats start.seat old.seat new.seat inv.same (same-seats old.seat taken.seat new.seat next.same done.same);
      pushes = pushes-then start.pass old.pass new.pass inv.pushes (pushes-then old.pass taken.pass new.pass next.pushes done.pushes);
      handled = handled-next key c.in-Some-next.t start.pass old.pass taken.pass new.pass (view old.seat) (view new.seat) inv.handled next.popped done.popped kept
          (handled-now key c.in-Some-next.t (view taken.seat) (view new.seat) done.handled);
    }

pub returns-in-None-next : goal.returns-in-None-next
returns-in-None-next g c =
    let key = key_of c.args.self.now.board.now in
    let start = c.args.worker.now in
    let old = c.loop.worker in
    let new = c.next-in-loop.new.worker in
    let inv = c.loop.invariant in
    let next = c.in-None-next.ensures in
    record {
      worker = next.over.worker;
      same = same-seats start.seat old.seat new.seat inv.same next.over.same;
      pushes = pushes-then start.pass old.pass new.pass inv.pushes next.over.pushes;
      handled = handled-end key start.pass old.pass new.pass (view old.seat) (view new.seat) inv.handled next.none
          (facts-same (view old.seat) (view new.seat) next.facts);
      ended = next.over.ended;
    }
