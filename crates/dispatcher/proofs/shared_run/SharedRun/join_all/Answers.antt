use Rattle.std.proofs.Common.{◌≡◌, ◌*◌, ℕ, length, refl, ap, ◌∙◌, subst, arith}
use Rattle.block_store.specs.declared.seat.Seat.{Seat}
use Rattle.block_store.specs.Keys.{step_count}
use Rattle.block_store.specs.Plays.{IsWhole}
use Rattle.block_store.specs.Seats.{key_of, view}
use Rattle.block_store.specs.Tallies.{count_in}
use Rattle.dispatcher.proofs.JoinedWorkers.{clock-both, ended-front, ended-last, joined-first, joined-timed, standing-cut, standing-none, stands-both}
use Rattle.dispatcher.proofs.shared_run.SharedRun.join_all.Goals as goal

pub loop-worker-init : goal.loop-worker-init
loop-worker-init c =
    let board = c.args.self.now.board.now in
    let ready = c.args.self.now.ready.now in
    let is = c.in-Some.ensures.items in
    let front = c.pop.new.self.items in
    let e = ended-last board ready c.args.workers.items front c.in-Some.last is c.requires.workers in
    let of = c.of-joined.ensures in
    record {
      joined = joined-first board ready c.in-Some.last c.of-joined.result e.worker of.seat of.log of.failed;
      clock = ap (λ (s : Seat). (view s).clock) of.seat ∙ e.ended;
      rest = ended-front board ready c.args.workers.items front c.in-Some.last is c.requires.workers;
      all = λ k. omega (
        arith,
        c.requires.all k,
        standing-cut board ready c.args.workers.items front c.in-Some.last is k,
        ap (λ (s : Seat). count_in k (view s).workers) of.seat,
      );
    }

pub join_worker-requires-clause-worker : goal.join_worker-requires-clause-worker
join_worker-requires-clause-worker c = (
    ended-last c.args.self.now.board.now c.args.self.now.ready.now c.loop-worker.workers.items c.pop-in-loop-worker.new.self.items c.in-Some-pop.worker c.in-Some-pop.ensures.items
    c.loop-worker.invariant.rest
    ).worker

pub loop-worker-preserved : goal.loop-worker-preserved
loop-worker-preserved c =
    let board = c.args.self.now.board.now in
    let ready = c.args.self.now.ready.now in
    let inv = c.loop-worker.invariant in
    let old = c.loop-worker.workers.items in
    let front = c.pop-in-loop-worker.new.self.items in
    let worker = c.in-Some-pop.worker in
    let is = c.in-Some-pop.ensures.items in
    let e = ended-last board ready old front worker is inv.rest in
    let both = c.join_worker.ensures.view in
    record {
      joined = c.join_worker.ensures.joined;
      clock = clock-both (view c.join_worker.new.joined.seat) (view c.loop-worker.joined.seat) (view worker.seat) _ both inv.clock e.ended;
      rest = ended-front board ready old front worker is inv.rest;
      all = λ k. omega (
        arith,
        inv.all k,
        standing-cut board ready old front worker is k,
        stands-both k (view c.join_worker.new.joined.seat) (view c.loop-worker.joined.seat) (view worker.seat) both,
      );
    }

pub returns-clause-joined : goal.returns-clause-joined
returns-clause-joined c =
    joined-timed c.args.self.now.board.now c.clock.result c.loop-worker.joined _ c.loop-worker.invariant.joined c.clock.ensures.same c.clock.ensures.view refl refl

pub returns-clause-whole : goal.returns-clause-whole
returns-clause-whole c =
    let key = key_of c.args.self.now.board.now in
    let inv = c.loop-worker.invariant in
    let k = c.clock.ensures in
    let rest = c.loop-worker.workers.items in
    let none : length rest ≡ 0 = omega (arith, c.in_default-pop.ensures.cases, c.loop-worker.workers.ok.0) in
    let n : c.clock.result ≡ 2 * step_count key = omega (arith, k.later, k.bound, inv.clock) in
    subst (λ (m : ℕ). IsWhole key m (view c.clock.new.seat)) n (k.whole (λ i. omega (arith, inv.all i, standing-none i rest none)))
