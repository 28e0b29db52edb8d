use Rattle.std.proofs.Common.{◌≡◌, ◌+◌, ◌*◌, ℕ, length}
use Rattle.block_store.specs.Keys.{step_count}
use Rattle.block_store.specs.Seats.{key_of, view}
use Rattle.block_store.specs.Sums.{below}
use Rattle.block_store.specs.Tallies.{count_in}
use Rattle.dispatcher.specs.Joining.{standing, IsJoined}
use Rattle.dispatcher.proofs.JoinedWorkers.{HaveEnded}
use Rattle.dispatcher.proofs.shared_run.SharedRun.join_all.Given as goal

abbrev pub invariant-loop-worker : goal.invariant-loop-worker
invariant-loop-worker l = record {
  joined : IsJoined l.self.board.now l.joined;
  clock : (view l.joined.seat).clock ≡ 2 * step_count (key_of l.self.board.now);
  rest : HaveEnded l.self.board.now l.self.ready.now l.workers.items;
  all : (k : ℕ) → count_in k (view l.joined.seat).workers + standing k l.workers.items ≡ below (key_of l.self.board.now).workers k;
}

abbrev pub decreases-loop-worker : goal.decreases-loop-worker
decreases-loop-worker l = length l.workers.items
