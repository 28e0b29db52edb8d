-- What a pass had pushed it has pushed still. Cited where steps are told, and where workers take steps.
use Rattle.std.proofs.Common.{◌≡◌, ℕ, ap, arith}
use Rattle.std.specs.Prelude.{IfNone, IfSome, Option, None, Some}
use Rattle.block_store.specs.declared.key.BoardKey.{BoardKey}
use Rattle.ready_queue.specs.declared.pass_view.PassView.{PassView}
use Rattle.ready_queue.specs.declared.queue.Pass.{Pass}
use Rattle.ready_queue.specs.PassViews.{after_pop, after_push, times}
use Rattle.ready_queue.specs.Queues as queues
use Rattle.dispatcher.specs.Telling.{HasPushedRoots, KeepsPushes}

pub pushes-same : (old new : Pass) → new ≡ old → KeepsPushes old new
pushes-same old new is x = omega (arith, ap (λ (p : Pass). times x (queues.view p).pushed) is)

pub pushes-more : (t : ℕ) (old new : Pass) → queues.view new ≡ after_push t (queues.view old) → KeepsPushes old new
pushes-more t old new is x = omega (arith, ap (λ (v : PassView). times x v.pushed) is)

pub pushes-popped : (popped : Option ℕ) (old new : Pass) → IfSome popped (λ t. queues.view new ≡ after_pop t (queues.view old))
    → IfNone popped (queues.view new ≡ queues.view old) → KeepsPushes old new
pushes-popped (Some t) old new one none x = omega (arith, ap (λ (v : PassView). times x v.pushed) one)
pushes-popped None old new one none x = omega (arith, ap (λ (v : PassView). times x v.pushed) none)

pub pushes-then : (a b c : Pass) → KeepsPushes a b → KeepsPushes b c → KeepsPushes a c
pushes-then a b c first second x = omega (arith, first x, second x)

pub roots-kept : (key : BoardKey) (old new : Pass) → KeepsPushes old new → HasPushedRoots key old → HasPushedRoots key new
roots-kept key old new keeps roots x step = omega (arith, keeps x, roots x step)
