use Rattle.std.proofs.Common.{◌≡◌, max, sym, ap, ◌∙◌, arith}
use Rattle.std.proofs.lemmas.List.{get_or_read}
use Rattle.step_replays.specs.declared.step.Step.{Step}
use Rattle.step_replays.specs.Replays.{no_step, nth_access}
use Rattle.block_store.specs.Seats.{key_of}
use Rattle.dispatcher.specs.declared.room.Room.{Room}
use Rattle.dispatcher.specs.BufferSizes.{need_of}
use Rattle.dispatcher.proofs.Rooms.{IsLarger, need-more, room-more}
use Rattle.dispatcher.proofs.room.room_for.Goals as goal

pub loop-n-init : goal.loop-n-init
loop-n-init c = record {
  enough = λ p low. absurd (omega (arith, low));
  least = λ other have. record { reads = omega arith; cuts = omega arith; write = omega arith };
}

pub loop-n-preserved : goal.loop-n-preserved
loop-n-preserved c =
    let key = key_of c.args.board.now in
    let steps = c.args.steps.now in
    let n = c.loop-n.n in
    let larger = c.larger-room in
    let need : c.in_ok-need.need ≡ need_of key (nth_access steps n) =
    c.in_ok-need.ensures ∙ ap (λ (s : Step). need_of key s.access) (sym c.index-steps-n.is ∙ get_or_read steps n c.index-steps-n.result (omega arith) c.index-steps-n.is no_step) in
    let is : IsLarger c.loop-n.room (need_of key (nth_access steps n)) larger.result = record {
      reads = larger.ensures.reads ∙ ap (λ (r : Room). max c.loop-n.room.reads r.reads) need;
      cuts = larger.ensures.cuts ∙ ap (λ (r : Room). max c.loop-n.room.cuts r.cuts) need;
      write = larger.ensures.write ∙ ap (λ (r : Room). max c.loop-n.room.write r.write) need;
    } in
    record {
      enough = room-more key steps n c.loop-n.room larger.result is c.loop-n.invariant.enough;
      least = need-more key steps n c.loop-n.room larger.result is c.loop-n.invariant.least;
    }
