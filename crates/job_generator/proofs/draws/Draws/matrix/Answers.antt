use Rattle.std.proofs.Common.{length, ◌∙◌, ap, arith}
use Rattle.job_generator.specs.Draws.{drawn_table}
use Rattle.job_generator.proofs.PlacesInOrder.{entries_below-next, length-entries_below, drawn_at_place, number_behind_draw}
use Rattle.job_generator.proofs.draws.Draws.matrix.Goals as goal

pub loop-place-preserved : goal.loop-place-preserved
loop-place-preserved c =
    let m = c.args.self.now.modulus in
    let x = c.args.self.now.number in
    let n = c.args.n in
    let so_far = c.loop-place.invariant in
    let is_due = drawn_at_place m x n c.loop-place._place c.loop-place.self.number c.loop-place.self.modulus c.next.result so_far.number so_far.modulus c.next.ensures.drawn in
    record {
      entries = entries_below-next (drawn_table m x n) n c.loop-place._place c.next.result c.loop-place.entries.items c.push.new.self.items so_far.entries is_due c.in_ok-push.ensures.items;
      number = number_behind_draw x c.loop-place._place c.loop-place.self.number c.next.new.self.number so_far.number c.next.ensures.number;
      modulus = c.next.ensures.modulus ∙ so_far.modulus;
    }

pub from_entries-requires : goal.from_entries-requires
from_entries-requires c =
    ap length c.loop-place.invariant.entries ∙ length-entries_below (drawn_table c.args.self.now.modulus c.args.self.now.number c.args.n) c.args.n c.loop-place._place ∙ omega arith
