use Rattle.std.proofs.Common.{◌≡◌, ◌*◌, length, refl, ◌∙◌, ap, arith}
use Rattle.job_generator.specs.Draws.{unit_diagonal_table}
use Rattle.job_generator.proofs.PlacesInOrder.{entries_below-next, length-entries_below, entry_at_place, number_behind_place, off_diagonal-all}
use Rattle.job_generator.proofs.draws.Draws.unit_diagonal.Goals as goal

pub loop-place-preserved : goal.loop-place-preserved
loop-place-preserved c =
    let m = c.args.self.now.modulus in
    let x = c.args.self.now.number in
    let n = c.args.n in
    let so_far = c.loop-place.invariant in
    let is_due = entry_at_place m x n c.loop-place.place c.loop-place.self.number c.loop-place-test.true so_far.number c.next_entry-entry.result c.loop-place.self.modulus so_far.modulus c.next_entry-entry.ensures.entry in
    record {
      entries = entries_below-next (unit_diagonal_table m x n) n c.loop-place.place c.next_entry-entry.result c.loop-place.entries.items c.push.new.self.items so_far.entries is_due c.in_ok-push.ensures.items;
      number = number_behind_place m x n c.loop-place.place c.loop-place.self.number c.loop-place-test.true so_far.number c.next_entry-entry.new.self.number c.next_entry-entry.ensures.number;
      modulus = c.next_entry-entry.ensures.modulus ∙ so_far.modulus;
    }

pub from_entries-requires : goal.from_entries-requires
from_entries-requires c =
    ap length c.loop-place.invariant.entries ∙ length-entries_below (unit_diagonal_table c.args.self.now.modulus c.args.self.now.number c.args.n) c.args.n c.loop-place.place ∙ omega arith

pub returns-clause-number : goal.returns-clause-number
returns-clause-number c =
    let n = c.args.n in
    let all : c.loop-place.place ≡ n * n = omega arith in
    c.loop-place.invariant.number ∙ (rw (all, off_diagonal-all n) refl)
