use Rattle.std.proofs.Common.{◌≡◌, ◌+◌, ◌≤◌, List, length, sym, ap, ◌∙◌, subst, rules, arith}
use Rattle.atomic_table.specs.Table.{Me}
use Rattle.residue_sums.specs.Grids.{Grid}
use Rattle.block_store.specs.declared.key.BoardKey.{BoardKey}
use Rattle.block_store.specs.declared.view.View.{View}
use Rattle.block_store.specs.Blocks.{block_count}
use Rattle.block_store.specs.Keys.{step_count}
use Rattle.block_store.proofs.Opening.{opens, opens_by, first_by, holds_first, numbers-length}
use Rattle.block_store.proofs.seat.Board.new.Goals as goal

pub new-requires : goal.new-requires
new-requires c =
    let key : BoardKey = record { job = c.of.result; b = c.args.b; steps = c.of-2.result; workers = c.args.workers } in
    let slots : List Grid = c.in_ok-slots.slots.items in
    let first = first_by key c.args.job.now slots c.of.ensures c.in_ok-slots.ensures in
    let counted : c.len.result ≡ length slots = search rules in
    let o = opens_by key c.args.steps.now c.args.edges.now c.len-count.result c.len.result c.as_slice.result.now c.of-2.ensures c.requires.edges c.len-count.ensures
    (omega (arith, c.len-count.ensures, c.requires.few)) (counted ∙ first.many) (c.as_slice.ensures.value ∙ c.in_ok-words.ensures) in
    record { kept = opens key c.as_slice.result.now o; held = holds_first key c.as_slice.result.now slots o first }

pub invariant_of-board : goal.invariant_of-board
invariant_of-board c =
    let key : BoardKey = record { job = c.of.result; b = c.args.b; steps = c.of-2.result; workers = c.args.workers } in
    let slots : List Grid = c.in_ok-slots.slots.items in
    let first = first_by key c.args.job.now slots c.of.ensures c.in_ok-slots.ensures in
    let counted : c.len.result ≡ length slots = search rules in
    let o = opens_by key c.args.steps.now c.args.edges.now c.len-count.result c.len.result c.as_slice.result.now c.of-2.ensures c.requires.edges c.len-count.ensures
    (omega (arith, c.len-count.ensures, c.requires.few)) (counted ∙ first.many) (c.as_slice.ensures.value ∙ c.in_ok-words.ensures) in
    let told = c.in-Ok.ensures.ok in
    record {
      counted = subst (λ (k : BoardKey). c.len-count.result ≡ step_count k) (sym told.5) (c.len-count.ensures ∙ ap (λ xs. length xs) (sym c.of-2.ensures));
      few = omega (arith, c.len-count.ensures, c.requires.few);
      sized = subst (λ (k : BoardKey). step_count k + 1 + block_count k ≤ c.in-Ok.table.shared.table_id.words) (sym told.5) (omega (arith, o.room, told.0));
    }

pub invariant_of-seats : goal.invariant_of-seats
invariant_of-seats c =
    let told = c.in-Ok.ensures.ok in
    record {
      alive = omega (arith, ap (λ (m : Me Grid View). length m.0.workers) told.4, numbers-length c.args.workers, c.requires.workers);
      idle = ap (λ (m : Me Grid View). m.0.found_mark) told.4;
    }

pub seats-requires-clause-workers : goal.seats-requires-clause-workers
seats-requires-clause-workers c = ap (λ (m : Me Grid View). length m.0.workers) c.in-Ok.ensures.ok.4 ∙ numbers-length c.args.workers
