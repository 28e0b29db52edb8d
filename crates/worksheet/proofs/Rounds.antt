-- What a round of a loop with a valid worksheet does. Cited by the laws of worksheets.
use Rattle.std.proofs.Common.{◌≡◌, ◌⊎◌, inl, inr, Bool, true, false, refl}
use Rattle.std.specs.Prelude.{Contains, ◌&&◌, ◌||◌, not, ◌↔◌}
use Rattle.std.proofs.lemmas.Bool.{and_parts, and_from}
use Rattle.operation_spec.specs.declared.operation.Operation.{Operation}
use Rattle.operation_spec.specs.declared.task.Task.{Task}
use Rattle.task_graph.specs.Order.{tasks_of}
use Rattle.invariant_family.specs.Splits.{three_parts}
use Rattle.invariant_family.specs.Feasible.{is_closed, has_nothing_remaining, has_all_done, undoes_nothing}
use Rattle.invariant_family.proofs.FlatMaps.{Contains-filter}
use Rattle.worksheet.specs.declared.sheet.Worksheet.{Worksheet}
use Rattle.worksheet.specs.Moments.{cut_before, cut_after, is_done, is_update}
use Rattle.worksheet.specs.Worksheets.{Valid}
use Rattle.worksheet.proofs.KeptItems.{kept-passes, all-passes}

-- either the first is false or the second true, and the first is true
implied : (a b : Bool) → (not a || b) ≡ true → a ≡ true → b ≡ true
implied true b h e = h
implied false b h e = cc

-- what is done after and wasn't before
gained : (before after : Bool) → after ≡ true → (before ≡ true) ⊎ ((after && not before) ≡ true)
gained true after h = inl refl
gained false after h = inr (and_from after true h refl)

module _ (op : Operation) (w : Worksheet) (a : Task) (valid : Valid op w) (listed : Contains (tasks_of op (three_parts op w.split)) a) where
  before : Bool
  before = is_done op w.invariant (cut_before op w.split w.dirs) a

  after : Bool
  after = is_done op w.invariant (cut_after op w.split w.dirs) a

  -- what is done after was done before, or is an update
  pub led_to : is_done op w.invariant (cut_after op w.split w.dirs) a ≡ true
      → (is_done op w.invariant (cut_before op w.split w.dirs) a ≡ true) ⊎ Contains w.updates a
  unfolding before after
  led_to done = elim (gained before after done) [
    | inl same ↦ inl same
    | inr update ↦ inr ((valid.updates.exact a).1
        (Contains-filter (is_update op w.invariant (cut_before op w.split w.dirs) (cut_after op w.split w.dirs)) (tasks_of op (three_parts op w.split)) a listed update))
  ]

  -- what was done before stays done
  pub kept : is_done op w.invariant (cut_before op w.split w.dirs) a ≡ true → is_done op w.invariant (cut_after op w.split w.dirs) a ≡ true
  unfolding before after
  kept done =
      let s = w.invariant in
      let undoes = and_parts (is_closed op w.split s && has_nothing_remaining op w.split w.dirs s && has_all_done op w.split w.dirs s) (undoes_nothing op w.split w.dirs s) valid.feasible in
      implied before after
      (all-passes (λ b. not (is_done op s (cut_before op w.split w.dirs) b) || is_done op s (cut_after op w.split w.dirs) b) (tasks_of op (three_parts op w.split)) a undoes.1 listed)
      done

  -- and an update is done after
  pub updated : Contains w.updates a → is_done op w.invariant (cut_after op w.split w.dirs) a ≡ true
  unfolding before after
  updated update =
      let test = is_update op w.invariant (cut_before op w.split w.dirs) (cut_after op w.split w.dirs) in
      (and_parts after (not before) (kept-passes test (tasks_of op (three_parts op w.split)) a ((valid.updates.exact a).0 update))).0
