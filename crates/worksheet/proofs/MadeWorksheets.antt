-- A worksheet that is made is valid. Cited by the law that says so, and by `make`.
use Rattle.std.proofs.Common.{◌≡◌, ◌≢◌, ℕ, ◌<◌, ◌++◌, List, length, get_or, true, false, refl, arith}
use Rattle.std.specs.Prelude.{AllPairs, Contains}
use Rattle.std.proofs.lemmas.List.Elements.{All-contains, Contains-get_or}
use Rattle.std.proofs.lemmas.List.Kept.{AllPairs-filter}
use Rattle.operation_spec.specs.declared.operation.Operation.{Operation}
use Rattle.operation_spec.specs.declared.split.Split.{Split}
use Rattle.operation_spec.specs.declared.split.Dirs.{Dirs}
use Rattle.operation_spec.specs.declared.task.Task.{Task}
use Rattle.operation_spec.specs.ValidOperations.{IsValid}
use Rattle.task_graph.specs.Factors.{AreTriangular}
use Rattle.task_graph.specs.Needs.{does_need}
use Rattle.task_graph.specs.Order.{is_earlier, tasks_of}
use Rattle.task_graph.proofs.EarlierTasks.{is_earlier-same, is_earlier-trans}
use Rattle.task_graph.proofs.NeedsFirst.{does_need-earlier}
use Rattle.task_graph.proofs.TasksExist.{has-listed}
use Rattle.task_graph.proofs.TasksSorted.{tasks_of-sorted, tasks_of-once}
use Rattle.task_graph.proofs.ValidFactors.{AreTriangular-valid}
use Rattle.invariant_family.specs.declared.variant.Variant.{Variant}
use Rattle.invariant_family.specs.Families.{family_of}
use Rattle.invariant_family.specs.Feasible.{is_feasible}
use Rattle.invariant_family.specs.Splits.{single_splits, pair_splits, two_parts, three_parts}
use Rattle.invariant_family.specs.Sublists.{IsSublist}
use Rattle.invariant_family.proofs.NumberedFamilies.{variants_are_feasible, variants_keep_sublists}
use Rattle.worksheet.specs.Moments.{cut_before, cut_after, is_update, updates_of}
use Rattle.worksheet.specs.Worksheets.{worksheet_of, AreUpdates, Valid}

-- of two tasks in canonical order the first doesn't need the second
not_needed_later : (op : Operation) (counts : List ℕ) (a b : Task) → AreTriangular op → Contains (tasks_of op counts) a → is_earlier op a b ≡ true
    → ¬ (does_need op a b ≡ true)
not_needed_later op counts a b triangular listed later need =
    let sooner : is_earlier op b a ≡ true = does_need-earlier op counts a b triangular (has-listed op counts a listed) need in
    let around : is_earlier op a a ≡ true = is_earlier-trans op a b a later sooner in
    let never : is_earlier op a a ≡ false = is_earlier-same op a in
    cc

-- so none of the tasks in canonical order needs a later one
none_needs_later : (op : Operation) (counts : List ℕ) → AreTriangular op → AllPairs (λ a b. ¬ (does_need op a b ≡ true)) (tasks_of op counts)
none_needs_later op counts triangular i j d before below =
    let tasks = tasks_of op counts in
    let within : i < length tasks = omega arith in
    not_needed_later op counts (get_or tasks i d) (get_or tasks j d) triangular (Contains-get_or tasks i d within) (tasks_of-sorted op counts i j d before below)

-- the updates in canonical order are in turn
pub are_updates : (op : Operation) (split : Split) (dirs : Dirs) (s : List Task) → IsValid op → AreUpdates op (updates_of op split dirs s) (updates_of op split dirs s)
are_updates op split dirs s valid =
    let counts = three_parts op split in
    let test = is_update op s (cut_before op split dirs) (cut_after op split dirs) in
    record {
      exact = λ a. (λ h. h, λ h. h);
      once = AllPairs-filter (λ a b. a ≢ b) test (tasks_of op counts) (tasks_of-once op counts);
      in_turn = AllPairs-filter (λ a b. ¬ (does_need op a b ≡ true)) test (tasks_of op counts) (none_needs_later op counts (AreTriangular-valid op valid));
    }

pub made_is_valid : (op : Operation) (split : Split) (dirs : Dirs) (s : List Task) → IsValid op
    → IsSublist s (tasks_of op (two_parts op split)) → is_feasible op split dirs s ≡ true → Valid op (worksheet_of op split dirs s)
made_is_valid op split dirs s valid sublist feasible = record {
  in_order = sublist;
  feasible = feasible;
  guard = refl;
  start = refl;
  take = refl;
  before = refl;
  updates = are_updates op split dirs s valid;
  give = refl;
  after = refl;
}

-- and so is that of a variant
pub variant_is_valid : (op : Operation) (v : Variant) → IsValid op → Contains (family_of op) v → Valid op (worksheet_of op v.split v.dirs v.kept)
variant_is_valid op v valid of_op =
    let splits = single_splits op ++ pair_splits op in
    made_is_valid op v.split v.dirs v.kept valid
    (All-contains (λ (v : Variant). IsSublist v.kept (tasks_of op (two_parts op v.split))) (family_of op) v (variants_keep_sublists op splits) of_op)
    (All-contains (λ (v : Variant). is_feasible op v.split v.dirs v.kept ≡ true) (family_of op) v (variants_are_feasible op splits) of_op)
