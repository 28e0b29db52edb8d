-- A made worksheet can be printed: its tasks and blocks are those of three parts, and its lines name dimensions of its operation. Cited
-- by the law of made worksheets.
use Rattle.std.proofs.Common.{◌≡◌, ℕ, zero, suc, ◌<◌, ◌≤◌, inl, inr, Bool, true, false, ◌&&◌, not, nat_lt, ◌==◌, min, List, [], ◌∷◌, ◌++◌, length, get_or, map, Option, Some, None, refl, sym, subst, arith}
use Rattle.std.specs.Prelude.{All, Contains, if◌then◌else◌}
use Rattle.std.proofs.lemmas.Bool.{and_parts, eqb-true, ltb-true}
use Rattle.std.proofs.lemmas.List.Elements.{All-append, All-cons, All-contains, All-filter, All-head, All-map, All-nil, All-tail, Contains-get_or}
use Rattle.operation_spec.specs.declared.operation.Factor.{Factor}
use Rattle.operation_spec.specs.declared.operation.Form.{Form}
use Rattle.operation_spec.specs.declared.operation.Form.TheVariants as forms
use Rattle.operation_spec.specs.declared.operation.Operation.{Operation}
use Rattle.operation_spec.specs.declared.operation.Term.{Term}
use Rattle.operation_spec.specs.declared.split.Dir.TheVariants.{Forward, Backward}
use Rattle.operation_spec.specs.declared.split.Dirs.{Dirs}
use Rattle.operation_spec.specs.declared.split.Split.{Split}
use Rattle.operation_spec.specs.declared.task.Kind.{Kind}
use Rattle.operation_spec.specs.declared.task.Kind.TheVariants as kinds
use Rattle.operation_spec.specs.declared.task.Task.{Task}
use Rattle.operation_spec.specs.Splits.{IsSplit}
use Rattle.operation_spec.specs.ValidOperations.{IsValid}
use Rattle.equation.specs.declared.job.Place.{Place}
use Rattle.task_graph.specs.Factors.{factor_cols}
use Rattle.task_graph.specs.Order.{tasks_of}
use Rattle.task_graph.specs.Tasks.{has, has_left, has_numbered_term, has_product, has_right, has_solve, has_task, has_term, is_inside, is_work_block, parts_of, reads_left, reads_right}
use Rattle.task_graph.proofs.TasksExist.{has-listed}
use Rattle.invariant_family.specs.declared.variant.Variant.{Variant}
use Rattle.invariant_family.specs.Families.{family_of}
use Rattle.invariant_family.specs.Splits.{directions_of, pair_splits, single_splits, three_parts, two_parts}
use Rattle.invariant_family.specs.Sublists.{IsSublist}
use Rattle.invariant_family.proofs.AllSplits.{All-splits}
use Rattle.invariant_family.proofs.FewTasks.{AreFew-cut}
use Rattle.invariant_family.proofs.NumberedFamilies.{variants_go_along, variants_keep_sublists}
use Rattle.block_expr.specs.Places.{each_below, if_work_block, place_at, row_places, work_places}
use Rattle.worksheet.specs.declared.sheet.End.{End}
use Rattle.worksheet.specs.declared.sheet.Worksheet.{Worksheet}
use Rattle.worksheet.specs.Ends.{end_of, split_dims, split_ends}
use Rattle.worksheet.specs.Moments.{cut_after, cut_before, is_done, is_update, state_of, updates_of}
use Rattle.worksheet.specs.Worksheets.{Valid, worksheet_of}
use Rattle.worksheet_laws.specs.SpelledSheets.{AreEnds, AreOneOrTwo, IsPartState, IsPartTask, IsPrintable}

-- ---- tasks of few parts

module _ (op : Operation) (counts : List ℕ) (few : (d : ℕ) → parts_of counts d ≤ 3) (terms : length op.terms ≤ 2) where
  below_three : (k d : ℕ) → nat_lt k (parts_of counts d) ≡ true → k < 3
  below_three k d below = omega (arith, ltb-true k (parts_of counts d) below, few d)

  -- a block of W
  work_block : (i j : ℕ) → is_work_block op counts i j ≡ true → (i < 3) × (j < 3)
  work_block i j is =
      let both = and_parts (nat_lt i (parts_of counts op.work.rows) && nat_lt j (parts_of counts op.work.cols)) _ is in
      let numbers = and_parts (nat_lt i (parts_of counts op.work.rows)) (nat_lt j (parts_of counts op.work.cols)) both.0 in
      (below_three i op.work.rows numbers.0, below_three j op.work.cols numbers.1)

  -- the number of a term, and the part that it is summed over
  one_product : (term : Term) (i j k : ℕ) → has_product op counts term i j k ≡ true → k < 3
  one_product term i j k is =
      let both = and_parts (nat_lt k (parts_of counts (factor_cols op term.first)) && is_inside op term.first i k) (is_inside op term.second k j) is in
      below_three k (factor_cols op term.first) (and_parts (nat_lt k (parts_of counts (factor_cols op term.first))) (is_inside op term.first i k) both.0).0

  one_term : (list : List Term) (t i j k : ℕ) → has_term op counts list t i j k ≡ true → (t < length list) × (k < 3)
  one_term [] t i j k is = absurd cc
  one_term (term ∷ list) zero i j k is = (omega arith, one_product term i j k is)
  one_term (term ∷ list) (suc t) i j k is = let others = one_term list t i j k is in (omega (arith, others.0), others.1)

  numbered : (t i j k : ℕ) → has_numbered_term op counts t i j k ≡ true → (0 < t) × (t ≤ 2) × (k < 3)
  numbered zero i j k is = absurd cc
  numbered (suc t) i j k is = let term = one_term op.terms t i j k is in (omega arith, omega (arith, term.0), term.1)

  -- the part of an update
  left_read : (f : Factor) (i j k : ℕ) → reads_left op counts f i j k ≡ true → k < 3
  left_read f i j k is = (work_block k j (and_parts (is_inside op f i k && not (i == k)) (is_work_block op counts k j) is).1).0

  right_read : (f : Factor) (i j k : ℕ) → reads_right op counts f i j k ≡ true → k < 3
  right_read f i j k is = (work_block i k (and_parts (is_inside op f k j && not (k == j)) (is_work_block op counts i k) is).1).1

  left_part : (form : Form) (i j k : ℕ) → i < 3 → j < 3 → has_left op counts form i j k ≡ true → k < 3
  left_part forms.Assign i j k row col is = absurd cc
  left_part (forms.Left t) i j k row col is = left_read t i j k is
  left_part (forms.Right t) i j k row col is = absurd cc
  left_part (forms.Sylvester t u minus) i j k row col is = left_read t i j k is
  left_part forms.Lu i j k row col is = omega (arith, ltb-true k (min i j) is, row, col)
  left_part forms.Ldl i j k row col is = omega (arith, ltb-true k j is, col)

  right_part : (form : Form) (i j k : ℕ) → has_right op counts form i j k ≡ true → k < 3
  right_part forms.Assign i j k is = absurd cc
  right_part (forms.Left t) i j k is = absurd cc
  right_part (forms.Right t) i j k is = right_read t i j k is
  right_part (forms.Sylvester t u minus) i j k is = right_read u i j k is
  right_part forms.Lu i j k is = absurd cc
  right_part forms.Ldl i j k is = absurd cc

  of_kind : (kind : Kind) (t i j k : ℕ) → i < 3 → j < 3 → has_task op counts kind t i j k ≡ true → IsPartTask (record { kind = kind; term = t; i = i; j = j; k = k })
  of_kind kinds.Pivots t i j k row col is = absurd cc
  of_kind kinds.Term t i j k row col is = let term = numbered t i j k is in record { number = (term.0, term.1); row = row; col = col; inner = term.2 }
  of_kind kinds.Left t i j k row col is =
      let both = and_parts (t == 0) (has_left op counts op.form i j k) is in
      record { number = eqb-true t 0 both.0; row = row; col = col; inner = left_part op.form i j k row col both.1 }
  of_kind kinds.Right t i j k row col is =
      let both = and_parts (t == 0) (has_right op counts op.form i j k) is in
      record { number = eqb-true t 0 both.0; row = row; col = col; inner = right_part op.form i j k both.1 }
  of_kind kinds.Solve t i j k row col is =
      let both = and_parts (t == 0 && k == 0) (has_solve op.form) is in
      let zeros = and_parts (t == 0) (k == 0) both.0 in
      record { number = eqb-true t 0 zeros.0; row = row; col = col; inner = eqb-true k 0 zeros.1 }

  part_task : (a : Task) → has op counts a ≡ true → IsPartTask a
  part_task a is =
      let both = and_parts (is_work_block op counts a.i a.j) (has_task op counts a.kind a.term a.i a.j a.k) is in
      let block = work_block a.i a.j both.0 in
      of_kind a.kind a.term a.i a.j a.k block.0 block.1 both.1

  part_tasks : All IsPartTask (tasks_of op counts)
  part_tasks k d below = part_task (get_or (tasks_of op counts) k d) (has-listed op counts (get_or (tasks_of op counts) k d) (Contains-get_or (tasks_of op counts) k d below))

  -- ---- blocks

  abbrev IsPartPlace : Place → Type 0
  IsPartPlace at = (at.row < 3) × (at.col < 3)

  all_below : (f : ℕ → List Place) (n : ℕ) → ((k : ℕ) → All IsPartPlace (f k)) → All IsPartPlace (each_below f n)
  all_below f zero each = All-nil IsPartPlace
  all_below f (suc n) each = All-append IsPartPlace (each_below f n) (f n) (all_below f n each) (each n)

  one_place : (i j : ℕ) (b : Bool) → is_work_block op counts i j ≡ b → All IsPartPlace (if b then place_at i j ∷ [] else [])
  one_place i j true is = All-cons IsPartPlace (place_at i j) [] (work_block i j is) (All-nil IsPartPlace)
  one_place i j false is = All-nil IsPartPlace

  part_places : All IsPartPlace (work_places op counts)
  part_places = all_below (row_places op counts) (parts_of counts op.work.rows) (λ i. all_below (if_work_block op counts i) (parts_of counts op.work.cols) (λ j. one_place i j (is_work_block op counts i j) refl))

  part_states : (test : Task → Bool) (tasks : List Task) → All IsPartTask tasks → All IsPartState (map (state_of test tasks) (work_places op counts))
  part_states test tasks all =
      All-map IsPartState (state_of test tasks) (work_places op counts)
      (λ k d below. let at = part_places k d below in record { row = at.0; col = at.1; done = All-filter _ IsPartTask tasks all })

-- some of the tasks of a list
All-sublist : (P : Task → Type 0) (s tasks : List Task) → IsSublist s tasks → All P tasks → All P s
All-sublist P s [] none all = rw none (All-nil P)
All-sublist P s (t ∷ tasks) part all = elim part [
  | inl others ↦ All-sublist P s tasks others (All-tail P t tasks all)
  | inr first ↦ subst (All P) (sym first.1) (All-cons P t first.0 (All-head P t tasks all) (All-sublist P first.0 tasks first.2 (All-tail P t tasks all)))
]

-- ---- dimensions

along_one : (first : ℕ) (second : Option ℕ) (dirs : Dirs) → Contains (directions_of (record { first = first; second = second })) dirs → second ≡ None → dirs.second ≡ Forward
along_one first None dirs has single =
    let P : Dirs → Type 0 = λ ds. ds.second ≡ Forward in
    All-contains P (directions_of (record { first = first; second = None })) dirs
    (All-cons P (record { first = Forward; second = Forward }) (record { first = Backward; second = Forward } ∷ []) refl (All-cons P (record { first = Backward; second = Forward }) [] refl (All-nil P))) has
along_one first (Some d) dirs has single = absurd cc

-- of one dimension or two
module _ (op : Operation) where
  abbrev IsDim : ℕ → Type 0
  IsDim d = d < length op.dims

  made_guard : (first : ℕ) (second : Option ℕ) → IsSplit op (record { first = first; second = second })
      → AreOneOrTwo (split_dims (record { first = first; second = second })) × All IsDim (split_dims (record { first = first; second = second }))
  made_guard first None is = ((omega arith, omega arith), All-cons IsDim first [] is.0 (All-nil IsDim))
  made_guard first (Some d) is = ((omega arith, omega arith), All-cons IsDim first (d ∷ []) is.0 (All-cons IsDim d [] is.1.1 (All-nil IsDim)))

  made_ends : (first : ℕ) (second : Option ℕ) (dirs : Dirs) → IsSplit op (record { first = first; second = second }) → AreEnds op (split_ends (record { first = first; second = second }) dirs)
  made_ends first None dirs is =
      let split : Split = record { first = first; second = None } in
      let P : End → Type 0 = λ e. e.dim < length op.dims in
      record { few = (omega arith, omega arith); dims = All-cons P (end_of split dirs first) [] is.0 (All-nil P) }
  made_ends first (Some d) dirs is =
      let split : Split = record { first = first; second = Some d } in
      let P : End → Type 0 = λ e. e.dim < length op.dims in
      record { few = (omega arith, omega arith); dims = All-cons P (end_of split dirs first) (end_of split dirs d ∷ []) is.0 (All-cons P (end_of split dirs d) [] is.1.1 (All-nil P)) }

-- ---- the whole

pub made_is_printable : (op : Operation) (split : Split) (dirs : Dirs) (s : List Task) → IsValid op → IsSplit op split → Contains (directions_of split) dirs → IsSublist s (tasks_of op (two_parts op split)) → IsPrintable op (worksheet_of op split dirs s)
made_is_printable op split dirs s valid is_split has sublist =
    let three = three_parts op split in
    let few : (d : ℕ) → parts_of three d ≤ 3 = AreFew-cut 3 split (length op.dims) (omega arith) in
    let two : (d : ℕ) → parts_of (two_parts op split) d ≤ 3 = λ d. omega (arith, AreFew-cut 2 split (length op.dims) (omega arith) d) in
    let tasks = part_tasks op three few valid.few_terms in
    let guard = made_guard op split.first split.second is_split in
    let ends = made_ends op split.first split.second dirs is_split in
    record {
      operation = refl;
      split = is_split;
      single = along_one split.first split.second dirs has;
      invariant = All-sublist IsPartTask s (tasks_of op (two_parts op split)) sublist (part_tasks op (two_parts op split) two valid.few_terms);
      few = guard.0;
      guard = guard.1;
      start = ends;
      take = ends;
      before = part_states op three few valid.few_terms (is_done op s (cut_before op split dirs)) (tasks_of op three) tasks;
      updates = All-filter (is_update op s (cut_before op split dirs) (cut_after op split dirs)) IsPartTask (tasks_of op three) tasks;
      give = ends;
      after = part_states op three few valid.few_terms (is_done op s (cut_after op split dirs)) (tasks_of op three) tasks;
    }

-- and so can every valid worksheet along a split of its operation, in whatever order its updates stand
pub valid_is_printable : (op : Operation) (w : Worksheet) → IsValid op → w.operation ≡ op.name → IsSplit op w.split → Contains (directions_of w.split) w.dirs → Valid op w → IsPrintable op w
valid_is_printable op w valid name is_split has v =
    let made = made_is_printable op w.split w.dirs w.invariant valid is_split has v.in_order in
    record {
      operation = name;
      split = is_split;
      single = made.single;
      invariant = made.invariant;
      few = subst AreOneOrTwo (sym v.guard) made.few;
      guard = subst (All (λ d. d < length op.dims)) (sym v.guard) made.guard;
      start = subst (AreEnds op) (sym v.start) made.start;
      take = subst (AreEnds op) (sym v.take) made.take;
      before = subst (All IsPartState) (sym v.before) made.before;
      updates = λ k d below. let a = get_or w.updates k d in
          All-contains IsPartTask (updates_of op w.split w.dirs w.invariant) a made.updates ((v.updates.exact a).0 (Contains-get_or w.updates k d below));
      give = subst (AreEnds op) (sym v.give) made.give;
      after = subst (All IsPartState) (sym v.after) made.after;
    }

-- that of a variant
pub variant_is_printable : (op : Operation) (v : Variant) → IsValid op → Contains (family_of op) v → IsPrintable op (worksheet_of op v.split v.dirs v.kept)
variant_is_printable op v valid of_op =
    let splits = single_splits op ++ pair_splits op in
    let along = All-contains (λ (v : Variant). IsSplit op v.split × Contains (directions_of v.split) v.dirs) (family_of op) v (variants_go_along op splits (IsSplit op) (All-splits op)) of_op in
    let kept = All-contains (λ (v : Variant). IsSublist v.kept (tasks_of op (two_parts op v.split))) (family_of op) v (variants_keep_sublists op splits) of_op in
    made_is_printable op v.split v.dirs v.kept valid along.0 along.1 kept
