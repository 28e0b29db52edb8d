-- What a loop has done after so many iterations, by a variant of its operation: nothing before the first, all after the last, what was done stays
-- done, and what a task that is done needs is done. Cited by the lemmas on the tasks of its iterations.
use Rattle.std.proofs.Common.{◌≡◌, ℕ, zero, suc, ◌+◌, ◌-◌, ◌<◌, ◌≤◌, ◌⊎◌, inl, inr, Bool, true, false, ◌&&◌, ◌||◌, not, min, if◌then◌else◌, List, [], ◌∷◌, get_or, Contains, refl, sym, ap, ◌∙◌, subst, arith}
use Rattle.std.specs.Prelude.{◌==◌, nat_lt}
use Rattle.std.specs.List.{list_all}
use Rattle.std.proofs.lemmas.Bool.{and_from, and_parts, both_ways, eq-eqb, false_from_ne_true, ltb-true}
use Rattle.std.proofs.lemmas.List.Folds.{Any-from_list_any}
use Rattle.std.proofs.lemmas.List.Sums.{AllPass-from_list_all}
use Rattle.operation_spec.specs.declared.operation.Operation.{Operation}
use Rattle.operation_spec.specs.declared.operation.Term.{Term}
use Rattle.operation_spec.specs.declared.operation.Form.{Form}
use Rattle.operation_spec.specs.declared.operation.Form.TheVariants.{Left, Right, Sylvester, Lu, Ldl}
use Rattle.operation_spec.specs.declared.split.Dir.{Dir}
use Rattle.operation_spec.specs.declared.task.Kind.{Kind}
use Rattle.operation_spec.specs.declared.task.Kind.TheVariants as kinds
use Rattle.operation_spec.specs.declared.task.Task.{Task}
use Rattle.operation_spec.specs.Splits.{IsSplit}
use Rattle.operation_spec.specs.ValidOperations.{IsValid}
use Rattle.task_graph.specs.declared.cut.Sides.{Sides}
use Rattle.task_graph.specs.declared.cut.Sides.TheVariants.{One}
use Rattle.task_graph.specs.Classes.{class_of, coarse_of, counts_of, inner_dim, inner_dim_of, part_in}
use Rattle.task_graph.specs.Factors.{factor_cols}
use Rattle.task_graph.specs.Needs.{does_need}
use Rattle.task_graph.specs.Order.{task_of, tasks_of}
use Rattle.task_graph.specs.Tasks.{has, has_left, has_right, has_task, has_term, is_inside, is_work_block, parts_of}
use Rattle.task_graph.proofs.ClassNeeds.{needs-classes}
use Rattle.task_graph.proofs.TasksExist.{listed-has}
use Rattle.task_graph.proofs.ValidFactors.{lower-valid}
use Rattle.task_graph.proofs.WorkBlocks.{lower-block, work-block}
use Rattle.invariant_family.specs.declared.variant.Variant.{Variant}
use Rattle.invariant_family.specs.Feasible.{has_all_done, has_nothing_remaining, holds, is_closed, is_feasible, same_task, undoes_nothing}
use Rattle.invariant_family.specs.Splits.{Index, all_split_indices, cut_by, dir_of, done_part, has_inner, is_split, middle_done, middle_remaining, remaining_part, three_parts, two_parts}
use Rattle.invariant_family.proofs.SameTasks.{same_task-true}
use Rattle.issue_list.specs.IssuedSteps.{cut_after, is_done, iterations}
use Rattle.issue_list.proofs.CoarserParts.{mapped, part-exists, part-of_part, part_of}
use Rattle.issue_list.proofs.CutsAfter.{all-done, all-remain, around-after, around-before, coarser-after, coarser-around, counts-after, counts-middle_done, counts-middle_remaining, length-after, part_around, side-ascends}

-- ---- tests of lists and sets

-- what passes for each task of a set, of one that the set holds
held : (p : Task → Bool) (s : List Task) (c : Task) → list_all p s ≡ true → holds s c ≡ true → p c ≡ true
held p s c all h =
    let a = Any-from_list_any (same_task c) s h in
    subst (λ x. p x ≡ true) (sym (same_task-true c a.1 a.4)) (subst (λ x. p x ≡ true) a.3 (AllPass-from_list_all p s all a.0 a.1 a.2))

-- of one that is listed
among : (p : Task → Bool) (xs : List Task) (c : Task) → list_all p xs ≡ true → Contains xs c → p c ≡ true
among p xs c all (k, below, at) = subst (λ x. p x ≡ true) at (AllPass-from_list_all p xs all k c below)

implied : (a b : Bool) → (not a || b) ≡ true → a ≡ true → b ≡ true
implied true b h e = h
implied false b h e = absurd (both_ways _ refl e)

-- ---- the inner part of a task is one of its dimension

module _ (op : Operation) (counts : List ℕ) (valid : IsValid op) where
  term-within : (ts : List Term) (t i j k : ℕ) → has_term op counts ts t i j k ≡ true → k < parts_of counts (inner_dim_of op ts t)
  term-within [] t i j k h = absurd (both_ways _ refl h)
  term-within (term ∷ ts) zero i j k h =
      let c = factor_cols op term.first in
      let p = and_parts (nat_lt k (parts_of counts c) && is_inside op term.first i k) (is_inside op term.second k j) h in
      ltb-true k (parts_of counts c) (and_parts (nat_lt k (parts_of counts c)) (is_inside op term.first i k) p.0).0
  term-within (term ∷ ts) (suc t) i j k h = term-within ts t i j k h

  left-within : (form : Form) (i j k : ℕ) → op.form ≡ form → is_work_block op counts i j ≡ true → has_left op counts form i j k ≡ true → k < parts_of counts op.work.rows
  left-within (Left f) i j k e block h = (work-block op counts k j (and_parts (is_inside op f i k && not (i == k)) (is_work_block op counts k j) h).1).0
  left-within (Sylvester f g minus) i j k e block h = (work-block op counts k j (and_parts (is_inside op f i k && not (i == k)) (is_work_block op counts k j) h).1).0
  left-within Lu i j k e block h = omega (arith, ltb-true k (min i j) h, (work-block op counts i j block).0)
  left-within Ldl i j k e block h = omega (arith, ltb-true k j h, lower-block op counts i j (lower-valid op valid e) block, (work-block op counts i j block).0)
  left-within other i j k e block h = absurd (both_ways _ refl h)

  right-within : (form : Form) (i j k : ℕ) → has_right op counts form i j k ≡ true → k < parts_of counts op.work.cols
  right-within (Right f) i j k h = (work-block op counts i k (and_parts (is_inside op f k j && not (k == j)) (is_work_block op counts i k) h).1).1
  right-within (Sylvester f g minus) i j k h = (work-block op counts i k (and_parts (is_inside op g k j && not (k == j)) (is_work_block op counts i k) h).1).1
  right-within other i j k h = absurd (both_ways _ refl h)

  inner-within : (kind : Kind) (t i j k : ℕ) → is_work_block op counts i j ≡ true → has_task op counts kind t i j k ≡ true → has_inner kind ≡ true → k < parts_of counts (inner_dim op kind t)
  inner-within kinds.Term zero i j k block h inner = absurd (both_ways _ refl h)
  inner-within kinds.Term (suc t) i j k block h inner = term-within op.terms t i j k h
  inner-within kinds.Left t i j k block h inner = left-within op.form i j k refl block (and_parts (t == 0) (has_left op counts op.form i j k) h).1
  inner-within kinds.Right t i j k block h inner = right-within op.form i j k (and_parts (t == 0) (has_right op counts op.form i j k) h).1
  inner-within other t i j k block h inner = absurd (both_ways _ refl inner)

-- ---- a variant of an operation

pub record IsVariant (op : Operation) (v : Variant) : Type 0 where
  pub split : IsSplit op v.split
  pub feasible : is_feasible op v.split v.dirs v.kept ≡ true

module _ (op : Operation) (valid : IsValid op) (counts : List ℕ) (v : Variant) (is : IsVariant op v) where
  abbrev two : List ℕ
  two = two_parts op v.split

  abbrev three : List ℕ
  three = three_parts op v.split

  abbrev cut : ℕ → List Sides
  cut t = cut_after op counts v.split v.dirs t

  abbrev class : ℕ → Task → Task
  class t u = class_of op (cut t) u

  abbrev pub done : ℕ → Task → Bool
  done t u = is_done op counts v t u

  -- the rules of a feasible set
  undoing : (is_closed op v.split v.kept && has_nothing_remaining op v.split v.dirs v.kept && has_all_done op v.split v.dirs v.kept ≡ true) × (undoes_nothing op v.split v.dirs v.kept ≡ true)
  undoing = and_parts (is_closed op v.split v.kept && has_nothing_remaining op v.split v.dirs v.kept && has_all_done op v.split v.dirs v.kept) (undoes_nothing op v.split v.dirs v.kept) is.feasible

  doing : (is_closed op v.split v.kept && has_nothing_remaining op v.split v.dirs v.kept ≡ true) × (has_all_done op v.split v.dirs v.kept ≡ true)
  doing = and_parts (is_closed op v.split v.kept && has_nothing_remaining op v.split v.dirs v.kept) (has_all_done op v.split v.dirs v.kept) undoing.0

  closing : (is_closed op v.split v.kept ≡ true) × (has_nothing_remaining op v.split v.dirs v.kept ≡ true)
  closing = and_parts (is_closed op v.split v.kept) (has_nothing_remaining op v.split v.dirs v.kept) doing.0

  -- ---- the class of a task

  class-is : (t : ℕ) (u : Task) → class t u ≡ part_of op two (part_in (cut t)) u
  class-is t u = ap (λ cs. part_of op cs (part_in (cut t)) u) (counts-after op v.split is.split counts v.dirs t)

  class-listed : (t : ℕ) (u : Task) → has op counts u ≡ true → Contains (tasks_of op two) (class t u)
  class-listed t u h = listed-has op two (class t u) (lower-valid op valid)
      (subst (λ a. has op two a ≡ true) (sym (class-is t u)) (part-exists op valid counts two (part_in (cut t)) (coarser-after op v.split is.split counts v.dirs t) u h))

  -- where each part of a split dimension stands on a side, so does each index of the class
  stands : (side : Dir → ℕ) (d x : ℕ) → (is_split v.split d ≡ true → x ≡ side (dir_of v.split v.dirs d)) → (not (is_split v.split d) || x == side (dir_of v.split v.dirs d)) ≡ true
  stands side d x at = go (is_split v.split d) refl
    where
      go : (b : Bool) → is_split v.split d ≡ b → (not b || x == side (dir_of v.split v.dirs d)) ≡ true
      go true e = eq-eqb x (side (dir_of v.split v.dirs d)) (at e)
      go false e = refl

  on_side : (t : ℕ) (side : Dir → ℕ) (u : Task) → has op counts u ≡ true
      → ((d x : ℕ) → x < parts_of counts d → is_split v.split d ≡ true → part_in (cut t) d x ≡ side (dir_of v.split v.dirs d))
      → all_split_indices op v.split v.dirs side (class t u) ≡ true
  on_side t side u h at = go (has op (counts_of (cut t)) (coarse_of op (cut t) u))
    where
      parts : (is_work_block op counts u.i u.j ≡ true) × (has_task op counts u.kind u.term u.i u.j u.k ≡ true)
      parts = and_parts (is_work_block op counts u.i u.j) (has_task op counts u.kind u.term u.i u.j u.k) h

      block : (is_work_block op counts u.i u.j ≡ true) → (u.i < parts_of counts op.work.rows) × (u.j < parts_of counts op.work.cols)
      block p = work-block op counts u.i u.j p

      row : (not (is_split v.split op.work.rows) || part_in (cut t) op.work.rows u.i == side (dir_of v.split v.dirs op.work.rows)) ≡ true
      row = stands side op.work.rows (part_in (cut t) op.work.rows u.i) (at op.work.rows u.i (block parts.0).0)

      col : (not (is_split v.split op.work.cols) || part_in (cut t) op.work.cols u.j == side (dir_of v.split v.dirs op.work.cols)) ≡ true
      col = stands side op.work.cols (part_in (cut t) op.work.cols u.j) (at op.work.cols u.j (block parts.0).1)

      inner : (b : Bool) → has_inner u.kind ≡ b
          → let index : Index = record { dim = inner_dim op u.kind u.term; part = part_in (cut t) (inner_dim op u.kind u.term) u.k } in
          list_all (λ x. not (is_split v.split x.dim) || x.part == side (dir_of v.split v.dirs x.dim)) (if b then index ∷ [] else []) ≡ true
      inner true e = and_from _ _ (stands side (inner_dim op u.kind u.term) (part_in (cut t) (inner_dim op u.kind u.term) u.k)
          (at (inner_dim op u.kind u.term) u.k (inner-within op counts valid u.kind u.term u.i u.j u.k parts.0 parts.1 e))) refl
      inner false e = refl

      go : (b : Bool) → all_split_indices op v.split v.dirs side (if b then coarse_of op (cut t) u else task_of kinds.Solve 0 (part_in (cut t) op.work.rows u.i) (part_in (cut t) op.work.cols u.j) 0) ≡ true
      go true = and_from _ _ row (and_from _ _ col (inner (has_inner u.kind) refl))
      go false = and_from _ _ row (and_from _ _ col refl)

  -- ---- what is done

  pub done-none : (u : Task) → has op counts u ≡ true → done 0 u ≡ false
  done-none u h = false_from_ne_true (done 0 u) (λ kept.
      both_ways (not (all_split_indices op v.split v.dirs remaining_part (class 0 u)))
      (ap not (on_side 0 remaining_part u h (all-remain op v.split is.split counts v.dirs)))
      (held (λ a. not (all_split_indices op v.split v.dirs remaining_part a)) v.kept (class 0 u) closing.1 kept))

  pub done-all : (t : ℕ) (u : Task) → iterations counts v.split ≤ t → has op counts u ≡ true → done t u ≡ true
  done-all t u last h = implied (all_split_indices op v.split v.dirs done_part (class t u)) (done t u)
      (among (λ a. not (all_split_indices op v.split v.dirs done_part a) || holds v.kept a) (tasks_of op two) (class t u) doing.1 (class-listed t u h))
      (on_side t done_part u h (λ d x. all-done op v.split is.split counts v.dirs t d x last))

  -- the class of the part around an iteration
  same-map : (cs : List ℕ) (f g : ℕ → ℕ → ℕ) (u : Task) → ((d x : ℕ) → f d x ≡ g d x) → part_of op cs f u ≡ part_of op cs g u
  same-map cs f g u same =
      let d = inner_dim op u.kind u.term in
      let e : mapped op f u ≡ mapped op g u =
      ap (λ i. task_of u.kind u.term i (f op.work.cols u.j) (f d u.k)) (same op.work.rows u.i)
      ∙ ap (λ j. task_of u.kind u.term (g op.work.rows u.i) j (f d u.k)) (same op.work.cols u.j)
      ∙ ap (λ k. task_of u.kind u.term (g op.work.rows u.i) (g op.work.cols u.j) k) (same d u.k) in
      ap (λ (a : Task). if has op cs a then a else task_of kinds.Solve 0 a.i a.j 0) e

  abbrev around : ℕ → Task → Task
  around t u = part_of op three (part_around op v.split is.split counts v.dirs t) u

  -- by a cut that takes the three parts for two
  around-class : (t s : ℕ) (c : List Sides) (u : Task) → has op counts u ≡ true → counts_of c ≡ two
      → ((d x : ℕ) → part_in c d (part_around op v.split is.split counts v.dirs t d x) ≡ part_in (cut s) d x) → class_of op c (around t u) ≡ class s u
  around-class t s c u h counted same =
      ap (λ cs. part_of op cs (part_in c) (around t u)) counted
      ∙ part-of_part op valid counts three (part_around op v.split is.split counts v.dirs t) (coarser-around op v.split is.split counts v.dirs t) two (part_in c)
      (λ d x y up. side-ascends (get_or c d One) x y up) u h
      ∙ same-map two (λ d x. part_in c d (part_around op v.split is.split counts v.dirs t d x)) (part_in (cut s)) u same
      ∙ sym (class-is s u)

  pub done-next : (t : ℕ) (u : Task) → has op counts u ≡ true → done t u ≡ true → done (t + 1) u ≡ true
  done-next t u h kept =
      let a = around t u in
      let there : Contains (tasks_of op three) a = listed-has op three a (lower-valid op valid)
      (part-exists op valid counts three (part_around op v.split is.split counts v.dirs t) (coarser-around op v.split is.split counts v.dirs t) u h) in
      let before = around-class t t (cut_by op v.split v.dirs middle_remaining) u h (counts-middle_remaining op v.split is.split counts v.dirs) (around-before op v.split is.split counts v.dirs t) in
      let after = around-class t (t + 1) (cut_by op v.split v.dirs middle_done) u h (counts-middle_done op v.split is.split counts v.dirs) (around-after op v.split is.split counts v.dirs t) in
      subst (λ x. holds v.kept x ≡ true) after
      (implied (holds v.kept (class_of op (cut_by op v.split v.dirs middle_remaining) a)) (holds v.kept (class_of op (cut_by op v.split v.dirs middle_done) a))
      (among (λ x. not (holds v.kept (class_of op (cut_by op v.split v.dirs middle_remaining) x)) || holds v.kept (class_of op (cut_by op v.split v.dirs middle_done) x)) (tasks_of op three) a undoing.1 there)
      (subst (λ x. holds v.kept x ≡ true) (sym before) kept))

  more : (n t : ℕ) (u : Task) → has op counts u ≡ true → done t u ≡ true → done (t + n) u ≡ true
  more zero t u h kept = let same : t ≡ t + 0 = omega arith in subst (λ s. done s u ≡ true) same kept
  more (suc n) t u h kept = let same : (t + n) + 1 ≡ t + suc n = omega arith in subst (λ s. done s u ≡ true) same (done-next (t + n) u h (more n t u h kept))

  pub done-later : (t s : ℕ) (u : Task) → t ≤ s → has op counts u ≡ true → done t u ≡ true → done s u ≡ true
  done-later t s u h there kept = let same : t + (s - t) ≡ s = omega arith in subst (λ n. done n u ≡ true) same (more (s - t) t u there kept)

  -- what a task that is done needs is done
  pub need-done : (t : ℕ) (u w : Task) → has op counts u ≡ true → has op counts w ≡ true → does_need op u w ≡ true → done t u ≡ true → done t w ≡ true
  need-done t u w hu hw need kept = go (needs-classes op (cut t) valid (length-after op v.split is.split counts v.dirs t) counts u w hu hw need)
    where
      go : (class t u ≡ class t w) ⊎ (does_need op (class t u) (class t w) ≡ true) → done t w ≡ true
      go (inl same) = subst (λ x. holds v.kept x ≡ true) same kept
      go (inr needs) = implied (does_need op (class t u) (class t w)) (done t w)
          (among (λ b. not (does_need op (class t u) b) || holds v.kept b) (tasks_of op two) (class t w)
          (held (λ a. list_all (λ b. not (does_need op a b) || holds v.kept b) (tasks_of op two)) v.kept (class t u) closing.0 kept) (class-listed t w hw)) needs
