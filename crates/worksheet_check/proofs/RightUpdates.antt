-- Updates in which nothing is found are the due tasks, each once and in turn.
use Rattle.std.proofs.Common.{◌≡◌, ◌≢◌, ℕ, ◌+◌, inl, inr, List, [], ◌∷◌, ◌++◌, get_or, Bool, true, false, cond, Option, Some, None, refl, sym, ap, ◌∙◌, subst, arith, append_assoc, append-nil}
use Rattle.std.specs.Prelude.{All, AllPairs, ◌&&◌, ◌||◌, ◌==◌, not, min}
use Rattle.std.specs.List.{find, list_all}
use Rattle.std.proofs.lemmas.Bool.{or_parts, or_from, and_parts, false_from_ne_true, not_from_true, eqb-true, eq-eqb}
use Rattle.std.proofs.lemmas.List.Elements.{All-nil, All-cons, All-head, All-tail, All-contains, Contains-get_or}
use Rattle.std.proofs.lemmas.List.Kept.{AllPairs-cons}
use Rattle.std.proofs.lemmas.List.Sums.{AllPass-from_list_all, list_all-from_AllPass}
use Rattle.operation_spec.specs.declared.operation.Operation.{Operation}
use Rattle.operation_spec.specs.declared.operation.Form.{Form}
use Rattle.operation_spec.specs.declared.operation.Form.TheVariants.{Assign, Left, Right, Sylvester, Lu, Ldl}
use Rattle.operation_spec.specs.declared.task.Kind.{Kind}
use Rattle.operation_spec.specs.declared.task.Kind.TheVariants as kinds
use Rattle.operation_spec.specs.declared.task.Task.{Task}
use Rattle.task_graph.specs.Needs.{does_need, needs_by, factors_diagonal}
use Rattle.task_graph.specs.Order.{task_of}
use Rattle.invariant_family.specs.Feasible.{holds}
use Rattle.invariant_family.proofs.FlatMaps.{AllPairs-parts}
use Rattle.worksheet.specs.Worksheets.{AreUpdates}
use Rattle.worksheet_check.specs.declared.findings.Finding.{Finding}
use Rattle.worksheet_check.specs.RoundFindings.{is_stray, misses, update_wrong, or_else, update_finding}
use Rattle.worksheet_check.proofs.Held.{contains-from_held, held-from_contains, held-append, held-left, held-right, held-cons, held-head}
use Rattle.worksheet_check.proofs.NoFindings.{mapped_none, none_mapped, all_right, none_wrong, implies, implied, from_implied}

-- nothing is found first and then
pub or_parts_none : (a b : Option Finding) → or_else a b ≡ None → (a ≡ None) × (b ≡ None)
or_parts_none None b h = (refl, h)
or_parts_none (Some f) b h = cc

none_or : (a b : Option Finding) → a ≡ None → b ≡ None → or_else a b ≡ None
none_or None b h k = k
none_or (Some f) b h k = h

pub not_twice : (b : Bool) → b ≡ not (not b)
not_twice true = refl
not_twice false = refl

-- a finding where a test holds, and else another
else_none : {X : Type 0} (b : Bool) (f : X) (other : Option X) → cond b (Some f) other ≡ None → (b ≡ false) × (other ≡ None)
else_none true f other h = cc
else_none false f other h = (refl, h)

none_else : {X : Type 0} (b : Bool) (f : X) (other : Option X) → b ≡ false → other ≡ None → cond b (Some f) other ≡ None
none_else b f other e h = rw e h

pub never_both : (b : Bool) → b ≡ true → b ≡ false → ⊥
never_both b h k = cc

-- what two lists don't hold, the first doesn't
unseen : (xs ys : List Task) (a : Task) → holds (xs ++ ys) a ≡ false → holds xs a ≡ false
unseen xs ys a h = false_from_ne_true (holds xs a) (λ held. never_both (holds (xs ++ ys) a) (held-left xs ys a held) h)

-- a task that is new behind another one is another
other : (seen : List Task) (a c : Task) → holds (seen ++ a ∷ []) c ≡ false → a ≢ c
other seen a c h same = never_both (holds (seen ++ a ∷ []) c) (held-right seen (a ∷ []) c (subst (λ x. holds (a ∷ []) x ≡ true) same (held-head a []))) h

-- and a new task that is another is new behind it
still_new : (seen : List Task) (a c : Task) → holds seen c ≡ false → a ≢ c → holds (seen ++ a ∷ []) c ≡ false
still_new seen a c new apart = false_from_ne_true (holds (seen ++ a ∷ []) c) (λ held. elim (held-append seen (a ∷ []) c held) [
  | inl before ↦ never_both (holds seen c) before new
  | inr here ↦ (elim (held-cons a [] c here) [ inl same ↦ apart (sym same) | inr none ↦ never_both false none refl ])
])

-- ---- no task needs itself

apart_from_diagonal : (i j : ℕ) (d s : Bool) → ((d && not (i == j)) && ((s && i == min i j) && j == min i j)) ≡ false
apart_from_diagonal i j d s = false_from_ne_true _ (λ h.
    let outer = and_parts (d && not (i == j)) ((s && i == min i j) && j == min i j) h in
    let off = and_parts d (not (i == j)) outer.0 in
    let places = and_parts (s && i == min i j) (j == min i j) outer.1 in
    let row = and_parts s (i == min i j) places.0 in
    let same : i ≡ j = eqb-true i (min i j) row.1 ∙ sym (eqb-true j (min i j) places.1) in
    let on : not (i == j) ≡ false = not_from_true (i == j) (eq-eqb i j same) in
    never_both (not (i == j)) off.1 on)

needs_by-itself : (form : Form) (kind : Kind) (t i j k : ℕ) → needs_by form kind i j k (task_of kind t i j k) ≡ false
needs_by-itself form kinds.Pivots t i j k = refl
needs_by-itself form kinds.Term t i j k = refl
needs_by-itself Assign kinds.Left t i j k = refl
needs_by-itself (Left f) kinds.Left t i j k = refl
needs_by-itself (Right f) kinds.Left t i j k = refl
needs_by-itself (Sylvester f u minus) kinds.Left t i j k = refl
needs_by-itself Lu kinds.Left t i j k = refl
needs_by-itself Ldl kinds.Left t i j k = refl
needs_by-itself Assign kinds.Right t i j k = refl
needs_by-itself (Left f) kinds.Right t i j k = refl
needs_by-itself (Right f) kinds.Right t i j k = refl
needs_by-itself (Sylvester f u minus) kinds.Right t i j k = refl
needs_by-itself Lu kinds.Right t i j k = refl
needs_by-itself Ldl kinds.Right t i j k = refl
needs_by-itself form kinds.Solve t i j k = apart_from_diagonal i j (factors_diagonal form) true

not_itself : (op : Operation) (a : Task) → does_need op a a ≡ false
not_itself op a = needs_by-itself op.form a.kind a.term a.i a.j a.k

-- a task that another needs, of those before it and those behind it that it doesn't need, stood before
needed_before : (op : Operation) (seen : List Task) (a : Task) (behind : List Task) → All (λ b. ¬ (does_need op a b ≡ true)) behind → (b : Task)
    → does_need op a b ≡ true → holds (seen ++ a ∷ behind) b ≡ true → holds seen b ≡ true
needed_before op seen a behind later b need held = elim (held-append seen (a ∷ behind) b held) [
  | inl before ↦ before
  | inr others ↦ (elim (held-cons a behind b others) [
    | inl same ↦ absurd (never_both (does_need op a a) (subst (λ x. does_need op a x ≡ true) same need) (not_itself op a))
    | inr after ↦ absurd (All-contains (λ b. ¬ (does_need op a b ≡ true)) behind b later (contains-from_held behind b after) need)
  ])
]

module _ (op : Operation) (due : List Task) where
  -- ---- one update

  -- it is due and didn't stand before, and each due task that it needs did
  pub record IsRight (seen : List Task) (a : Task) : Type 0 where
    pub is_due : holds due a ≡ true
    pub new : holds seen a ≡ false
    pub needs : (b : Task) → holds due b ≡ true → does_need op a b ≡ true → holds seen b ≡ true

  pub update_right : (seen : List Task) (p : ℕ) (a : Task) → update_wrong op due seen p a ≡ None → IsRight seen a
  update_right seen p a h =
      let test = else_none (is_stray due seen a) _ _ h in
      let parts = or_parts (not (holds due a)) (holds seen a) test.0 in
      let none = mapped_none _ (find (misses op seen a) due) test.1 in
      let all = all_right (misses op seen a) (λ b. not (does_need op a b) || holds seen b) (λ b. implies (does_need op a b) (holds seen b)) due none in
      record {
        is_due = not_twice (holds due a) ∙ ap not parts.0;
        new = parts.1;
        needs = λ b held need. implied (does_need op a b) (holds seen b)
            (All-contains (λ b. (not (does_need op a b) || holds seen b) ≡ true) due b (AllPass-from_list_all _ due all) (contains-from_held due b held)) need;
      }

  pub none_for_right : (seen : List Task) (p : ℕ) (a : Task) → IsRight seen a → update_wrong op due seen p a ≡ None
  none_for_right seen p a r =
      let stray = or_from (not (holds due a)) (holds seen a) (not_from_true (holds due a) r.is_due) r.new in
      let right = λ (b : Task). not (does_need op a b) || holds seen b in
      let all : list_all right due ≡ true = list_all-from_AllPass right due
      (λ k d below. from_implied (does_need op a (get_or due k d)) (holds seen (get_or due k d))
      (λ need. r.needs (get_or due k d) (held-from_contains due (get_or due k d) (Contains-get_or due k d below)) need)) in
      none_else (is_stray due seen a) _ _ stray
      (none_mapped _ (find (misses op seen a) due) (none_wrong (misses op seen a) right (λ b. implies (does_need op a b) (holds seen b)) due all))

  -- ---- all of them, behind those that were seen

  pub record AreRight (seen updates : List Task) : Type 0 where
    pub each : All (λ a. holds due a ≡ true) updates
    pub new : All (λ a. holds seen a ≡ false) updates
    pub once : AllPairs (λ a b. a ≢ b) updates
    pub in_turn : AllPairs (λ a b. ¬ (does_need op a b ≡ true)) updates
    pub full : (b : Task) → holds due b ≡ true → holds (seen ++ updates) b ≡ true

  pub right_by_none : (seen : List Task) (p : ℕ) (updates : List Task) → update_finding op due seen p updates ≡ None → AreRight seen updates
  right_by_none seen p [] h =
      let none = mapped_none _ (find (λ b. not (holds seen b)) due) h in
      let all = all_right (λ b. not (holds seen b)) (holds seen) (λ b. not_twice (holds seen b)) due none in
      record {
        each = All-nil (λ a. holds due a ≡ true);
        new = All-nil (λ a. holds seen a ≡ false);
        once = λ i j d before below. absurd (omega arith);
        in_turn = λ i j d before below. absurd (omega arith);
        full = λ b held. held-left seen [] b (All-contains (λ b. holds seen b ≡ true) due b (AllPass-from_list_all (holds seen) due all) (contains-from_held due b held));
      }
  right_by_none seen p (a ∷ updates) h =
      let parts = or_parts_none (update_wrong op due seen p a) (update_finding op due (seen ++ a ∷ []) (p + 1) updates) h in
      let r = update_right seen p a parts.0 in
      let others = right_by_none (seen ++ a ∷ []) (p + 1) updates parts.1 in
      record {
        each = All-cons (λ a. holds due a ≡ true) a updates r.is_due others.each;
        new = All-cons (λ a. holds seen a ≡ false) a updates r.new (λ k d below. unseen seen (a ∷ []) (get_or updates k d) (others.new k d below));
        once = AllPairs-cons (λ a b. a ≢ b) a updates (λ k d below. other seen a (get_or updates k d) (others.new k d below)) others.once;
        in_turn = AllPairs-cons (λ a b. ¬ (does_need op a b ≡ true)) a updates
            (λ k d below need. never_both (holds seen (get_or updates k d)) (r.needs (get_or updates k d) (others.each k d below) need)
            (unseen seen (a ∷ []) (get_or updates k d) (others.new k d below)))
            others.in_turn;
        full = λ b held. subst (λ xs. holds xs b ≡ true) (append_assoc seen (a ∷ []) updates) (others.full b held);
      }

  none_by_right : (seen : List Task) (p : ℕ) (updates : List Task) → AreRight seen updates → update_finding op due seen p updates ≡ None
  none_by_right seen p [] r =
      none_mapped _ (find (λ b. not (holds seen b)) due) (none_wrong (λ b. not (holds seen b)) (holds seen) (λ b. not_twice (holds seen b)) due
      (list_all-from_AllPass (holds seen) due (λ k d below. subst (λ xs. holds xs (get_or due k d) ≡ true) (append-nil seen)
      (r.full (get_or due k d) (held-from_contains due (get_or due k d) (Contains-get_or due k d below))))))
  none_by_right seen p (a ∷ updates) r =
      let once = AllPairs-parts (λ a b. a ≢ b) a updates r.once in
      let in_turn = AllPairs-parts (λ a b. ¬ (does_need op a b ≡ true)) a updates r.in_turn in
      let new = All-tail (λ a. holds seen a ≡ false) a updates r.new in
      none_or (update_wrong op due seen p a) (update_finding op due (seen ++ a ∷ []) (p + 1) updates)
      (none_for_right seen p a record {
        is_due = All-head (λ a. holds due a ≡ true) a updates r.each;
        new = All-head (λ a. holds seen a ≡ false) a updates r.new;
        needs = λ b held need. needed_before op seen a updates in_turn.0 b need (r.full b held);
      })
      (none_by_right (seen ++ a ∷ []) (p + 1) updates record {
        each = All-tail (λ a. holds due a ≡ true) a updates r.each;
        new = λ k d below. still_new seen a (get_or updates k d) (new k d below) (once.0 k d below);
        once = once.1;
        in_turn = in_turn.1;
        full = λ b held. subst (λ xs. holds xs b ≡ true) (sym (append_assoc seen (a ∷ []) updates)) (r.full b held);
      })

  -- ---- the whole list

  pub updates_right : (updates : List Task) → update_finding op due [] 1 updates ≡ None → AreUpdates op due updates
  updates_right updates h =
      let r = right_by_none [] 1 updates h in
      record {
        exact = λ a. (
          λ h. contains-from_held due a (All-contains (λ a. holds due a ≡ true) updates a r.each h),
          λ h. contains-from_held updates a (r.full a (held-from_contains due a h)),
        );
        once = r.once;
        in_turn = r.in_turn;
      }

  pub right_updates : (updates : List Task) → AreUpdates op due updates → update_finding op due [] 1 updates ≡ None
  right_updates updates u = none_by_right [] 1 updates record {
    each = λ k d below. held-from_contains due (get_or updates k d) ((u.exact (get_or updates k d)).0 (Contains-get_or updates k d below));
    new = λ k d below. refl;
    once = u.once;
    in_turn = u.in_turn;
    full = λ b held. held-from_contains updates b ((u.exact b).1 (contains-from_held due b held));
  }
