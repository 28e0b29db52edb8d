-- The edges of all steps: which stand in the list, their order, and how many go into a step.
use Rattle.std.proofs.Common.{◌≡◌, ℕ, zero, suc, ◌+◌, ◌-◌, ◌<◌, ◌≤◌, inl, inr, Bool, true, false, cond, eqb, ltb, leb, List, [], ◌∷◌, ◌++◌, length, map, get_or, refl, sym, ◌∙◌, ap, subst, arith, add-zero, length-append}
use Rattle.std.specs.Prelude.{◌&&◌, All, AllPairs, sum}
use Rattle.std.specs.List.{flat_map, range_with_len}
use Rattle.std.proofs.lemmas.Bool.{cases_eq, cases_lt, cases_Bool, lt-ltb, le-ltb, le-leb, lt-leb, eq-eqb, eqb-true, ne_eqb, and_parts, and_from, or_left, or_right}
use Rattle.std.proofs.lemmas.List.{append-nil, map-id, get_or_append_left, get_or-append_right}
use Rattle.std.proofs.lemmas.List.Concat.{flat_map-append}
use Rattle.std.proofs.lemmas.List.Elements.{All-nil, All-cons, All-append, All-weaker}
use Rattle.std.proofs.lemmas.List.Folds.{list_any-append, Any-from_list_any}
use Rattle.std.proofs.lemmas.List.FromFn.{map-range_with_len_more}
use Rattle.std.proofs.lemmas.List.Sums.{sum_by-append, sum_by_push, sum_by_more_le, sum-map}
use Rattle.dependence_queue.specs.declared.access.Access.{Access}
use Rattle.dependence_queue.specs.declared.edge.Edge.{Edge}
use Rattle.dependence_queue.specs.Edges.{edge_between, is_edge, edges_from, has_edge, count_into, IsOrdered}
use Rattle.dependence_queue.proofs.EdgeLists.{edge_if_any, IsFrom, edges_from-none, edges_from-more, All-edges_from}

-- two lists in order, of which each item of the first goes before each of the second
AllPairs-append : {X : Type 0} (R : X → X → Type 0) (P Q : X → Type 0) (xs ys : List X) → AllPairs R xs → AllPairs R ys → All P xs → All Q ys
    → ((x y : X) → P x → Q y → R x y) → AllPairs R (xs ++ ys)
AllPairs-append R P Q xs ys first second ps qs apart i j d h k = elim (cases_lt j (length xs)) [
  | inl in_first ↦ (let before : i < length xs = omega arith in
      rw (get_or_append_left xs ys d i before, get_or_append_left xs ys d j in_first) (first i j d h in_first))
  | inr past ↦ (let within : j - length xs < length ys = omega (arith, length-append xs ys) in elim (cases_lt i (length xs)) [
    | inl before ↦ rw (get_or_append_left xs ys d i before, get_or-append_right xs ys (length xs) j d refl past) (apart _ _ (ps i d before) (qs (j - length xs) d within))
    | inr behind ↦ rw (get_or-append_right xs ys (length xs) i d refl behind, get_or-append_right xs ys (length xs) j d refl past)
        (second (i - length xs) (j - length xs) d (omega arith) within)
  ])
]

-- numbers from 1, with one more
range_more : (m : ℕ) → range_with_len 1 (suc m) ≡ range_with_len 1 m ++ suc m ∷ []
range_more m =
    let e : suc m ≡ m + 1 = omega arith in
    let h : map (λ (k : ℕ). k) (range_with_len 1 (m + 1)) ≡ map (λ (k : ℕ). k) (range_with_len 1 m) ++ suc m ∷ [] =
    map-range_with_len_more (λ (k : ℕ). k) 1 m (suc m) (omega arith) in
    ap (range_with_len 1) e ∙ (sym (map-id (range_with_len 1 (m + 1))) ∙ (h ∙ ap (λ (xs : List ℕ). xs ++ suc m ∷ []) (map-id (range_with_len 1 m))))

sum_range : (f : ℕ → ℕ) (m : ℕ) → sum (map f (range_with_len 1 (suc m))) ≡ sum (map f (range_with_len 1 m)) + f (suc m)
sum_range f m =
    ap (λ (xs : List ℕ). sum (map f xs)) (range_more m) ∙ (sum-map f (range_with_len 1 m ++ suc m ∷ [])
    ∙ (sum_by_push f (range_with_len 1 m) (suc m) ∙ ap (λ (k : ℕ). k + f (suc m)) (sym (sum-map f (range_with_len 1 m)))))

-- at most one edge has no pair
AllPairs-if_any : (b : Bool) (e : Edge) → AllPairs IsOrdered (cond b (e ∷ []) [])
AllPairs-if_any true e i j d h k = absurd (omega arith)
AllPairs-if_any false e i j d h k = absurd (omega arith)

module _ (accesses : ℕ → Access) where
  -- ---- the edges from one step

  All-if_any : (n s : ℕ) → All (λ e. (e.from ≡ s) × (e.to ≡ suc n)) (edge_if_any accesses s (suc n))
  unfolding edge_between
  All-if_any n s =
      let P : Edge → Type 0 = λ e. (e.from ≡ s) × (e.to ≡ suc n) in
      elim (cases_Bool (is_edge (edge_between accesses s (suc n)))) [
        | inl some ↦ rw some (All-cons P (edge_between accesses s (suc n)) [] (refl, refl) (All-nil P))
        | inr none ↦ rw none (All-nil P)
      ]

  sorted_from : (n s : ℕ) → AllPairs IsOrdered (edges_from accesses n s)
  sorted_from zero s = rw (edges_from-none accesses zero s (omega arith)) (λ i j d h k. absurd (omega arith))
  sorted_from (suc n) s = elim (cases_lt n s) [
    | inl past ↦ rw (edges_from-none accesses (suc n) s (omega arith)) (λ i j d h k. absurd (omega arith))
    | inr inside ↦ rw (edges_from-more accesses n s inside) (AllPairs-append IsOrdered (IsFrom accesses n s) (λ e. (e.from ≡ s) × (e.to ≡ suc n))
        (edges_from accesses n s) (edge_if_any accesses s (suc n)) (sorted_from n s)
        (AllPairs-if_any (is_edge (edge_between accesses s (suc n))) (edge_between accesses s (suc n)))
        (All-edges_from accesses n s) (All-if_any n s)
        (λ d e h k. inr (h.from ∙ sym k.0, omega (arith, h.within, k.1))))
  ]

  has_if_any : (s t : ℕ) → is_edge (edge_between accesses s t) ≡ true → has_edge (edge_if_any accesses s t) s t ≡ true
  unfolding edge_between
  has_if_any s t some = rw some (or_left (eqb s s && eqb t t) false (and_from (eqb s s) (eqb t t) (eq-eqb s s refl) (eq-eqb t t refl)))

  has_from : (n s t : ℕ) → s < t → t ≤ n → is_edge (edge_between accesses s t) ≡ true → has_edge (edges_from accesses n s) s t ≡ true
  has_from zero s t before within some = absurd (omega arith)
  has_from (suc n) s t before within some =
      rw (edges_from-more accesses n s (omega arith), list_any-append (λ e. eqb e.from s && eqb e.to t) (edges_from accesses n s) (edge_if_any accesses s (suc n)))
      (elim (cases_eq t (suc n)) [
        | inl last ↦ or_right (has_edge (edges_from accesses n s) s t) (has_edge (edge_if_any accesses s (suc n)) s t)
            (subst (λ r. has_edge (edge_if_any accesses s r) s t ≡ true) last (has_if_any s t some))
        | inr less ↦ or_left (has_edge (edges_from accesses n s) s t) (has_edge (edge_if_any accesses s (suc n)) s t) (has_from n s t before (omega arith) some)
      ])

  -- ---- the edges from the first m steps

  abbrev pub edges_upto : ℕ → ℕ → List Edge
  edges_upto n m = flat_map (edges_from accesses n) (range_with_len 1 m)

  pub edges_upto-more : (n m : ℕ) → edges_upto n (suc m) ≡ edges_upto n m ++ edges_from accesses n (suc m)
  edges_upto-more n m =
      ap (flat_map (edges_from accesses n)) (range_more m)
      ∙ (flat_map-append (edges_from accesses n) (range_with_len 1 m) (suc m ∷ [])
      ∙ ap (λ (es : List Edge). edges_upto n m ++ es) (append-nil (edges_from accesses n (suc m))))

  -- an edge from one of the first m steps, up to step n
  abbrev pub IsOf : ℕ → ℕ → Edge → Type 0
  IsOf n m e = (0 < e.from) × (e.from ≤ m) × IsFrom accesses n e.from e

  is_of : (n m : ℕ) (e : Edge) → IsFrom accesses n (suc m) e → IsOf n (suc m) e
  is_of n m e h = (
    omega (arith, h.from),
    omega (arith, h.from),
    record {
      from = refl;
      later = omega (arith, h.from, h.later);
      within = h.within;
      same = subst (λ s. e ≡ edge_between accesses s e.to) (sym h.from) h.same;
      some = h.some;
    },
  )

  pub All-upto : (n m : ℕ) → All (IsOf n m) (edges_upto n m)
  All-upto n zero = All-nil (IsOf n zero)
  All-upto n (suc m) = rw (edges_upto-more n m) (All-append (IsOf n (suc m)) (edges_upto n m) (edges_from accesses n (suc m))
      (All-weaker (IsOf n m) (IsOf n (suc m)) (λ e h. (h.0, omega (arith, h.1), h.2)) (edges_upto n m) (All-upto n m))
      (All-weaker (IsFrom accesses n (suc m)) (IsOf n (suc m)) (is_of n m) (edges_from accesses n (suc m)) (All-edges_from accesses n (suc m))))

  pub sorted_upto : (n m : ℕ) → AllPairs IsOrdered (edges_upto n m)
  sorted_upto n zero = λ i j d h k. absurd (omega arith)
  sorted_upto n (suc m) = rw (edges_upto-more n m) (AllPairs-append IsOrdered (IsOf n m) (IsFrom accesses n (suc m)) (edges_upto n m) (edges_from accesses n (suc m))
      (sorted_upto n m) (sorted_from n (suc m)) (All-upto n m) (All-edges_from accesses n (suc m))
      (λ d e h k. inl (omega (arith, h.1, k.from))))

  pub has_upto : (n m s t : ℕ) → 0 < s → s ≤ m → s < t → t ≤ n → is_edge (edge_between accesses s t) ≡ true → has_edge (edges_upto n m) s t ≡ true
  has_upto n zero s t first inside before within some = absurd (omega arith)
  has_upto n (suc m) s t first inside before within some =
      rw (edges_upto-more n m, list_any-append (λ e. eqb e.from s && eqb e.to t) (edges_upto n m) (edges_from accesses n (suc m)))
      (elim (cases_eq s (suc m)) [
        | inl last ↦ or_right (has_edge (edges_upto n m) s t) (has_edge (edges_from accesses n (suc m)) s t)
            (subst (λ r. has_edge (edges_from accesses n r) s t ≡ true) last (has_from n s t before within some))
        | inr less ↦ or_left (has_edge (edges_upto n m) s t) (has_edge (edges_from accesses n (suc m)) s t)
            (has_upto n m s t first (omega arith) before within some)
      ])

  -- what is had is such an edge
  pub had_upto : (n m s t : ℕ) → has_edge (edges_upto n m) s t ≡ true → (0 < s) × (s < t) × (t ≤ n) × (is_edge (edge_between accesses s t) ≡ true)
  had_upto n m s t h =
      let found = Any-from_list_any (λ (e : Edge). eqb e.from s && eqb e.to t) (edges_upto n m) h in
      let e : Edge = found.1 in
      let p = and_parts (eqb e.from s) (eqb e.to t) found.4 in
      let from : e.from ≡ s = eqb-true e.from s p.0 in
      let to : e.to ≡ t = eqb-true e.to t p.1 in
      let of : IsOf n m e = subst (IsOf n m) found.3 (All-upto n m found.0 e found.2) in
      let same : e ≡ edge_between accesses s t = subst (λ q. e ≡ edge_between accesses q t) from (subst (λ r. e ≡ edge_between accesses e.from r) to of.2.same) in
      (omega (arith, of.0), omega (arith, of.2.later), omega (arith, of.2.within), subst (λ (f : Edge). is_edge f ≡ true) same of.2.some)

  -- ---- how many go into a step

  -- an edge goes from s to t, up to step n
  abbrev pub goes : ℕ → ℕ → ℕ → Bool
  goes n s t = ltb s t && (leb t n && is_edge (edge_between accesses s t))

  count_if_any : (s r t : ℕ) → count_into (edge_if_any accesses s r) t ≡ cond (eqb r t && is_edge (edge_between accesses s r)) 1 0
  unfolding edge_between
  count_if_any s r t = elim (cases_Bool (is_edge (edge_between accesses s r))) [
    | inl some ↦ rw some (one (eqb r t))
    | inr none ↦ rw none (sym (none_of (eqb r t)))
  ]
    where
      one : (b : Bool) → 0 + cond b 1 0 ≡ cond (b && true) 1 0
      one true = omega arith
      one false = omega arith

      none_of : (b : Bool) → cond {A = ℕ} (b && false) 1 0 ≡ 0
      none_of true = refl
      none_of false = refl

  -- one step more
  goes-step : (n s t : ℕ) (b c : Bool) → s ≤ n → (t ≡ suc n → c ≡ b)
      → cond (ltb s t && (leb t n && b)) 1 0 + cond (eqb (suc n) t && c) 1 0 ≡ cond (ltb s t && (leb t (suc n) && b)) 1 0
  goes-step n s t b c inside same = elim (cases_eq t (suc n)) [
    | inl last ↦ rw (same last, eq-eqb (suc n) t (sym last), lt-ltb s t (omega arith), lt-leb t n (omega arith), le-leb t (suc n) (omega arith)) (now b)
    | inr other ↦ rw (ne_eqb (suc n) t (λ e. other (sym e))) (elim (cases_lt n t) [
      | inl past ↦ rw (lt-leb t n past, lt-leb t (suc n) (omega arith)) (none_of (ltb s t))
      | inr before ↦ rw (le-leb t n before, le-leb t (suc n) (omega arith)) (add-zero (cond (ltb s t && (true && b)) 1 0))
    ])
  ]
    where
      now : (d : Bool) → cond {A = ℕ} (true && (false && d)) 1 0 + cond (true && d) 1 0 ≡ cond (true && (true && d)) 1 0
      now true = omega arith
      now false = omega arith

      none_of : (d : Bool) → cond {A = ℕ} (d && (false && b)) 1 0 + 0 ≡ cond (d && (false && b)) 1 0
      none_of d = add-zero (cond {A = ℕ} (d && (false && b)) 1 0)

  pub count_from : (n s t : ℕ) → count_into (edges_from accesses n s) t ≡ cond (goes n s t) 1 0
  count_from zero s t = rw (edges_from-none accesses zero s (omega arith)) (elim (cases_lt s t) [
    | inl before ↦ rw (lt-leb t zero (omega arith)) (sym (nothing (ltb s t)))
    | inr past ↦ rw (le-ltb s t past) refl
  ])
    where
      nothing : (d : Bool) → cond {A = ℕ} (d && (false && is_edge (edge_between accesses s t))) 1 0 ≡ 0
      nothing true = refl
      nothing false = refl
  count_from (suc n) s t = elim (cases_lt n s) [
    | inl past ↦ rw (edges_from-none accesses (suc n) s (omega arith)) (elim (cases_lt s t) [
      | inl before ↦ rw (lt-leb t (suc n) (omega arith)) (sym (nothing (ltb s t)))
      | inr behind ↦ rw (le-ltb s t behind) refl
    ])
    | inr inside ↦ rw (
      edges_from-more accesses n s inside,
      sum_by-append (λ (e : Edge). cond (eqb e.to t) 1 0) (edges_from accesses n s) (edge_if_any accesses s (suc n)),
      count_from n s t,
      count_if_any s (suc n) t,
    )
        (goes-step n s t (is_edge (edge_between accesses s t)) (is_edge (edge_between accesses s (suc n))) inside
        (λ last. ap (λ (r : ℕ). is_edge (edge_between accesses s r)) (sym last)))
  ]
    where
      nothing : (d : Bool) → cond {A = ℕ} (d && (false && is_edge (edge_between accesses s t))) 1 0 ≡ 0
      nothing true = refl
      nothing false = refl

  pub count_upto : (n m t : ℕ) → count_into (edges_upto n m) t ≡ sum (map (λ s. cond (ltb 0 s && goes n s t) 1 0) (range_with_len 1 m))
  count_upto n zero t = refl
  count_upto n (suc m) t =
      let f : ℕ → ℕ = λ s. cond (ltb 0 s && goes n s t) 1 0 in
      let first : cond {A = ℕ} (goes n (suc m) t) 1 0 ≡ f (suc m) = rw (lt-ltb 0 (suc m) (omega arith)) refl in
      rw (
        edges_upto-more n m,
        sum_by-append (λ (e : Edge). cond (eqb e.to t) 1 0) (edges_upto n m) (edges_from accesses n (suc m)),
        count_upto n m t,
        count_from n (suc m) t,
      ) (ap (λ (k : ℕ). sum (map f (range_with_len 1 m)) + k) first ∙ sym (sum_range f m))

  -- each of the first m steps has at most one edge into a step
  pub count_upto-le : (n m t : ℕ) → count_into (edges_upto n m) t ≤ m
  count_upto-le n zero t = omega arith
  count_upto-le n (suc m) t =
      rw (edges_upto-more n m, sum_by-append (λ (e : Edge). cond (eqb e.to t) 1 0) (edges_upto n m) (edges_from accesses n (suc m)), count_from n (suc m) t)
      (omega (arith, count_upto-le n m t, at_most_one (goes n (suc m) t)))
    where
      at_most_one : (b : Bool) → cond {A = ℕ} b 1 0 ≤ 1
      at_most_one true = omega arith
      at_most_one false = omega arith

-- an edge that is had is counted
pub had-counted : (edges : List Edge) (s t : ℕ) → has_edge edges s t ≡ true → 0 < count_into edges t
had-counted edges s t h =
    let found = Any-from_list_any (λ (e : Edge). eqb e.from s && eqb e.to t) edges h in
    let p = and_parts (eqb found.1.from s) (eqb found.1.to t) found.4 in
    let into : cond {A = ℕ} (eqb found.1.to t) 1 0 ≡ 1 = rw p.1 refl in
    let here : get_or edges found.0 found.1 ≡ found.1 = found.3 in
    let least = sum_by_more_le (λ (e : Edge). cond (eqb e.to t) 1 0) edges found.0 found.1 found.2 in
    omega (arith, rw here at least, into)
