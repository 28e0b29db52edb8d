-- The lists of edges: what stands in the edges from one step, and in those of all steps; their order; how many go into a step.
use Rattle.std.proofs.Common.{◌≡◌, ℕ, zero, suc, ◌+◌, ◌-◌, ◌<◌, ◌≤◌, inl, inr, true, cond, List, [], ◌∷◌, ◌++◌, refl, arith}
use Rattle.std.specs.Prelude.{All}
use Rattle.std.proofs.lemmas.Bool.{cases_lt, cases_Bool}
use Rattle.std.proofs.lemmas.List.Elements.{All-nil, All-cons, All-append, All-weaker}
use Rattle.std.proofs.lemmas.List.FromFn.{filter_of_map_range_with_len_more}
use Rattle.dependence_queue.specs.declared.access.Access.{Access}
use Rattle.dependence_queue.specs.declared.edge.Edge.{Edge}
use Rattle.dependence_queue.specs.Edges.{edge_between, is_edge, edges_from}

-- ---- the edges from one step

-- the edge from s to t as a list, empty where there is none
abbrev pub edge_if_any : (ℕ → Access) → ℕ → ℕ → List Edge
edge_if_any accesses s t = cond (is_edge (edge_between accesses s t)) (edge_between accesses s t ∷ []) []

-- e is the edge between step s and a later one, up to step n
pub record IsFrom (accesses : ℕ → Access) (n s : ℕ) (e : Edge) : Type 0 where
  pub from : e.from ≡ s
  pub later : s < e.to
  pub within : e.to ≤ n
  pub same : e ≡ edge_between accesses s e.to
  pub some : is_edge e ≡ true

module _ (accesses : ℕ → Access) where
  pub edges_from-none : (n s : ℕ) → n ≤ s → edges_from accesses n s ≡ []
  unfolding edges_from
  edges_from-none n s past = let e : n - s ≡ 0 = omega arith in rw e refl

  pub edges_from-more : (n s : ℕ) → s ≤ n → edges_from accesses (suc n) s ≡ edges_from accesses n s ++ edge_if_any accesses s (suc n)
  unfolding edges_from
  edges_from-more n s inside =
      let e : suc n - s ≡ (n - s) + 1 = omega arith in
      rw e (filter_of_map_range_with_len_more is_edge (edge_between accesses s) (s + 1) (n - s) (suc n) (omega arith))

  is_from-between : (n s : ℕ) → s < suc n → is_edge (edge_between accesses s (suc n)) ≡ true → IsFrom accesses (suc n) s (edge_between accesses s (suc n))
  unfolding edge_between
  is_from-between n s before some = record { from = refl; later = before; within = omega arith; same = refl; some = some }

  All-edge_if_any : (n s : ℕ) → s < suc n → All (IsFrom accesses (suc n) s) (edge_if_any accesses s (suc n))
  All-edge_if_any n s before = elim (cases_Bool (is_edge (edge_between accesses s (suc n)))) [
    | inl some ↦ rw some (All-cons (IsFrom accesses (suc n) s) (edge_between accesses s (suc n)) [] (is_from-between n s before some) (All-nil (IsFrom accesses (suc n) s)))
    | inr none ↦ rw none (All-nil (IsFrom accesses (suc n) s))
  ]

  -- what the edges from a step are
  pub All-edges_from : (n s : ℕ) → All (IsFrom accesses n s) (edges_from accesses n s)
  All-edges_from zero s = rw (edges_from-none zero s (omega arith)) (All-nil (IsFrom accesses zero s))
  All-edges_from (suc n) s = elim (cases_lt n s) [
    | inl past ↦ rw (edges_from-none (suc n) s (omega arith)) (All-nil (IsFrom accesses (suc n) s))
    | inr inside ↦ rw (edges_from-more n s inside) (All-append (IsFrom accesses (suc n) s) (edges_from accesses n s) (edge_if_any accesses s (suc n))
        (All-weaker (IsFrom accesses n s) (IsFrom accesses (suc n) s)
        (λ e h. record { from = h.from; later = h.later; within = omega (arith, h.within); same = h.same; some = h.some })
        (edges_from accesses n s) (All-edges_from n s))
        (All-edge_if_any n s (omega arith)))
  ]
