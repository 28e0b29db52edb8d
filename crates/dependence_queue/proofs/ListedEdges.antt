-- The edges of a list, as the laws of edges and chains state them.
use Rattle.std.proofs.Common.{◌≡◌, ℕ, ◌<◌, ◌≤◌, inl, inr, Bool, true, ltb, leb, List, length, map, sym, ◌∙◌, ap, arith}
use Rattle.std.specs.Prelude.{◌&&◌, All, AllPairs, sum}
use Rattle.std.specs.List.{range_with_len}
use Rattle.std.proofs.lemmas.Bool.{lt-ltb, ltb-true, le-leb, leb-true, and_parts, and_from}
use Rattle.std.proofs.lemmas.Bool.Decides.{same_from_decides}
use Rattle.std.proofs.lemmas.List.Elements.{All-weaker}
use Rattle.dependence_queue.specs.declared.access.Access.{Access}
use Rattle.dependence_queue.specs.declared.edge.Edge.{Edge}
use Rattle.dependence_queue.specs.Conflicts.{IsDirectEdge}
use Rattle.dependence_queue.specs.Edges.{access_at, edge_between, is_edge, edges_of, has_edge, joins, edge_number, count_into, HasItsKinds, IsOrdered}
use Rattle.dependence_queue.specs.Chains.{IsConflict, IsEdgeIn, Reaches}
use Rattle.dependence_queue.proofs.EdgeKinds.{flow_edge, flow-from_edge, anti_edge, anti-from_edge, output_edge, output-from_edge, direct_edge, is_edge-from_direct}
use Rattle.dependence_queue.proofs.EdgesOfLists.{IsOf, All-upto, sorted_upto, has_upto, had_upto, count_upto, count_upto-le, had-counted}
use Rattle.dependence_queue.proofs.ChainsOfEdges.{edge-upward, conflicts-from_edges, edges-from_conflicts, reaches-one, reaches-by}
use Rattle.dependence_queue.proofs.EdgesBetween.{conflict-comes_in}

module _ (accesses : List Access) where
  -- what a list of edges has
  pub had : (s t : ℕ) → has_edge (edges_of accesses) s t ≡ true
      → (0 < s) × (s < t) × (t ≤ length accesses) × (is_edge (edge_between (access_at accesses) s t) ≡ true)
  unfolding edges_of
  had s t h = had_upto (access_at accesses) (length accesses) (length accesses) s t h

  pub has : (s t : ℕ) → 0 < s → s < t → t ≤ length accesses → is_edge (edge_between (access_at accesses) s t) ≡ true
      → has_edge (edges_of accesses) s t ≡ true
  unfolding edges_of
  has s t first before within some = has_upto (access_at accesses) (length accesses) (length accesses) s t first (omega arith) before within some

  pub had-direct : (s t : ℕ) → has_edge (edges_of accesses) s t ≡ true → IsDirectEdge (access_at accesses) s t
  had-direct s t h = let e = had s t h in direct_edge (access_at accesses) s t e.1 e.3

  pub direct-has : (s t : ℕ) → 0 < s → t ≤ length accesses → IsDirectEdge (access_at accesses) s t → has_edge (edges_of accesses) s t ≡ true
  direct-has s t first within h = has s t first h.1 within (is_edge-from_direct (access_at accesses) s t h)

  pub had-joins : (s t : ℕ) → has_edge (edges_of accesses) s t ≡ joins accesses s t
  unfolding joins
  had-joins s t =
      let b : Bool = is_edge (edge_between (access_at accesses) s t) in
      let one : has_edge (edges_of accesses) s t ≡ true → ltb 0 s && (ltb s t && (leb t (length accesses) && b)) ≡ true =
      λ h. let e = had s t h in
      and_from (ltb 0 s) (ltb s t && (leb t (length accesses) && b)) (lt-ltb 0 s e.0)
      (and_from (ltb s t) (leb t (length accesses) && b) (lt-ltb s t e.1) (and_from (leb t (length accesses)) b (le-leb t (length accesses) e.2) e.3)) in
      let two : ltb 0 s && (ltb s t && (leb t (length accesses) && b)) ≡ true → has_edge (edges_of accesses) s t ≡ true =
      λ h.
      let p = and_parts (ltb 0 s) (ltb s t && (leb t (length accesses) && b)) h in
      let q = and_parts (ltb s t) (leb t (length accesses) && b) p.1 in
      let r = and_parts (leb t (length accesses)) b q.1 in
      has s t (ltb-true 0 s p.0) (ltb-true s t q.0) (leb-true t (length accesses) r.0) r.1 in
      same_from_decides {P = has_edge (edges_of accesses) s t ≡ true} (has_edge (edges_of accesses) s t) (ltb 0 s && (ltb s t && (leb t (length accesses) && b)))
      (λ h. h, λ h. h) (two, one)

  -- each edge of the list
  pub All-edges_of : All (IsOf (access_at accesses) (length accesses) (length accesses)) (edges_of accesses)
  unfolding edges_of
  All-edges_of = All-upto (access_at accesses) (length accesses) (length accesses)

  kinds_of : (e : Edge) → IsOf (access_at accesses) (length accesses) (length accesses) e → HasItsKinds (access_at accesses) e
  kinds_of e h =
      let between : Edge = edge_between (access_at accesses) e.from e.to in
      let flow : e.flow ≡ between.flow = ap (λ (d : Edge). d.flow) h.2.same in
      let anti : e.anti ≡ between.anti = ap (λ (d : Edge). d.anti) h.2.same in
      let output : e.output ≡ between.output = ap (λ (d : Edge). d.output) h.2.same in
      record {
        flow = (λ f. flow_edge (access_at accesses) e.from e.to h.2.later (sym flow ∙ f), λ f. flow ∙ flow-from_edge (access_at accesses) e.from e.to f);
        anti = (λ f. anti_edge (access_at accesses) e.from e.to h.2.later (sym anti ∙ f), λ f. anti ∙ anti-from_edge (access_at accesses) e.from e.to f);
        output = (λ f. output_edge (access_at accesses) e.from e.to h.2.later (sym output ∙ f), λ f. output ∙ output-from_edge (access_at accesses) e.from e.to f);
      }

  pub All-kinds : All (HasItsKinds (access_at accesses)) (edges_of accesses)
  All-kinds = All-weaker (IsOf (access_at accesses) (length accesses) (length accesses)) (HasItsKinds (access_at accesses)) kinds_of (edges_of accesses) All-edges_of

  pub All-steps : All (λ e. (0 < e.from) × (e.from < e.to) × (e.to ≤ length accesses)) (edges_of accesses)
  All-steps = All-weaker (IsOf (access_at accesses) (length accesses) (length accesses)) (λ e. (0 < e.from) × (e.from < e.to) × (e.to ≤ length accesses))
      (λ e h. (h.0, h.2.later, h.2.within)) (edges_of accesses) All-edges_of

  pub sorted : AllPairs IsOrdered (edges_of accesses)
  unfolding edges_of
  sorted = sorted_upto (access_at accesses) (length accesses) (length accesses)

  -- ---- chains

  pub edge_in-upward : (s t : ℕ) → IsEdgeIn (edges_of accesses) s t → s < t
  edge_in-upward s t h = (had s t h).1

  pub listed-conflicts : (s t : ℕ) → Reaches (IsEdgeIn (edges_of accesses)) s t → Reaches (IsConflict (access_at accesses)) s t
  listed-conflicts s t h = conflicts-from_edges (access_at accesses) s t (reaches-by (IsEdgeIn (edges_of accesses)) (IsDirectEdge (access_at accesses)) s t edge_in-upward
      (λ q r from to e. reaches-one (IsDirectEdge (access_at accesses)) q r (had-direct q r e)) s t (omega arith) (omega arith) h)

  pub conflicts-listed : (s t : ℕ) → 0 < s → t ≤ length accesses → Reaches (IsConflict (access_at accesses)) s t → Reaches (IsEdgeIn (edges_of accesses)) s t
  conflicts-listed s t first within h = reaches-by (IsDirectEdge (access_at accesses)) (IsEdgeIn (edges_of accesses)) 1 (length accesses) (edge-upward (access_at accesses))
      (λ q r from to e. reaches-one (IsEdgeIn (edges_of accesses)) q r (direct-has q r (omega arith) to e)) s t (omega arith) within
      (edges-from_conflicts (access_at accesses) s t h)

  -- ---- edges into a step

  pub counted : (t : ℕ) → count_into (edges_of accesses) t ≡ sum (map (λ s. edge_number accesses s t) (range_with_len 1 (length accesses)))
  unfolding edges_of joins
  counted t = count_upto (access_at accesses) (length accesses) (length accesses) t

  pub few_into : (t : ℕ) → count_into (edges_of accesses) t ≤ length accesses
  unfolding edges_of
  few_into t = count_upto-le (access_at accesses) (length accesses) (length accesses) t

  -- an edge into a step comes with each conflict of an earlier one
  pub conflict-counted : (s t : ℕ) → 0 < s → t ≤ length accesses → IsConflict (access_at accesses) s t → 0 < count_into (edges_of accesses) t
  conflict-counted s t first within h = elim (conflict-comes_in (access_at accesses) s t h.0 h.1) [
    | inl edge ↦ had-counted (edges_of accesses) s t (direct-has s t first within edge)
    | inr r ↦ had-counted (edges_of accesses) r.0 t (direct-has r.0 t (omega (arith, r.1)) within r.4)
  ]
