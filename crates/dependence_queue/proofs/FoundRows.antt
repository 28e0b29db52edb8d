-- The rows of all steps, one behind the other, are the edges of the list.
use Rattle.std.proofs.Common.{◌≡◌, ℕ, suc, ◌+◌, ◌<◌, ◌≤◌, List, [], ◌∷◌, ◌++◌, length, map, get_or, replicate, refl, sym, ◌∙◌, ap, arith}
use Rattle.std.specs.List.{flat_map, range_with_len}
use Rattle.std.proofs.lemmas.List.{same_lists, get_or_default, get_or-replicate, length-replicate}
use Rattle.std.proofs.lemmas.List.Elements.{All-weaker}
use Rattle.std.proofs.lemmas.List.FromFn.{length-map-range_with_len, get_or-map-range_with_len}
use Rattle.dependence_queue.specs.declared.access.Access.{Access}
use Rattle.dependence_queue.specs.declared.edge.Edge.{Edge}
use Rattle.dependence_queue.specs.Edges.{access_at, edges_from, edges_of}
use Rattle.dependence_queue.specs.Indexes.{AreRowsFrom}
use Rattle.dependence_queue.specs.Uses.{AreRows}
use Rattle.dependence_queue.proofs.EdgeLists.{IsFrom, edges_from-none, All-edges_from}

module _ (accesses : ℕ → Access) where
  -- before the first step
  pub rows-none : (n : ℕ) (rows : List (List Edge)) → rows ≡ replicate n [] → AreRows accesses 0 rows
  rows-none n rows e = record { each = each }
    where
      each : (j : ℕ) → j < length rows → get_or rows j [] ≡ edges_from accesses 0 (suc j)
      each j below = rw e (get_or-replicate n j [] [] (omega (arith, below, ap length e, length-replicate {A = List Edge} n []))) ∙ sym (edges_from-none accesses 0 (suc j) (omega arith))

  -- after the last
  pub rows-all : (n : ℕ) (rows : List (List Edge)) → length rows ≡ n → AreRows accesses n rows → rows ≡ map (edges_from accesses n) (range_with_len 1 n)
  rows-all n rows long h = same_lists rows (map (edges_from accesses n) (range_with_len 1 n)) (long ∙ sym (length-map-range_with_len (edges_from accesses n) 1 n))
      (λ k d below. get_or_default rows k d [] below ∙ (h.each k below
      ∙ sym (get_or-map-range_with_len (edges_from accesses n) 1 n k (suc k) d (omega (arith, below, long)) (omega arith))))

  pub rows-from : (n : ℕ) → AreRowsFrom 1 (length (map (edges_from accesses n) (range_with_len 1 n))) (map (edges_from accesses n) (range_with_len 1 n))
  rows-from n j below =
      let long : length (map (edges_from accesses n) (range_with_len 1 n)) ≡ n = length-map-range_with_len (edges_from accesses n) 1 n in
      rw (long, get_or-map-range_with_len (edges_from accesses n) 1 n j (suc j) [] (omega (arith, below, long)) (omega arith))
      (All-weaker (IsFrom accesses n (suc j)) (λ e. (e.from ≡ 1 + j) × (e.to ≤ n)) (λ e is. (omega (arith, is.from), is.within)) (edges_from accesses n (suc j)) (All-edges_from accesses n (suc j)))

laid-map : (f : ℕ → List Edge) (xs : List ℕ) → flat_map (λ row. row) (map f xs) ≡ flat_map f xs
laid-map f [] = refl
laid-map f (x ∷ xs) = ap (λ (es : List Edge). f x ++ es) (laid-map f xs)

pub laid-edges_of : (accesses : List Access) → flat_map (λ row. row) (map (edges_from (access_at accesses) (length accesses)) (range_with_len 1 (length accesses))) ≡ edges_of accesses
unfolding edges_of
laid-edges_of accesses = laid-map (edges_from (access_at accesses) (length accesses)) (range_with_len 1 (length accesses))
