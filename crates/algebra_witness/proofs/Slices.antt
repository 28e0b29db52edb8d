-- The sum of a part of a slice, as a sum over the whole slice's indices.
use Rattle.std.proofs.Common.{◌≡◌, ℕ, ◌+◌, ◌<◌, ◌≤◌, List, length, take, drop, slice_index, refl, ◌∙◌, ap, arith, length-take, length-drop, get_or-take, get_or-drop}
use Rattle.residue_sums.specs.Sums.{sum_below}
use Rattle.residue_sums.proofs.Sums.{sum_below-same}

-- the sum of the k elements from the place start on, of which a slice takes e
pub sum_below-slice : (xs : List ℕ) (start e k : ℕ) → e ≡ k → start + k ≤ length xs
    → sum_below (slice_index (take e (drop start xs))) (length (take e (drop start xs))) ≡ sum_below (λ i. slice_index xs (start + i)) k
sum_below-slice xs start e k same fits =
    let count : length (take e (drop start xs)) ≡ k = simp (length-take, length-drop) (omega arith) in
    ap (sum_below (slice_index (take e (drop start xs)))) count
    ∙ sum_below-same (slice_index (take e (drop start xs))) (λ i. slice_index xs (start + i)) k
    (λ i h. let inside : i < e = omega arith in rw (get_or-take, get_or-drop) refl)
