-- A range of length n in parts of length b, the last of which may be shorter: part p has the indices p * b + i with i below its length.
-- Cited by the sum over block tasks, where a block is a part of the rows and one of the columns, and by blocked storage.
use Rattle.std.proofs.Common.{◌≡◌, ◌≢◌, ℕ, zero, suc, min, ◌+◌, ◌*◌, ◌-◌, ◌/◌, ◌%◌, ◌<◌, ◌≤◌, inl, inr, refl, sym, ◌∙◌, ap, arith}
use Rattle.std.proofs.Math.Nat.{mod-lt, mul-le-mul_right, div-mul-le_self}
use Rattle.std.specs.Int.{div_ceil}
use Rattle.std.proofs.lemmas.Grind.{div_ceil_times}
use Rattle.std.proofs.lemmas.Nat.{div-add-mod', div-mul-add, mod-mul-add}
use Rattle.std.proofs.lemmas.Bool.{cases_lt, cases_order}
use Rattle.residue_sums.specs.Sums.{sum_below, part_count, part_length, part_sum}
use Rattle.residue_sums.proofs.Sums.{sum_below-same, sum_below-scale, sum_below-split, sum_below-only}

module _ (n b : ℕ) where
  -- the part that an index is in
  pub part_of_index : (p i : ℕ) → i < part_length n b p → (p * b + i) / b ≡ p
  part_of_index p i h = div-mul-add p b i (omega arith)

  -- the place that an index has in its part
  pub place_of_index : (p i : ℕ) → i < part_length n b p → (p * b + i) % b ≡ i
  place_of_index p i h = mod-mul-add p b i (omega arith)

  -- an index of a part is an index of the range
  pub index_below : (p i : ℕ) → i < part_length n b p → p * b + i < n
  index_below p i h = omega arith

  -- each index of the range is at its place in its part
  pub index_from_place : (k : ℕ) → 0 < b → k < n → (k / b * b + k % b ≡ k) × (k % b < part_length n b (k / b))
  index_from_place k pos below =
      let whole : k / b * b + k % b ≡ k = div-add-mod' k b in
      let place : k % b < b = mod-lt k pos in
      (whole, omega arith)

  -- the parts cover the range
  pub part_count_covers : 0 < b → n ≤ part_count n b * b
  part_count_covers pos =
      let whole : (n + b - 1) / b * b + (n + b - 1) % b ≡ n + b - 1 = div-add-mod' (n + b - 1) b in
      let place : (n + b - 1) % b < b = mod-lt (n + b - 1) pos in
      omega arith

  -- the number of parts, as `div_ceil` computes it
  pub div_ceil_is_part_count : 0 < b → div_ceil n b ≡ part_count n b
  div_ceil_is_part_count pos = elim (cases_order (div_ceil n b) (part_count n b)) [
    | inl same ↦ same
    | inr (inl less) ↦ absurd (too_few (div_ceil n b) (part_count n b) less (div_ceil_times n b pos).0 no_more)
    | inr (inr more) ↦ absurd (too_few (part_count n b) (div_ceil n b) more (part_count_covers pos) (div_ceil_times n b pos).1)
  ]
    where
      no_more : part_count n b * b < n + b
      no_more = omega (arith, div-mul-le_self (n + b - 1) b)

      too_few : (c d : ℕ) → c < d → n ≤ c * b → d * b < n + b → ⊥
      too_few c d less covers least = omega (arith, mul-le-mul_right {m = suc c} {n = d} b less)

  -- the part of an index is one of the parts
  pub part_below_count : (k : ℕ) → 0 < b → k < n → k / b < part_count n b
  part_below_count k pos below = elim (cases_lt (k / b) (part_count n b)) [
    | inl less ↦ less
    | inr not_less ↦
        let whole : k / b * b + k % b ≡ k = div-add-mod' k b in
        let past : part_count n b * b ≤ k / b * b = mul-le-mul_right {m = part_count n b} {n = k / b} b not_less in
        absurd (omega (arith, part_count_covers pos))
  ]

  -- part c added to a sum that reaches as far as c parts do
  part_more : (f : ℕ → ℕ) (c s : ℕ) → s ≡ sum_below f (min (c * b) n) → s + part_sum n b f c ≡ sum_below f (min (suc c * b) n)
  part_more f c s so_far = elim (cases_lt n (c * b)) [ inl past ↦ outside past | inr within ↦ inside within ]
    where
      inside : c * b ≤ n → s + part_sum n b f c ≡ sum_below f (min (suc c * b) n)
      inside within =
          let before : min (c * b) n ≡ c * b = omega arith in
          let after : min (suc c * b) n ≡ c * b + part_length n b c = omega arith in
          omega (arith, so_far, ap (sum_below f) before, ap (sum_below f) after, sum_below-split f (c * b) (part_length n b c))

      outside : n < c * b → s + part_sum n b f c ≡ sum_below f (min (suc c * b) n)
      outside past =
          let before : min (c * b) n ≡ min (suc c * b) n = omega arith in
          let none : part_length n b c ≡ 0 = omega arith in
          omega (arith, so_far, ap (sum_below f) before, ap (sum_below (λ i. f (c * b + i))) none)

  -- the sums over the first c parts add up to the sum as far as they reach
  sum_first_parts : (f : ℕ → ℕ) (c : ℕ) → sum_below (part_sum n b f) c ≡ sum_below f (min (c * b) n)
  sum_first_parts f zero = let none : min (0 * b) n ≡ 0 = omega arith in ap (sum_below f) (sym none)
  sum_first_parts f (suc c) = part_more f c (sum_below (part_sum n b f) c) (sum_first_parts f c)

  -- a sum part by part, over c parts that cover the range
  pub sum_below-part_sum : (f : ℕ → ℕ) (c : ℕ) → n ≤ c * b → sum_below (part_sum n b f) c ≡ sum_below f n
  sum_below-part_sum f c covers = sum_first_parts f c ∙ ap (sum_below f) (omega arith)

  -- a sum part by part, over all parts
  pub sum_below-all_parts : (f : ℕ → ℕ) → 0 < b → sum_below (part_sum n b f) (part_count n b) ≡ sum_below f n
  sum_below-all_parts f pos = sum_below-part_sum f (part_count n b) (part_count_covers pos)

  -- sums over a part whose terms are equal are equal
  pub part_sum-same : (f g : ℕ → ℕ) (p : ℕ) → ((k : ℕ) → k < n → f k ≡ g k) → part_sum n b f p ≡ part_sum n b g p
  part_sum-same f g p each = sum_below-same (λ i. f (p * b + i)) (λ i. g (p * b + i)) (part_length n b p) (λ i h. each (p * b + i) (index_below p i h))

  -- a sum over the range in which the terms of part q are marked by 1, and those of the other parts by 0, is that over part q
  pub sum_below-marked_part : (q : ℕ) (f mark : ℕ → ℕ) → 0 < b → q < part_count n b → mark q ≡ 1 → ((p : ℕ) → p ≢ q → mark p ≡ 0)
      → sum_below (λ k. mark (k / b) * f k) n ≡ part_sum n b f q
  sum_below-marked_part q f mark pos below one others =
      sym (sum_below-all_parts (λ k. mark (k / b) * f k) pos)
      ∙ sum_below-only (part_sum n b (λ k. mark (k / b) * f k)) (part_count n b) q below (λ p h ne. marked p ∙ (rw (others p ne) (omega arith)))
      ∙ marked q ∙ (rw one (omega arith))
    where
      marked : (p : ℕ) → part_sum n b (λ k. mark (k / b) * f k) p ≡ mark p * part_sum n b f p
      marked p =
          sum_below-same (λ i. mark ((p * b + i) / b) * f (p * b + i)) (λ i. mark p * f (p * b + i)) (part_length n b p)
          (λ i h. rw (part_of_index p i h) refl)
          ∙ sum_below-scale (mark p) (λ i. f (p * b + i)) (part_length n b p)
