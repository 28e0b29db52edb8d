-- Sums of products of runs of numbers, and what is left of an entry without them. Cited by the kernels that factor by panels.
use Rattle.std.proofs.Common.{◌≡◌, ℕ, min, inl, inr, ◌+◌, ◌-◌, ◌*◌, ◌/◌, ◌%◌, ◌^◌, ◌<◌, ◌≤◌, List, get_or, take, ap, refl, arith, get_or-take}
use Rattle.std.proofs.lemmas.Nat.{div-add-mod'}
use Rattle.std.proofs.lemmas.Bool.{cases_eq}
use Rattle.residue_sums.specs.Residues.{Cong}
use Rattle.residue_sums.specs.Sums.{sum_below}
use Rattle.residue_sums.specs.Tables.{Table}
use Rattle.residue_sums.proofs.Congruence.{Cong-add, Cong-by, Cong-scale, Cong-sym, Cong-trans, Cong-from_same, Cong-from_mod, Cong-from_difference, mod_from_Cong}
use Rattle.residue_sums.proofs.Sums.{sum_below-same}
use Rattle.part_factors.specs.PanelRows.{AreSolved}

-- a sum in two halves, reduced: top is the residue of what it has above its low 32 bits
pub halves_reduced : {m top r : ℕ} (low high s : ℕ) → low + 2 ^ 32 * high ≡ s → top ≡ (high + low / 2 ^ 32) % m → r ≡ (top * 2 ^ 32 + low % 2 ^ 32) % m → r < m → r ≡ s % m
halves_reduced {m} low high s sum top_is r_is small =
    mod_from_Cong small (Cong-by (Cong-add (Cong-from_mod r_is) (Cong-scale (2 ^ 32) (Cong-from_mod top_is))) (omega (arith, div-add-mod' low (2 ^ 32))))

-- products of the first numbers of a run
pub sum_taken : (xs ys : List ℕ) (n : ℕ) → sum_below (λ k. get_or (take n xs) k 0 * get_or ys k 0) n ≡ sum_below (λ k. get_or xs k 0 * get_or ys k 0) n
sum_taken xs ys n = sum_below-same (λ k. get_or (take n xs) k 0 * get_or ys k 0) (λ k. get_or xs k 0 * get_or ys k 0) n (λ k below. rw get_or-take refl)

-- two sums are subtracted from r
pub two_subtracted : {m r sum more first rest : ℕ} (s : ℕ) → sum < m → more < m → more ≡ s % m → first ≡ (r + m - sum) % m → rest ≡ (first + m - more) % m → Cong m (sum + s + rest) r
two_subtracted {m} {r} {sum} {more} {first} {rest} s sum_small more_small more_is first_is rest_is =
    let one : Cong m (first + sum) r = Cong-from_difference sum (r + m - sum) first_is (omega arith) in
    let two : Cong m (rest + more) first = Cong-from_difference more (first + m - more) rest_is (omega arith) in
    Cong-by (Cong-add (Cong-add one two) (Cong-sym (Cong-from_mod more_is))) (omega arith)

-- entries before the one that is written
sum_before : (values values' : ℕ → ℕ) (lines : ℕ → ℕ) (n j : ℕ) → n ≤ j → ((k : ℕ) → k < j → values' k ≡ values k)
    → sum_below (λ k. values' k * lines k) n ≡ sum_below (λ k. values k * lines k) n
sum_before values values' lines n j order kept = sum_below-same (λ k. values' k * lines k) (λ k. values k * lines k) n (λ k below. ap (λ (v : ℕ). v * lines k) (kept k (omega arith)))

module _ (m : ℕ) (right sums inverses : ℕ → ℕ) (lines : Table) (known : ℕ) (values values' : ℕ → ℕ) (j : ℕ) where
  -- the next entry: rest is what the right side leaves without the sum and the products
  pub AreSolved-more : (rest : ℕ) → ((k : ℕ) → k < j → values' k ≡ values k) → Cong m (sums j + sum_below (λ k. values k * lines j k) (min j known) + rest) (right j)
      → (j < known → values' j ≡ (rest * inverses j) % m) → (known ≤ j → values' j ≡ rest)
      → AreSolved m right sums inverses lines known j values → AreSolved m right sums inverses lines known (j + 1) values'
  AreSolved-more rest kept equation divided plain so_far = record {
    below = λ i p up within inverts. elim (cases_eq i j) [
      | inl same ↦ rw same (below_here p (omega arith) (rw same at inverts))
      | inr apart ↦ rw (sum_before values values' (lines i) i j (omega arith) kept, kept i (omega arith)) (so_far.below i p (omega arith) within inverts)
    ];
    above = λ i up past. elim (cases_eq i j) [
      | inl same ↦ rw same (above_here (omega arith))
      | inr apart ↦ rw (sum_before values values' (lines i) known j (omega arith) kept, kept i (omega arith)) (so_far.above i (omega arith) past)
    ];
  }
    where
      below_here : (p : ℕ) → j < known → Cong m (p * inverses j) 1 → Cong m (sums j + sum_below (λ k. values' k * lines j k) j + p * values' j) (right j)
      below_here p within inverts =
          let all : min j known ≡ j = omega arith in
          let held : Cong m (sums j + sum_below (λ k. values k * lines j k) j + rest) (right j) = rw all at equation in
          let quotient : Cong m (p * values' j) rest = Cong-trans (Cong-scale p (Cong-from_mod (divided within))) (Cong-by (Cong-scale rest inverts) (omega arith)) in
          rw (sum_before values values' (lines j) j j (omega arith) kept) (Cong-trans (Cong-by quotient (omega arith)) held)

      above_here : known ≤ j → Cong m (sums j + sum_below (λ k. values' k * lines j k) known + values' j) (right j)
      above_here past =
          let all : min j known ≡ known = omega arith in
          let held : Cong m (sums j + sum_below (λ k. values k * lines j k) known + rest) (right j) = rw all at equation in
          rw (sum_before values values' (lines j) known j past kept, plain past) held

-- an equation over a line that was taken out of the panel
pub over_lines : {m sum' n' r : ℕ} (rest sum n : ℕ) (values line lines : ℕ → ℕ) → sum' ≡ sum → n' ≡ n → ((k : ℕ) → k < n → line k ≡ lines k)
    → Cong m (sum' + sum_below (λ k. values k * line k) n' + rest) r → Cong m (sum + sum_below (λ k. values k * lines k) n + rest) r
over_lines {m} {sum'} {n'} {r} rest sum n values line lines sums sizes each h =
    let same : sum_below (λ k. values k * line k) n ≡ sum_below (λ k. values k * lines k) n = sum_below-same (λ k. values k * line k) (λ k. values k * lines k) n (λ k below. ap (λ (v : ℕ). values k * v) (each k below)) in
    rw (← same) (rw (sums, sizes) at h)

-- the same with other names for what is given, and with sums that are congruent
pub AreSolved-renamed : {m known' count' : ℕ} {right' sums' inverses' values : ℕ → ℕ} (right sums inverses : ℕ → ℕ) (lines : Table) (known count : ℕ) → known' ≡ known → count' ≡ count
    → ((j : ℕ) → j < count → right' j ≡ right j) → ((j : ℕ) → j < count → Cong m (sums' j) (sums j)) → ((j : ℕ) → j < known → inverses' j ≡ inverses j)
    → AreSolved m right' sums' inverses' lines known' count' values → AreSolved m right sums inverses lines known count values
AreSolved-renamed {m} {known'} {count'} {right'} {sums'} {inverses'} {values} right sums inverses lines known count knowns counts rights sums_are inverses_are h = record {
  below = λ j p up within inverts. rw (← rights j up) (Cong-trans (Cong-by (Cong-sym (sums_are j up)) (omega arith))
      (h.below j p (omega arith) (omega arith) (rw (inverses_are j within) inverts)));
  above = λ j up past. rw (← rights j up) (Cong-trans (Cong-by (Cong-sym (sums_are j up)) (omega arith)) (above j up past));
}
  where
    above : (j : ℕ) → j < count → known ≤ j → Cong m (sums' j + sum_below (λ k. values k * lines j k) known + values j) (right' j)
    above j up past = rw knowns at (h.above j (omega arith) (omega arith))

-- a sum over the first numbers of a run, reduced
pub sum_over_taken : {m s n' : ℕ} (xs : List ℕ) (line : ℕ → ℕ) (n : ℕ) → n' ≡ n → s ≡ sum_below (λ k. get_or (take n xs) k 0 * line k) n' % m
    → Cong m s (sum_below (λ k. get_or xs k 0 * line k) n)
sum_over_taken {m} {s} {n'} xs line n sizes e =
    let taken : sum_below (λ k. get_or (take n xs) k 0 * line k) n ≡ sum_below (λ k. get_or xs k 0 * line k) n =
    sum_below-same (λ k. get_or (take n xs) k 0 * line k) (λ k. get_or xs k 0 * line k) n (λ k below. rw get_or-take refl) in
    Cong-trans (Cong-from_mod (rw sizes at e)) (Cong-from_same taken)
