-- How often numbers stand in a list, and how long a list of different steps is.
use Rattle.std.proofs.Common.{◌≡◌, ◌≢◌, ℕ, zero, suc, ◌+◌, ◌-◌, ◌*◌, ◌<◌, ◌≤◌, List, [], ◌∷◌, ◌++◌, length, refl, sym, arith}
use Rattle.std.proofs.lemmas.Bool.Decides.{nat_tests}
use Rattle.residue_sums.specs.Sums.{sum_below}
use Rattle.residue_sums.proofs.Sums.{sum_below-add, sum_below-le, sum_below-only, sum_below-zero}
use Rattle.ready_queue.specs.PassViews.{same, times, IsStepNumber}

pub same-eq : (a b : ℕ) → a ≡ b → same a b ≡ 1
unfolding same
same-eq a b e = grind (arith, nat_tests)

pub same-ne : (a b : ℕ) → a ≢ b → same a b ≡ 0
unfolding same
same-ne a b ne = grind (arith, nat_tests)

-- one more at the end
pub times-push : (t : ℕ) (us : List ℕ) (u : ℕ) → times t (us ++ u ∷ []) ≡ times t us + same u t
times-push t [] u = omega arith
times-push t (x ∷ us) u = omega (arith, times-push t us u)

-- a list of steps is as long as the steps stand in it together
length-times : (steps : ℕ) (us : List ℕ) → ((t : ℕ) → 0 < times t us → IsStepNumber steps t) → length us ≡ sum_below (λ i. times (suc i) us) steps
length-times steps [] real = sym (sum_below-zero (λ i. 0) steps (λ i p. refl))
length-times steps (u ∷ us) real =
    let is : IsStepNumber steps u = real u (omega (arith, same-eq u u refl)) in
    let here : sum_below (λ i. same u (suc i)) steps ≡ same u (suc (u - 1)) =
    sum_below-only (λ i. same u (suc i)) steps (u - 1) (omega (arith, is.0, is.1)) (λ i p ne. same-ne u (suc i) (λ e. ne (omega arith))) in
    omega (arith, here, same-eq u (suc (u - 1)) (omega (arith, is.0)), length-times steps us (λ t h. real t (omega arith)), sum_below-add (λ i. same u (suc i)) (λ i. times (suc i) us) steps)

-- so there are at most as many different ones as there are steps
pub length-steps : (steps : ℕ) (us : List ℕ) → ((t : ℕ) → 0 < times t us → IsStepNumber steps t) → ((t : ℕ) → times t us ≤ 1) → length us ≤ steps
length-steps steps us real once = omega (arith, length-times steps us real, sum_below-le (λ i. times (suc i) us) steps 1 (λ i p. once (suc i)))

pub mul-some : (n k : ℕ) → 0 < k → n ≤ n * k
mul-some n zero h = absurd (omega arith)
mul-some n (suc k) h = omega arith
