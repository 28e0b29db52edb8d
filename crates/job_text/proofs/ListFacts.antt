-- What holds of all elements of lists. Cited by the laws of job texts.
use Rattle.std.proofs.Common.{◌≡◌, ◌≢◌, ℕ, false, not, ◌==◌, List, get_or, map, All, subst, arith}
use Rattle.std.specs.List.{list_all}
use Rattle.std.proofs.lemmas.Bool.{eqb-false, not-false, not-true}
use Rattle.std.proofs.lemmas.List.{length-map, get_or-map}
use Rattle.std.proofs.lemmas.List.Sums.{AllPass-from_list_all}
use Rattle.job_text.specs.JobFaults.{has_number}

-- what holds of all images holds of what they are the images of
pub All-from_map : {X Y : Type 0} (P : Y → Type 0) (f : X → Y) (xs : List X) → All P (map f xs) → All (λ x. P (f x)) xs
All-from_map P f xs all k d below = subst P (get_or-map f xs k d (f d) below) (all k (f d) (omega (arith, length-map xs f)))

-- a number that isn't among others is none of them
pub not_among : (numbers : List ℕ) (n : ℕ) → has_number numbers n ≡ false → All (λ k. k ≢ n) numbers
not_among numbers n e =
    let test = λ (k : ℕ). not (k == n) in
    let apart = AllPass-from_list_all test numbers (not-false (list_all test numbers) e) in
    λ k d below. eqb-false (get_or numbers k d) n (not-true (get_or numbers k d == n) (apart k d below))
