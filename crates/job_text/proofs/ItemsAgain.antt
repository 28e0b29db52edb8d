-- Items of lists, pairs of them, and numbers that differ. Cited by what shows that the lines of a job are read as the job.
use Rattle.std.proofs.Common.{◌≡◌, ◌≢◌, ℕ, suc, ◌<◌, false, not, ◌==◌, List, [], ◌∷◌, ◌++◌, length, map, All, AllPairs, refl, sym, subst, arith, length-append}
use Rattle.std.proofs.lemmas.Bool.{ne_eqb, not_from_true, not_from_false}
use Rattle.std.proofs.lemmas.List.{get_or_append_left, get_or_at}
use Rattle.std.proofs.lemmas.List.Elements.{All-head, All-map}
use Rattle.std.proofs.lemmas.List.Kept.{AllPairs-cons}
use Rattle.std.proofs.lemmas.List.Sums.{list_all-from_AllPass}
use Rattle.operation_spec.proofs.ListParts.{All-behind}
use Rattle.operation_spec.proofs.NamesApart.{pairs_behind}
use Rattle.job_text.specs.JobFaults.{has_number}

-- the item behind some of a list
pub All-at : {X : Type 0} (P : X → Type 0) (xs : List X) (y : X) (ys all : List X) → xs ++ y ∷ ys ≡ all → All P all → P y
All-at P xs y ys all parts each = All-head P y ys (All-behind P xs (y ∷ ys) (subst (All P) (sym parts) each))

-- each item before another
pub AllPairs-before : {X : Type 0} (R : X → X → Type 0) (xs : List X) (y : X) (ys all : List X) → xs ++ y ∷ ys ≡ all → AllPairs R all → All (λ x. R x y) xs
AllPairs-before R xs y ys all parts pairs k d below =
    let within : length xs < length (xs ++ y ∷ ys) = omega (arith, length-append xs (y ∷ ys)) in
    let here = (subst (AllPairs R) (sym parts) pairs) k (length xs) d below within in
    rw (get_or_append_left xs (y ∷ ys) d k below, get_or_at xs y ys d (length xs) refl) at here

-- an image keeps what pairs have
pub AllPairs-map : {X Y : Type 0} (R : Y → Y → Type 0) (f : X → Y) (xs : List X) → AllPairs (λ a b. R (f a) (f b)) xs → AllPairs R (map f xs)
AllPairs-map R f [] pairs = λ i j d before below. absurd (omega arith)
AllPairs-map {X} R f (x ∷ xs) pairs =
    let S : X → X → Type 0 = λ a b. R (f a) (f b) in
    let first : All (λ a. R (f x) (f a)) xs = λ k d below. pairs 0 (suc k) d (omega arith) (omega arith) in
    AllPairs-cons R (f x) (map f xs) (All-map (R (f x)) f xs first) (AllPairs-map R f xs (pairs_behind S x xs pairs))

-- a number that others differ from isn't among them
pub has_number-none : (ks : List ℕ) (n : ℕ) → All (λ k. k ≢ n) ks → has_number ks n ≡ false
has_number-none ks n others = not_from_true _ (list_all-from_AllPass (λ k. not (k == n)) ks (λ k d below. not_from_false _ (ne_eqb _ n (others k d below))))
