-- Names that are all different: each is found under its own number, and a name that isn't among them under none. Cited by
-- what reads dimensions, operands and equations.
use Rattle.std.proofs.Common.{◌≡◌, ◌≢◌, ℕ, suc, ◌<◌, true, false, not, List, [], ◌∷◌, length, get_or, refl, sym, arith}
use Rattle.std.specs.Prelude.{All, AllPairs}
use Rattle.std.specs.Str.{bytes_eq}
use Rattle.std.proofs.lemmas.Bool.{lt-ltb, le-ltb, false_from_ne_true}
use Rattle.std.proofs.lemmas.List.Sums.{prefix_len_is}
use Rattle.std.proofs.lemmas.Slice.Eq.{bytes_eq-Decides}
use Rattle.text_scan.specs.Names.{has_twice, is_among, number_of}
use Rattle.operation_spec.specs.OperationLines.{nth_name}

-- ---- the test of bytes

pub bytes_eq-same : (w : List ℕ) → bytes_eq w w ≡ true
bytes_eq-same w = (bytes_eq-Decides w w).1 refl

pub bytes_eq-other : (v w : List ℕ) → v ≢ w → bytes_eq v w ≡ false
bytes_eq-other v w ne = false_from_ne_true (bytes_eq v w) (λ same. ne ((bytes_eq-Decides v w).0 same))

-- ---- numbers of names

-- the name with a number has that number
pub number_of-nth : (names : List (List ℕ)) (k : ℕ) → AllPairs (λ a b. a ≢ b) names → k < length names → number_of names (nth_name names k) ≡ k
number_of-nth names k once below =
    prefix_len_is (λ name. not (bytes_eq name (nth_name names k))) names k [] (omega arith)
    (λ j before. rw (bytes_eq-other (get_or names j []) (nth_name names k) (once j k [] before below)) refl)
    (λ here. rw (bytes_eq-same (nth_name names k)) refl)

-- a name that they all differ from has none
pub number_of-none : (names : List (List ℕ)) (w : List ℕ) → All (λ name. name ≢ w) names → number_of names w ≡ length names
number_of-none names w others =
    prefix_len_is (λ name. not (bytes_eq name w)) names (length names) [] (omega arith)
    (λ j before. rw (bytes_eq-other (get_or names j []) w (others j [] before)) refl)
    (λ past. absurd (omega arith))

pub is_among-nth : (names : List (List ℕ)) (k : ℕ) → AllPairs (λ a b. a ≢ b) names → k < length names → is_among names (nth_name names k) ≡ true
is_among-nth names k once below = rw (number_of-nth names k once below) (lt-ltb k (length names) below)

pub is_among-none : (names : List (List ℕ)) (w : List ℕ) → All (λ name. name ≢ w) names → is_among names w ≡ false
is_among-none names w others = rw (number_of-none names w others) (le-ltb (length names) (length names) (omega arith))

-- ---- names that stand once

-- the first differs from all others
pub others_differ : (name : List ℕ) (names : List (List ℕ)) → AllPairs (λ a b. a ≢ b) (name ∷ names) → All (λ other. other ≢ name) names
others_differ name names once k d below same = once 0 (suc k) d (omega arith) (omega arith) (sym same)

pub pairs_behind : {X : Type 0} (R : X → X → Type 0) (x : X) (xs : List X) → AllPairs R (x ∷ xs) → AllPairs R xs
pairs_behind R x xs pairs i j d before below = pairs (suc i) (suc j) d (omega arith) (omega arith)

pub has_twice-once : (names : List (List ℕ)) → AllPairs (λ a b. a ≢ b) names → has_twice names ≡ false
has_twice-once [] once = refl
has_twice-once (name ∷ names) once =
    rw (is_among-none names name (others_differ name names once), has_twice-once names (pairs_behind (λ a b. a ≢ b) name names once)) refl
