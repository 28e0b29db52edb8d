-- Lists that are made row by row or piece by piece, as lists that are made from a function of the index. Cited by each loop that
-- appends to one.
use Rattle.std.proofs.Common.{◌≡◌, ℕ, zero, suc, ◌+◌, ◌*◌, ◌/◌, ◌%◌, ◌<◌, ◌≤◌, List, [], ◌∷◌, ◌++◌, length, get_or, map, append_assoc, append-nil, ap, sym, refl, ◌∙◌, arith}
use Rattle.std.specs.List.{range_with_len, between}
use Rattle.residue_sums.specs.Tables.{Table}
use Rattle.std.proofs.lemmas.Nat.{div-mul-add, mod-mul-add}
use Rattle.std.proofs.lemmas.List.Edits.{length-between, get_or-between}
use Rattle.std.proofs.lemmas.List.FromFn.{map-range_with_len_more, fill_by_all, length-map-range_with_len}

-- the first n items of a function
abbrev pub first_items : {X : Type 0} → (ℕ → X) → ℕ → List X
first_items f n = map f (range_with_len 0 n)

-- the first r rows, of n items each
abbrev pub first_rows : {X : Type 0} → (ℕ → ℕ → X) → ℕ → ℕ → List X
first_rows a n r = map (λ k. a (k / n) (k % n)) (range_with_len 0 (r * n))

-- a table from row i and column j on
abbrev pub from_place : Table → ℕ → ℕ → Table
from_place a i j r c = a (i + r) (j + c)

-- a piece g behind the first k items
pub map-append : {X : Type 0} (f g : ℕ → X) (k n : ℕ) → ((c : ℕ) → c < n → f (k + c) ≡ g c)
    → first_items f k ++ first_items g n ≡ first_items f (k + n)
map-append f g k zero each =
    let end : k ≡ k + 0 = omega arith in append-nil (first_items f k) ∙ ap (first_items f) end
map-append {X} f g k (suc n) each =
    let items = first_items f k in
    let longer : suc n ≡ n + 1 = omega arith in
    let end : k + n + 1 ≡ k + suc n = omega arith in
    ap (λ (m : ℕ). items ++ first_items g m) longer
    ∙ ap (λ (ys : List X). items ++ ys) (map-range_with_len_more g 0 n n (omega arith))
    ∙ sym (append_assoc items (first_items g n) (g n ∷ []))
    ∙ ap (λ (ys : List X). ys ++ g n ∷ []) (map-append f g k n (λ c below. each c (omega arith)))
    ∙ ap (λ (x : X). first_items f (k + n) ++ x ∷ []) (sym (each n (omega arith)))
    ∙ sym (map-range_with_len_more f 0 (k + n) (k + n) (omega arith))
    ∙ ap (first_items f) end

-- row r behind the first r rows, of n items each
pub map-append_row : {X : Type 0} (a : ℕ → ℕ → X) (n r : ℕ) → first_rows a n r ++ first_items (a r) n ≡ first_rows a n (r + 1)
map-append_row {X} a n r =
    let by_place : ℕ → X = λ k. a (k / n) (k % n) in
    let end : r * n + n ≡ (r + 1) * n = omega arith in
    map-append by_place (a r) (r * n) n (λ c below. rw (div-mul-add r n c below, mod-mul-add r n c below) refl) ∙ ap (first_items by_place) end

-- a part of a list whose items are known
pub between-map : {X : Type 0} (d : X) (xs : List X) (first n : ℕ) (f : ℕ → X) → first + n ≤ length xs → ((c : ℕ) → c < n → get_or xs (first + c) d ≡ f c)
    → between first (first + n) xs ≡ first_items f n
between-map d xs first n f within each =
    let piece = between first (first + n) xs in
    let len : length piece ≡ n = length-between xs first (first + n) within ∙ omega arith in
    fill_by_all f piece n d len (λ c below. get_or-between xs first (first + n) c d (omega arith) ∙ each c below)

pub length-first_rows : {X : Type 0} (a : ℕ → ℕ → X) (n r : ℕ) → length (first_rows a n r) ≡ r * n
length-first_rows a n r = length-map-range_with_len (λ k. a (k / n) (k % n)) 0 (r * n)

-- one more item
pub first_items-more : {X : Type 0} (xs : List X) (f : ℕ → X) (n : ℕ) → (xs ++ first_items f n) ++ f n ∷ [] ≡ xs ++ first_items f (n + 1)
first_items-more xs f n = append_assoc xs (first_items f n) (f n ∷ []) ∙ ap (λ (ys : List _). xs ++ ys) (sym (map-range_with_len_more f 0 n n (omega arith)))
