-- The parts of the cuts that a loop makes after so many iterations. Cited by the lemmas on what a loop has done.
use Rattle.std.proofs.Common.{◌≡◌, ℕ, zero, suc, ◌+◌, ◌-◌, ◌<◌, ◌≤◌, ◌⊎◌, inl, inr, Bool, true, false, min, if◌then◌else◌, Option, Some, None, List, [], ◌∷◌, length, get_or, map, refl, sym, ap, ◌∙◌, subst, arith}
use Rattle.std.specs.Prelude.{◌==◌}
use Rattle.std.proofs.lemmas.Bool.{both_ways, cases_lt, eqb-true, le-ltb, lt-ltb, or_cases}
use Rattle.std.proofs.lemmas.Grind.{get_or_head}
use Rattle.std.proofs.lemmas.List.{get_or-append_right, get_or-map, get_or_append_left, get_or_past, length-map}
use Rattle.operation_spec.specs.declared.operation.Operation.{Operation}
use Rattle.operation_spec.specs.declared.split.Split.{Split}
use Rattle.operation_spec.specs.declared.split.Dirs.{Dirs}
use Rattle.operation_spec.specs.declared.split.Dir.{Dir}
use Rattle.operation_spec.specs.declared.split.Dir.TheVariants.{Forward, Backward}
use Rattle.operation_spec.specs.Splits.{IsSplit}
use Rattle.task_graph.specs.declared.cut.Sides.{Sides}
use Rattle.task_graph.specs.declared.cut.Sides.TheVariants.{One, Two}
use Rattle.task_graph.specs.Classes.{counts_of, part_in, side_of, sides_count}
use Rattle.task_graph.specs.Order.{numbers_below}
use Rattle.task_graph.specs.Tasks.{parts_of}
use Rattle.invariant_family.specs.Splits.{cut_by, dir_of, done_part, is_second, is_split, middle_done, middle_remaining, remaining_part, three_parts, two_parts}
use Rattle.invariant_family.proofs.AllSplits.{length-numbers_below}
use Rattle.issue_list.specs.IssuedSteps.{cut_after, iterations, side_after}
use Rattle.issue_list.proofs.CoarserParts.{IsCoarser}

-- ---- one dimension

pub side-ascends : (s : Sides) (x y : ℕ) → x ≤ y → side_of s x ≤ side_of s y
side-ascends One x y h = omega arith
side-ascends (Two edge) x y h = elim (cases_lt x edge) [
  | inl before ↦ rw (lt-ltb x edge before) (omega arith)
  | inr behind ↦ (let later : edge ≤ y = omega arith in rw (le-ltb x edge behind, le-ltb y edge later) (omega arith))
]

side-few : (s : Sides) (x : ℕ) → side_of s x ≤ 1
side-few One x = omega arith
side-few (Two edge) x = elim (cases_lt x edge) [
  | inl before ↦ rw (lt-ltb x edge before) (omega arith)
  | inr behind ↦ rw (le-ltb x edge behind) (omega arith)
]

-- a part is before both edges, between them, or behind both, which two sides tell
between-low : (low high x : ℕ) → low ≤ high → side_of (Two 1) (side_of (Two low) x + side_of (Two high) x) ≡ side_of (Two low) x
between-low low high x h = elim (cases_lt x low) [
  | inl before ↦ (let first : x < high = omega arith in rw (lt-ltb x low before, lt-ltb x high first) refl)
  | inr behind ↦ elim (cases_lt x high) [
    | inl first ↦ rw (le-ltb x low behind, lt-ltb x high first) refl
    | inr last ↦ rw (le-ltb x low behind, le-ltb x high last) refl
  ]
]

between-high : (low high x : ℕ) → low ≤ high → side_of (Two 2) (side_of (Two low) x + side_of (Two high) x) ≡ side_of (Two high) x
between-high low high x h = elim (cases_lt x low) [
  | inl before ↦ (let first : x < high = omega arith in rw (lt-ltb x low before, lt-ltb x high first) refl)
  | inr behind ↦ elim (cases_lt x high) [
    | inl first ↦ rw (le-ltb x low behind, lt-ltb x high first) refl
    | inr last ↦ rw (le-ltb x low behind, le-ltb x high last) refl
  ]
]

-- which of three parts a part is in, by what is done before an iteration and after it
abbrev third : Dir → ℕ → ℕ → ℕ → ℕ
third dir p t x = side_of (side_after dir p t) x + side_of (side_after dir p (t + 1)) x

-- the middle part is done by the iteration
middle-before : (dir : Dir) (p t x : ℕ) → side_of (middle_remaining dir) (third dir p t x) ≡ side_of (side_after dir p t) x
middle-before Forward p t x = between-low (min t p) (min (t + 1) p) x (omega arith)
middle-before Backward p t x =
    let a = side_of (Two (p - min t p)) x in
    let b = side_of (Two (p - min (t + 1) p)) x in
    let turned : a + b ≡ b + a = omega arith in
    ap (side_of (Two 2)) turned ∙ between-high (p - min (t + 1) p) (p - min t p) x (omega arith)

middle-after : (dir : Dir) (p t x : ℕ) → side_of (middle_done dir) (third dir p t x) ≡ side_of (side_after dir p (t + 1)) x
middle-after Forward p t x = between-high (min t p) (min (t + 1) p) x (omega arith)
middle-after Backward p t x =
    let a = side_of (Two (p - min t p)) x in
    let b = side_of (Two (p - min (t + 1) p)) x in
    let turned : a + b ≡ b + a = omega arith in
    ap (side_of (Two 1)) turned ∙ between-low (p - min (t + 1) p) (p - min t p) x (omega arith)

-- before the first iteration all parts remain, and after the last all are done
side-start : (dir : Dir) (p x : ℕ) → x < p → side_of (side_after dir p 0) x ≡ remaining_part dir
side-start Forward p x h = let none : min 0 p ≤ x = omega arith in rw (le-ltb x (min 0 p) none) refl
side-start Backward p x h = let all : x < p - min 0 p = omega arith in rw (lt-ltb x (p - min 0 p) all) refl

side-end : (dir : Dir) (p t x : ℕ) → p ≤ t → x < p → side_of (side_after dir p t) x ≡ done_part dir
side-end Forward p t x last h = let all : x < min t p = omega arith in rw (lt-ltb x (min t p) all) refl
side-end Backward p t x last h = let none : p - min t p ≤ x = omega arith in rw (le-ltb x (p - min t p) none) refl

count-after : (dir : Dir) (p t : ℕ) → sides_count (side_after dir p t) ≡ 2
count-after Forward p t = refl
count-after Backward p t = refl

count-remaining : (dir : Dir) → sides_count (middle_remaining dir) ≡ 2
count-remaining Forward = refl
count-remaining Backward = refl

count-done : (dir : Dir) → sides_count (middle_done dir) ≡ 2
count-done Forward = refl
count-done Backward = refl

-- ---- a list by dimensions

number-at : (n k d : ℕ) → k < n → get_or (numbers_below n) k d ≡ k
number-at zero k d below = absurd (omega arith)
number-at (suc n) k d below =
    let size : length (numbers_below n) ≡ n = length-numbers_below n in
    elim (cases_lt k n) [
      | inl before ↦ get_or_append_left (numbers_below n) (n ∷ []) d k (omega arith) ∙ number-at n k d before
      | inr last ↦ get_or-append_right (numbers_below n) (n ∷ []) n k d size last ∙ get_or_head n [] (k - n) d (omega arith) ∙ omega arith
    ]

item-at : {X : Type 0} (h : ℕ → X) (n d : ℕ) (e : X) → d < n → get_or (map h (numbers_below n)) d e ≡ h d
item-at h n d e below = get_or-map h (numbers_below n) d 0 e (omega (arith, length-numbers_below n)) ∙ ap h (number-at n d 0 below)

length-items : {X : Type 0} (h : ℕ → X) (n : ℕ) → length (map h (numbers_below n)) ≡ n
length-items h n = length-map (numbers_below n) h ∙ length-numbers_below n

-- ---- the dimensions of a split

second-below : (op : Operation) (first : ℕ) (second : Option ℕ) (d : ℕ) → IsSplit op (record { first = first; second = second }) → is_second second d ≡ true → d < length op.dims
second-below op first None d of h = absurd (both_ways _ refl h)
second-below op first (Some e) d of h = let same = eqb-true e d h in let own = of.1.1 in omega arith

module _ (op : Operation) (split : Split) (of : IsSplit op split) where
  abbrev sides_of : (ℕ → Sides) → ℕ → Sides
  sides_of h d = if is_split split d then h d else One

  abbrev cut_of : (ℕ → Sides) → List Sides
  cut_of h = map (sides_of h) (numbers_below (length op.dims))

  split-below : (d : ℕ) → is_split split d ≡ true → d < length op.dims
  split-below d h = elim (or_cases (split.first == d) (is_second split.second d) h) [
    | inl first ↦ (let e = eqb-true split.first d first in let own = of.0 in omega arith)
    | inr second ↦ second-below op split.first split.second d of second
  ]

  part-split : (h : ℕ → Sides) (d x : ℕ) → is_split split d ≡ true → part_in (cut_of h) d x ≡ side_of (h d) x
  part-split h d x e = ap (λ (s : Sides). side_of s x) (item-at (sides_of h) (length op.dims) d One (split-below d e) ∙ ap (λ b. if b then h d else One) e)

  part-other : (h : ℕ → Sides) (d x : ℕ) → is_split split d ≡ false → part_in (cut_of h) d x ≡ 0
  part-other h d x e = ap (λ (s : Sides). side_of s x) (go (cases_lt d (length op.dims)))
    where
      go : (d < length op.dims) ⊎ (length op.dims ≤ d) → get_or (cut_of h) d One ≡ One
      go (inl below) = item-at (sides_of h) (length op.dims) d One below ∙ ap (λ b. if b then h d else One) e
      go (inr past) = get_or_past (cut_of h) d One (omega (arith, length-items (sides_of h) (length op.dims)))

  -- the coarser cut has two parts in each dimension of the split
  counts-two : (h : ℕ → Sides) → ((d : ℕ) → sides_count (h d) ≡ 2) → counts_of (cut_of h) ≡ two_parts op split
  counts-two h two = go (numbers_below (length op.dims))
    where
      each : (d : ℕ) (b : Bool) → sides_count (if b then h d else One) ≡ (if b then 2 else 1)
      each d true = two d
      each d false = refl

      go : (ds : List ℕ) → map sides_count (map (sides_of h) ds) ≡ map (λ d. if is_split split d then 2 else 1) ds
      go [] = refl
      go (d ∷ ds) = ap (λ n. n ∷ map sides_count (map (sides_of h) ds)) (each d (is_split split d)) ∙ ap (λ ns. (if is_split split d then 2 else 1) ∷ ns) (go ds)

  -- a split dimension has so many parts, and another one
  parts-at : (many d : ℕ) (b : Bool) → d < length op.dims → is_split split d ≡ b → parts_of (map (λ e. if is_split split e then many else 1) (numbers_below (length op.dims))) d ≡ (if b then many else 1)
  parts-at many d b below e = item-at (λ e. if is_split split e then many else 1) (length op.dims) d 0 below ∙ ap (λ b. if b then many else 1) e

  -- ---- the cut after so many iterations

  module _ (counts : List ℕ) (dirs : Dirs) where
    abbrev after : ℕ → List Sides
    after t = cut_after op counts split dirs t

    abbrev own_side : ℕ → ℕ → Sides
    own_side t d = side_after (dir_of split dirs d) (parts_of counts d) t

    pub counts-after : (t : ℕ) → counts_of (after t) ≡ two_parts op split
    counts-after t = counts-two (own_side t) (λ d. count-after (dir_of split dirs d) (parts_of counts d) t)

    pub counts-middle_remaining : counts_of (cut_by op split dirs middle_remaining) ≡ two_parts op split
    counts-middle_remaining = counts-two (λ d. middle_remaining (dir_of split dirs d)) (λ d. count-remaining (dir_of split dirs d))

    pub counts-middle_done : counts_of (cut_by op split dirs middle_done) ≡ two_parts op split
    counts-middle_done = counts-two (λ d. middle_done (dir_of split dirs d)) (λ d. count-done (dir_of split dirs d))

    pub coarser-after : (t : ℕ) → IsCoarser op counts (two_parts op split) (part_in (after t))
    coarser-after t = record {
      ascends = λ d x y h. side-ascends (get_or (after t) d One) x y h;
      below = λ d x below within. go d x (is_split split d) refl below;
    }
      where
        go : (d x : ℕ) (b : Bool) → is_split split d ≡ b → d < length op.dims → part_in (after t) d x < parts_of (two_parts op split) d
        go d x true e below = omega (arith, side-few (get_or (after t) d One) x, parts-at 2 d true below e)
        go d x false e below = omega (arith, part-other (own_side t) d x e, parts-at 2 d false below e)

    -- the three parts around an iteration: done before it, done by it, and not done by it
    abbrev pub part_around : ℕ → ℕ → ℕ → ℕ
    part_around t d x = part_in (after t) d x + part_in (after (t + 1)) d x

    pub coarser-around : (t : ℕ) → IsCoarser op counts (three_parts op split) (part_around t)
    coarser-around t = record {
      ascends = λ d x y h. omega (arith, side-ascends (get_or (after t) d One) x y h, side-ascends (get_or (after (t + 1)) d One) x y h);
      below = λ d x below within. go d x (is_split split d) refl below;
    }
      where
        go : (d x : ℕ) (b : Bool) → is_split split d ≡ b → d < length op.dims → part_around t d x < parts_of (three_parts op split) d
        go d x true e below = omega (arith, side-few (get_or (after t) d One) x, side-few (get_or (after (t + 1)) d One) x, parts-at 3 d true below e)
        go d x false e below = omega (arith, part-other (own_side t) d x e, part-other (own_side (t + 1)) d x e, parts-at 3 d false below e)

    -- with the middle part remaining they are as before the iteration, and with it done as after it
    pub around-before : (t d x : ℕ) → part_in (cut_by op split dirs middle_remaining) d (part_around t d x) ≡ part_in (after t) d x
    around-before t d x = go (is_split split d) refl
      where
        go : (b : Bool) → is_split split d ≡ b → part_in (cut_by op split dirs middle_remaining) d (part_around t d x) ≡ part_in (after t) d x
        go true e = part-split (λ d. middle_remaining (dir_of split dirs d)) d (part_around t d x) e
            ∙ ap (side_of (middle_remaining (dir_of split dirs d))) (ap (λ a. a + part_in (after (t + 1)) d x) (part-split (own_side t) d x e) ∙ ap (λ b. side_of (own_side t d) x + b) (part-split (own_side (t + 1)) d x e))
            ∙ middle-before (dir_of split dirs d) (parts_of counts d) t x
            ∙ sym (part-split (own_side t) d x e)
        go false e = part-other (λ d. middle_remaining (dir_of split dirs d)) d (part_around t d x) e ∙ sym (part-other (own_side t) d x e)

    pub around-after : (t d x : ℕ) → part_in (cut_by op split dirs middle_done) d (part_around t d x) ≡ part_in (after (t + 1)) d x
    around-after t d x = go (is_split split d) refl
      where
        go : (b : Bool) → is_split split d ≡ b → part_in (cut_by op split dirs middle_done) d (part_around t d x) ≡ part_in (after (t + 1)) d x
        go true e = part-split (λ d. middle_done (dir_of split dirs d)) d (part_around t d x) e
            ∙ ap (side_of (middle_done (dir_of split dirs d))) (ap (λ a. a + part_in (after (t + 1)) d x) (part-split (own_side t) d x e) ∙ ap (λ b. side_of (own_side t d) x + b) (part-split (own_side (t + 1)) d x e))
            ∙ middle-after (dir_of split dirs d) (parts_of counts d) t x
            ∙ sym (part-split (own_side (t + 1)) d x e)
        go false e = part-other (λ d. middle_done (dir_of split dirs d)) d (part_around t d x) e ∙ sym (part-other (own_side (t + 1)) d x e)

    -- ---- the first cut and the last

    pub all-remain : (d x : ℕ) → x < parts_of counts d → is_split split d ≡ true → part_in (after 0) d x ≡ remaining_part (dir_of split dirs d)
    all-remain d x within e = part-split (own_side 0) d x e ∙ side-start (dir_of split dirs d) (parts_of counts d) x within

    pub all-done : (t d x : ℕ) → iterations counts split ≤ t → x < parts_of counts d → is_split split d ≡ true → part_in (after t) d x ≡ done_part (dir_of split dirs d)
    all-done t d x last within e = part-split (own_side t) d x e
        ∙ side-end (dir_of split dirs d) (parts_of counts d) t x (by_dim split.first split.second e last) within
      where
        by_dim : (first : ℕ) (second : Option ℕ) → is_split (record { first = first; second = second }) d ≡ true → iterations counts (record { first = first; second = second }) ≤ t → parts_of counts d ≤ t
        by_dim first None h last = elim (or_cases (first == d) false h) [
          | inl e ↦ subst (λ n. parts_of counts n ≤ t) (eqb-true first d e) (omega (arith, last))
          | inr e ↦ absurd (both_ways _ refl e)
        ]
        by_dim first (Some s) h last = elim (or_cases (first == d) (s == d) h) [
          | inl e ↦ subst (λ n. parts_of counts n ≤ t) (eqb-true first d e) (omega (arith, last))
          | inr e ↦ subst (λ n. parts_of counts n ≤ t) (eqb-true s d e) (omega (arith, last))
        ]

    pub length-after : (t : ℕ) → length (after t) ≡ length op.dims
    length-after t = length-items (sides_of (own_side t)) (length op.dims)
