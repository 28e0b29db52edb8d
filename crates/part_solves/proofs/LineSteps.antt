-- The unknowns of a line, solved for one after another in the order of a triangular table.
use Rattle.std.proofs.Common.{◌≡◌, ◌≢◌, Bool, true, false, ℕ, ◌+◌, ◌*◌, ◌%◌, ◌<◌, ◌≤◌, ◌⊎◌, List, slice_index, inl, inr, refl, sym, ap, ◌∙◌, arith}
use Rattle.std.proofs.lemmas.Bool.{cases_eq}
use Rattle.std.proofs.lemmas.Nat.{same_from_place}
use Rattle.residue_sums.specs.Residues.{Cong}
use Rattle.residue_sums.specs.Sums.{sum_below}
use Rattle.residue_sums.specs.Tables.{Table}
use Rattle.residue_sums.proofs.Congruence.{Cong-trans, Cong-sym, Cong-add, Cong-by, Cong-from_same, Cong-from_mod}
use Rattle.residue_sums.proofs.Sums.{sum_below-same, sum_below-zero, sum_below-split, sum_below-shrink, sum_below-one_out, without, without-here, without-other}
use Rattle.structure_rules.specs.declared.Structure.{Structure}
use Rattle.structure_rules.proofs.Views.{IsZero-or_inside}
use Rattle.matrix_algebra.proofs.Triangles.{IsTriangle}
use Rattle.matrix_algebra.proofs.Places.{IsOrder}
use Rattle.part_solves.specs.LineSystems.{IsSolvedTo, IsInLine, line_of}

-- the other terms of a sum, where all but those of one range are 0
pub others_in_range : (f : ℕ → ℕ) (n i from len : ℕ) → from + len ≤ n → (i < from) ⊎ (from + len ≤ i)
    → ((k : ℕ) → k < n → k ≢ i → (k < from) ⊎ (from + len ≤ k) → f k ≡ 0)
    → sum_below (without i f) n ≡ sum_below (λ k. f (from + k)) len
others_in_range f n i from len within apart zeros =
    sum_below-shrink (without i f) n (from + len) within (λ k past below. outside k below (inr past))
    ∙ sum_below-split (without i f) from len
    ∙ omega (
      arith,
      sum_below-zero (without i f) from (λ k before. outside k (omega arith) (inl before)),
      sum_below-same (λ k. without i f (from + k)) (λ k. f (from + k)) len (λ k below. without-other i f (from + k) (λ e. elim apart [ inl less ↦ omega arith | inr past ↦ omega arith ])),
    )
  where
    outside : (k : ℕ) → k < n → (k < from) ⊎ (from + len ≤ k) → without i f k ≡ 0
    outside k below place = elim (cases_eq k i) [
      | inl same ↦ without-here i f k same
      | inr other ↦ without-other i f k other ∙ zeros k below other place
    ]

-- sums of the other terms over unknowns that agree but at i
pub others-agree : (n i : ℕ) (t : Table) (x y : ℕ → ℕ) → ((k : ℕ) → k < n → k ≢ i → x k ≡ y k)
    → sum_below (without i (λ k. t i k * x k)) n ≡ sum_below (without i (λ k. t i k * y k)) n
others-agree n i t x y agree = sum_below-same (without i (λ k. t i k * x k)) (without i (λ k. t i k * y k)) n (λ k below. each k below (cases_eq k i))
  where
    each : (k : ℕ) → k < n → (k ≡ i) ⊎ (k ≢ i) → without i (λ k. t i k * x k) k ≡ without i (λ k. t i k * y k) k
    each k below (inl same) = without-here i (λ k. t i k * x k) k same ∙ sym (without-here i (λ k. t i k * y k) k same)
    each k below (inr other) =
        without-other i (λ k. t i k * x k) k other ∙ ap (λ (v : ℕ). t i k * v) (agree k below other) ∙ sym (without-other i (λ k. t i k * y k) k other)

module _ (m n : ℕ) (IsAsked : ℕ → Type 0) (t : Table) (order : ℕ → ℕ) where
  -- before the first unknown
  pub IsSolvedTo-none : (x : ℕ → ℕ) → IsSolvedTo m n IsAsked t order x x 0
  IsSolvedTo-none x = record {
    solved = λ i below asked before. absurd (omega arith);
    pending = λ i below other. refl;
  }

  -- the next unknown
  module _ (triangle : IsTriangle n order t) (ordered : IsOrder n order) (asked_or_not : (i : ℕ) → IsAsked i ⊎ ¬ (IsAsked i))
      (before x y : ℕ → ℕ) (i q : ℕ) (below : i < n) (place : order i ≡ q) (so_far : IsSolvedTo m n IsAsked t order before x q)
      (kept : (k : ℕ) → k < n → k ≢ i → y k ≡ x k)
      (solves : IsAsked i → Cong m (sum_below (without i (λ k. t i k * x k)) n + t i i * y i) (x i))
      (skips : ¬ (IsAsked i) → y i ≡ x i) where
    -- its own equation
    here : IsAsked i → Cong m (sum_below (λ k. t i k * y k) n) (before i)
    here asked =
        Cong-trans (Cong-from_same (omega (arith, sum_below-one_out (λ k. t i k * y k) n i below, others-agree n i t y x kept)))
        (Cong-trans (solves asked) (Cong-from_same (so_far.pending i below (inr (omega arith)))))

    -- an earlier one's doesn't read it
    unread : (a k : ℕ) → a < n → order a < q → k < n → (k ≡ i) ⊎ (k ≢ i) → t a k * y k ≡ t a k * x k
    unread a k row earlier col (inr other) = ap (λ (v : ℕ). t a k * v) (kept k col other)
    unread a k row earlier col (inl same) = elim (triangle.earlier a k row col (λ e. let one : order k ≡ order a = ap order e in let its : order k ≡ q = ap order same ∙ place in omega arith)) [
      | inl none ↦ rw none (omega arith)
      | inr before_it ↦ absurd (let its : order k ≡ q = ap order same ∙ place in omega arith)
    ]

    earlier_one : (a : ℕ) → a < n → IsAsked a → order a < q → Cong m (sum_below (λ k. t a k * y k) n) (before a)
    earlier_one a row asked earlier =
        Cong-trans (Cong-from_same (sum_below-same (λ k. t a k * y k) (λ k. t a k * x k) n (λ k col. unread a k row earlier col (cases_eq k i))))
        (so_far.solved a row asked earlier)

    pub IsSolvedTo-next : IsSolvedTo m n IsAsked t order before y (q + 1)
    IsSolvedTo-next = record {
      solved = λ a row asked earlier. solved a row asked earlier (cases_eq a i);
      pending = λ a row other. pending a row other (cases_eq a i);
    }
      where
        solved : (a : ℕ) → a < n → IsAsked a → order a < q + 1 → (a ≡ i) ⊎ (a ≢ i) → Cong m (sum_below (λ k. t a k * y k) n) (before a)
        solved a row asked earlier (inl same) = rw same (here (rw same at asked))
        solved a row asked earlier (inr other) = elim (cases_eq (order a) q) [
          | inl last ↦ absurd (other (ordered.one a i row below (last ∙ sym place)))
          | inr apart ↦ earlier_one a row asked (omega arith)
        ]

        pending : (a : ℕ) → a < n → ¬ (IsAsked a) ⊎ (q + 1 ≤ order a) → (a ≡ i) ⊎ (a ≢ i) → y a ≡ before a
        pending a row (inl out) (inl same) = rw same (skips (rw same at out) ∙ so_far.pending i below (inl (rw same at out)))
        pending a row (inr later) (inl same) = absurd (let its : order a ≡ q = ap order same ∙ place in omega arith)
        pending a row (inl out) (inr other) = kept a row other ∙ so_far.pending a row (inl out)
        pending a row (inr later) (inr other) = kept a row other ∙ so_far.pending a row (inr (omega arith))

-- the sum of the other terms of an equation, as it is added up over a span
pub span_sum : (n i from len : ℕ) (t : Table) (x row : ℕ → ℕ) → from + len ≤ n → (i < from) ⊎ (from + len ≤ i)
    → ((k : ℕ) → k < n → k ≢ i → (k < from) ⊎ (from + len ≤ k) → t i k ≡ 0) → ((k : ℕ) → k < len → row k ≡ t i (from + k))
    → sum_below (λ k. row k * x (from + k)) len ≡ sum_below (without i (λ k. t i k * x k)) n
span_sum n i from len t x row within apart zeros row_is =
    sum_below-same (λ k. row k * x (from + k)) (λ k. t i (from + k) * x (from + k)) len (λ k below. ap (λ (v : ℕ). v * x (from + k)) (row_is k below))
    ∙ sym (others_in_range (λ k. t i k * x k) n i from len within apart (λ k below other place. rw (zeros k below other place) (omega arith)))

-- an equation whose other terms were added up so
pub equation_solved : (m n i from len sum v right : ℕ) (t : Table) (x row : ℕ → ℕ) → from + len ≤ n → (i < from) ⊎ (from + len ≤ i)
    → ((k : ℕ) → k < n → k ≢ i → (k < from) ⊎ (from + len ≤ k) → t i k ≡ 0) → ((k : ℕ) → k < len → row k ≡ t i (from + k))
    → sum ≡ sum_below (λ k. row k * x (from + k)) len % m → Cong m (sum + t i i * v) right
    → Cong m (sum_below (without i (λ k. t i k * x k)) n + t i i * v) right
equation_solved m n i from len sum v right t x row within apart zeros row_is sum_is solved =
    let whole : sum_below (λ k. row k * x (from + k)) len ≡ sum_below (without i (λ k. t i k * x k)) n = span_sum n i from len t x row within apart zeros row_is in
    Cong-by (Cong-add (Cong-sym (Cong-from_mod sum_is)) solved) (omega arith)

-- a sum whose terms outside a span are 0
sum_of_span : (f : ℕ → ℕ) (n a la : ℕ) → a + la ≤ n → ((k : ℕ) → k < n → (k < a) ⊎ (a + la ≤ k) → f k ≡ 0) → sum_below f n ≡ sum_below (λ k. f (a + k)) la
sum_of_span f n a la within zeros =
    sum_below-shrink f n (a + la) within (λ k past below. zeros k below (inr past)) ∙ sum_below-split f a la
    ∙ omega (arith, sum_below-zero f a (λ k before. zeros k (omega arith) (inl before)))

-- and one whose terms outside two spans are
two_in_order : (f : ℕ → ℕ) (n a la b lb : ℕ) → b + lb ≤ n → a + la ≤ b
    → ((k : ℕ) → k < n → (k < a) ⊎ (a + la ≤ k) → (k < b) ⊎ (b + lb ≤ k) → f k ≡ 0)
    → sum_below f n ≡ sum_below (λ k. f (a + k)) la + sum_below (λ k. f (b + k)) lb
two_in_order f n a la b lb within order zeros =
    sum_below-shrink f n (b + lb) within (λ k past below. zeros k below (inr (omega arith)) (inr past)) ∙ sum_below-split f b lb
    ∙ omega (arith, sum_of_span f b a la order (λ k below place. zeros k (omega arith) place (inl below)))

pub two_spans : (f : ℕ → ℕ) (n a la b lb : ℕ) → a + la ≤ n → b + lb ≤ n → (b + lb ≤ a) ⊎ (a + la ≤ b)
    → ((k : ℕ) → k < n → (k < a) ⊎ (a + la ≤ k) → (k < b) ⊎ (b + lb ≤ k) → f k ≡ 0)
    → sum_below f n ≡ sum_below (λ k. f (a + k)) la + sum_below (λ k. f (b + k)) lb
two_spans f n a la b lb within within' (inr order) zeros = two_in_order f n a la b lb within' order zeros
two_spans f n a la b lb within within' (inl order) zeros =
    let turned : sum_below f n ≡ sum_below (λ k. f (b + k)) lb + sum_below (λ k. f (a + k)) la = two_in_order f n b lb a la within order (λ k below place place'. zeros k below place' place) in
    omega arith

-- whether an unknown is inside can be told
pub IsInLine-or_not : (turned : Bool) (s : Structure) (g i : ℕ) → IsInLine turned s g i ⊎ ¬ (IsInLine turned s g i)
IsInLine-or_not true s g i = elim (IsZero-or_inside s i g) [ inl out ↦ inr (λ inner. inner out) | inr inner ↦ inl inner ]
IsInLine-or_not false s g i = elim (IsZero-or_inside s g i) [ inl out ↦ inr (λ inner. inner out) | inr inner ↦ inl inner ]

-- a write into a list of lines leaves the other places
pub other_place : (n i g : ℕ) (xs ys : List ℕ) → i < n → ((p : ℕ) → p ≢ g * n + i → slice_index ys p ≡ slice_index xs p)
    → (h k : ℕ) → k < n → (h ≢ g) ⊎ (k ≢ i) → line_of ys n h k ≡ line_of xs n h k
other_place n i g xs ys below others h k col (inl line) = others (h * n + k) (λ e. line (same_from_place h k g i n col below e).0)
other_place n i g xs ys below others h k col (inr place) = others (h * n + k) (λ e. place (same_from_place h k g i n col below e).1)

-- the first of lines that were copied
pub one_line : (xs : ℕ → ℕ) (t : Table) (i from n k : ℕ) → xs (0 * n + k) ≡ t (i + 0) (from + k) → xs k ≡ t i (from + k)
one_line xs t i from n k e =
    let at : 0 * n + k ≡ k = omega arith in
    let row : i + 0 ≡ i = omega arith in
    rw (at, row) at e
