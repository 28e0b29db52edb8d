-- Which places a region has: those of its rows and columns, and none twice where it is split.
use Rattle.std.proofs.Common.{◌≡◌, ℕ, zero, suc, ◌+◌, ◌-◌, ◌*◌, ◌/◌, ◌%◌, ◌<◌, ◌≤◌, Bool, true, false, ◌&&◌, T, List, [], ◌∷◌, length, get_or, refl, ap, ◌∙◌, arith}
use Rattle.std.proofs.Math.Facts.{ltb_yes, yes_ltb, ltb_no, no_ltb}
use Rattle.std.proofs.lemmas.Nat.{div-mul-add, mod-mul-add}
use Rattle.matrix_parts.specs.declared.region.Region.{Region}
use Rattle.matrix_parts.specs.Regions.{is_among, is_in, covers, chosen, woven}

and_out : (a b : Bool) → T (a && b) → T a × T b
and_out true b t = (tt, t)
and_out false b t = absurd t

and_in : (a b : Bool) → T a → T b → T (a && b)
and_in true b s t = t
and_in false b s t = s

record IsAmong (start n k : ℕ) : Type 0 where
  low : start ≤ k
  high : k < start + n

among_out : (start n k : ℕ) → T (is_among start n k) → IsAmong start n k
among_out start n k t = let s = and_out _ _ t in record { low = ltb_no s.0; high = ltb_yes s.1 }

among_in : (start n k : ℕ) → start ≤ k → k < start + n → T (is_among start n k)
among_in start n k low high = and_in _ _ (no_ltb low) (yes_ltb high)

module _ (r : Region) (k : ℕ) where
  abbrev row : ℕ
  row = (k - r.first) / r.stride

  abbrev col : ℕ
  col = (k - r.first) % r.stride

  record IsIn : Type 0 where
    begins : r.first ≤ k
    rows : IsAmong r.top r.rows row
    cols : IsAmong r.left r.cols col

  in_to : IsIn → covers r k
  in_to h = and_in _ _ (no_ltb h.begins) (and_in _ _ (among_in r.top r.rows _ h.rows.low h.rows.high) (among_in r.left r.cols _ h.cols.low h.cols.high))

  in_out : covers r k → IsIn
  in_out t = let s = and_out _ _ t in let both = and_out _ _ s.1 in record { begins = ltb_no s.0; rows = among_out _ _ _ both.0; cols = among_out _ _ _ both.1 }

-- a place in the region's rows and columns
pub covers-place : (r : Region) (i j : ℕ) → i < r.rows → j < r.cols → r.left + r.cols ≤ r.stride → covers r (r.first + (r.top + i) * r.stride + (r.left + j))
covers-place r i j row_in col_in within =
    let k : ℕ = r.first + (r.top + i) * r.stride + (r.left + j) in
    let offset : k - r.first ≡ (r.top + i) * r.stride + (r.left + j) = omega arith in
    let a : row r k ≡ r.top + i = ap (λ (x : ℕ). x / r.stride) offset ∙ div-mul-add (r.top + i) r.stride (r.left + j) (omega arith) in
    let c : col r k ≡ r.left + j = ap (λ (x : ℕ). x % r.stride) offset ∙ mod-mul-add (r.top + i) r.stride (r.left + j) (omega arith) in
    and_in _ _ (no_ltb (omega arith)) (and_in _ _ (among_in r.top r.rows _ (omega (arith, a)) (omega (arith, a))) (among_in r.left r.cols _ (omega (arith, c)) (omega (arith, c))))

-- two tests that hold of nothing beyond a third, nor both of one thing
pub record AreTwoOf (m p q : Bool) : Type 0 where
  pub first : T p → T m
  pub second : T q → T m
  pub apart : T p → T q → ⊥

-- the rows of a region before the at-th and from it on
abbrev pub above_of : Region → ℕ → Region
above_of r at = record r { rows = at }

abbrev pub below_of : Region → ℕ → Region
below_of r at = record r { top = r.top + at; rows = r.rows - at }

-- its columns before the at-th and from it on
abbrev pub left_of : Region → ℕ → Region
left_of r at = record r { cols = at }

abbrev pub right_of : Region → ℕ → Region
right_of r at = record r { left = r.left + at; cols = r.cols - at }

module _ (r : Region) (at k : ℕ) where
  pub AreTwoOf-rows : at ≤ r.rows → AreTwoOf (is_in r k) (is_in (above_of r at) k) (is_in (below_of r at) k)
  AreTwoOf-rows at_most = record {
    first = λ t. let h = in_out (above_of r at) k t in in_to r k (record { begins = h.begins; rows = record { low = h.rows.low; high = omega (arith, h.rows.high) }; cols = record { low = h.cols.low; high = h.cols.high } });
    second = λ t. let h = in_out (below_of r at) k t in in_to r k (record { begins = h.begins; rows = record { low = omega (arith, h.rows.low); high = omega (arith, h.rows.high) }; cols = record { low = h.cols.low; high = h.cols.high } });
    apart = λ s t. omega (arith, (in_out (above_of r at) k s).rows.high, (in_out (below_of r at) k t).rows.low);
  }

  pub AreTwoOf-cols : at ≤ r.cols → AreTwoOf (is_in r k) (is_in (left_of r at) k) (is_in (right_of r at) k)
  AreTwoOf-cols at_most = record {
    first = λ t. let h = in_out (left_of r at) k t in in_to r k (record { begins = h.begins; rows = record { low = h.rows.low; high = h.rows.high }; cols = record { low = h.cols.low; high = omega (arith, h.cols.high) } });
    second = λ t. let h = in_out (right_of r at) k t in in_to r k (record { begins = h.begins; rows = record { low = h.rows.low; high = h.rows.high }; cols = record { low = omega (arith, h.cols.low); high = omega (arith, h.cols.high) } });
    apart = λ s t. omega (arith, (in_out (left_of r at) k s).cols.high, (in_out (right_of r at) k t).cols.low);
  }

-- the first columns of a rectangle, and those from the at-th on
abbrev pub first_cols : ℕ → ℕ → ℕ → ℕ → Region
first_cols first stride rows at = record { first = first; stride = stride; top = 0; left = 0; rows = rows; cols = at }

abbrev pub last_cols : ℕ → ℕ → ℕ → ℕ → ℕ → Region
last_cols first stride rows cols at = record { first = first; stride = stride; top = 0; left = at; rows = rows; cols = cols - at }

pub AreTwoOf-whole : (first stride rows cols at k : ℕ) → AreTwoOf true (is_in (first_cols first stride rows at) k) (is_in (last_cols first stride rows cols at) k)
AreTwoOf-whole first stride rows cols at k = record {
  first = λ t. tt;
  second = λ t. tt;
  apart = λ s t. omega (arith, (in_out (first_cols first stride rows at) k s).cols.high, (in_out (last_cols first stride rows cols at) k t).cols.low);
}

-- what is chosen at a place of the first, and at one of the second alone
chosen-first : (p q : Bool) (w v x : ℕ) → T p → chosen p q w v x ≡ w
chosen-first true q w v x t = refl
chosen-first false q w v x t = absurd t

chosen-second : (p q : Bool) (w v x : ℕ) → (T p → ⊥) → T q → chosen p q w v x ≡ v
chosen-second true q w v x never t = absurd (never tt)
chosen-second false true w v x never t = refl
chosen-second false false w v x never t = absurd t

chosen-same : (p q : Bool) (x : ℕ) → chosen p q x x x ≡ x
chosen-same true q x = refl
chosen-same false true x = refl
chosen-same false false x = refl

pub woven-same : (p q : ℕ → Bool) (xs : List ℕ) → woven p q xs xs xs ≡ xs
woven-same p q [] = refl
woven-same p q (x ∷ xs) = λ i. chosen-same (p 0) (q 0) x i ∷ woven-same (λ k. p (suc k)) (λ k. q (suc k)) xs i

pub length-woven : (p q : ℕ → Bool) (ws vs xs : List ℕ) → length ws ≡ length xs → length vs ≡ length xs → length (woven p q ws vs xs) ≡ length xs
length-woven p q ws vs [] e e' = refl
length-woven p q [] vs (x ∷ xs) e e' = absurd (omega (arith, e))
length-woven p q (w ∷ ws) [] (x ∷ xs) e e' = absurd (omega (arith, e'))
length-woven p q (w ∷ ws) (v ∷ vs) (x ∷ xs) e e' = omega (arith, length-woven (λ k. p (suc k)) (λ k. q (suc k)) ws vs xs (omega (arith, e)) (omega (arith, e')))

get_or-woven : (p q : ℕ → Bool) (ws vs xs : List ℕ) (k : ℕ) → length ws ≡ length xs → length vs ≡ length xs → k < length xs
    → get_or (woven p q ws vs xs) k 0 ≡ chosen (p k) (q k) (get_or ws k 0) (get_or vs k 0) (get_or xs k 0)
get_or-woven p q ws vs [] k e e' below = absurd (omega arith)
get_or-woven p q [] vs (x ∷ xs) k e e' below = absurd (omega (arith, e))
get_or-woven p q (w ∷ ws) [] (x ∷ xs) k e e' below = absurd (omega (arith, e'))
get_or-woven p q (w ∷ ws) (v ∷ vs) (x ∷ xs) zero e e' below = refl
get_or-woven p q (w ∷ ws) (v ∷ vs) (x ∷ xs) (suc k) e e' below = get_or-woven (λ i. p (suc i)) (λ i. q (suc i)) ws vs xs k (omega (arith, e)) (omega (arith, e')) (omega arith)

-- of two tests that never both hold, what each one's places have
module _ (p q : ℕ → Bool) (apart : (k : ℕ) → T (p k) → T (q k) → ⊥) (ws vs xs : List ℕ) (e : length ws ≡ length xs) (e' : length vs ≡ length xs) (k : ℕ) (below : k < length xs) where
  pub woven-first : T (p k) → get_or (woven p q ws vs xs) k 0 ≡ get_or ws k 0
  woven-first t = get_or-woven p q ws vs xs k e e' below ∙ chosen-first (p k) (q k) _ _ _ t

  pub woven-second : T (q k) → get_or (woven p q ws vs xs) k 0 ≡ get_or vs k 0
  woven-second t = get_or-woven p q ws vs xs k e e' below ∙ chosen-second (p k) (q k) _ _ _ (λ s. apart k s t) t
