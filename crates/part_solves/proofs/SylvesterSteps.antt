-- The equation T * X + X * U = R, or T * X - X * U = R, solved entry by entry, and its value.
use Rattle.std.proofs.Common.{◌≡◌, Bool, true, false, not, ap₂, ℕ, ◌+◌, ◌-◌, ◌*◌, ◌%◌, ◌<◌, ◌≤◌, ◌⊎◌, inl, inr, sym, ap, subst, ◌∙◌, arith}
use Rattle.std.proofs.Math.Nat.{mod-lt, mul-le-mul_right}
use Rattle.std.proofs.lemmas.Bool.{cases_lt}
use Rattle.residue_sums.specs.Residues.{Cong}
use Rattle.residue_sums.specs.Sums.{sum_below}
use Rattle.residue_sums.specs.Tables.{Table, product, times, transpose, oriented}
use Rattle.residue_sums.specs.Grids.{Grid, entry}
use Rattle.residue_sums.proofs.Congruence.{Cong-sym, Cong-trans, Cong-add, Cong-scale, Cong-by, Cong-mod, Cong-multiple, Cong-from_same, Cong-from_difference, mod_from_Cong}
use Rattle.residue_sums.proofs.Sums.{sum_below-same, sum_below-one_out, without}
use Rattle.structure_rules.specs.declared.Structure.{Structure}
use Rattle.structure_rules.specs.declared.Structure.TheVariants.{General, Lower, UnitLower, Upper, UnitUpper, Diagonal, Symmetric}
use Rattle.structure_rules.specs.Structures.{view, IsEntry, IsTriangular}
use Rattle.matrix_algebra.proofs.Substitution.{IsSystem}
use Rattle.matrix_algebra.proofs.Systems.{IsSystem-add, IsSystem-scale, IsSystem-left, IsSystem-right}
use Rattle.matrix_algebra.proofs.Triangles.{IsTriangle, IsTriangle-view, order_of, structure_of}
use Rattle.matrix_algebra.proofs.Places.{IsOrder, rowwise, reads_rows, reads_cols, IsPlacing-rowwise}
use Rattle.matrix_algebra.proofs.InPlace.{WrittenBelow, OnlyAt, WrittenBelow-solve}
use Rattle.matrix_parts.specs.declared.part_mut.PartMut.{PartMut}
use Rattle.matrix_parts.specs.Lent.{grid_of}
use Rattle.equation.specs.Kernels.{IsSolvedSylvester, combined}
use Rattle.part_solves.specs.SylvesterSystems.{sign, two_sided, block_of}
use Rattle.operand_lines.proofs.PartValues.{IsValue-part}
use Rattle.part_solves.proofs.LineSteps.{two_spans}

module _ (m rows cols : ℕ) (negative : Bool) (t u : Table) (row_order col_order : ℕ → ℕ) where
  abbrev place : Table
  place = rowwise cols row_order col_order

  abbrev pub Holds : Table → Table → ℕ → ℕ → Type 0
  Holds before x i j = Cong m (two_sided m rows cols negative t u x i j) (before i j)

  -- one side's terms, and the others
  row_terms : (w : Table) (i j : ℕ) → i < rows → product rows t w i j ≡ t i i * w i j + sum_below (without i (λ k. t i k * w k j)) rows
  row_terms w i j row = sum_below-one_out (λ k. t i k * w k j) rows i row

  col_terms : (w : Table) (i j : ℕ) → j < cols → product cols w (transpose u) i j ≡ u j j * w i j + sum_below (without j (λ k. u j k * w i k)) cols
  col_terms w i j col = sum_below-same (λ k. w i k * u j k) (λ k. u j k * w i k) cols (λ k below. omega arith) ∙ sum_below-one_out (λ k. u j k * w i k) cols j col

  module _ (row_triangle : IsTriangle rows row_order t) (col_triangle : IsTriangle cols col_order u) (rows_ordered : IsOrder rows row_order) (cols_ordered : IsOrder cols col_order) where
    system : IsSystem m (IsEntry rows cols General) place (two_sided m rows cols negative t u) (λ x i j. t i i + sign m negative * u j j)
    system = IsSystem-add _ _ _ _ _ _ _
        (IsSystem-left m rows cols General tt place t (reads_rows rows cols row_order col_order rows_ordered cols_ordered t row_triangle))
        (IsSystem-scale (sign m negative) _ _ _ _ _
        (IsSystem-right m rows cols General tt place (transpose u) (reads_cols rows cols row_order col_order rows_ordered cols_ordered (transpose u) col_triangle)))

    -- an entry is solved for: s and s' are what its row and its column read of the others
    pub entry_written : (before w w' : Table) (i j s s' sum p : ℕ) → i < rows → j < cols
        → WrittenBelow rows cols General place (Holds before) before w (place i j)
        → OnlyAt rows cols w w' i j
        → Cong m s (sum_below (without i (λ k. t i k * w k j)) rows) → Cong m s' (sum_below (without j (λ k. u j k * w i k)) cols)
        → Cong m sum (s + sign m negative * s') → Cong m p (t i i + sign m negative * u j j)
        → Cong m (sum + p * w' i j) (w i j)
        → WrittenBelow rows cols General place (Holds before) before w' (place i j + 1)
    entry_written before w w' i j s s' sum p row col so_far only s_is s'_is sum_is p_is solved =
        WrittenBelow-solve m rows cols General place (two_sided m rows cols negative t u) (λ x i j. t i i + sign m negative * u j j) system
        (IsPlacing-rowwise rows cols row_order col_order rows_ordered cols_ordered General) before w w' i j sum
        (record { row = row; col = col; inside = λ h. h }) so_far only
        (Cong-by (Cong-add (Cong-sym sum_is) (Cong-add (Cong-sym s_is) (Cong-scale (sign m negative) (Cong-sym s'_is))))
        (omega (arith, row_terms w i j row, ap (λ (v : ℕ). sign m negative * v) (col_terms w i j col))))
        (Cong-by (Cong-add solved (Cong-scale (w' i j) (Cong-sym p_is))) (omega arith))

    -- each entry has a place below the last
    placed : (i j : ℕ) → i < rows → j < cols → place i j < rows * cols
    placed i j row col =
        let whole : (row_order i + 1) * cols ≤ rows * cols = mul-le-mul_right {m = row_order i + 1} {n = rows} cols (omega (arith, rows_ordered.below i row)) in
        omega (arith, cols_ordered.below j col)

    pub all_written : (before now : Table) → WrittenBelow rows cols General place (Holds before) before now (rows * cols)
        → (i j : ℕ) → i < rows → j < cols → Holds before now i j
    all_written before now written i j row col = written.written i j (record { row = row; col = col; inside = λ h. h }) (placed i j row col)

sum_value : (m p q r : ℕ) → r < m → Cong m (p + 1 * q) r → (p % m + q % m) % m ≡ r
sum_value m p q r below h = sym (mod_from_Cong below (Cong-by (Cong-add (Cong-sym h) (Cong-add (Cong-sym (Cong-mod m p)) (Cong-sym (Cong-mod m q)))) (omega arith)))

difference_value : (m p q r : ℕ) → 2 ≤ m → r < m → Cong m (p + (m - 1) * q) r → (p % m + (m - q % m)) % m ≡ r
difference_value m p q r two below h =
    let d : ℕ = m - q % m in
    let rest : q % m < m = mod-lt q (omega arith) in
    let d_is : d + q % m ≡ m = omega arith in
    let e : ℕ = m - 1 in
    let e_is : e + 1 ≡ m = omega arith in
    sym (mod_from_Cong below (Cong-sym (Cong-by (Cong-add h (Cong-add (Cong-mod m p) (Cong-add (Cong-sym (Cong-mod m q)) (Cong-add (Cong-multiple m 1) (Cong-sym (Cong-multiple m q))))))
    (omega (arith, ap (λ (k : ℕ). q * k) e_is)))))

combined_value : (m : ℕ) (negative : Bool) (a b : Table) (i j r : ℕ) → 2 ≤ m → r < m → Cong m (a i j + sign m negative * b i j) r
    → combined m negative (λ i j. a i j % m) (λ i j. b i j % m) i j ≡ r
combined_value m true a b i j r two below h = difference_value m (a i j) (b i j) r two below h
combined_value m false a b i j r two below h = sum_value m (a i j) (b i j) r below h

-- the pivots, as inverses speak of them and as a system does
pub pair_pivot : (m : ℕ) (negative : Bool) (t u : Table) (i j : ℕ) → 2 ≤ m → u j j < m
    → Cong m (combined m negative (λ a b. t a a) (λ a b. u b b) i j) (t i i + sign m negative * u j j)
pair_pivot m true t u i j two below =
    let d : ℕ = m - u j j in
    let d_is : d + u j j ≡ m = omega arith in
    let e : ℕ = m - 1 in
    let e_is : e + 1 ≡ m = omega arith in
    Cong-trans (Cong-mod m (t i i + d)) (Cong-by (Cong-add (Cong-multiple m 1) (Cong-sym (Cong-multiple m (u j j)))) (omega (arith, ap (λ (k : ℕ). u j j * k) e_is)))
pair_pivot m false t u i j two below = Cong-trans (Cong-mod m (t i i + u j j)) (Cong-from_same (omega arith))

pub sylvester_value : (m : ℕ) (negative : Bool) (t u u' : Table) (r c : ℕ) (old : Grid) (p : PartMut) → 2 ≤ m → p.rows ≡ old.rows → p.cols ≡ old.cols
    → r ≡ old.rows → c ≡ old.cols
    → ((i j : ℕ) → i < old.rows → j < old.cols → entry old i j < m) → ((i j : ℕ) → i < old.rows → j < old.cols → entry (grid_of p) i j < m)
    → ((i j : ℕ) → u' i j ≡ u j i)
    → ((i j : ℕ) → i < r → j < c → Cong m (two_sided m r c negative t u' (entry (grid_of p)) i j) (entry old i j))
    → IsSolvedSylvester m negative t u old (grid_of p)
sylvester_value m negative t u u' r c old p two rows cols r_is c_is before residues turned solved =
    IsValue-part m General (λ x. combined m negative (times m old.rows t x) (times m old.cols x u)) (entry old) old p rows cols residues
    (λ i j row col inner. combined_value m negative (product old.rows t (entry (grid_of p))) (product old.cols (entry (grid_of p)) u) i j (entry old i j) two (before i j row col)
    (Cong-trans (Cong-from_same (omega (arith, ap (λ (v : ℕ). sign m negative * v) (same i j)))) (whole i j row col)))
    (λ i j row col out. absurd out)
  where
    same : (i j : ℕ) → product old.cols (entry (grid_of p)) u i j ≡ product old.cols (entry (grid_of p)) (transpose u') i j
    same i j = sum_below-same (λ k. entry (grid_of p) i k * u k j) (λ k. entry (grid_of p) i k * u' j k) old.cols (λ k below. ap (λ (v : ℕ). entry (grid_of p) i k * v) (sym (turned j k)))

    whole : (i j : ℕ) → i < old.rows → j < old.cols → Cong m (two_sided m old.rows old.cols negative t u' (entry (grid_of p)) i j) (entry old i j)
    whole i j row col =
        subst (λ (q : ℕ). Cong m (two_sided m old.rows q negative t u' (entry (grid_of p)) i j) (entry old i j)) c_is
        (subst (λ (q : ℕ). Cong m (two_sided m q c negative t u' (entry (grid_of p)) i j) (entry old i j)) r_is (solved i j (omega arith) (omega arith)))

-- a difference of residues
pub subtracted : (m a b x : ℕ) → 2 ≤ m → b < m → x ≡ (a + m - b) % m → Cong m x (a + (m - 1) * b)
subtracted m a b x two below difference =
    let e : ℕ = m - 1 in
    let e_is : e + 1 ≡ m = omega arith in
    let moved : Cong m (x + b) a = Cong-from_difference b (a + m - b) difference (omega arith) in
    Cong-by (Cong-add moved (Cong-sym (Cong-multiple m b))) (omega (arith, ap (λ (k : ℕ). b * k) e_is))

-- the order of columns in a piece is that in the whole
order_within : (s : Structure) (n first lines g k : ℕ) → first + lines ≤ n → g < lines → k < lines → order_of s n (first + k) < order_of s n (first + g) → order_of s lines k < order_of s lines g
order_within General n first lines g k within row col h = omega (arith, h)
order_within Lower n first lines g k within row col h = omega (arith, h)
order_within UnitLower n first lines g k within row col h = omega (arith, h)
order_within Upper n first lines g k within row col h = omega (arith, h)
order_within UnitUpper n first lines g k within row col h = omega (arith, h)
order_within Diagonal n first lines g k within row col h = omega (arith, h)
order_within Symmetric n first lines g k within row col h = omega (arith, h)

-- and a diagonal block of a triangular table is triangular
pub block_triangle : (primed : Bool) (s : Structure) (n first lines : ℕ) (a : Table) → IsTriangular s → first + lines ≤ n
    → IsTriangle lines (order_of (structure_of primed s) lines) (block_of first (oriented primed (view s a)))
block_triangle primed s n first lines a triangular within = record {
  earlier = λ g k row col apart. elim ((IsTriangle-view primed s n a triangular).earlier (first + g) (first + k) (omega arith) (omega arith) (λ e. apart (omega arith))) [
    | inl none ↦ inl none
    | inr before ↦ inr (order_within (structure_of primed s) n first lines g k within row col before)
  ];
}

-- a residue from which s * b was taken
pub taken : (m : ℕ) (negative : Bool) (a b x : ℕ) → 2 ≤ m → Cong m x (a + sign m (not negative) * b) → Cong m (x + sign m negative * b) a
taken m true a b x two h =
    let e : ℕ = m - 1 in
    let e_is : e + 1 ≡ m = omega arith in
    Cong-by (Cong-add h (Cong-multiple m b)) (omega (arith, ap (λ (k : ℕ). b * k) e_is))
taken m false a b x two h =
    let e : ℕ = m - 1 in
    let e_is : e + 1 ≡ m = omega arith in
    Cong-by (Cong-add h (Cong-multiple m b)) (omega (arith, ap (λ (k : ℕ). b * k) e_is))

-- a piece of columns is solved: r is the block less what the columns before give, x the piece, and w' has it
module _ (m rows cols lines first from len start : ℕ) (negative : Bool) (t u : Table) (order : ℕ → ℕ) (triangle : IsTriangle cols order u)
    (within : first + lines ≤ cols) (done_within : from + len ≤ cols) (apart : (first + lines ≤ from) ⊎ (from + len ≤ first))
    (piece : (j : ℕ) → j < cols → start ≤ order j → order j < start + lines → (first ≤ j) × (j < first + lines))
    (turns : (j : ℕ) → first ≤ j → j < first + lines → (start ≤ order j) × (order j < start + lines))
    (before : (j : ℕ) → j < cols → order j < start → (from ≤ j) × (j < from + len)) where
  unread : (g k : ℕ) → g < lines → k < cols → (k < from) ⊎ (from + len ≤ k) → (k < first) ⊎ (first + lines ≤ k) → u (first + g) k ≡ 0
  unread g k line col out out' =
      let mine = turns (first + g) (omega arith) (omega arith) in
      elim (triangle.earlier (first + g) k (omega arith) col (λ e. elim out' [ inl less ↦ omega arith | inr past ↦ omega arith ])) [
        | inl none ↦ none
        | inr less ↦ elim (cases_lt (order k) start) [
          | inl earlier ↦ (let at = before k col earlier in elim out [ inl h ↦ absurd (omega arith) | inr h ↦ absurd (omega arith) ])
          | inr later ↦ (let at = piece k col later (omega (arith, mine.1)) in elim out' [ inl h ↦ absurd (omega arith) | inr h ↦ absurd (omega arith) ])
        ]
      ]

  pub piece_solved : (old r x new : Table) (i g : ℕ) → g < lines
      → ((k : ℕ) → k < rows → new k (first + g) ≡ x k g) → ((k : ℕ) → k < lines → new i (first + k) ≡ x i k) → ((k : ℕ) → k < len → new i (from + k) ≡ old i (from + k))
      → Cong m (two_sided m rows lines negative t (block_of first u) x i g) (r i g)
      → Cong m (r i g + sign m negative * sum_below (λ k. old i (from + k) * u (first + g) (from + k)) len) (old i (first + g))
      → Cong m (two_sided m rows cols negative t u new i (first + g)) (old i (first + g))
  piece_solved old r x new i g line column_is row_is kept block rest =
      Cong-by (Cong-add block rest) (omega (arith, left, ap (λ (v : ℕ). sign m negative * v) right))
    where
      left : product rows t new i (first + g) ≡ product rows t x i g
      left = sum_below-same (λ k. t i k * new k (first + g)) (λ k. t i k * x k g) rows (λ k row. ap (λ (v : ℕ). t i k * v) (column_is k row))

      right : product cols new (transpose u) i (first + g)
          ≡ sum_below (λ k. old i (from + k) * u (first + g) (from + k)) len + product lines x (transpose (block_of first u)) i g
      right =
          two_spans (λ k. new i k * u (first + g) k) cols from len first lines done_within within apart
          (λ k col out out'. rw (unread g k line col out out') (omega arith))
          ∙ ap₂ (λ (p q : ℕ). p + q)
          (sum_below-same (λ k. new i (from + k) * u (first + g) (from + k)) (λ k. old i (from + k) * u (first + g) (from + k)) len (λ k below. ap (λ (v : ℕ). v * u (first + g) (from + k)) (kept k below)))
          (sum_below-same (λ k. new i (first + k) * u (first + g) (first + k)) (λ k. x i k * u (first + g) (first + k)) lines (λ k below. ap (λ (v : ℕ). v * u (first + g) (first + k)) (row_is k below)))

-- solved columns stay so when columns of later turns change
pub still_solved : (m rows cols at : ℕ) (negative : Bool) (t u : Table) (order : ℕ → ℕ) → IsTriangle cols order u → (mid new : Table) (i j r : ℕ) → i < rows → j < cols → order j < at
    → ((i j : ℕ) → i < rows → j < cols → order j < at → new i j ≡ mid i j)
    → Cong m (two_sided m rows cols negative t u mid i j) r → Cong m (two_sided m rows cols negative t u new i j) r
still_solved m rows cols at negative t u order triangle mid new i j r row col earlier kept solved =
    Cong-trans (Cong-from_same (omega (arith, left, ap (λ (v : ℕ). sign m negative * v) right))) solved
  where
    left : product rows t new i j ≡ product rows t mid i j
    left = sum_below-same (λ k. t i k * new k j) (λ k. t i k * mid k j) rows (λ k below. ap (λ (v : ℕ). t i k * v) (kept k j below col earlier))

    term : (k : ℕ) → k < cols → new i k * u j k ≡ mid i k * u j k
    term k below = elim (cases_lt (order k) at) [
      | inl before ↦ ap (λ (v : ℕ). v * u j k) (kept i k row below before)
      | inr later ↦ elim (triangle.earlier j k col below (λ e. let same : order k ≡ order j = ap order e in omega arith)) [
        | inl none ↦ rw none (omega arith)
        | inr less ↦ absurd (omega arith)
      ]
    ]

    right : product cols new (transpose u) i j ≡ product cols mid (transpose u) i j
    right = sum_below-same (λ k. new i k * u j k) (λ k. mid i k * u j k) cols term
