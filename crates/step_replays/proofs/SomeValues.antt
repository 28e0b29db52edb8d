-- Each kernel has a value: some block of the old one's sizes solves its small equation, where the pivots that it divides by are units. Cited
-- where a step has an outcome.
use Rattle.std.proofs.Common.{◌≡◌, ℕ, ◌+◌, ◌*◌, ◌-◌, ◌%◌, ◌<◌, ◌≤◌, ◌⊎◌, inl, inr, Bool, true, false, if◌then◌else◌, [], refl, sym, ◌∙◌, ap, ap₂, subst, arith}
use Rattle.std.proofs.Math.Nat.{mod-eq_of_lt, mod-lt}
use Rattle.std.proofs.lemmas.Bool.Decides.{nat_tests}
use Rattle.residue_sums.specs.Residues.{Cong, IsUnit}
use Rattle.residue_sums.specs.Inverses.{inverse_of}
use Rattle.residue_sums.specs.Tables.{Table, oriented, product, times, transpose}
use Rattle.residue_sums.specs.Grids.{Grid, AreResidues, HasEntries, entry}
use Rattle.residue_sums.proofs.Congruence.{Cong-add, Cong-from_difference, Cong-from_same, Cong-mod, Cong-refl, Cong-scale, Cong-sym, Cong-trans, IsUnit-Cong, difference_from_Cong, mod_from_Cong}
use Rattle.residue_sums.proofs.Inverses.{inverse_of-inverts}
use Rattle.structure_rules.specs.declared.Structure.{Structure}
use Rattle.structure_rules.specs.declared.Structure.TheVariants as structures
use Rattle.structure_rules.specs.Structures.{IsEntry, IsInside, IsTriangular, IsWorkStructure, IsZero, is_zero, view}
use Rattle.structure_rules.proofs.Views.{IsEntry-or_not}
use Rattle.matrix_algebra.proofs.Products.{product-Cong, product-same}
use Rattle.matrix_algebra.proofs.Packed.{view-diagonal_here}
use Rattle.matrix_algebra.proofs.Solutions.{left_solution, right_solution, sylvester_plus_solution, sylvester_minus_solution}
use Rattle.matrix_algebra.proofs.Substitution.{Solution}
use Rattle.matrix_algebra.proofs.Triangles.{IsTriangle-view, IsTriangle-view_transposed, IsUnit-view_one}
use Rattle.operation_spec.specs.declared.operation.Operation.{Operation}
use Rattle.operation_spec.specs.declared.operation.Form.TheVariants.{Lu, Ldl}
use Rattle.equation.specs.Kernels.{IsValue, combined, IsSolvedLeft, IsSolvedRight, IsSolvedRightLdl, IsSolvedSylvester, IsFactoredLu, IsFactoredLdl}
use Rattle.equation.specs.Pivots.{HasResidues, IsBadForLu, IsBadForLdl}
use Rattle.equation.proofs.AssignedGrids.{IsFull-grid_of, HasEntries-grid_of, AreResidues-grid_of, HasResidues-entry}
use Rattle.equation.proofs.LdlForms.{some_ldl}
use Rattle.equation.proofs.LuForms.{some_lu}
use Rattle.flash_blocks.specs.Blocks.{grid_of}
use Rattle.step_replays.specs.Accesses.{no_operation}

-- ---- values out of tables

-- what a work structure reads at a place depends on the entry there
view-reads : (s : Structure) (a c : Table) (i j : ℕ) → IsWorkStructure s → a i j ≡ c i j → view s a i j ≡ view s c i j
view-reads structures.General a c i j work e = e
view-reads structures.Lower a c i j work e = rw e refl
view-reads structures.Upper a c i j work e = rw e refl
view-reads structures.UnitLower a c i j work e = absurd work
view-reads structures.UnitUpper a c i j work e = absurd work
view-reads structures.Diagonal a c i j work e = absurd work
view-reads structures.Symmetric a c i j work e = absurd work

inside-test : (s : Structure) (i j : ℕ) → IsInside s i j → is_zero s i j ≡ false
inside-test s i j inside = grind (arith, nat_tests)

zero-test : (s : Structure) (i j : ℕ) → IsZero s i j → is_zero s i j ≡ true
zero-test s i j none = grind (arith, nat_tests)

-- a table of residues that keeps the entries outside the structure gives a value, where its equation holds of any matrix with its entries
module _ (m : ℕ) (s : Structure) (left : Table → Table) (right : Table) (old : Grid) where
  abbrev Holds : Table → Type 0
  Holds a = (x : Grid) → HasEntries x a → x.rows ≡ old.rows → x.cols ≡ old.cols → (i j : ℕ) → IsEntry old.rows old.cols s i j → left (entry x) i j ≡ right i j

  pub value-of_table : (a : Table) → HasResidues m a → ((i j : ℕ) → IsZero s i j → a i j ≡ entry old i j) → Holds a → (x : Grid) × IsValue m s left right old x
  value-of_table a residues kept holds = (
    grid_of a old.rows old.cols,
    record {
      rows = refl;
      cols = refl;
      full = IsFull-grid_of a old.rows old.cols;
      residues = AreResidues-grid_of a old.rows old.cols m residues;
      equation = λ i j row col inside. holds (grid_of a old.rows old.cols) (HasEntries-grid_of a old.rows old.cols) refl refl i j (record { row = row; col = col; inside = inside });
      others = λ i j row col none. HasEntries-grid_of a old.rows old.cols i j row col ∙ kept i j none;
    },
  )

  -- so does a solution of a system
  pub value-of_solution : 0 < m → AreResidues m old → (System : Table → ℕ → ℕ → Type 0) → (found : Solution m (IsEntry old.rows old.cols s) System (entry old))
      → (((i j : ℕ) → IsEntry old.rows old.cols s i j → System found.table i j) → Holds found.table) → (x : Grid) × IsValue m s left right old x
  value-of_solution pos residues System found holds = value-of_table found.table
      (λ i j. below i j (IsEntry-or_not old.rows old.cols s i j)) (λ i j none. found.kept i j (λ within. within.inside none)) (holds found.solves)
    where
      below : (i j : ℕ) → IsEntry old.rows old.cols s i j ⊎ ¬ (IsEntry old.rows old.cols s i j) → found.table i j < m
      below i j (inl within) = found.residues i j within
      below i j (inr apart) = rw (found.kept i j apart) (HasResidues-entry m old pos residues i j)

-- ---- updates

pub some-written : (m : ℕ) (s : Structure) (right : Table) (old : Grid) → 0 < m → AreResidues m old → HasResidues m right → (x : Grid) × IsValue m s (λ a. a) right old x
some-written m s right old pos residues right_residues = value-of_table m s (λ a. a) right old written
    (λ i j. below i j (is_zero s i j)) (λ i j none. rw (zero-test s i j none) refl)
    (λ x has rows cols i j within. has i j (rw rows within.row) (rw cols within.col) ∙ rw (inside-test s i j within.inside) refl)
  where
    written : Table
    written i j = if is_zero s i j then entry old i j else right i j

    below : (i j : ℕ) (outside : Bool) → (if outside then entry old i j else right i j) < m
    below i j true = HasResidues-entry m old pos residues i j
    below i j false = right_residues i j

-- ---- inverses

pub some-inverted : (m : ℕ) (pivots : Table) (old : Grid) → 2 ≤ m → ((i j : ℕ) → i < old.rows → j < old.cols → IsUnit m (pivots i j))
    → (x : Grid) × IsValue m structures.General (λ a i j. (pivots i j * a i j) % m) (λ i j. 1) old x
some-inverted m pivots old two units = value-of_table m structures.General (λ a i j. (pivots i j * a i j) % m) (λ i j. 1) old inverse
    (λ i j. mod-lt (inverse_of m (pivots i j)) (omega arith)) (λ i j none. absurd none)
    (λ x has rows cols i j within.
    let here : entry x i j ≡ inverse i j = has i j (rw rows within.row) (rw cols within.col) in
    ap (λ (v : ℕ). (pivots i j * v) % m) here ∙ inverts (pivots i j) (units i j within.row within.col))
  where
    inverse : Table
    inverse i j = inverse_of m (pivots i j) % m

    inverts : (a : ℕ) → IsUnit m a → (a * (inverse_of m a % m)) % m ≡ 1
    inverts a unit =
        let reduced : Cong m (a * (inverse_of m a % m)) 1 = Cong-trans (Cong-scale a (Cong-mod m (inverse_of m a))) (inverse_of-inverts m a two unit) in
        reduced.same ∙ mod-eq_of_lt two

-- ---- solves with one triangular factor

module _ (m : ℕ) (two : 2 ≤ m) (old : Grid) (residues : AreResidues m old) where
  pos : 0 < m
  pos = omega (arith, two)

  -- an exact sum that is congruent to an entry of the old block
  due : (i j p : ℕ) → Cong m p (entry old i j) → p % m ≡ entry old i j
  due i j p holds = sym (mod_from_Cong (HasResidues-entry m old (omega (arith, two)) residues i j) (Cong-sym holds))

  module _ (s k : Structure) (work : IsWorkStructure s) (triangular : IsTriangular k) (primed : Bool) (a : Table) where
    abbrev triangle : Table
    triangle = oriented primed (view k a)

    pub some-solved_left : ((q : ℕ) → q < old.rows → IsUnit m (oriented primed (view k a) q q)) → (x : Grid) × IsSolvedLeft m s (oriented primed (view k a)) old x
    some-solved_left units = value-of_solution m s (λ x. times m old.rows triangle (view s x)) (entry old) old pos residues System found
        (λ solves x has rows cols i j within.
        ap (λ (p : ℕ). p % m) (product-same old.rows triangle (view s (entry x)) triangle (view s found.table) i j (λ q h. refl)
        (λ q h. view-reads s (entry x) found.table q j work (has q j (rw rows h) (rw cols within.col))))
        ∙ due i j (product old.rows triangle (view s found.table) i j) (solves i j within))
      where
        System : Table → ℕ → ℕ → Type 0
        System x i j = Cong m (product old.rows triangle (view s x) i j) (entry old i j)

        found : Solution m (IsEntry old.rows old.cols s) System (entry old)
        found = left_solution m old.rows old.cols two s work triangle _ (IsTriangle-view primed k old.rows a triangular) units (entry old) (entry old)

    pub some-solved_right : ((q : ℕ) → q < old.cols → IsUnit m (oriented primed (view k a) q q)) → (x : Grid) × IsSolvedRight m s (oriented primed (view k a)) old x
    some-solved_right units = value-of_solution m s (λ x. times m old.cols (view s x) triangle) (entry old) old pos residues System found
        (λ solves x has rows cols i j within.
        ap (λ (p : ℕ). p % m) (product-same old.cols (view s (entry x)) triangle (view s found.table) triangle i j
        (λ q h. view-reads s (entry x) found.table i q work (has i q (rw rows within.row) (rw cols h))) (λ q h. refl))
        ∙ due i j (product old.cols (view s found.table) triangle i j) (solves i j within))
      where
        System : Table → ℕ → ℕ → Type 0
        System x i j = Cong m (product old.cols (view s x) triangle i j) (entry old i j)

        found : Solution m (IsEntry old.rows old.cols s) System (entry old)
        found = right_solution m old.rows old.cols two s work triangle _ (IsTriangle-view_transposed primed k old.cols a triangular) units (entry old) (entry old)

  -- ---- the solve with D * L': first the product with D, then X

  pub some-solved_right_ldl : (f : Table) → ((q : ℕ) → q < old.cols → IsUnit m (f q q)) → (x : Grid) × IsSolvedRightLdl m f old x
  some-solved_right_ldl f units = value-of_solution m structures.General
      (λ x. times m old.cols (times m old.cols x (view structures.Diagonal f)) (transpose (view structures.UnitLower f))) (entry old) old pos residues Scaled found
      (λ solves x has rows cols i j within.
      due i j (product old.cols (times m old.cols (entry x) (view structures.Diagonal f)) (transpose (view structures.UnitLower f)) i j)
      (Cong-trans (product-Cong old.cols (times m old.cols (entry x) (view structures.Diagonal f)) (transpose (view structures.UnitLower f)) scaled.table (transpose (view structures.UnitLower f)) i j m
      (λ q h. scaled-here x has rows cols solves i q within.row h) (λ q h. Cong-refl m (view structures.UnitLower f j q)))
      (scaled.solves i j within)))
    where
      Lower : Table → ℕ → ℕ → Type 0
      Lower x i j = Cong m (product old.cols (view structures.General x) (oriented true (view structures.UnitLower f)) i j) (entry old i j)

      scaled : Solution m (IsEntry old.rows old.cols structures.General) Lower (entry old)
      scaled = right_solution m old.rows old.cols two structures.General tt (oriented true (view structures.UnitLower f)) _
          (IsTriangle-view_transposed true structures.UnitLower old.cols f tt) (λ q col. IsUnit-view_one m structures.UnitLower f q q two refl) (entry old) (entry old)

      Scaled : Table → ℕ → ℕ → Type 0
      Scaled x i j = Cong m (product old.cols (view structures.General x) (view structures.Diagonal f) i j) (scaled.table i j)

      found : Solution m (IsEntry old.rows old.cols structures.General) Scaled (entry old)
      found = right_solution m old.rows old.cols two structures.General tt (view structures.Diagonal f) _
          (IsTriangle-view_transposed false structures.Diagonal old.cols f tt) (λ q col. rw (view-diagonal_here f q q refl) (units q col)) scaled.table (entry old)

      scaled-here : (x : Grid) → HasEntries x found.table → x.rows ≡ old.rows → x.cols ≡ old.cols → ((i j : ℕ) → IsEntry old.rows old.cols structures.General i j → Scaled found.table i j)
          → (i q : ℕ) → i < old.rows → q < old.cols → Cong m (times m old.cols (entry x) (view structures.Diagonal f) i q) (scaled.table i q)
      scaled-here x has rows cols solves i q row col =
          let same : times m old.cols (entry x) (view structures.Diagonal f) i q ≡ times m old.cols found.table (view structures.Diagonal f) i q
          = ap (λ (p : ℕ). p % m) (product-same old.cols (entry x) (view structures.Diagonal f) found.table (view structures.Diagonal f) i q
          (λ r h. has i r (rw rows row) (rw cols h)) (λ r h. refl)) in
          Cong-trans (Cong-from_same same) (Cong-trans (Cong-mod m (product old.cols found.table (view structures.Diagonal f) i q))
          (solves i q (record { row = row; col = col; inside = λ outside. outside })))

  -- ---- factors

  module _ (square : old.rows ≡ old.cols) where
    pub some-factored_lu : ((k : ℕ) → k < old.rows → ¬ (IsBadForLu m (entry old) k)) → (x : Grid) × IsFactoredLu m old x
    some-factored_lu none =
        let op : Operation = record no_operation { form = Lu } in
        let found = some_lu m two op [] old refl refl square (λ place bad. none place.row bad.1 bad.2) residues in (
          found.0,
          record {
            rows = found.1.rows;
            cols = found.1.cols;
            full = found.1.full;
            residues = found.1.residues;
            equation = λ i j row col inside.
                subst (λ (n : ℕ). times m n (view structures.UnitLower (entry found.0)) (view structures.Upper (entry found.0)) i j ≡ entry old i j) found.1.rows (found.1.equation i j row col inside);
            others = found.1.others;
          },
        )

    pub some-factored_ldl : ((k : ℕ) → k < old.rows → ¬ (IsBadForLdl m (entry old) k)) → (x : Grid) × IsFactoredLdl m old x
    some-factored_ldl none =
        let op : Operation = record no_operation { form = Ldl; work = record { name = []; structure = structures.Lower; rows = 0; cols = 0 } } in
        let found = some_ldl m two op [] old refl refl square (λ place bad. none place.row bad.1 bad.2) residues in (
          found.0,
          record {
            rows = found.1.rows;
            cols = found.1.cols;
            full = found.1.full;
            residues = found.1.residues;
            equation = λ i j row col inside.
                subst (λ (n : ℕ). times m n (times m n (view structures.UnitLower (entry found.0)) (view structures.Diagonal (entry found.0))) (transpose (view structures.UnitLower (entry found.0))) i j ≡ entry old i j)
                found.1.rows (found.1.equation i j row col inside);
            others = found.1.others;
          },
        )

-- ---- the solve with two triangular factors

module _ (m : ℕ) (two : 2 ≤ m) (old : Grid) (residues : AreResidues m old) (k l : Structure) (k_triangular : IsTriangular k) (l_triangular : IsTriangular l)
    (primed second_primed : Bool) (a c : Table) where
  abbrev first : Table
  first = oriented primed (view k a)

  abbrev second : Table
  second = oriented second_primed (view l c)

  abbrev pairs : Bool → Table
  pairs negative = combined m negative (λ i j. first i i) (λ i j. second j j)

  abbrev HaveUnits : Bool → Type 0
  HaveUnits negative = (i j : ℕ) → i < old.rows → j < old.cols → IsUnit m (pairs negative i j)

  below-here : (i j : ℕ) → entry old i j < m
  below-here = HasResidues-entry m old (omega (arith, two)) residues

  -- the two products of a matrix that has the entries of a table
  left-same : (x : Grid) (t : Table) → HasEntries x t → x.rows ≡ old.rows → x.cols ≡ old.cols → (i j : ℕ) → j < old.cols
      → product old.rows first (entry x) i j ≡ product old.rows first t i j
  left-same x t has rows cols i j col = product-same old.rows first (entry x) first t i j (λ q h. refl) (λ q h. has q j (rw rows h) (rw cols col))

  right-same : (x : Grid) (t : Table) → HasEntries x t → x.rows ≡ old.rows → x.cols ≡ old.cols → (i j : ℕ) → i < old.rows
      → product old.cols (entry x) second i j ≡ product old.cols t second i j
  right-same x t has rows cols i j row = product-same old.cols (entry x) second t second i j (λ q h. has i q (rw rows row) (rw cols h)) (λ q h. refl)

  sum-due : (p q r : ℕ) → r < m → Cong m (p + q) r → (p % m + q % m) % m ≡ r
  sum-due p q r below h = sym (mod_from_Cong below (Cong-sym (Cong-trans (Cong-add (Cong-mod m p) (Cong-mod m q)) h)))

  difference-due : (p q r : ℕ) → r < m → Cong m p (r + q) → (p % m + (m - q % m)) % m ≡ r
  difference-due p q r r_below h =
      let below : q % m < m = mod-lt q (omega arith) in
      sym (difference_from_Cong (q % m) (p % m + (m - q % m)) r_below
      (Cong-trans (Cong-add (Cong-refl m r) (Cong-mod m q)) (Cong-trans (Cong-sym h) (Cong-sym (Cong-mod m p)))) (omega arith))

  some-solved_plus : HaveUnits false → (x : Grid) × IsSolvedSylvester m false first second old x
  some-solved_plus units = value-of_solution m structures.General (λ x. combined m false (times m old.rows first x) (times m old.cols x second)) (entry old) old (omega (arith, two)) residues System found
      (λ solves x has rows cols i j within.
      ap₂ (λ (p q : ℕ). (p % m + q % m) % m) (left-same x found.table has rows cols i j within.col) (right-same x found.table has rows cols i j within.row)
      ∙ sum-due (product old.rows first found.table i j) (product old.cols found.table second i j) (entry old i j) (below-here i j) (solves i j within))
    where
      System : Table → ℕ → ℕ → Type 0
      System x i j = Cong m (product old.rows first (view structures.General x) i j + product old.cols (view structures.General x) second i j) (entry old i j)

      found : Solution m (IsEntry old.rows old.cols structures.General) System (entry old)
      found = sylvester_plus_solution m old.rows old.cols two structures.General tt first second _ _
          (IsTriangle-view primed k old.rows a k_triangular) (IsTriangle-view_transposed second_primed l old.cols c l_triangular)
          (λ i j row col. IsUnit-Cong m _ (first i i + second j j) (Cong-mod m (first i i + second j j)) (units i j row col)) (entry old) (entry old)

  some-solved_minus : ((j : ℕ) → j < old.cols → second j j < m) → HaveUnits true → (x : Grid) × IsSolvedSylvester m true first second old x
  some-solved_minus small units = value-of_solution m structures.General (λ x. combined m true (times m old.rows first x) (times m old.cols x second)) (entry old) old (omega (arith, two)) residues System found
      (λ solves x has rows cols i j within.
      ap₂ (λ (p q : ℕ). (p % m + (m - q % m)) % m) (left-same x found.table has rows cols i j within.col) (right-same x found.table has rows cols i j within.row)
      ∙ difference-due (product old.rows first found.table i j) (product old.cols found.table second i j) (entry old i j) (below-here i j) (solves i j within))
    where
      System : Table → ℕ → ℕ → Type 0
      System x i j = Cong m (product old.rows first (view structures.General x) i j) (entry old i j + product old.cols (view structures.General x) second i j)

      found : Solution m (IsEntry old.rows old.cols structures.General) System (entry old)
      found = sylvester_minus_solution m old.rows old.cols two structures.General tt first second _ _
          (IsTriangle-view primed k old.rows a k_triangular) (IsTriangle-view_transposed second_primed l old.cols c l_triangular) (pairs true)
          (λ i j row col. Cong-from_difference (second j j) (first i i + (m - second j j)) refl (let below : second j j < m = small j col in omega arith))
          units (entry old) (entry old)

  pub some-solved_sylvester : (negative : Bool) → ((j : ℕ) → j < old.cols → oriented second_primed (view l c) j j < m)
      → ((i j : ℕ) → i < old.rows → j < old.cols → IsUnit m (combined m negative (λ i j. oriented primed (view k a) i i) (λ i j. oriented second_primed (view l c) j j) i j))
      → (x : Grid) × IsSolvedSylvester m negative (oriented primed (view k a)) (oriented second_primed (view l c)) old x
  some-solved_sylvester false small units = some-solved_plus units
  some-solved_sylvester true small units = some-solved_minus small units
