-- The first bad pivots of small rows that were worked by hand.
use Rattle.std.proofs.Common.{◌≡◌, ℕ, zero, suc, ◌*◌, ◌%◌, ◌<◌, ◌≤◌, List, [], ◌∷◌, inl, inr, refl, arith}
use Rattle.residue_sums.specs.Residues.{IsUnit}
use Rattle.residue_sums.specs.Tables.{Table, times, transpose}
use Rattle.residue_sums.specs.Grids.{Grid, entry}
use Rattle.structure_rules.specs.declared.Structure.TheVariants.{UnitLower, Upper, Diagonal}
use Rattle.structure_rules.specs.Structures.{view}
use Rattle.operation_spec.proofs.WorkedOperations.{lu, ldl, low, syl}
use Rattle.equation.specs.declared.job.Place.{Place}
use Rattle.equation.specs.Pivots.{HasResidues, IsFirstBadPivot}

abbrev grid : ℕ → ℕ → List ℕ → Grid
grid rows cols entries = record { rows = rows; cols = cols; entries = entries }

abbrev place : ℕ → ℕ → Place
place row col = record { row = row; col = col }

-- ---- pivots that are given: 2 has no inverse modulo 6, and 1 + 6 is 0 modulo 7

low_pivot : IsFirstBadPivot 6 low (grid 1 1 (2 ∷ []) ∷ []) (grid 1 1 (4 ∷ [])) (place 0 0)
unfolding low
low_pivot = record {
  diagonal = refl;
  within = omega arith;
  bad = λ unit. let e : (2 * unit.0) % 6 ≡ 1 = unit.2 in omega arith;
  first = λ i less. absurd (omega arith);
}

syl_pivot : IsFirstBadPivot 7 syl (grid 1 1 (1 ∷ []) ∷ grid 1 1 (6 ∷ []) ∷ []) (grid 1 1 (3 ∷ [])) (place 0 0)
unfolding syl
syl_pivot = record {
  row = omega arith;
  col = omega arith;
  bad = λ unit. let e : (0 * unit.0) % 7 ≡ 1 = unit.2 in omega arith;
  first = λ i j row col before. elim before [ inl less ↦ absurd (omega arith) | inr same ↦ let less : j < 0 = same.1 in absurd (omega arith) ];
}

-- ---- pivots that are found

-- so many numbers in the first row, and zeros in all others
abbrev first_row : ℕ → Table
first_row a zero j = a
first_row a (suc i) j = 0

HasResidues-first_row : (m a : ℕ) → a < m → HasResidues m (first_row a)
HasResidues-first_row m a below zero j = below
HasResidues-first_row m a below (suc i) j = omega arith

-- the first entry is 0
lu_first : IsFirstBadPivot 7 lu [] (grid 2 2 (0 ∷ 1 ∷ 1 ∷ 0 ∷ [])) (place 0 0)
unfolding lu
lu_first = (
  refl,
  omega arith,
  record {
    l = λ i j. 1;
    u = λ i j. 0;
    l_residues = λ i j. omega arith;
    u_residues = λ i j. omega arith;
    product = products;
    units = λ i less. absurd (omega arith);
    bad = λ unit. let e : (0 * unit.0) % 7 ≡ 1 = unit.2 in omega arith;
  },
)
  where
    products : (i j : ℕ) → i ≤ 0 → j ≤ 0 → times 7 1 (view UnitLower (λ i j. 1)) (view Upper (λ i j. 0)) i j ≡ entry (grid 2 2 (0 ∷ 1 ∷ 1 ∷ 0 ∷ [])) i j
    products zero zero row col = refl
    products zero (suc j) row col = absurd (omega arith)
    products (suc i) j row col = absurd (omega arith)

-- the first pivot is 1 and the last is 0
lu_last : IsFirstBadPivot 7 lu [] (grid 2 2 (1 ∷ 1 ∷ 1 ∷ 1 ∷ [])) (place 1 1)
unfolding lu
lu_last = (
  refl,
  omega arith,
  record {
    l = λ i j. 1;
    u = first_row 1;
    l_residues = λ i j. omega arith;
    u_residues = HasResidues-first_row 7 1 (omega arith);
    product = products;
    units = units;
    bad = λ unit. let e : (0 * unit.0) % 7 ≡ 1 = unit.2 in omega arith;
  },
)
  where
    products : (i j : ℕ) → i ≤ 1 → j ≤ 1 → times 7 2 (view UnitLower (λ i j. 1)) (view Upper (first_row 1)) i j ≡ entry (grid 2 2 (1 ∷ 1 ∷ 1 ∷ 1 ∷ [])) i j
    products zero zero row col = refl
    products zero (suc zero) row col = refl
    products (suc zero) zero row col = refl
    products (suc zero) (suc zero) row col = refl
    products zero (suc (suc j)) row col = absurd (omega arith)
    products (suc zero) (suc (suc j)) row col = absurd (omega arith)
    products (suc (suc i)) j row col = absurd (omega arith)

    units : (i : ℕ) → i < 1 → IsUnit 7 (first_row 1 i i)
    units zero less = (1, omega arith, refl)
    units (suc i) less = absurd (omega arith)

-- 3 * 2 * 3 + 0 is 3 modulo 5
ldl_last : IsFirstBadPivot 5 ldl [] (grid 2 2 (2 ∷ 4 ∷ 1 ∷ 3 ∷ [])) (place 1 1)
unfolding ldl
ldl_last = (
  refl,
  omega arith,
  record {
    l = λ i j. 3;
    d = first_row 2;
    l_residues = λ i j. omega arith;
    d_residues = HasResidues-first_row 5 2 (omega arith);
    product = products;
    units = units;
    bad = λ unit. let e : (0 * unit.0) % 5 ≡ 1 = unit.2 in omega arith;
  },
)
  where
    products : (i j : ℕ) → i ≤ 1 → j ≤ i
        → times 5 2 (times 5 2 (view UnitLower (λ i j. 3)) (view Diagonal (first_row 2))) (transpose (view UnitLower (λ i j. 3))) i j ≡ entry (grid 2 2 (2 ∷ 4 ∷ 1 ∷ 3 ∷ [])) i j
    products zero zero row col = refl
    products (suc zero) zero row col = refl
    products (suc zero) (suc zero) row col = refl
    products zero (suc j) row col = absurd (omega arith)
    products (suc zero) (suc (suc j)) row col = absurd (omega arith)
    products (suc (suc i)) j row col = absurd (omega arith)

    units : (i : ℕ) → i < 1 → IsUnit 5 (first_row 2 i i)
    units zero less = (3, omega arith, refl)
    units (suc i) less = absurd (omega arith)

-- of three pivots the second is 0
lu_middle : IsFirstBadPivot 7 lu [] (grid 3 3 (1 ∷ 1 ∷ 4 ∷ 1 ∷ 1 ∷ 5 ∷ 2 ∷ 3 ∷ 6 ∷ [])) (place 1 1)
unfolding lu
lu_middle = (
  refl,
  omega arith,
  record {
    l = λ i j. 1;
    u = first_row 1;
    l_residues = λ i j. omega arith;
    u_residues = HasResidues-first_row 7 1 (omega arith);
    product = products;
    units = units;
    bad = λ unit. let e : (0 * unit.0) % 7 ≡ 1 = unit.2 in omega arith;
  },
)
  where
    products : (i j : ℕ) → i ≤ 1 → j ≤ 1
        → times 7 2 (view UnitLower (λ i j. 1)) (view Upper (first_row 1)) i j ≡ entry (grid 3 3 (1 ∷ 1 ∷ 4 ∷ 1 ∷ 1 ∷ 5 ∷ 2 ∷ 3 ∷ 6 ∷ [])) i j
    products zero zero row col = refl
    products zero (suc zero) row col = refl
    products (suc zero) zero row col = refl
    products (suc zero) (suc zero) row col = refl
    products zero (suc (suc j)) row col = absurd (omega arith)
    products (suc zero) (suc (suc j)) row col = absurd (omega arith)
    products (suc (suc i)) j row col = absurd (omega arith)

    units : (i : ℕ) → i < 1 → IsUnit 7 (first_row 1 i i)
    units zero less = (1, omega arith, refl)
    units (suc i) less = absurd (omega arith)

-- of three pivots the second is 0; what stands above the diagonal isn't read
ldl_middle : IsFirstBadPivot 5 ldl [] (grid 3 3 (2 ∷ 4 ∷ 4 ∷ 1 ∷ 3 ∷ 4 ∷ 2 ∷ 3 ∷ 1 ∷ [])) (place 1 1)
unfolding ldl
ldl_middle = (
  refl,
  omega arith,
  record {
    l = λ i j. 3;
    d = first_row 2;
    l_residues = λ i j. omega arith;
    d_residues = HasResidues-first_row 5 2 (omega arith);
    product = products;
    units = units;
    bad = λ unit. let e : (0 * unit.0) % 5 ≡ 1 = unit.2 in omega arith;
  },
)
  where
    products : (i j : ℕ) → i ≤ 1 → j ≤ i → times 5 2 (times 5 2 (view UnitLower (λ i j. 3)) (view Diagonal (first_row 2))) (transpose (view UnitLower (λ i j. 3))) i j
        ≡ entry (grid 3 3 (2 ∷ 4 ∷ 4 ∷ 1 ∷ 3 ∷ 4 ∷ 2 ∷ 3 ∷ 1 ∷ [])) i j
    products zero zero row col = refl
    products (suc zero) zero row col = refl
    products (suc zero) (suc zero) row col = refl
    products zero (suc j) row col = absurd (omega arith)
    products (suc zero) (suc (suc j)) row col = absurd (omega arith)
    products (suc (suc i)) j row col = absurd (omega arith)

    units : (i : ℕ) → i < 1 → IsUnit 5 (first_row 2 i i)
    units zero less = (3, omega arith, refl)
    units (suc i) less = absurd (omega arith)
