-- The equations, computed on small rows that were worked by hand: on the entries of the work structure the left side is
-- the right side, and for a wrong solution they differ at an entry.
use Rattle.std.proofs.Common.{◌≡◌, ℕ, List, [], ◌∷◌, true, false, refl, codes}
use Rattle.residue_sums.specs.Tables.{Table}
use Rattle.residue_sums.specs.Grids.{Grid, entry}
use Rattle.structure_rules.specs.declared.Structure.TheVariants.{General, Upper, UnitUpper, Diagonal}
use Rattle.operation_spec.specs.declared.operation.Operation.{Operation}
use Rattle.operation_spec.specs.declared.operation.Form.TheVariants.{Assign}
use Rattle.operation_spec.proofs.WorkedOperations.{operand, factor, added, mul, lu, ldl, low, low_primed, inv, syl, sqr, sym, low_right, syl_lower, upp_right}
use Rattle.equation.specs.Equations.{left_side, right_side}

abbrev grid : ℕ → ℕ → List ℕ → Grid
grid rows cols entries = record { rows = rows; cols = cols; entries = entries }

-- entries of a table: of one row or column of two, of two rows and columns, and of their lower part
abbrev row : Table → List ℕ
row a = a 0 0 ∷ a 0 1 ∷ []

abbrev column : Table → List ℕ
column a = a 0 0 ∷ a 1 0 ∷ []

abbrev square : Table → List ℕ
square a = a 0 0 ∷ a 0 1 ∷ a 1 0 ∷ a 1 1 ∷ []

abbrev lower : Table → List ℕ
lower a = a 0 0 ∷ a 1 0 ∷ a 1 1 ∷ []

-- X = W + A * B with no inner dimension: W stays
module _ where
  abbrev none : List Grid
  none = grid 2 0 [] ∷ grid 0 2 [] ∷ []

  abbrev none_work : Grid
  none_work = grid 2 2 (1 ∷ 2 ∷ 3 ∷ 4 ∷ [])

  none_satisfied : square (left_side 7 mul none none_work) ≡ square (right_side 7 mul none none_work)
  unfolding mul
  none_satisfied = refl

  none_refused : (left_side 7 mul none (grid 2 2 (1 ∷ 2 ∷ 3 ∷ 5 ∷ [])) 1 1 ≡ 5) × (right_side 7 mul none none_work 1 1 ≡ 4)
  unfolding mul
  none_refused = (refl, refl)

-- X = W + A * B
module _ where
  abbrev mul_knowns : List Grid
  mul_knowns = grid 2 2 (1 ∷ 2 ∷ 3 ∷ 4 ∷ []) ∷ grid 2 2 (1 ∷ 0 ∷ 0 ∷ 1 ∷ []) ∷ []

  abbrev mul_work : Grid
  mul_work = grid 2 2 (0 ∷ 0 ∷ 0 ∷ 0 ∷ [])

  mul_satisfied : square (left_side 101 mul mul_knowns (grid 2 2 (1 ∷ 2 ∷ 3 ∷ 4 ∷ []))) ≡ square (right_side 101 mul mul_knowns mul_work)
  unfolding mul
  mul_satisfied = refl

  mul_refused : (left_side 101 mul mul_knowns (grid 2 2 (1 ∷ 3 ∷ 2 ∷ 4 ∷ [])) 0 1 ≡ 3) × (right_side 101 mul mul_knowns mul_work 0 1 ≡ 2)
  unfolding mul
  mul_refused = (refl, refl)

-- X = W + A * B - B * A
module _ where
  unfoldable commute : Operation
  commute = record {
    name = codes "commute";
    dims = codes "n" ∷ [];
    work = operand (codes "W") General 0 0;
    knowns = operand (codes "A") General 0 0 ∷ operand (codes "B") General 0 0 ∷ [];
    form = Assign;
    terms = added 0 1 ∷ record { minus = true; first = factor 1 false; second = factor 0 false } ∷ [];
  }

  abbrev commute_knowns : List Grid
  commute_knowns = grid 2 2 (1 ∷ 2 ∷ 3 ∷ 4 ∷ []) ∷ grid 2 2 (0 ∷ 1 ∷ 1 ∷ 0 ∷ []) ∷ []

  commute_satisfied : square (left_side 7 commute commute_knowns (grid 2 2 (6 ∷ 4 ∷ 3 ∷ 1 ∷ []))) ≡ square (right_side 7 commute commute_knowns mul_work)
  unfolding commute
  commute_satisfied = refl

  commute_refused : (left_side 7 commute commute_knowns (grid 2 2 (1 ∷ 4 ∷ 3 ∷ 1 ∷ [])) 0 0 ≡ 1) × (right_side 7 commute commute_knowns mul_work 0 0 ≡ 6)
  unfolding commute
  commute_refused = (refl, refl)

-- X = W + A * A' on the lower part of W; the entry above the diagonal stays
module _ where
  abbrev sqr_knowns : List Grid
  sqr_knowns = grid 2 1 (1 ∷ 2 ∷ []) ∷ []

  abbrev sqr_work : Grid
  sqr_work = grid 2 2 (1 ∷ 5 ∷ 2 ∷ 3 ∷ [])

  abbrev sqr_solution : Grid
  sqr_solution = grid 2 2 (2 ∷ 5 ∷ 4 ∷ 0 ∷ [])

  sqr_satisfied : lower (left_side 7 sqr sqr_knowns sqr_solution) ≡ lower (right_side 7 sqr sqr_knowns sqr_work)
  unfolding sqr
  sqr_satisfied = refl

  sqr_stays : entry sqr_solution 0 1 ≡ entry sqr_work 0 1
  sqr_stays = refl

  sqr_refused : (left_side 7 sqr sqr_knowns (grid 2 2 (2 ∷ 5 ∷ 4 ∷ 1 ∷ [])) 1 1 ≡ 1) × (right_side 7 sqr sqr_knowns sqr_work 1 1 ≡ 0)
  unfolding sqr
  sqr_refused = (refl, refl)

-- T * X = W with a lower T: the 2 above its diagonal isn't read
module _ where
  abbrev low_knowns : List Grid
  low_knowns = grid 2 2 (2 ∷ 2 ∷ 1 ∷ 3 ∷ []) ∷ []

  abbrev low_work : Grid
  low_work = grid 2 1 (4 ∷ 5 ∷ [])

  low_satisfied : column (left_side 7 low low_knowns (grid 2 1 (2 ∷ 1 ∷ []))) ≡ column (right_side 7 low low_knowns low_work)
  unfolding low
  low_satisfied = refl

  low_refused : (left_side 7 low low_knowns (grid 2 1 (2 ∷ 2 ∷ [])) 1 0 ≡ 1) × (right_side 7 low low_knowns low_work 1 0 ≡ 5)
  unfolding low
  low_refused = (refl, refl)

-- T * X = W on the lower part of W, where W is the identity
module _ where
  abbrev inv_knowns : List Grid
  inv_knowns = grid 2 2 (2 ∷ 0 ∷ 1 ∷ 3 ∷ []) ∷ []

  abbrev inv_work : Grid
  inv_work = grid 2 2 (1 ∷ 0 ∷ 0 ∷ 1 ∷ [])

  abbrev inv_solution : Grid
  inv_solution = grid 2 2 (4 ∷ 0 ∷ 1 ∷ 5 ∷ [])

  inv_satisfied : lower (left_side 7 inv inv_knowns inv_solution) ≡ lower (right_side 7 inv inv_knowns inv_work)
  unfolding inv
  inv_satisfied = refl

  inv_stays : entry inv_solution 0 1 ≡ entry inv_work 0 1
  inv_stays = refl

  inv_refused : (left_side 7 inv inv_knowns (grid 2 2 (4 ∷ 0 ∷ 2 ∷ 5 ∷ [])) 1 0 ≡ 3) × (right_side 7 inv inv_knowns inv_work 1 0 ≡ 0)
  unfolding inv
  inv_refused = (refl, refl)

-- X * T' = W - A * T with an upper T: the 5 below its diagonal isn't read
module _ where
  abbrev upp_knowns : List Grid
  upp_knowns = grid 2 2 (2 ∷ 1 ∷ 5 ∷ 3 ∷ []) ∷ grid 1 2 (1 ∷ 1 ∷ []) ∷ []

  abbrev upp_work : Grid
  upp_work = grid 1 2 (3 ∷ 1 ∷ [])

  upp_satisfied : row (left_side 7 upp_right upp_knowns (grid 1 2 (1 ∷ 6 ∷ []))) ≡ row (right_side 7 upp_right upp_knowns upp_work)
  unfolding upp_right
  upp_satisfied = refl

  upp_refused : (left_side 7 upp_right upp_knowns (grid 1 2 (6 ∷ 1 ∷ [])) 0 0 ≡ 6) × (right_side 7 upp_right upp_knowns upp_work 0 0 ≡ 1)
  unfolding upp_right
  upp_refused = (refl, refl)

-- T * X + X * U = W
module _ where
  abbrev syl_knowns : List Grid
  syl_knowns = grid 3 3 (1 ∷ 0 ∷ 0 ∷ 1 ∷ 2 ∷ 0 ∷ 0 ∷ 1 ∷ 3 ∷ []) ∷ grid 1 1 (1 ∷ []) ∷ []

  abbrev syl_work : Grid
  syl_work = grid 3 1 (2 ∷ 4 ∷ 5 ∷ [])

  abbrev three : Table → List ℕ
  three a = a 0 0 ∷ a 1 0 ∷ a 2 0 ∷ []

  syl_satisfied : three (left_side 7 syl syl_knowns (grid 3 1 (1 ∷ 1 ∷ 1 ∷ []))) ≡ three (right_side 7 syl syl_knowns syl_work)
  unfolding syl
  syl_satisfied = refl

  syl_refused : (left_side 7 syl syl_knowns (grid 3 1 (1 ∷ 1 ∷ 2 ∷ [])) 2 0 ≡ 2) × (right_side 7 syl syl_knowns syl_work 2 0 ≡ 5)
  unfolding syl
  syl_refused = (refl, refl)

-- T * X - X * U = W: 3 * 2 - 2 * 1 is 4
module _ where
  abbrev difference_knowns : List Grid
  difference_knowns = grid 1 1 (3 ∷ []) ∷ grid 1 1 (1 ∷ []) ∷ []

  difference_satisfied : left_side 7 syl_lower difference_knowns (grid 1 1 (2 ∷ [])) 0 0 ≡ right_side 7 syl_lower difference_knowns (grid 1 1 (4 ∷ [])) 0 0
  unfolding syl_lower
  difference_satisfied = refl

  difference_refused : (left_side 7 syl_lower difference_knowns (grid 1 1 (1 ∷ [])) 0 0 ≡ 2) × (right_side 7 syl_lower difference_knowns (grid 1 1 (4 ∷ [])) 0 0 ≡ 4)
  unfolding syl_lower
  difference_refused = (refl, refl)

-- L * U = W
module _ where
  abbrev lu_work : Grid
  lu_work = grid 2 2 (2 ∷ 1 ∷ 4 ∷ 5 ∷ [])

  lu_satisfied : square (left_side 101 lu [] (grid 2 2 (2 ∷ 1 ∷ 2 ∷ 3 ∷ []))) ≡ square (right_side 101 lu [] lu_work)
  unfolding lu
  lu_satisfied = refl

  lu_refused : (left_side 101 lu [] (grid 2 2 (2 ∷ 1 ∷ 2 ∷ 4 ∷ [])) 1 1 ≡ 6) × (right_side 101 lu [] lu_work 1 1 ≡ 5)
  unfolding lu
  lu_refused = (refl, refl)

-- L * D * L' = W on the lower part of W; the entry above the diagonal stays
module _ where
  abbrev ldl_work : Grid
  ldl_work = grid 2 2 (2 ∷ 6 ∷ 1 ∷ 3 ∷ [])

  abbrev ldl_solution : Grid
  ldl_solution = grid 2 2 (2 ∷ 6 ∷ 4 ∷ 6 ∷ [])

  ldl_satisfied : lower (left_side 7 ldl [] ldl_solution) ≡ lower (right_side 7 ldl [] ldl_work)
  unfolding ldl
  ldl_satisfied = refl

  ldl_stays : entry ldl_solution 0 1 ≡ entry ldl_work 0 1
  ldl_stays = refl

  ldl_refused : (left_side 7 ldl [] (grid 2 2 (2 ∷ 6 ∷ 4 ∷ 5 ∷ [])) 1 1 ≡ 2) × (right_side 7 ldl [] ldl_work 1 1 ≡ 3)
  unfolding ldl
  ldl_refused = (refl, refl)

-- X * T = W with a lower T: the 5 above its diagonal isn't read
module _ where
  abbrev lower_knowns : List Grid
  lower_knowns = grid 2 2 (2 ∷ 5 ∷ 1 ∷ 3 ∷ []) ∷ []

  abbrev lower_work : Grid
  lower_work = grid 1 2 (3 ∷ 1 ∷ [])

  low_right_satisfied : row (left_side 7 low_right lower_knowns (grid 1 2 (6 ∷ 5 ∷ []))) ≡ row (right_side 7 low_right lower_knowns lower_work)
  unfolding low_right
  low_right_satisfied = refl

  low_right_refused : (left_side 7 low_right lower_knowns (grid 1 2 (5 ∷ 5 ∷ [])) 0 0 ≡ 1) × (right_side 7 low_right lower_knowns lower_work 0 0 ≡ 3)
  unfolding low_right
  low_right_refused = (refl, refl)

-- T' * X = W with the same T
module _ where
  abbrev primed_work : Grid
  primed_work = grid 2 1 (6 ∷ 5 ∷ [])

  primed_satisfied : column (left_side 7 low_primed lower_knowns (grid 2 1 (1 ∷ 4 ∷ []))) ≡ column (right_side 7 low_primed lower_knowns primed_work)
  unfolding low_primed
  primed_satisfied = refl

  primed_refused : (left_side 7 low_primed lower_knowns (grid 2 1 (1 ∷ 3 ∷ [])) 0 0 ≡ 5) × (right_side 7 low_primed lower_knowns primed_work 0 0 ≡ 6)
  unfolding low_primed
  primed_refused = (refl, refl)

-- T * X - X * U = W, both lower
module _ where
  abbrev both_knowns : List Grid
  both_knowns = grid 2 2 (2 ∷ 5 ∷ 1 ∷ 3 ∷ []) ∷ grid 2 2 (5 ∷ 3 ∷ 4 ∷ 6 ∷ []) ∷ []

  abbrev both_work : Grid
  both_work = grid 2 2 (3 ∷ 1 ∷ 2 ∷ 5 ∷ [])

  both_satisfied : square (left_side 7 syl_lower both_knowns (grid 2 2 (4 ∷ 5 ∷ 1 ∷ 0 ∷ []))) ≡ square (right_side 7 syl_lower both_knowns both_work)
  unfolding syl_lower
  both_satisfied = refl

  both_refused : (left_side 7 syl_lower both_knowns (grid 2 2 (4 ∷ 5 ∷ 1 ∷ 1 ∷ [])) 1 1 ≡ 2) × (right_side 7 syl_lower both_knowns both_work 1 1 ≡ 5)
  unfolding syl_lower
  both_refused = (refl, refl)

-- X = W + A * B with a symmetric A: the 5 above its diagonal isn't read
module _ where
  abbrev mirrored_knowns : List Grid
  mirrored_knowns = grid 2 2 (1 ∷ 5 ∷ 2 ∷ 3 ∷ []) ∷ grid 2 1 (1 ∷ 3 ∷ []) ∷ []

  abbrev mirrored_work : Grid
  mirrored_work = grid 2 1 (1 ∷ 1 ∷ [])

  mirrored_satisfied : column (left_side 7 sym mirrored_knowns (grid 2 1 (1 ∷ 5 ∷ []))) ≡ column (right_side 7 sym mirrored_knowns mirrored_work)
  unfolding sym
  mirrored_satisfied = refl

  mirrored_refused : (left_side 7 sym mirrored_knowns (grid 2 1 (3 ∷ 5 ∷ [])) 0 0 ≡ 3) × (right_side 7 sym mirrored_knowns mirrored_work 0 0 ≡ 1)
  unfolding sym
  mirrored_refused = (refl, refl)

-- X = W + D * V with a diagonal D and a unit upper V: of D the diagonal is read alone, of V what stands above it
module _ where
  unfoldable scaled : Operation
  scaled = record {
    name = codes "scaled";
    dims = codes "n" ∷ [];
    work = operand (codes "W") General 0 0;
    knowns = operand (codes "D") Diagonal 0 0 ∷ operand (codes "V") UnitUpper 0 0 ∷ [];
    form = Assign;
    terms = added 0 1 ∷ [];
  }

  abbrev scaled_knowns : List Grid
  scaled_knowns = grid 2 2 (2 ∷ 4 ∷ 5 ∷ 3 ∷ []) ∷ grid 2 2 (6 ∷ 5 ∷ 4 ∷ 6 ∷ []) ∷ []

  abbrev scaled_work : Grid
  scaled_work = grid 2 2 (1 ∷ 1 ∷ 1 ∷ 1 ∷ [])

  scaled_satisfied : square (left_side 7 scaled scaled_knowns (grid 2 2 (3 ∷ 4 ∷ 1 ∷ 4 ∷ []))) ≡ square (right_side 7 scaled scaled_knowns scaled_work)
  unfolding scaled
  scaled_satisfied = refl

  scaled_refused : (left_side 7 scaled scaled_knowns (grid 2 2 (3 ∷ 4 ∷ 6 ∷ 4 ∷ [])) 1 0 ≡ 6) × (right_side 7 scaled scaled_knowns scaled_work 1 0 ≡ 1)
  unfolding scaled
  scaled_refused = (refl, refl)

-- X = W + A * B on the upper part of W; the entry below the diagonal stays
module _ where
  unfoldable above : Operation
  above = record {
    name = codes "above";
    dims = codes "n" ∷ [];
    work = operand (codes "W") Upper 0 0;
    knowns = operand (codes "A") General 0 0 ∷ operand (codes "B") General 0 0 ∷ [];
    form = Assign;
    terms = added 0 1 ∷ [];
  }

  abbrev above_knowns : List Grid
  above_knowns = grid 2 2 (1 ∷ 2 ∷ 3 ∷ 4 ∷ []) ∷ grid 2 2 (5 ∷ 6 ∷ 1 ∷ 2 ∷ []) ∷ []

  abbrev above_work : Grid
  above_work = grid 2 2 (1 ∷ 2 ∷ 3 ∷ 4 ∷ [])

  abbrev upper : Table → List ℕ
  upper a = a 0 0 ∷ a 0 1 ∷ a 1 1 ∷ []

  above_satisfied : upper (left_side 7 above above_knowns (grid 2 2 (1 ∷ 5 ∷ 3 ∷ 2 ∷ []))) ≡ upper (right_side 7 above above_knowns above_work)
  unfolding above
  above_satisfied = refl

  above_refused : (left_side 7 above above_knowns (grid 2 2 (1 ∷ 4 ∷ 3 ∷ 2 ∷ [])) 0 1 ≡ 4) × (right_side 7 above above_knowns above_work 0 1 ≡ 5)
  unfolding above
  above_refused = (refl, refl)
