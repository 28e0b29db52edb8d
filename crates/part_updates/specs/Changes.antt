-- Entries of a matrix to which a table is added, or from which it is subtracted.
use Rattle.std.specs.Prelude.{◌≡◌, ℕ, ◌+◌, ◌-◌, ◌*◌, ◌%◌, ◌<◌, ◌≤◌, ◌⊎◌, Bool, if◌then◌else◌, List, slice_index}
use Rattle.residue_sums.specs.Sums.{sum_below}
use Rattle.residue_sums.specs.Tables.{Table}
use Rattle.residue_sums.specs.Grids.{Grid, entry}
use Rattle.structure_rules.specs.declared.Structure.{Structure}
use Rattle.structure_rules.specs.Structures.{IsInside, IsZero}

-- y added to x, or subtracted from it where `minus` is true, modulo m
abbrev pub added : ℕ → Bool → ℕ → ℕ → ℕ
added m minus x y = if minus then (x + (m - y)) % m else (x + y) % m

-- the rows from `top` on, up to and without `bottom`, and in them the columns from `left` on, up to and without `right`
pub record IsIn (top bottom left right i j : ℕ) : Type 0 where
  pub from_top : top ≤ i
  pub above_bottom : i < bottom
  pub from_left : left ≤ j
  pub before_right : j < right

-- in those rows and columns the entries of the structure have those of the table added, or subtracted; all others are as
-- they were
pub record IsChanged (m : ℕ) (minus : Bool) (s : Structure) (t : Table) (top bottom left right : ℕ) (old new : Grid) : Type 0 where
  pub rows : new.rows ≡ old.rows
  pub cols : new.cols ≡ old.cols
  pub here : (i j : ℕ) → IsIn top bottom left right i j → IsInside s i j → entry new i j ≡ added m minus (entry old i j) (t i j)
  pub range : (i j : ℕ) → IsIn top bottom left right i j → entry new i j < m
  pub zero : (i j : ℕ) → IsIn top bottom left right i j → IsZero s i j → entry new i j ≡ entry old i j
  pub others : (i j : ℕ) → i < old.rows → j < old.cols → ((i < top) ⊎ (bottom ≤ i)) ⊎ ((j < left) ⊎ (right ≤ j)) → entry new i j ≡ entry old i j

-- the sum of products of row i of a, from column `inner` on, and line j of a panel whose lines have `height` numbers
abbrev pub panel_sum : Table → ℕ → ℕ → List ℕ → ℕ → ℕ → ℕ
panel_sum a i inner panel height j = sum_below (λ k. a i (inner + k) * slice_index panel (j * height + k)) height

-- row i of a times column j of b, over so many inner numbers from one on, modulo m
abbrev pub part_product : ℕ → ℕ → ℕ → Table → Table → Table
part_product m inner height a b i j = sum_below (λ k. a i (inner + k) * b (inner + k) j) height % m
