-- An equation whose terms are added up in two parts: those of the unknowns solved for before the last few, and of these few.
use Rattle.std.proofs.Common.{◌≡◌, ◌≢◌, ℕ, ◌+◌, ◌-◌, ◌*◌, ◌%◌, ◌<◌, ◌≤◌, ◌⊎◌, List, slice_index, inl, inr, refl, sym, ap, ◌∙◌, arith}
use Rattle.std.proofs.lemmas.Bool.{cases_eq}
use Rattle.residue_sums.specs.Residues.{Cong}
use Rattle.residue_sums.specs.Sums.{sum_below}
use Rattle.residue_sums.specs.Tables.{Table}
use Rattle.residue_sums.proofs.Congruence.{Cong-by, Cong-from_mod}
use Rattle.residue_sums.proofs.Sums.{sum_below-same, without, without-here, without-other}
use Rattle.structure_rules.specs.declared.Structure.{Structure}
use Rattle.structure_rules.specs.declared.Structure.TheVariants.{General, Lower, UnitLower, Upper, UnitUpper, Diagonal, Symmetric}
use Rattle.part_solves.specs.declared.line_systems.Band.{Band}
use Rattle.part_solves.specs.declared.line_systems.Equation.{Equation}
use Rattle.part_solves.specs.LineSystems.{IsInBand, equation_of, early_of, late_of, line_of}
use Rattle.part_solves.proofs.LineSteps.{two_spans}

-- the span of an equation is those of its parts
pub record IsParted (whole early late : Equation) : Type 0 where
  pub early_unknown : early.unknown ≡ whole.unknown
  pub late_unknown : late.unknown ≡ whole.unknown
  pub early_left : whole.from ≤ early.from
  pub early_right : early.from + early.len ≤ whole.from + whole.len
  pub late_left : whole.from ≤ late.from
  pub late_right : late.from + late.len ≤ whole.from + whole.len
  pub apart : (late.from + late.len ≤ early.from) ⊎ (early.from + early.len ≤ late.from)
  pub all : (k : ℕ) → (k < early.from) ⊎ (early.from + early.len ≤ k) → (k < late.from) ⊎ (late.from + late.len ≤ k)
      → (k < whole.from) ⊎ (whole.from + whole.len ≤ k)

-- where unknowns ascend, and where they descend
ascending : (r late : ℕ) → IsParted (record { unknown = r + late; from = 0; len = r + late }) (record { unknown = r + late; from = 0; len = r })
    (record { unknown = r + late; from = r; len = late })
ascending r late = record {
  early_unknown = refl;
  late_unknown = refl;
  early_left = omega arith;
  early_right = omega arith;
  late_left = omega arith;
  late_right = omega arith;
  apart = inr (omega arith);
  all = λ k out out'. elim out' [ inl less ↦ elim out [ inl none ↦ absurd (omega arith) | inr past ↦ absurd (omega arith) ] | inr past ↦ inr (omega arith) ];
}

descending : (n r late : ℕ) → r + late < n
    → IsParted (record { unknown = n - 1 - (r + late); from = n - (r + late); len = r + late }) (record { unknown = n - 1 - (r + late); from = n - r; len = r })
    (record { unknown = n - 1 - (r + late); from = n - (r + late); len = late })
descending n r late below = record {
  early_unknown = refl;
  late_unknown = refl;
  early_left = omega arith;
  early_right = omega arith;
  late_left = omega arith;
  late_right = omega arith;
  apart = inl (omega arith);
  all = λ k out out'. elim out' [ inl less ↦ inl less | inr past ↦ elim out [ inl less ↦ absurd (omega arith) | inr behind ↦ inr (omega arith) ] ];
}

pub IsParted-equation : (s : Structure) (n r late : ℕ) → r + late < n → IsParted (equation_of s n (r + late)) (early_of s n r late) (late_of s n r late)
IsParted-equation General n r late below = ascending r late
IsParted-equation Lower n r late below = ascending r late
IsParted-equation UnitLower n r late below = ascending r late
IsParted-equation Upper n r late below = descending n r late below
IsParted-equation UnitUpper n r late below = descending n r late below
IsParted-equation Diagonal n r late below = record {
  early_unknown = refl;
  late_unknown = refl;
  early_left = omega arith;
  early_right = omega arith;
  late_left = omega arith;
  late_right = omega arith;
  apart = inl (omega arith);
  all = λ k out out'. out;
}
IsParted-equation Symmetric n r late below = ascending r late

-- the early parts of equations one after another are of the same unknowns
pub early-from : (s : Structure) (n r late : ℕ) → (early_of s n r late).from ≡ (early_of s n r 0).from
early-from General n r late = refl
early-from Lower n r late = refl
early-from UnitLower n r late = refl
early-from Upper n r late = refl
early-from UnitUpper n r late = refl
early-from Diagonal n r late = refl
early-from Symmetric n r late = refl

pub early-len : (s : Structure) (n r late : ℕ) → (early_of s n r late).len ≡ (early_of s n r 0).len
early-len General n r late = refl
early-len Lower n r late = refl
early-len UnitLower n r late = refl
early-len Upper n r late = refl
early-len UnitUpper n r late = refl
early-len Diagonal n r late = refl
early-len Symmetric n r late = refl

-- they are unknowns of the table
pub early-below : (s : Structure) (n r late : ℕ) → r + late < n → (early_of s n r late).unknown < n
early-below General n r late below = omega arith
early-below Lower n r late below = omega arith
early-below UnitLower n r late below = omega arith
early-below Upper n r late below = omega arith
early-below UnitUpper n r late below = omega arith
early-below Diagonal n r late below = omega arith
early-below Symmetric n r late below = omega arith

pub early-span : (s : Structure) (n r late : ℕ) → r ≤ n → (early_of s n r late).from + (early_of s n r late).len ≤ n
early-span General n r late most = omega arith
early-span Lower n r late most = omega arith
early-span UnitLower n r late most = omega arith
early-span Upper n r late most = omega arith
early-span UnitUpper n r late most = omega arith
early-span Diagonal n r late most = omega arith
early-span Symmetric n r late most = omega arith

-- and none of them is solved for by these equations
pub early-apart : (s : Structure) (n r late q k : ℕ) → r + q < n → k < (early_of s n r late).len → (early_of s n r late).from + k ≢ (equation_of s n (r + q)).unknown
early-apart General n r late q k below within e = omega arith
early-apart Lower n r late q k below within e = omega arith
early-apart UnitLower n r late q k below within e = omega arith
early-apart Upper n r late q k below within e = omega arith
early-apart UnitUpper n r late q k below within e = omega arith
early-apart Diagonal n r late q k below within e = omega arith
early-apart Symmetric n r late q k below within e = omega arith

-- a part of an equation is in the band in which the equation is
pub IsInBand-early : (band : Band) (whole early late : Equation) → IsInBand band whole → IsParted whole early late → IsInBand band early
IsInBand-early band whole early late inside parted = record {
  above = omega (arith, inside.above, parted.early_unknown);
  below = omega (arith, inside.below, parted.early_unknown);
  left = omega (arith, inside.left, parted.early_left);
  right = omega (arith, inside.right, parted.early_right);
}

pub IsInBand-late : (band : Band) (whole early late : Equation) → IsInBand band whole → IsParted whole early late → IsInBand band late
IsInBand-late band whole early late inside parted = record {
  above = omega (arith, inside.above, parted.late_unknown);
  below = omega (arith, inside.below, parted.late_unknown);
  left = omega (arith, inside.left, parted.late_left);
  right = omega (arith, inside.right, parted.late_right);
}

-- the sum of a row that has part of row i of a table
pub row_sum : (m height from d len width g r : ℕ) (f : ℕ → ℕ) (row xs : List ℕ) → width ≡ len → d ≡ from
    → ((k : ℕ) → k < len → slice_index row k ≡ f (from + k))
    → r ≡ sum_below (λ k. slice_index row k * slice_index xs (g * height + (d + k))) width % m
    → r ≡ sum_below (λ k. f (from + k) * line_of xs height g (from + k)) len % m
row_sum m height from d len width g r f row xs all same row_is sum_is =
    (rw (all, same) at sum_is) ∙ ap (λ (v : ℕ). v % m) (sum_below-same (λ k. slice_index row k * slice_index xs (g * height + (from + k)))
    (λ k. f (from + k) * line_of xs height g (from + k)) len (λ k below. ap (λ (v : ℕ). v * slice_index xs (g * height + (from + k))) (row_is k below)))

-- the sum of an early part, as it is added up from the place where the first of these equations begins
pub early_row_sum : (s : Structure) (n r late m width g sum : ℕ) (t : Table) (e first : Equation) (row xs : List ℕ)
    → first ≡ early_of s n r 0 → e ≡ early_of s n r late → width ≡ first.len
    → ((k : ℕ) → k < e.len → slice_index row k ≡ t e.unknown (e.from + k))
    → sum ≡ sum_below (λ k. slice_index row k * slice_index xs (g * n + (first.from + k))) width % m
    → sum ≡ sum_below (λ k. t (early_of s n r late).unknown ((early_of s n r late).from + k) * line_of xs n g ((early_of s n r late).from + k)) (early_of s n r late).len % m
early_row_sum s n r late m width g sum t e first row xs first_is e_is all row_is sum_is =
    row_sum m n (early_of s n r late).from first.from (early_of s n r late).len width g sum (t (early_of s n r late).unknown) row xs
    (all ∙ ap (λ (e : Equation). e.len) first_is ∙ sym (early-len s n r late)) (ap (λ (e : Equation). e.from) first_is ∙ sym (early-from s n r late))
    (rw e_is at row_is) sum_is

-- the sum of an equation's other terms over x, of which the early part was added up over y, where the early unknowns are the same
pub begun_sum : (m n i sum len : ℕ) (f x y row : ℕ → ℕ) (whole early late : Equation) → IsParted whole early late
    → whole.from + whole.len ≤ n → (i < whole.from) ⊎ (whole.from + whole.len ≤ i)
    → ((k : ℕ) → k < n → k ≢ i → (k < whole.from) ⊎ (whole.from + whole.len ≤ k) → f k ≡ 0)
    → len ≡ late.len → ((k : ℕ) → k < late.len → row k ≡ f (late.from + k))
    → ((k : ℕ) → k < early.len → x (early.from + k) ≡ y (early.from + k))
    → sum ≡ sum_below (λ k. f (early.from + k) * y (early.from + k)) early.len % m
    → Cong m (sum + sum_below (λ k. row k * x (late.from + k)) len) (sum_below (without i (λ k. f k * x k)) n)
begun_sum m n i sum len f x y row whole early late parted within apart zeros all row_is kept sum_is =
    Cong-by (Cong-from_mod sum_is) (omega (arith, total, first, second))
  where
    w : ℕ → ℕ
    w = without i (λ k. f k * x k)

    none : (k : ℕ) → k < n → (k < early.from) ⊎ (early.from + early.len ≤ k) → (k < late.from) ⊎ (late.from + late.len ≤ k) → w k ≡ 0
    none k below out out' = elim (cases_eq k i) [
      | inl same ↦ without-here i (λ k. f k * x k) k same
      | inr other ↦ without-other i (λ k. f k * x k) k other ∙ rw (zeros k below other (parted.all k out out')) (omega arith)
    ]

    -- an unknown of a part is another one than i
    other : (k : ℕ) → whole.from ≤ k → k < whole.from + whole.len → w k ≡ f k * x k
    other k left right = without-other i (λ k. f k * x k) k (λ e. elim apart [ inl less ↦ omega arith | inr past ↦ omega arith ])

    total : sum_below w n ≡ sum_below (λ k. w (early.from + k)) early.len + sum_below (λ k. w (late.from + k)) late.len
    total = two_spans w n early.from early.len late.from late.len (omega (arith, parted.early_right)) (omega (arith, parted.late_right)) parted.apart none

    first : sum_below (λ k. w (early.from + k)) early.len ≡ sum_below (λ k. f (early.from + k) * y (early.from + k)) early.len
    first = sum_below-same (λ k. w (early.from + k)) (λ k. f (early.from + k) * y (early.from + k)) early.len
        (λ k below. other (early.from + k) (omega (arith, parted.early_left)) (omega (arith, parted.early_right)) ∙ ap (λ (v : ℕ). f (early.from + k) * v) (kept k below))

    second : sum_below (λ k. w (late.from + k)) late.len ≡ sum_below (λ k. row k * x (late.from + k)) len
    second = rw all (sum_below-same (λ k. w (late.from + k)) (λ k. row k * x (late.from + k)) late.len
        (λ k below. other (late.from + k) (omega (arith, parted.late_left)) (omega (arith, parted.late_right)) ∙ ap (λ (v : ℕ). v * x (late.from + k)) (sym (row_is k below))))
