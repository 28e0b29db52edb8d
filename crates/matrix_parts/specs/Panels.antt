-- What a panel is seen as, and what it and another one that it shares rows with were lent.
use Rattle.std.specs.Prelude.{◌≡◌, ℕ, ◌+◌, ◌-◌, ◌*◌, ◌^◌, ◌<◌, ◌≤◌, List, length}
use Rattle.std.specs.Borrow.{GName, Fml, Array, u64 as word, follows_both}
use Rattle.residue_sums.specs.Grids.{Grid}
use Rattle.matrix_parts.specs.declared.region.Region.{Region}
use Rattle.matrix_parts.specs.declared.panel_mut.PanelMut.{PanelMut}
use Rattle.matrix_parts.specs.declared.part_mut.PartMut.{PartMut}
use Rattle.matrix_parts.specs.Rects.{rect, IsBlockOf}
use Rattle.matrix_parts.specs.Regions.{is_in, covers, woven}
use Rattle.matrix_parts.specs.Lent.{loan_of, seen_in}

-- the entries of a region of these numbers
abbrev pub region_in : Region → List ℕ → Grid
region_in r xs = rect xs (r.first + r.top * r.stride + r.left) r.stride r.rows r.cols

-- its entries
abbrev pub panel_grid : PanelMut → Grid
panel_grid p = region_in p.region p.lent.numbers

-- the loan that it holds
abbrev pub panel_loan : PanelMut → GName
panel_loan p = p.lent.loan

-- it has the right to its region, whose rows lie within the lent numbers, and no two of which overlap
pub record IsPanel (p : PanelMut) : Type 0 where
  pub base : p.base.at ≡ p.lent.at
  pub region : p.lent.region ≡ p.region
  pub reach : (i : ℕ) → i < p.region.rows → p.region.first + (p.region.top + i) * p.region.stride + (p.region.left + p.region.cols) ≤ length p.lent.numbers
  pub apart : p.region.left + p.region.cols ≤ p.region.stride
  pub small : length p.lent.numbers < 2 ^ 60
  pub low : p.region.top + p.region.rows < 2 ^ 32
  pub narrow : p.region.left + p.region.cols < 2 ^ 32

-- no number is lent to both
abbrev pub AreApart : PanelMut × PanelMut → Type 0
AreApart halves = (k : ℕ) → covers halves.0.region k → covers halves.1.region k → ⊥

-- the numbers that two panels end with at their places, and elsewhere the old ones
abbrev pub joined_in : PanelMut × PanelMut → List ℕ → List ℕ → List ℕ → List ℕ
joined_in halves old xs ys = woven (is_in halves.0.region) (is_in halves.1.region) xs ys old

-- what was lent under a name ends as what its two panels end as
abbrev pub EndsAsPanels : GName → List ℕ → PanelMut × PanelMut → Fml
EndsAsPanels name old halves = follows_both (Array word 0) (Array word 0) (Array word 0) name (panel_loan halves.0) (panel_loan halves.1) (joined_in halves old)

abbrev pub PartEndsAs : PartMut → PanelMut × PanelMut → Fml
PartEndsAs p = EndsAsPanels (loan_of p) p.entries.now

abbrev pub PanelEndsAs : PanelMut → PanelMut × PanelMut → Fml
PanelEndsAs p = EndsAsPanels (panel_loan p) p.lent.numbers

-- whatever numbers two panels end with, the whole has in its first block those of the first, and those of the second one in a block that begins in that row and column
pub record AreBlocksOf (seen : List ℕ → Grid) (old : List ℕ) (row col n₁ k₁ n₂ k₂ : ℕ) (halves : PanelMut × PanelMut) : Type 0 where
  pub first_now : halves.0.lent.numbers ≡ old
  pub second_now : halves.1.lent.numbers ≡ old
  pub first : (xs ys : List ℕ) → length xs ≡ length old → length ys ≡ length old → IsBlockOf (seen (joined_in halves old xs ys)) 0 0 n₁ k₁ (region_in halves.0.region xs)
  pub second : (xs ys : List ℕ) → length xs ≡ length old → length ys ≡ length old → IsBlockOf (seen (joined_in halves old xs ys)) row col n₂ k₂ (region_in halves.1.region ys)

abbrev pub AreColsOfPart : PartMut → ℕ → PanelMut × PanelMut → Type 0
AreColsOfPart p at = AreBlocksOf (seen_in p) p.entries.now 0 at p.rows at p.rows (p.cols - at)

abbrev pub AreRowsOfPanel : PanelMut → ℕ → PanelMut × PanelMut → Type 0
AreRowsOfPanel p at = AreBlocksOf (region_in p.region) p.lent.numbers at 0 at p.region.cols (p.region.rows - at) p.region.cols

abbrev pub AreColsOfPanel : PanelMut → ℕ → PanelMut × PanelMut → Type 0
AreColsOfPanel p at = AreBlocksOf (region_in p.region) p.lent.numbers 0 at p.region.rows at p.region.rows (p.region.cols - at)
