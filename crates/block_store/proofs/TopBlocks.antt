-- The block that a seat took last, and what its view has then. Cited where blocks are copied in and out.
use Rattle.std.proofs.Common.{◌≡◌, ℕ, List, [], ◌∷◌, refl, sym, ap, ◌∙◌, subst, arith}
use Rattle.atomic_table.specs.Table.{rest}
use Rattle.residue_sums.specs.Grids.{Grid}
use Rattle.block_store.specs.declared.key.BoardKey.{BoardKey}
use Rattle.block_store.specs.declared.rect.Rect.{Rect}
use Rattle.block_store.specs.declared.view.Fact.TheVariants.{Took}
use Rattle.block_store.specs.declared.view.View.{View}
use Rattle.block_store.specs.Blocks.{block_cols, block_rows, IsFound, KeepShapes}
use Rattle.block_store.specs.Parts.{IsInside}
use Rattle.block_store.specs.Plays.{Holds, IsRunning, NotHolds}
use Rattle.block_store.specs.Views.{learned}
use Rattle.block_store.proofs.Sums.{same-eq}

-- what was taken last, where the list is known
pub top-of : (all others : List (ℕ × Grid)) (x : ℕ) (g : Grid) → all ≡ (x, g) ∷ others → all ≡ (x, g) ∷ rest all
top-of all others x g e = e ∙ ap (λ ys. (x, g) ∷ rest ys) (sym e)

abbrev top_grid : List (ℕ × Grid) → Grid → Grid
top_grid [] g = g
top_grid (p ∷ ps) g = p.1

-- that is one block
pub same-top : (all others : List (ℕ × Grid)) (x : ℕ) (g h : Grid) → all ≡ (x, g) ∷ others → all ≡ (x, h) ∷ others → g ≡ h
same-top all others x g h e f = ap (λ (l : List (ℕ × Grid)). top_grid l g) (sym e ∙ f)

-- a seat that took a block holds it, and runs its step on
pub holds-taken : (v w : View) (x : ℕ) → NotHolds v x → w ≡ learned (Took x) v → Holds w x
holds-taken v w x free e = subst (λ (y : View). Holds y x) (sym e) (omega (arith, same-eq x x refl))

pub runs-on : (v w : View) (t x : ℕ) → IsRunning v t → w ≡ learned (Took x) v → IsRunning w t
runs-on v w t x runs e = subst (λ (y : View). IsRunning y t) (sym e) (record { begun = omega (arith, runs.begun); unended = omega (arith, runs.unended); unput = omega (arith, runs.unput) })

-- a rectangle within the rows and columns that a block keeps lies in the block as a step finds it
pub inside-found : (key : BoardKey) (t x : ℕ) (part : Rect) (g : Grid) → KeepShapes key → IsInside part (block_rows key x) (block_cols key x) → IsFound key t x g → IsInside part g.rows g.cols
inside-found key t x part g shapes inside found =
    let h = shapes x _ g found in
    record { rows_in = omega (arith, inside.rows_in, h.rows); cols_in = omega (arith, inside.cols_in, h.cols) }
