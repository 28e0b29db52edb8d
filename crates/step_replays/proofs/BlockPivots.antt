-- The pivots that the solve of a block divides by are units, where it finds what it divides by, and no place of a block that is factored is bad.
-- Cited where such a solve has one value, and where it has some.
use Rattle.std.proofs.Common.{◌≡◌, ℕ, ◌+◌, ◌*◌, ◌%◌, ◌<◌, ◌≤◌, ◌⊎◌, inl, inr, Bool, true, false, if◌then◌else◌, refl, sym, ap, subst, arith}
use Rattle.std.specs.Prelude.{◌==◌, IsTrue}
use Rattle.std.proofs.lemmas.Bool.{cases_Bool, false≢true}
use Rattle.std.proofs.lemmas.Bool.Decides.{nat_tests}
use Rattle.residue_sums.specs.Residues.{IsUnit}
use Rattle.residue_sums.specs.Tables.{Table, oriented, transpose}
use Rattle.residue_sums.specs.Grids.{Grid, AreResidues, entry}
use Rattle.residue_sums.proofs.Congruence.{Cong-from_mod, Cong-sym, IsUnit-from_inverse}
use Rattle.structure_rules.specs.declared.Structure.{Structure}
use Rattle.structure_rules.specs.declared.Structure.TheVariants as structures
use Rattle.structure_rules.specs.Structures.{IsOne, IsWorkStructure, view}
use Rattle.matrix_algebra.proofs.Triangles.{IsUnit-view_one}
use Rattle.operation_spec.specs.declared.operation.Operation.{Operation}
use Rattle.operation_spec.specs.declared.operation.Factor.{Factor}
use Rattle.operation_spec.specs.declared.operation.Form.TheVariants.{Lu, Ldl}
use Rattle.task_graph.specs.Factors.{known}
use Rattle.task_graph.specs.Needs.{factors_diagonal}
use Rattle.equation.specs.declared.job.Place.{Place}
use Rattle.equation.specs.Kernels.{combined}
use Rattle.equation.specs.Pivots.{IsBadForLdl, IsBadForLu}
use Rattle.flash_blocks.specs.Blocks.{Blocks}
use Rattle.block_tasks.specs.Effects.{block_structure, factor_block, view_block, bad_factor}
use Rattle.block_tasks.specs.Inverses.{is_unit_triangle, HasPairInverses, HasRowInverses, HasUnits}

-- ---- diagonal blocks of a factor

-- the stored block as its structure views it, transposed where F is primed
abbrev pub diagonal : Operation → (ℕ → Blocks) → Factor → ℕ → Table
diagonal op knowns f i = oriented f.primed (view (known op f.known).structure (entry (knowns f.known i i)))

pub diagonal-view : (op : Operation) (knowns : ℕ → Blocks) (f : Factor) (i : ℕ) → factor_block op knowns f i i ≡ diagonal op knowns f i
diagonal-view op knowns f i = go (known op f.known).structure f.primed
  where
    here : (s : Structure) → view_block s (knowns f.known) i i ≡ view s (entry (knowns f.known i i))
    here s = let e : (i == i) ≡ true = grind (arith, nat_tests) in rw e refl

    go : (s : Structure) (primed : Bool) → (if primed then transpose (view_block s (knowns f.known) i i) else view_block s (knowns f.known) i i) ≡ oriented primed (view s (entry (knowns f.known i i)))
    go s true = ap (λ (t : Table). transpose t) (here s)
    go s false = here s

-- ---- units

-- what has an inverse is a unit
inverted-unit : (m a v : ℕ) → 2 ≤ m → (a * v) % m ≡ 1 → IsUnit m a
inverted-unit m a v two e = IsUnit-from_inverse m a v two (Cong-sym (Cong-from_mod (sym e)))

-- the diagonal of a unit structure
unit-diagonal : (s : Structure) (i : ℕ) → is_unit_triangle s ≡ true → IsOne s i i
unit-diagonal structures.UnitLower i h = refl
unit-diagonal structures.UnitUpper i h = refl
unit-diagonal structures.General i h = absurd (false≢true h)
unit-diagonal structures.Lower i h = absurd (false≢true h)
unit-diagonal structures.Upper i h = absurd (false≢true h)
unit-diagonal structures.Diagonal i h = absurd (false≢true h)
unit-diagonal structures.Symmetric i h = absurd (false≢true h)

pub oriented-unit : (m : ℕ) (primed : Bool) (s : Structure) (a : Table) (i : ℕ) → 2 ≤ m → is_unit_triangle s ≡ true → IsUnit m (oriented primed (view s a) i i)
oriented-unit m true s a i two h = IsUnit-view_one m s a i i two (unit-diagonal s i h)
oriented-unit m false s a i two h = IsUnit-view_one m s a i i two (unit-diagonal s i h)

-- those of a factored block
pub upper-unit : (m : ℕ) (g : Grid) (q : ℕ) → HasUnits m g → q < g.rows → IsUnit m (view structures.Upper (entry g) q q)
upper-unit m g q units below = let e : view structures.Upper (entry g) q q ≡ entry g q q = grind (arith, nat_tests) in rw e (units q below)

module _ (m : ℕ) (two : 2 ≤ m) (op : Operation) (knowns : ℕ → Blocks) (list : Grid) where
  -- the pivots of a diagonal block of a triangle, where the list has their inverses or they are ones
  pub triangle-units : (f : Factor) (d first n total : ℕ) → IsTrue (is_unit_triangle (known op f.known).structure) ⊎ HasRowInverses m first n total (factor_block op knowns f d d) list
      → (q : ℕ) → q < n → IsUnit m (diagonal op knowns f d q q)
  triangle-units f d first n total (inl unit) q below = oriented-unit m f.primed (known op f.known).structure (entry (knowns f.known d d)) q two unit
  triangle-units f d first n total (inr has) q below =
      subst (λ (t : Table). IsUnit m (t q q)) (diagonal-view op knowns f d) (inverted-unit m _ _ two (has.inverts q below))

  -- the sums, or differences, of the pivots of two of them
  pub pair-units : (f g : Factor) (negative : Bool) (i j top left rows cols : ℕ) (block : Grid)
      → HasPairInverses m negative top left block rows cols (factor_block op knowns f i i) (factor_block op knowns g j j) list
      → (r c : ℕ) → r < block.rows → c < block.cols → IsUnit m (combined m negative (λ x y. diagonal op knowns f i x x) (λ x y. diagonal op knowns g j y y) r c)
  pair-units f g negative i j top left rows cols block has r c row col =
      subst (λ (u : Table). IsUnit m (combined m negative (λ x y. diagonal op knowns f i x x) (λ x y. u y y) r c)) (diagonal-view op knowns g j)
      (subst (λ (t : Table). IsUnit m (combined m negative (λ x y. t x x) (λ x y. factor_block op knowns g j j y y) r c)) (diagonal-view op knowns f i)
      (inverted-unit m _ _ two (has.inverts r c row col)))

-- ---- what a solve finds beside its pivots

-- residues in the known blocks, and a diagonal block of the sizes that it needs
pub record IsSolvable (m : ℕ) (op : Operation) (knowns : ℕ → Blocks) (work : Blocks) (i j : ℕ) : Type 0 where
  pub residues : (k p q : ℕ) → AreResidues m (knowns k p q)
  pub square : factors_diagonal op.form ≡ true → (work i j).cols ≡ (work j j).rows
  pub low : op.form ≡ Ldl → j ≤ i

-- the structure of a block of W
pub work-block_structure : (s : Structure) (i j : ℕ) → IsWorkStructure s → IsWorkStructure (block_structure s i j)
work-block_structure s i j work = elim (cases_Bool (i == j)) [ inl e ↦ rw e work | inr e ↦ rw e tt ]

-- no place of a diagonal block is bad
module _ (m b : ℕ) (work : Blocks) (i j : ℕ) where
  pub none-lu : ((place : Place) → ¬ (bad_factor m b Lu work i j place)) → i ≡ j → (k : ℕ) → k < (work i j).rows → ¬ (IsBadForLu m (entry (work i j)) k)
  none-lu good same k below bad = good (record { row = i * b + k; col = i * b + k }) (same, refl, (k, refl, below, bad))

  pub none-ldl : ((place : Place) → ¬ (bad_factor m b Ldl work i j place)) → i ≡ j → (k : ℕ) → k < (work i j).rows → ¬ (IsBadForLdl m (entry (work i j)) k)
  none-ldl good same k below bad = good (record { row = i * b + k; col = i * b + k }) (same, refl, (k, refl, below, bad))
