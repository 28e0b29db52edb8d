-- The blocks of the work matrix as they are read: a work structure reads what is stored or nothing. Cited by the forms that solve.
use Rattle.std.proofs.Common.{◌≡◌, ◌≢◌, ℕ, zero, suc, ◌+◌, ◌*◌, ◌/◌, ◌%◌, ◌<◌, ◌≤◌, ◌⊎◌, inl, inr, Bool, true, false, not, if◌then◌else◌, refl, sym, ◌∙◌, ap, ap₂, arith}
use Rattle.std.specs.Prelude.{◌==◌}
use Rattle.std.proofs.lemmas.Nat.{div-add-mod', div-mul-add, mod-mul-add}
use Rattle.std.proofs.lemmas.Bool.{cases_eq, false≢true}
use Rattle.std.proofs.lemmas.Bool.Decides.{nat_tests}
use Rattle.residue_sums.specs.Tables.{Table, oriented}
use Rattle.residue_sums.specs.Grids.{Grid, entry}
use Rattle.structure_rules.specs.declared.Structure.{Structure}
use Rattle.structure_rules.specs.declared.Structure.TheVariants.{General, Lower, UnitLower, Upper, UnitUpper, Diagonal, Symmetric}
use Rattle.structure_rules.specs.Structures.{view, IsInside, IsZero, IsWorkStructure, is_zero, stored_of}
use Rattle.structure_rules.proofs.Views.{view-diagonal_block}
use Rattle.structure_rules.proofs.Blocks.{view-other_block}
use Rattle.flash_blocks.specs.Blocks.{Blocks, gathered}
use Rattle.block_tasks.specs.Effects.{view_block, block_structure}

inside_from_test : (s : Structure) (i k : ℕ) → is_zero s i k ≡ false → IsInside s i k
inside_from_test General i k h = λ z. z
inside_from_test Symmetric i k h = λ z. z
inside_from_test Lower i k h = λ z. grind (arith, nat_tests)
inside_from_test UnitLower i k h = λ z. grind (arith, nat_tests)
inside_from_test Upper i k h = λ z. grind (arith, nat_tests)
inside_from_test UnitUpper i k h = λ z. grind (arith, nat_tests)
inside_from_test Diagonal i k h = λ z. grind (arith, nat_tests)

-- a view that isn't symmetric reads one entry
pub straight-reads : (s : Structure) (a a' : Table) (r c : ℕ) → s ≢ Symmetric → a r c ≡ a' r c → view s a r c ≡ view s a' r c
straight-reads General a a' r c straight e = grind (arith, nat_tests)
straight-reads Lower a a' r c straight e = grind (arith, nat_tests)
straight-reads Upper a a' r c straight e = grind (arith, nat_tests)
straight-reads UnitLower a a' r c straight e = grind (arith, nat_tests)
straight-reads UnitUpper a a' r c straight e = grind (arith, nat_tests)
straight-reads Diagonal a a' r c straight e = grind (arith, nat_tests)
straight-reads Symmetric a a' r c straight e = absurd (straight refl)

-- and never a mirror image
stored_straight : (s : Structure) (i k : ℕ) → s ≢ Symmetric → ((stored_of s i k).row ≡ i) × ((stored_of s i k).col ≡ k) × ((stored_of s i k).transposed ≡ false)
stored_straight General i k straight = (refl, refl, refl)
stored_straight Lower i k straight = (refl, refl, refl)
stored_straight Upper i k straight = (refl, refl, refl)
stored_straight UnitLower i k straight = (refl, refl, refl)
stored_straight UnitUpper i k straight = (refl, refl, refl)
stored_straight Diagonal i k straight = (refl, refl, refl)
stored_straight Symmetric i k straight = absurd (straight refl)

-- as a work structure
pub work-straight : (s : Structure) → IsWorkStructure s → s ≢ Symmetric
work-straight General work = λ e. absurd (cc)
work-straight Lower work = λ e. absurd (cc)
work-straight Upper work = λ e. absurd (cc)
work-straight UnitLower work = absurd work
work-straight UnitUpper work = absurd work
work-straight Diagonal work = absurd work
work-straight Symmetric work = absurd work

pub work-reads : (s : Structure) (a a' : Table) (r c : ℕ) → IsWorkStructure s → a r c ≡ a' r c → view s a r c ≡ view s a' r c
work-reads s a a' r c work e = straight-reads s a a' r c (work-straight s work) e

-- a block of W as a solve reads it, and as an update does
pub view_block-work : (s : Structure) (blocks : Blocks) (i j r c : ℕ) → IsWorkStructure s → view_block s blocks i j r c ≡ view (block_structure s i j) (entry (blocks i j)) r c
view_block-work s blocks i j r c work = go (cases_eq i j)
  where
    go : (i ≡ j) ⊎ (i ≢ j) → view_block s blocks i j r c ≡ view (block_structure s i j) (entry (blocks i j)) r c
    go (inl same) = let e : (i == j) ≡ true = grind (arith, nat_tests) in rw e refl
    go (inr apart) =
        let e : (i == j) ≡ false = grind (arith, nat_tests) in
        let h = stored_straight s i j (work-straight s work) in
        rw e (rw (h.0, h.1, h.2) refl)

other_block : (s : Structure) (a : Table) (b r c i j : ℕ) → r / b ≡ i → c / b ≡ j → IsInside s i j → i ≢ j → view s a r c ≡ oriented (stored_of s i j).transposed a r c
other_block s a b r c i j e f inside apart = rw (← e, ← f) (view-other_block s a b r c (rw (e, f) inside) (rw (e, f) apart))

module _ (s : Structure) (straight : s ≢ Symmetric) (b : ℕ) (blocks : Blocks) (i j r c : ℕ) (row : r < b) (col : c < b) (inside : is_zero s i j ≡ false) where
  place : gathered b blocks (i * b + r) (j * b + c) ≡ entry (blocks i j) r c
  place = rw (div-mul-add i b r row, div-mul-add j b c col, mod-mul-add i b r row, mod-mul-add j b c col) refl

  -- an entry of a block of W, as an entry of the whole matrix
  pub work_block-is : view (block_structure s i j) (entry (blocks i j)) r c ≡ view s (gathered b blocks) (i * b + r) (j * b + c)
  work_block-is = go (cases_eq i j)
    where
      go : (i ≡ j) ⊎ (i ≢ j) → view (block_structure s i j) (entry (blocks i j)) r c ≡ view s (gathered b blocks) (i * b + r) (j * b + c)
      go (inl same) =
          let e : (i == j) ≡ true = grind (arith, nat_tests) in
          rw e (straight-reads s (entry (blocks i j)) (λ x y. gathered b blocks (i * b + x) (i * b + y)) r c straight (sym (ap (λ (x : ℕ). gathered b blocks (i * b + r) (x * b + c)) same ∙ place))
          ∙ sym (view-diagonal_block s (gathered b blocks) (i * b) r c)
          ∙ ap (λ (x : ℕ). view s (gathered b blocks) (i * b + r) (x * b + c)) same)
      go (inr apart) =
          let e : (i == j) ≡ false = grind (arith, nat_tests) in
          let h = stored_straight s i j straight in
          let other : view s (gathered b blocks) (i * b + r) (j * b + c) ≡ oriented (stored_of s i j).transposed (gathered b blocks) (i * b + r) (j * b + c)
          = other_block s (gathered b blocks) b (i * b + r) (j * b + c) i j (div-mul-add i b r row) (div-mul-add j b c col) (inside_from_test s i j inside) apart in
          rw e (sym (rw h.2 at other ∙ place))
