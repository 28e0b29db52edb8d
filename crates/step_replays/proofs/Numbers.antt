-- The numbers of blocks: each block has one, no two have the same, and the block with that number is it.
use Rattle.std.proofs.Common.{◌≡◌, ◌≢◌, ℕ, zero, suc, ◌+◌, ◌-◌, ◌*◌, ◌/◌, ◌%◌, ◌<◌, ◌≤◌, Bool, true, false, if◌then◌else◌, List, [], ◌∷◌, length, take, refl, sym, ◌∙◌, ap, ap₂, arith}
use Rattle.std.specs.Prelude.{nat_lt}
use Rattle.std.proofs.lemmas.Nat.{mul-add-lt, same_from_place, div-mul-add, mod-mul-add}
use Rattle.std.proofs.lemmas.Bool.{lt-ltb}
use Rattle.std.proofs.lemmas.Bool.Decides.{nat_tests}
use Rattle.residue_sums.specs.Sums.{part_count}
use Rattle.residue_sums.specs.Grids.{Grid}
use Rattle.equation.specs.Jobs.{nth_grid, no_grid}
use Rattle.flash_blocks.specs.Blocks.{block_of}
use Rattle.step_replays.specs.Accesses.{blocks_in, block_number, numbered_block}

-- block (i, j) of matrix k exists
abbrev pub IsBlock : ℕ → List Grid → ℕ → ℕ → ℕ → Type 0
IsBlock b grids k i j = (k < length grids) × (i < part_count (nth_grid grids k).rows b) × (j < part_count (nth_grid grids k).cols b)

pub number-below : (b : ℕ) (grids : List Grid) (k i j : ℕ) → IsBlock b grids k i j → block_number b grids k i j < blocks_in b grids
number-below b [] k i j is = absurd (omega (arith, is.0))
number-below b (g ∷ grids) zero i j is = omega (arith, mul-add-lt i (part_count g.cols b) j (part_count g.rows b) is.1 is.2)
number-below b (g ∷ grids) (suc k) i j is = omega (arith, number-below b grids k i j (omega (arith, is.0), is.1, is.2))

pub numbered-is : (b : ℕ) (grids : List Grid) (k i j : ℕ) → IsBlock b grids k i j → numbered_block b grids (block_number b grids k i j) ≡ block_of b (nth_grid grids k) i j
numbered-is b [] k i j is = absurd (omega (arith, is.0))
numbered-is b (g ∷ grids) zero i j is =
    let within : i * part_count g.cols b + j < part_count g.rows b * part_count g.cols b = omega (arith, mul-add-lt i (part_count g.cols b) j (part_count g.rows b) is.1 is.2) in
    let number : 0 + (i * part_count g.cols b + j) ≡ i * part_count g.cols b + j = omega arith in
    rw (number, lt-ltb (i * part_count g.cols b + j) (part_count g.rows b * part_count g.cols b) within)
    (ap₂ (λ (x y : ℕ). block_of b g x y) (div-mul-add i (part_count g.cols b) j is.2) (mod-mul-add i (part_count g.cols b) j is.2))
numbered-is b (g ∷ grids) (suc k) i j is =
    let n : ℕ = part_count g.rows b * part_count g.cols b in
    let x : ℕ = blocks_in b (take k grids) + (i * part_count (nth_grid grids k).cols b + j) in
    let number : n + blocks_in b (take k grids) + (i * part_count (nth_grid grids k).cols b + j) ≡ n + x = omega arith in
    let not : nat_lt (n + x) n ≡ false = grind (arith, nat_tests) in
    let rest : n + x - n ≡ x = omega arith in
    rw number (rw (not, rest) (numbered-is b grids k i j (omega (arith, is.0), is.1, is.2)))

pub same-number : (b : ℕ) (grids : List Grid) (k i j k' i' j' : ℕ) → IsBlock b grids k i j → IsBlock b grids k' i' j' → block_number b grids k i j ≡ block_number b grids k' i' j' → (k ≡ k') × (i ≡ i') × (j ≡ j')
same-number b [] k i j k' i' j' is is' e = absurd (omega (arith, is.0))
same-number b (g ∷ grids) zero i j zero i' j' is is' e =
    let h = same_from_place i j i' j' (part_count g.cols b) is.2 is'.2 (omega (arith, e)) in (refl, h.0, h.1)
same-number b (g ∷ grids) zero i j (suc k') i' j' is is' e = absurd (omega (arith, e, mul-add-lt i (part_count g.cols b) j (part_count g.rows b) is.1 is.2))
same-number b (g ∷ grids) (suc k) i j zero i' j' is is' e = absurd (omega (arith, e, mul-add-lt i' (part_count g.cols b) j' (part_count g.rows b) is'.1 is'.2))
same-number b (g ∷ grids) (suc k) i j (suc k') i' j' is is' e =
    let h = same-number b grids k i j k' i' j' (omega (arith, is.0), is.1, is.2) (omega (arith, is'.0), is'.1, is'.2) (omega (arith, e)) in (ap suc h.0, h.1, h.2)
