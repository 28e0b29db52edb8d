-- Expressions without a solve have one value at each place.
use Rattle.std.proofs.Common.{◌≡◌, ℕ, ◌+◌, ◌*◌, ◌-◌, ◌%◌, refl, ◌∙◌, ap, ap₂}
use Rattle.residue_sums.specs.Tables.{Table, oriented, plus}
use Rattle.equation.specs.Equations.{minus}
use Rattle.block_values.specs.Cuts.{Range, times_over}
use Rattle.block_values.specs.Trees.{Tree, Zero, Block, Add, Sub, Mul, SolveLeft, SolveRight, Sylvester, Lu, Ldl}
use Rattle.block_values.specs.Values.{Setting, leaf_table, cols_of, IsValue}
use Rattle.block_values.proofs.Ranges.{range_sum-same}

-- a sum of products of blocks
abbrev pub IsPure : Tree → Type 0
IsPure Zero = Unit {0}
IsPure (Block leaf primed i j) = Unit {0}
IsPure (Add a b) = IsPure a × IsPure b
IsPure (Sub a b) = IsPure a × IsPure b
IsPure (Mul a b) = IsPure a × IsPure b
IsPure _ = ⊥

-- its value
abbrev pub value : Setting → Tree → Table
value s Zero r c = 0
value s (Block leaf primed i j) r c = oriented primed (leaf_table s leaf) r c
value s (Add a b) r c = plus s.modulus (value s a) (value s b) r c
value s (Sub a b) r c = minus s.modulus (value s a) (value s b) r c
value s (Mul a b) r c = times_over s.modulus (cols_of s a) (value s a) (value s b) r c
value s _ r c = 0

-- a table that has it everywhere is a value
pub IsValue-at : (s : Setting) (e : Tree) (y : Table) → IsPure e → ((r c : ℕ) → y r c ≡ value s e r c) → IsValue s e y
IsValue-at s Zero y pure same = same
IsValue-at s (Block leaf primed i j) y pure same = same
IsValue-at s (Add a b) y pure same = (value s a, value s b, IsValue-at s a (value s a) pure.0 (λ r c. refl), IsValue-at s b (value s b) pure.1 (λ r c. refl), same)
IsValue-at s (Sub a b) y pure same = (value s a, value s b, IsValue-at s a (value s a) pure.0 (λ r c. refl), IsValue-at s b (value s b) pure.1 (λ r c. refl), same)
IsValue-at s (Mul a b) y pure same = (value s a, value s b, IsValue-at s a (value s a) pure.0 (λ r c. refl), IsValue-at s b (value s b) pure.1 (λ r c. refl), same)
IsValue-at s (SolveLeft t sum) y pure same = absurd pure
IsValue-at s (SolveRight sum t) y pure same = absurd pure
IsValue-at s (Sylvester t u negative sum) y pure same = absurd pure
IsValue-at s (Lu sum) y pure same = absurd pure
IsValue-at s (Ldl sum) y pure same = absurd pure

pub IsValue-value : (s : Setting) (e : Tree) → IsPure e → IsValue s e (value s e)
IsValue-value s e pure = IsValue-at s e (value s e) pure (λ r c. refl)

times_over-same : (m : ℕ) (g : Range) (a b a' b' : Table) → ((r c : ℕ) → a r c ≡ a' r c) → ((r c : ℕ) → b r c ≡ b' r c)
    → (r c : ℕ) → times_over m g a b r c ≡ times_over m g a' b' r c
times_over-same m g a b a' b' left right r c =
    ap (λ (x : ℕ). x % m) (range_sum-same g (λ k. a r k * b k c) (λ k. a' r k * b' k c) (λ k within. ap₂ (λ (x y : ℕ). x * y) (left r k) (right k c)))

pub value-only : (s : Setting) (e : Tree) (y : Table) → IsPure e → IsValue s e y → (r c : ℕ) → y r c ≡ value s e r c
value-only s Zero y pure is r c = is r c
value-only s (Block leaf primed i j) y pure is r c = is r c
value-only s (Add a b) y pure is r c =
    is.4 r c ∙ ap₂ (λ (x z : ℕ). (x + z) % s.modulus) (value-only s a is.0 pure.0 is.2 r c) (value-only s b is.1 pure.1 is.3 r c)
value-only s (Sub a b) y pure is r c =
    is.4 r c ∙ ap₂ (λ (x z : ℕ). (x + (s.modulus - z)) % s.modulus) (value-only s a is.0 pure.0 is.2 r c) (value-only s b is.1 pure.1 is.3 r c)
value-only s (Mul a b) y pure is r c =
    is.4 r c ∙ times_over-same s.modulus (cols_of s a) is.0 is.1 (value s a) (value s b) (value-only s a is.0 pure.0 is.2) (value-only s b is.1 pure.1 is.3) r c
value-only s (SolveLeft t sum) y pure is r c = absurd pure
value-only s (SolveRight sum t) y pure is r c = absurd pure
value-only s (Sylvester t u negative sum) y pure is r c = absurd pure
value-only s (Lu sum) y pure is r c = absurd pure
value-only s (Ldl sum) y pure is r c = absurd pure
