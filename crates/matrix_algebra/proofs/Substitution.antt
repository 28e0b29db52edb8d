-- Systems of equations that are solved entry by entry in an order, each with just one solution. Cited by the one solution of a
-- statement, and by the factors of a matrix, which are such systems too.
--
-- `left x` is the left side for a table x, and `place` says which entry comes when. At an inside entry the left side reads that
-- entry, times a pivot, and inside entries that come before it. The pivot may depend on entries that come before.
use Rattle.std.proofs.Common.{◌≡◌, ℕ, zero, suc, ◌+◌, ◌*◌, ◌-◌, ◌%◌, ◌<◌, ◌≤◌, ◌⊎◌, inl, inr, refl, ap, arith}
use Rattle.std.proofs.Math.Nat.{mod-lt}
use Rattle.std.proofs.lemmas.Bool.{cases_lt}
use Rattle.residue_sums.specs.Residues.{Cong, IsUnit}
use Rattle.residue_sums.specs.Inverses.{inverse_of}
use Rattle.residue_sums.specs.Tables.{Table}
use Rattle.residue_sums.proofs.Congruence.{Cong-refl, Cong-sym, Cong-trans, Cong-add, Cong-scale, Cong-by, Cong-mod, Cong-cancel, Cong-multiple}
use Rattle.residue_sums.proofs.Induction.{by_place}
use Rattle.residue_sums.proofs.Inverses.{inverse_of-inverts}

-- two tables agree on the inside entries that come before (i, j)
abbrev pub AgreeBefore : ℕ → (ℕ → ℕ → Type 0) → Table → Table → Table → ℕ → ℕ → Type 0
AgreeBefore m inside place x y i j = (a b : ℕ) → inside a b → place a b < place i j → Cong m (x a b) (y a b)

-- where two tables agree before an inside entry, their left sides there differ by the pivot times what the entries differ
pub record IsSystem (m : ℕ) (inside : ℕ → ℕ → Type 0) (place : Table) (left pivot : Table → Table) : Type 0 where
  pub differs : (x y : Table) (i j : ℕ) → inside i j → AgreeBefore m inside place x y i j
      → Cong m (left x i j + pivot x i j * y i j) (left y i j + pivot x i j * x i j)

module _ (m : ℕ) (inside : ℕ → ℕ → Type 0) (place : Table) (left pivot : Table → Table) (system : IsSystem m inside place left pivot) where
  -- tables that agree before an entry and at it have one left side there
  pub left-Cong : (x y : Table) (i j : ℕ) → inside i j → AgreeBefore m inside place x y i j → Cong m (x i j) (y i j) → Cong m (left x i j) (left y i j)
  left-Cong x y i j within before here =
      Cong-by (Cong-add (system.differs x y i j within before) (Cong-scale (pivot x i j) here)) (omega arith)

  -- a system has at most one solution
  pub solution-unique : 2 ≤ m → (x y : Table) → ((i j : ℕ) → inside i j → IsUnit m (pivot x i j))
      → ((i j : ℕ) → inside i j → Cong m (left x i j) (left y i j))
      → (i j : ℕ) → inside i j → Cong m (x i j) (y i j)
  solution-unique two x y units same = by_place (λ i j. inside i j → Cong m (x i j) (y i j)) place step
    where
      step : (i j : ℕ) → ((a b : ℕ) → place a b < place i j → inside a b → Cong m (x a b) (y a b)) → inside i j → Cong m (x i j) (y i j)
      step i j earlier within =
          let differs = system.differs x y i j within (λ a b inner before. earlier a b before inner) in
          Cong-cancel (pivot x i j) (inverse_of m (pivot x i j)) (inverse_of-inverts m (pivot x i j) two (units i j within))
          (Cong-by (Cong-add (Cong-sym differs) (same i j within)) (omega arith))

-- x with the difference of the two sides of each equation, divided by its pivot, added to its entry
corrected : ℕ → (Table → Table) → (Table → Table) → Table → Table → Table
corrected m left pivot right x i j = x i j + inverse_of m (pivot x i j) * (right i j + (m - 1) * left x i j)

-- so many corrections of the table of zeros: each solves the equations of one place more
approximation : ℕ → (Table → Table) → (Table → Table) → Table → ℕ → Table
approximation m left pivot right zero i j = 0
approximation m left pivot right (suc q) i j = corrected m left pivot right (approximation m left pivot right q) i j

-- x solves the equations of the inside entries whose place is below q
abbrev pub SolvesBelow : ℕ → (ℕ → ℕ → Type 0) → Table → (Table → Table) → Table → Table → ℕ → Type 0
SolvesBelow m inside place left right x q = (i j : ℕ) → inside i j → place i j < q → Cong m (left x i j) (right i j)

-- a correction of an entry whose equation holds
correction_of_nothing : (m x v l r : ℕ) → 2 ≤ m → Cong m l r → Cong m (x + v * (r + (m - 1) * l)) x
correction_of_nothing m x v l r two holds =
    let d : ℕ = m - 1 in
    let e : d + 1 ≡ m = omega arith in
    Cong-by (Cong-add (Cong-scale (v * d) holds) (Cong-multiple m (v * r))) (omega (arith, ap (λ (k : ℕ). v * r * k) e))

-- a correction makes its equation hold: l and l' are the left side before and after, p the pivot and v its inverse
correction_holds : (m x v l l' r p : ℕ) → 2 ≤ m → Cong m (p * v) 1 → Cong m (l + p * (x + v * (r + (m - 1) * l))) (l' + p * x) → Cong m l' r
correction_holds m x v l l' r p two inverts differs =
    let d : ℕ = m - 1 in
    let e : d + 1 ≡ m = omega arith in
    Cong-by (Cong-add (Cong-sym differs) (Cong-add (Cong-scale (r + d * l) inverts) (Cong-multiple m l))) (omega (arith, ap (λ (k : ℕ). l * k) e))

module _ (m : ℕ) (inside : ℕ → ℕ → Type 0) (place : Table) (left pivot : Table → Table) (system : IsSystem m inside place left pivot) (right : Table)
    (two : 2 ≤ m)
    (units : (x : Table) (i j : ℕ) → inside i j → SolvesBelow m inside place left right x (place i j) → IsUnit m (pivot x i j)) where
  -- the next approximation keeps the entries that are found
  approximation-kept : (q : ℕ) → SolvesBelow m inside place left right (approximation m left pivot right q) q
      → (i j : ℕ) → inside i j → place i j < q → Cong m (approximation m left pivot right (suc q) i j) (approximation m left pivot right q i j)
  unfolding approximation corrected
  approximation-kept q solves i j within below =
      correction_of_nothing m (approximation m left pivot right q i j) (inverse_of m (pivot (approximation m left pivot right q) i j))
      (left (approximation m left pivot right q) i j) (right i j) two (solves i j within below)

  -- the next approximation solves the equations that this one does
  approximation-earlier : (q : ℕ) → SolvesBelow m inside place left right (approximation m left pivot right q) q
      → (i j : ℕ) → inside i j → place i j < q → Cong m (left (approximation m left pivot right (suc q)) i j) (right i j)
  approximation-earlier q solves i j within below =
      Cong-trans
      (left-Cong m inside place left pivot system (approximation m left pivot right (suc q)) (approximation m left pivot right q) i j within
      (λ a b inner before. approximation-kept q solves a b inner (omega arith))
      (approximation-kept q solves i j within below))
      (solves i j within below)

  -- and those of the next place
  approximation-next : (q : ℕ) → SolvesBelow m inside place left right (approximation m left pivot right q) q
      → (i j : ℕ) → inside i j → place i j ≡ q → Cong m (left (approximation m left pivot right (suc q)) i j) (right i j)
  unfolding approximation corrected
  approximation-next q solves i j within here =
      let x : Table = approximation m left pivot right q in
      correction_holds m (x i j) (inverse_of m (pivot x i j)) (left x i j) (left (approximation m left pivot right (suc q)) i j) (right i j) (pivot x i j) two
      (inverse_of-inverts m (pivot x i j) two (units x i j within (λ a b inner before. solves a b inner (omega arith))))
      (system.differs x (approximation m left pivot right (suc q)) i j within
      (λ a b inner before. Cong-sym (approximation-kept q solves a b inner (omega arith))))

  approximation-solves : (q : ℕ) → SolvesBelow m inside place left right (approximation m left pivot right q) q
  approximation-solves zero i j within below = absurd (omega arith)
  approximation-solves (suc q) i j within below = elim (cases_lt (place i j) q) [
    | inl earlier ↦ approximation-earlier q (approximation-solves q) i j within earlier
    | inr last ↦ approximation-next q (approximation-solves q) i j within (omega arith)
  ]

  -- the entries below place q stay in all later approximations
  approximation-settled : (q : ℕ) (i j : ℕ) → inside i j → place i j < q
      → Cong m (approximation m left pivot right q i j) (approximation m left pivot right (suc (place i j)) i j)
  approximation-settled zero i j within below = absurd (omega arith)
  approximation-settled (suc q) i j within below = elim (cases_lt (place i j) q) [
    | inl earlier ↦ Cong-trans (approximation-kept q (approximation-solves q) i j within earlier) (approximation-settled q i j within earlier)
    | inr last ↦ (let here : place i j ≡ q = omega arith in rw here (Cong-refl m (approximation m left pivot right (suc q) i j)))
  ]

-- the entry x inside, and elsewhere the entry y
chosen : {P : Type 0} → P ⊎ ¬ P → ℕ → ℕ → ℕ
chosen (inl _) x y = x
chosen (inr _) x y = y

chosen-inside : {P : Type 0} (d : P ⊎ ¬ P) (x y : ℕ) → P → chosen d x y ≡ x
unfolding chosen
chosen-inside (inl _) x y h = refl
chosen-inside (inr not) x y h = absurd (not h)

chosen-elsewhere : {P : Type 0} (d : P ⊎ ¬ P) (x y : ℕ) → ¬ P → chosen d x y ≡ y
unfolding chosen
chosen-elsewhere (inl holds) x y h = absurd (h holds)
chosen-elsewhere (inr _) x y h = refl

-- a table for which the equations of the inside entries hold, with residues inside, and elsewhere the entries of another table
pub record Solution (m : ℕ) (inside : ℕ → ℕ → Type 0) (Holds : Table → ℕ → ℕ → Type 0) (other : Table) : Type 0 where
  pub table : Table
  pub solves : (i j : ℕ) → inside i j → Holds table i j
  pub residues : (i j : ℕ) → inside i j → table i j < m
  pub kept : (i j : ℕ) → ¬ (inside i j) → table i j ≡ other i j

-- a system whose pivots are units has a solution; the pivot of an entry may be known to be one only once the entries before it are solved
pub solution : (m : ℕ) (inside : ℕ → ℕ → Type 0) (place : Table) (left pivot : Table → Table) → IsSystem m inside place left pivot → (right other : Table)
    → 2 ≤ m → ((i j : ℕ) → inside i j ⊎ ¬ (inside i j))
    → ((x : Table) (i j : ℕ) → inside i j → SolvesBelow m inside place left right x (place i j) → IsUnit m (pivot x i j))
    → Solution m inside (λ x i j. Cong m (left x i j) (right i j)) other
solution m inside place left pivot system right other two decide units = record {
  table = table;
  solves = λ i j within. Cong-trans
      (left-Cong m inside place left pivot system table (approximation m left pivot right (suc (place i j))) i j within
      (λ a b inner before. Cong-trans (found a b inner) (Cong-sym (approximation-settled m inside place left pivot system right two units (suc (place i j)) a b inner (omega arith))))
      (found i j within))
      (approximation-solves m inside place left pivot system right two units (suc (place i j)) i j within (omega arith));
  residues = λ i j within. rw (chosen-inside (decide i j) (entry i j % m) (other i j) within) (mod-lt (entry i j) (omega arith));
  kept = λ i j outside. chosen-elsewhere (decide i j) (entry i j % m) (other i j) outside;
}
  where
    entry : Table
    entry i j = approximation m left pivot right (suc (place i j)) i j

    table : Table
    table i j = chosen (decide i j) (entry i j % m) (other i j)

    found : (i j : ℕ) → inside i j → Cong m (table i j) (entry i j)
    found i j within = rw (chosen-inside (decide i j) (entry i j % m) (other i j) within) (Cong-mod m (entry i j))
