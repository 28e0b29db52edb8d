-- Entries that are drawn row by row: what one more place does to the draws so far. Cited by the loops that draw matrices.
use Rattle.std.proofs.Common.{◌≡◌, ℕ, zero, suc, ◌+◌, ◌*◌, ◌-◌, ◌/◌, ◌%◌, ◌<◌, ◌≤◌, List, [], ◌∷◌, ◌++◌, Bool, true, false, length, map, inl, inr, refl, sym, ◌∙◌, ap, arith, add-one, ◌==◌, if◌then◌else◌}
use Rattle.std.specs.List.{range_with_len}
use Rattle.std.proofs.Math.Nat.{zero-div, zero-mod, mod-lt, pos_of_ne-zero}
use Rattle.std.proofs.lemmas.Bool.{cases_lt}
use Rattle.std.proofs.lemmas.Bool.Decides.{nat_tests}
use Rattle.std.proofs.lemmas.Nat.{div-mul-add, mod-mul-add, div-add-mod', div_below, mul-add-lt, mul-le}
use Rattle.std.proofs.lemmas.List.FromFn.{map-range_with_len_more, length-map-range_with_len}
use Rattle.residue_sums.specs.Sums.{sum_below}
use Rattle.residue_sums.specs.Tables.{Table}
use Rattle.job_generator.specs.Draws.{next_number, number_after, off_diagonal_before, drawn_table, unit_diagonal_table}

-- the entries of the first places, in n columns
abbrev pub entries_below : Table → ℕ → ℕ → List ℕ
entries_below a n places = map (λ k. a (k / n) (k % n)) (range_with_len 0 places)

-- one place more
pub entries_below-next : (a : Table) (n place v : ℕ) (so_far next : List ℕ) → so_far ≡ entries_below a n place → v ≡ a (place / n) (place % n)
    → next ≡ so_far ++ v ∷ [] → next ≡ entries_below a n (place + 1)
entries_below-next a n place v so_far next before due is =
    is ∙ (rw (before, due) (sym (map-range_with_len_more (λ k. a (k / n) (k % n)) 0 place place (omega arith))))

-- how many they are
pub length-entries_below : (a : Table) (n places : ℕ) → length (entries_below a n places) ≡ places
length-entries_below a n places = length-map-range_with_len (λ k. a (k / n) (k % n)) 0 places

-- there are columns where there are places
pub some_columns : (n place : ℕ) → place < n * n → 0 < n
some_columns n place below = pos_of_ne-zero (λ e. let none : n * n ≡ 0 = rw e (omega arith) in omega arith)

-- ---- draws off the diagonal

-- one more, but on the diagonal
abbrev counted : ℕ → ℕ → ℕ → ℕ
counted i j draws = if i == j then draws else suc draws

-- the next place is in the same row
off_diagonal-in_row : (n i j : ℕ) → i ≤ i * n → off_diagonal_before n i (j + 1) ≡ counted i j (off_diagonal_before n i j)
off_diagonal-in_row n i j low = grind (arith, nat_tests)

-- or it begins the next row
off_diagonal-next_row : (n i j : ℕ) → i < n → j + 1 ≡ n → i ≤ i * n → off_diagonal_before n (suc i) 0 ≡ counted i j (off_diagonal_before n i j)
off_diagonal-next_row n i j row last low = grind (arith, nat_tests)

off_diagonal-next : (n i j place : ℕ) → place ≡ i * n + j → i < n → j < n
    → off_diagonal_before n ((place + 1) / n) ((place + 1) % n) ≡ counted i j (off_diagonal_before n i j)
off_diagonal-next n i j place is row col =
    let low : i ≤ i * n = omega (arith, mul-le i 1 i n) in
    elim (cases_lt (j + 1) n) [
      | inl within ↦
          let next : place + 1 ≡ i * n + (j + 1) = omega arith in
          rw (next, div-mul-add i n (j + 1) within, mod-mul-add i n (j + 1) within) (off_diagonal-in_row n i j low)
      | inr past ↦
          let next : place + 1 ≡ suc i * n + 0 = omega arith in
          rw (next, div-mul-add (suc i) n 0 (omega arith), mod-mul-add (suc i) n 0 (omega arith)) (off_diagonal-next_row n i j row (omega arith) low)
    ]

-- behind the last place are all draws
pub off_diagonal-all : (n : ℕ) → off_diagonal_before n ((n * n) / n) ((n * n) % n) ≡ n * n - n
off_diagonal-all n = elim (cases_lt 0 n) [
  | inl pos ↦
      let last : n * n ≡ n * n + 0 = omega arith in
      rw (last, div-mul-add n n 0 pos, mod-mul-add n n 0 pos) (grind (arith, nat_tests))
  | inr none ↦
      let no_columns : n ≡ 0 = omega arith in
      rw no_columns refl
]

-- at each place as many draws were taken as entries off the diagonal stand before it
counted_below : (n place : ℕ) → place ≤ n * n → off_diagonal_before n (place / n) (place % n) ≡ sum_below (λ k. if (k / n) == (k % n) then 0 else 1) place
counted_below n zero within = rw (zero-div n, zero-mod n) (omega arith)
counted_below n (suc place) within =
    let pos : 0 < n = some_columns n place within in
    let next = off_diagonal-next n (place / n) (place % n) place (sym (div-add-mod' place n)) (div_below place n n pos within) (mod-lt place pos) in
    (rw (add-one place) at next) ∙ (rw (counted_below n place (omega arith)) (one_more ((place / n) == (place % n)) (sum_below (λ k. if (k / n) == (k % n) then 0 else 1) place)))
  where
    one_more : (on_diagonal : Bool) (draws : ℕ) → (if on_diagonal then draws else suc draws) ≡ draws + (if on_diagonal then 0 else 1)
    one_more true draws = omega arith
    one_more false draws = omega arith

pub off_diagonal-counted : (n i j : ℕ) → i < n → j < n → off_diagonal_before n i j ≡ sum_below (λ k. if (k / n) == (k % n) then 0 else 1) (i * n + j)
off_diagonal-counted n i j row col =
    rw (div-mul-add i n j col, mod-mul-add i n j col) at (counted_below n (i * n + j) (omega (arith, mul-add-lt i n j n row col)))

-- ---- the entries with ones on the diagonal

module _ (m x n place number : ℕ) (below : place < n * n) (drawn : number ≡ number_after (off_diagonal_before n (place / n) (place % n)) x) where
  -- the next entry is the one at the place
  pub entry_at_place : (v held : ℕ) → held ≡ m → v ≡ (if (place / n) == (place % n) then 1 else next_number number % held)
      → v ≡ unit_diagonal_table m x n (place / n) (place % n)
  entry_at_place v held same is = is ∙ (rw same (ap (λ (y : ℕ). if (place / n) == (place % n) then 1 else next_number y % m) drawn))

  -- and the number behind it is the one behind the draws before the next place
  pub number_behind_place : (next : ℕ) → next ≡ (if (place / n) == (place % n) then number else next_number number)
      → next ≡ number_after (off_diagonal_before n ((place + 1) / n) ((place + 1) % n)) x
  number_behind_place next is = is ∙ go
    where
      pos : 0 < n
      pos = some_columns n place below

      counts : off_diagonal_before n ((place + 1) / n) ((place + 1) % n) ≡ counted (place / n) (place % n) (off_diagonal_before n (place / n) (place % n))
      counts = off_diagonal-next n (place / n) (place % n) place (sym (div-add-mod' place n)) (div_below place n n pos below) (mod-lt place pos)

      go : (if (place / n) == (place % n) then number else next_number number) ≡ number_after (off_diagonal_before n ((place + 1) / n) ((place + 1) % n)) x
      go = rw (counts, drawn) (step (place / n) (place % n) (off_diagonal_before n (place / n) (place % n)))
        where
          step : (i j draws : ℕ) → (if i == j then number_after draws x else next_number (number_after draws x)) ≡ number_after (counted i j draws) x
          step i j draws = elim (i == j) as (λ b. (if b then number_after draws x else next_number (number_after draws x)) ≡ number_after (if b then draws else suc draws) x) [ true ↦ refl | false ↦ refl ]

-- ---- the entries that all are drawn

-- the number behind the next draw
pub number_behind_draw : (x place number next : ℕ) → number ≡ number_after place x → next ≡ next_number number → next ≡ number_after (place + 1) x
number_behind_draw x place number next drawn is = is ∙ (rw (drawn, add-one place) refl)

-- the next draw is the entry at the place
pub drawn_at_place : (m x n place number held v : ℕ) → number ≡ number_after place x → held ≡ m → v ≡ next_number number % held → v ≡ drawn_table m x n (place / n) (place % n)
drawn_at_place m x n place number held v drawn same is = is ∙ (rw (same, drawn, div-add-mod' place n) refl)
