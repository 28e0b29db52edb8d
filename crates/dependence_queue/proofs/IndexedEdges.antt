-- Rows of edges, one behind the other, and the places where they begin: what `Edges` keeps beside its list.
use Rattle.std.proofs.Common.{◌≡◌, ℕ, zero, suc, ◌+◌, ◌<◌, ◌≤◌, inl, inr, cond, eqb, ltb, List, [], ◌∷◌, ◌++◌, length, map, get_or, take, drop, Some, None, refl, sym, ◌∙◌, ap, arith, length-append}
use Rattle.std.specs.Prelude.{All, filter, slice_get}
use Rattle.std.specs.List.{flat_map, range_with_len}
use Rattle.std.proofs.lemmas.Bool.{cases_lt, lt-ltb, le-ltb, eq-eqb, ne_eqb}
use Rattle.std.proofs.lemmas.List.{append-nil, length-map, take-append-drop, take_more, take_all, get_or-map, get_or_default}
use Rattle.std.proofs.lemmas.List.Concat.{flat_map-append, get_or-flat_map}
use Rattle.std.proofs.lemmas.List.Elements.{All-head, All-tail, All-nil, All-append, All-weaker, filter-append}
use Rattle.std.proofs.lemmas.List.FromFn.{length-map-range_with_len, get_or-map-range_with_len, map-range_with_len_more}
use Rattle.std.proofs.lemmas.Option.{slice_get-get_or, slice_get_past}
use Rattle.dependence_queue.specs.declared.edge.Edge.{Edge}
use Rattle.dependence_queue.specs.Edges.{successors, count_into}
use Rattle.dependence_queue.specs.Indexes.{AreRowsFrom, IsIndexed}
use Rattle.dependence_queue.specs.Marks.{no_edge}

-- rows one behind the other
abbrev pub laid : List (List Edge) → List Edge
laid rows = flat_map (λ row. row) rows

-- where the row at place j begins
abbrev pub begin : List (List Edge) → ℕ → ℕ
begin rows j = length (laid (take j rows))

pub begin-le : (rows : List (List Edge)) (j : ℕ) → begin rows j ≤ length (laid rows)
begin-le rows j =
    let whole : laid (take j rows) ++ laid (drop j rows) ≡ laid rows =
    sym (flat_map-append (λ (row : List Edge). row) (take j rows) (drop j rows)) ∙ ap laid (take-append-drop j rows) in
    omega (arith, sym (length-append (laid (take j rows)) (laid (drop j rows))) ∙ ap length whole)

pub laid-more : (rows : List (List Edge)) (j : ℕ) → j < length rows → laid (take (j + 1) rows) ≡ laid (take j rows) ++ get_or rows j []
laid-more rows j inside = ap laid (take_more rows j [] inside)
    ∙ (flat_map-append (λ (row : List Edge). row) (take j rows) (get_or rows j [] ∷ []) ∙ ap (λ (es : List Edge). laid (take j rows) ++ es) (append-nil (get_or rows j [])))

begin-more : (rows : List (List Edge)) (j : ℕ) → j < length rows → begin rows (j + 1) ≡ begin rows j + length (get_or rows j [])
begin-more rows j inside = ap length (laid-more rows j inside) ∙ length-append (laid (take j rows)) (get_or rows j [])

-- ---- the edges from one step

filter-all : (s : ℕ) (es : List Edge) → All (λ e. e.from ≡ s) es → filter (λ e. eqb e.from s) es ≡ es
filter-all s [] h = refl
filter-all s (e ∷ es) h =
    rw (eq-eqb e.from s (All-head (λ d. d.from ≡ s) e es h), filter-all s es (All-tail (λ d. d.from ≡ s) e es h)) refl

filter-none : (s : ℕ) (es : List Edge) → All (λ e. e.from ≡ s → ⊥) es → filter (λ e. eqb e.from s) es ≡ []
filter-none s [] h = refl
filter-none s (e ∷ es) h =
    rw (ne_eqb e.from s (All-head (λ d. d.from ≡ s → ⊥) e es h), filter-none s es (All-tail (λ d. d.from ≡ s → ⊥) e es h)) refl

module _ (n : ℕ) where
  first_row : (a : ℕ) (row : List Edge) (rows : List (List Edge)) → AreRowsFrom a n (row ∷ rows) → All (λ e. e.from ≡ a) row
  first_row a row rows h = All-weaker (λ e. (e.from ≡ a + 0) × (e.to ≤ n)) (λ e. e.from ≡ a) (λ e is. omega (arith, is.0)) row (h 0 (omega arith))

  other_rows : (a : ℕ) (row : List Edge) (rows : List (List Edge)) → AreRowsFrom a n (row ∷ rows) → AreRowsFrom (suc a) n rows
  other_rows a row rows h j below = All-weaker (λ e. (e.from ≡ a + suc j) × (e.to ≤ n)) (λ e. (e.from ≡ suc a + j) × (e.to ≤ n))
      (λ e is. (omega (arith, is.0), is.1)) (get_or rows j []) (h (suc j) (omega arith))

  -- none come from a step before or behind those of the rows
  before_rows : (a s : ℕ) (rows : List (List Edge)) → AreRowsFrom a n rows → s < a → filter (λ e. eqb e.from s) (laid rows) ≡ []
  before_rows a s [] h before = refl
  before_rows a s (row ∷ rows) h before =
      filter-append (λ e. eqb e.from s) row (laid rows)
      ∙ rw (
        filter-none s row (All-weaker (λ e. e.from ≡ a) (λ e. e.from ≡ s → ⊥) (λ e is same. absurd (omega (arith, is, same, before))) row (first_row a row rows h)),
        before_rows (suc a) s rows (other_rows a row rows h) (omega arith),
      ) refl

  pub behind_rows : (a s : ℕ) (rows : List (List Edge)) → AreRowsFrom a n rows → a + length rows ≤ s → filter (λ e. eqb e.from s) (laid rows) ≡ []
  behind_rows a s [] h behind = refl
  behind_rows a s (row ∷ rows) h behind =
      filter-append (λ e. eqb e.from s) row (laid rows)
      ∙ rw (
        filter-none s row (All-weaker (λ e. e.from ≡ a) (λ e. e.from ≡ s → ⊥) (λ e is same. absurd (omega (arith, is, same, behind))) row (first_row a row rows h)),
        behind_rows (suc a) s rows (other_rows a row rows h) (omega arith),
      ) refl

  row_of_step : (a j s : ℕ) (rows : List (List Edge)) → AreRowsFrom a n rows → j < length rows → a + j ≡ s → filter (λ e. eqb e.from s) (laid rows) ≡ get_or rows j []
  row_of_step a j s [] h inside at = absurd (omega arith)
  row_of_step a zero s (row ∷ rows) h inside at =
      filter-append (λ e. eqb e.from s) row (laid rows)
      ∙ rw (
        filter-all s row (All-weaker (λ e. e.from ≡ a) (λ e. e.from ≡ s) (λ e is. omega (arith, is, at)) row (first_row a row rows h)),
        before_rows (suc a) s rows (other_rows a row rows h) (omega arith),
      ) (append-nil row)
  row_of_step a (suc j) s (row ∷ rows) h inside at =
      filter-append (λ e. eqb e.from s) row (laid rows)
      ∙ rw (
        filter-none s row (All-weaker (λ e. e.from ≡ a) (λ e. e.from ≡ s → ⊥) (λ e is same. absurd (omega (arith, is, same, at))) row (first_row a row rows h)),
        row_of_step (suc a) j s rows (other_rows a row rows h) (omega arith) (omega arith),
      ) refl

  -- each edge goes to a step
  pub All-laid : (a : ℕ) (rows : List (List Edge)) → AreRowsFrom a n rows → All (λ e. e.to ≤ n) (laid rows)
  All-laid a [] h = All-nil (λ e. e.to ≤ n)
  All-laid a (row ∷ rows) h = All-append (λ e. e.to ≤ n) row (laid rows)
      (All-weaker (λ e. (e.from ≡ a + 0) × (e.to ≤ n)) (λ e. e.to ≤ n) (λ e is. is.1) row (h 0 (omega arith)))
      (All-laid (suc a) rows (other_rows a row rows h))

-- ---- the index

-- the list of beginnings, with one for step 0, which has no edges, and the end
abbrev pub beginnings : List (List Edge) → ℕ → List ℕ
beginnings rows count = 0 ∷ map (begin rows) (range_with_len 0 count)

module _ (rows : List (List Edge)) (h : AreRowsFrom 1 (length rows) rows) where
  start_of : (j : ℕ) → j ≤ length rows → get_or (beginnings rows (length rows + 1)) (suc j) 0 ≡ begin rows j
  start_of j within = get_or-map-range_with_len (begin rows) 0 (length rows + 1) j j 0 (omega arith) (omega arith)

  count_of : length (beginnings rows (length rows + 1)) ≡ length rows + 2
  count_of = omega (arith, length-map-range_with_len (begin rows) 0 (length rows + 1))

  ends : (s : ℕ) → suc s < length (beginnings rows (length rows + 1)) → get_or (beginnings rows (length rows + 1)) (suc s) 0 ≤ length (laid rows)
  ends s inside = rw (start_of s (omega (arith, inside, count_of))) (begin-le rows s)

  begins : (s : ℕ) → suc s < length (beginnings rows (length rows + 1)) → get_or (beginnings rows (length rows + 1)) s 0 ≤ length (laid rows)
  begins zero inside = omega arith
  begins (suc s) inside = rw (start_of s (omega (arith, inside, count_of))) (begin-le rows s)

  item_of : (j p : ℕ) → j < length rows → slice_get (map (λ (e : Edge). e.to) (get_or rows j [])) p
      ≡ cond (ltb (begin rows j + p) (begin rows (suc j))) (Some (get_or (laid rows) (begin rows j + p) no_edge).to) None
  item_of j p inside =
      let row : List Edge = get_or rows j [] in
      let size : begin rows (suc j) ≡ begin rows j + length row = (let e : suc j ≡ j + 1 = omega arith in rw e (begin-more rows j inside)) in
      let count : length (map (λ (e : Edge). e.to) row) ≡ length row = length-map row (λ (e : Edge). e.to) in
      elim (cases_lt p (length row)) [
        | inl before ↦ rw (
          lt-ltb (begin rows j + p) (begin rows (suc j)) (omega (arith, size, before)),
          get_or-flat_map (λ (r : List Edge). r) rows j p [] no_edge inside before,
        )
            (slice_get-get_or (map (λ (e : Edge). e.to) row) p 0 (omega (arith, before, count)) ∙ ap (λ (k : ℕ). Some k) (get_or-map (λ (e : Edge). e.to) row p no_edge 0 before))
        | inr past ↦ rw (le-ltb (begin rows j + p) (begin rows (suc j)) (omega (arith, size, past)))
            (slice_get_past (map (λ (e : Edge). e.to) row) p (omega (arith, past, count)))
      ]

  at : (s p : ℕ) → suc s < length (beginnings rows (length rows + 1)) → slice_get (successors (laid rows) s) p
      ≡ cond (ltb (get_or (beginnings rows (length rows + 1)) s 0 + p) (get_or (beginnings rows (length rows + 1)) (suc s) 0))
      (Some (get_or (laid rows) (get_or (beginnings rows (length rows + 1)) s 0 + p) no_edge).to) None
  at zero p inside = rw (before_rows (length rows) 1 0 rows h (omega arith), start_of 0 (omega arith), le-ltb (0 + p) 0 (omega arith)) refl
  at (suc j) p inside =
      let within : j < length rows = omega (arith, inside, count_of) in
      rw (row_of_step (length rows) 1 j (suc j) rows h within (omega arith), start_of j (omega arith), start_of (suc j) (omega arith)) (item_of j p within)

  past : (s : ℕ) → length (beginnings rows (length rows + 1)) ≤ suc s → successors (laid rows) s ≡ []
  past s behind = rw (behind_rows (length rows) 1 s rows h (omega (arith, behind, count_of))) refl

  pub indexed : (starts preds : List ℕ) → starts ≡ beginnings rows (length rows + 1) → ((t : ℕ) → get_or preds t 0 ≡ count_into (laid rows) t)
      → IsIndexed (laid rows) starts preds
  indexed starts preds e counts = rw e (record {
    ends = λ s inside. (let one : s + 1 ≡ suc s = omega arith in rw one (ends s (omega (arith, inside))));
    begins = λ s inside. begins s (omega (arith, inside));
    at = λ s p inside. (let one : s + 1 ≡ suc s = omega arith in rw one (at s p (omega (arith, inside))));
    past = λ s behind. past s (omega (arith, behind));
    counts = counts;
  })

-- one more beginning
pub beginnings-more : (rows : List (List Edge)) (i : ℕ) → beginnings rows (i + 1) ≡ beginnings rows i ++ begin rows i ∷ []
beginnings-more rows i = ap (λ (xs : List ℕ). 0 ∷ xs) (map-range_with_len_more (begin rows) 0 i i (omega arith))

-- ---- one row more

pub laid-step : (rows : List (List Edge)) (i : ℕ) (row edges next : List Edge) → i < length rows → row ≡ get_or rows i row → edges ≡ laid (take i rows)
    → next ≡ edges ++ row → next ≡ laid (take (i + 1) rows)
laid-step rows i row edges next inside is so_far e =
    e ∙ (ap (λ (es : List Edge). es ++ row) so_far ∙ (ap (λ (r : List Edge). laid (take i rows) ++ r) (is ∙ get_or_default rows i row [] inside) ∙ sym (laid-more rows i inside)))

pub beginnings-step : (rows : List (List Edge)) (i count : ℕ) (edges : List Edge) (starts next : List ℕ) → count ≡ length edges → edges ≡ laid (take i rows)
    → starts ≡ beginnings rows i → next ≡ starts ++ count ∷ [] → next ≡ beginnings rows (i + 1)
beginnings-step rows i count edges starts next size so_far noted e =
    e ∙ (ap (λ (xs : List ℕ). xs ++ count ∷ []) noted ∙ (ap (λ (k : ℕ). beginnings rows i ++ k ∷ []) (size ∙ ap length so_far) ∙ sym (beginnings-more rows i)))

-- all rows
pub laid-all : (rows : List (List Edge)) (i : ℕ) (edges : List Edge) → length rows ≤ i → edges ≡ laid (take i rows) → edges ≡ laid rows
laid-all rows i edges behind so_far = so_far ∙ ap laid (take_all i rows behind)
