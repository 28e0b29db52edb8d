-- Marks of edges: a row with marks in it is the edges up to a step and one more with the kinds marked so far. In the end this is
-- the edge into the next step.
use Rattle.std.proofs.Common.{◌≡◌, ℕ, suc, ◌-◌, ◌<◌, inl, inr, Bool, true, false, cond, eqb, List, [], ◌∷◌, ◌++◌, length, get_or, set, refl, sym, ◌∙◌, ap, subst, arith, length-append}
use Rattle.std.specs.Prelude.{◌||◌, ◌&&◌, All}
use Rattle.std.specs.List.{list_any}
use Rattle.std.proofs.lemmas.Bool.{cases_eq, cases_Bool, lt-ltb, eq-eqb, ne_eqb, or_parts, or_cases, or_left, or_right}
use Rattle.std.proofs.lemmas.List.{append-nil, append_assoc, length-set, get_or-set_same, get_or-set_other, get_or_at, set_at}
use Rattle.std.proofs.lemmas.List.Elements.{All-head, All-tail, All-weaker}
use Rattle.std.proofs.lemmas.List.Folds.{list_any-append}
use Rattle.dependence_queue.specs.declared.access.Access.{Access}
use Rattle.dependence_queue.specs.declared.edge.Edge.{Edge}
use Rattle.dependence_queue.specs.Edges.{is_edge, edges_from}
use Rattle.dependence_queue.specs.Marks.{joined, no_edge, last_edge, ends_at, marked, mark_at, mark_all, IsStepOf}
use Rattle.dependence_queue.specs.Uses.{AreRows}
use Rattle.dependence_queue.proofs.EdgeLists.{IsFrom, All-edges_from}

or_false : (b : Bool) → b || false ≡ b
or_false true = refl
or_false false = refl

-- ---- one mark in one row

-- an edge as a list, empty where it has no kind
abbrev pub if_any : Edge → List Edge
if_any e = cond (is_edge e) (e ∷ []) []

joined-edge : (e f : Edge) → is_edge f ≡ true → is_edge (joined e f) ≡ true
joined-edge e f h = elim (or_cases (f.flow || f.anti) f.output h) [
  | inr output ↦ or_right ((e.flow || f.flow) || (e.anti || f.anti)) (e.output || f.output) (or_right e.output f.output output)
  | inl other ↦ or_left ((e.flow || f.flow) || (e.anti || f.anti)) (e.output || f.output) (elim (or_cases f.flow f.anti other) [
    | inl flow ↦ or_left (e.flow || f.flow) (e.anti || f.anti) (or_right e.flow f.flow flow)
    | inr anti ↦ or_right (e.flow || f.flow) (e.anti || f.anti) (or_right e.anti f.anti anti)
  ])
]

-- an edge of no kind gives nothing to what it is joined with
joined-none : (e f : Edge) → is_edge e ≡ false → f.from ≡ e.from → f.to ≡ e.to → joined e f ≡ f
joined-none e f none from to =
    let p = or_parts (e.flow || e.anti) e.output none in
    let q = or_parts e.flow e.anti p.0 in
    rw (q.0, q.1, p.1, ← from, ← to) refl

ends-at_last : (front : List Edge) (e : Edge) → ends_at e.to (front ++ e ∷ []) ≡ true
ends-at_last front e =
    let n : length (front ++ e ∷ []) - 1 ≡ length front = omega (arith, length-append front (e ∷ [])) in
    rw (lt-ltb 0 (length (front ++ e ∷ [])) (omega (arith, length-append front (e ∷ []))), n, get_or_at front e [] no_edge (length front) refl) (eq-eqb e.to e.to refl)

ends-at_none : (front : List Edge) (t : ℕ) → All (λ e. e.to < t) front → ends_at t front ≡ false
ends-at_none [] t low = refl
ends-at_none (x ∷ xs) t low =
    let last : (last_edge (x ∷ xs)).to < t = low (length (x ∷ xs) - 1) no_edge (omega arith) in
    rw (lt-ltb 0 (length (x ∷ xs)) (omega arith)) (ne_eqb (last_edge (x ∷ xs)).to t (λ h. absurd (omega (arith, h, last))))

marked-last : (front : List Edge) (e f : Edge) → f.to ≡ e.to → marked f (front ++ e ∷ []) ≡ front ++ joined e f ∷ []
unfolding marked
marked-last front e f to =
    let n : length (front ++ e ∷ []) - 1 ≡ length front = omega (arith, length-append front (e ∷ [])) in
    let ends : ends_at f.to (front ++ e ∷ []) ≡ true = subst (λ t. ends_at t (front ++ e ∷ []) ≡ true) (sym to) (ends-at_last front e) in
    let last : last_edge (front ++ e ∷ []) ≡ e = rw n (get_or_at front e [] no_edge (length front) refl) in
    rw ends (ap (λ (d : Edge). set (front ++ e ∷ []) (length (front ++ e ∷ []) - 1) (joined d f)) last
    ∙ rw n (set_at front e [] (joined e f) (length front) refl))

marked-new : (front : List Edge) (f : Edge) → All (λ e. e.to < f.to) front → marked f front ≡ front ++ f ∷ []
unfolding marked
marked-new front f low = rw (ends-at_none front f.to low) refl

marked-row : (front : List Edge) (e f : Edge) → All (λ d. d.to < f.to) front → f.from ≡ e.from → f.to ≡ e.to → is_edge f ≡ true
    → marked f (front ++ if_any e) ≡ front ++ if_any (joined e f)
marked-row front e f low from to some = elim (cases_Bool (is_edge e)) [
  | inl is ↦ ap (λ (b : Bool). marked f (front ++ cond b (e ∷ []) [])) is ∙ (marked-last front e f to
      ∙ sym (ap (λ (b : Bool). front ++ cond b (joined e f ∷ []) []) (joined-edge e f some)))
  | inr none ↦ ap (marked f) (ap (λ (b : Bool). front ++ cond b (e ∷ []) []) none ∙ append-nil front) ∙ (marked-new front f low
      ∙ sym (ap (λ (d : Edge). front ++ if_any d) (joined-none e f none from to) ∙ ap (λ (b : Bool). front ++ cond b (f ∷ []) []) some))
]

-- ---- marks in all rows

-- some mark from step s has this kind
abbrev pub some_mark : (Edge → Bool) → List Edge → ℕ → Bool
some_mark kind marks s = list_any (λ f. eqb s f.from && kind f) marks

-- the edge from s to t with the kinds that were marked
abbrev pub marked_edge : ℕ → List Edge → ℕ → Edge
marked_edge t marks s = record { from = s; to = t; flow = some_mark (λ f. f.flow) marks s; anti = some_mark (λ f. f.anti) marks s; output = some_mark (λ f. f.output) marks s }

some_mark-push : (kind : Edge → Bool) (marks : List Edge) (f : Edge) (s : ℕ) → some_mark kind (marks ++ f ∷ []) s ≡ some_mark kind marks s || (eqb s f.from && kind f)
some_mark-push kind marks f s = list_any-append (λ d. eqb s d.from && kind d) marks (f ∷ []) ∙ ap (λ (b : Bool). some_mark kind marks s || b) (or_false (eqb s f.from && kind f))

some_mark-here : (kind : Edge → Bool) (marks : List Edge) (f : Edge) (s : ℕ) → s ≡ f.from → some_mark kind (marks ++ f ∷ []) s ≡ some_mark kind marks s || kind f
some_mark-here kind marks f s same = some_mark-push kind marks f s ∙ ap (λ (b : Bool). some_mark kind marks s || (b && kind f)) (eq-eqb s f.from same)

some_mark-elsewhere : (kind : Edge → Bool) (marks : List Edge) (f : Edge) (s : ℕ) → (s ≡ f.from → ⊥) → some_mark kind (marks ++ f ∷ []) s ≡ some_mark kind marks s
some_mark-elsewhere kind marks f s other =
    some_mark-push kind marks f s ∙ (ap (λ (b : Bool). some_mark kind marks s || (b && kind f)) (ne_eqb s f.from other) ∙ or_false (some_mark kind marks s))

marked_edge-here : (t : ℕ) (marks : List Edge) (f : Edge) (s : ℕ) → s ≡ f.from → marked_edge t (marks ++ f ∷ []) s ≡ joined (marked_edge t marks s) f
marked_edge-here t marks f s same =
    rw (some_mark-here (λ d. d.flow) marks f s same, some_mark-here (λ d. d.anti) marks f s same, some_mark-here (λ d. d.output) marks f s same) refl

marked_edge-elsewhere : (t : ℕ) (marks : List Edge) (f : Edge) (s : ℕ) → (s ≡ f.from → ⊥) → marked_edge t (marks ++ f ∷ []) s ≡ marked_edge t marks s
marked_edge-elsewhere t marks f s other =
    rw (some_mark-elsewhere (λ d. d.flow) marks f s other, some_mark-elsewhere (λ d. d.anti) marks f s other, some_mark-elsewhere (λ d. d.output) marks f s other) refl

-- a mark of an edge into step t from one of the first n
pub record IsMark (t n : ℕ) (f : Edge) : Type 0 where
  pub to : f.to ≡ t
  pub from : IsStepOf n f.from
  pub some : is_edge f ≡ true

module _ (accesses : ℕ → Access) (k : ℕ) where
  -- each row has the edges up to step k and the one into the next that was marked
  pub record AreMarked (marks : List Edge) (rows : List (List Edge)) : Type 0 where
    pub each : (j : ℕ) → j < length rows → get_or rows j [] ≡ edges_from accesses k (suc j) ++ if_any (marked_edge (suc k) marks (suc j))

  pub unmarked : (rows : List (List Edge)) → AreRows accesses k rows → AreMarked [] rows
  unmarked rows h = record { each = λ j below. h.each j below ∙ sym (append-nil (edges_from accesses k (suc j))) }

  marked-more : (marks : List Edge) (f : Edge) (rows : List (List Edge)) → IsMark (suc k) (length rows) f → AreMarked marks rows → AreMarked (marks ++ f ∷ []) (mark_at f rows)
  marked-more marks f rows mark h = record { each = each }
    where
      each : (j : ℕ) → j < length (mark_at f rows)
          → get_or (mark_at f rows) j [] ≡ edges_from accesses k (suc j) ++ if_any (marked_edge (suc k) (marks ++ f ∷ []) (suc j))
      each j below =
          let inside : j < length rows = omega (arith, below, length-set rows (f.from - 1) (marked f (get_or rows (f.from - 1) []))) in
          elim (cases_eq (suc j) f.from) [
            | inl same ↦
                let place : f.from - 1 ≡ j = omega (arith, same, mark.from) in
                let low : All (λ d. d.to < f.to) (edges_from accesses k (suc j)) =
                All-weaker (IsFrom accesses k (suc j)) (λ d. d.to < f.to) (λ d is. omega (arith, is.within, mark.to)) (edges_from accesses k (suc j)) (All-edges_from accesses k (suc j)) in
                rw (
                  place,
                  get_or-set_same rows j (marked f (get_or rows j [])) [] inside,
                  h.each j inside,
                  marked-row (edges_from accesses k (suc j)) (marked_edge (suc k) marks (suc j)) f low (sym same) mark.to mark.some,
                )
                (ap (λ (d : Edge). edges_from accesses k (suc j) ++ if_any d) (sym (marked_edge-here (suc k) marks f (suc j) same)))
            | inr other ↦
                let elsewhere : j ≡ f.from - 1 → ⊥ = λ e. other (omega (arith, e, mark.from)) in
                rw (get_or-set_other rows (f.from - 1) j (marked f (get_or rows (f.from - 1) [])) [] elsewhere, h.each j inside)
                (ap (λ (d : Edge). edges_from accesses k (suc j) ++ if_any d) (sym (marked_edge-elsewhere (suc k) marks f (suc j) other)))
          ]

  pub marked-all : (n : ℕ) (fs marks : List Edge) (rows : List (List Edge)) → length rows ≡ n → All (IsMark (suc k) n) fs → AreMarked marks rows
      → AreMarked (marks ++ fs) (mark_all fs rows)
  marked-all n [] marks rows long fits h = subst (λ (ms : List Edge). AreMarked ms rows) (sym (append-nil marks)) h
  marked-all n (f ∷ fs) marks rows long fits h =
      let mark : IsMark (suc k) (length rows) f = subst (λ m. IsMark (suc k) m f) (sym long) (All-head (IsMark (suc k) n) f fs fits) in
      subst (λ (ms : List Edge). AreMarked ms (mark_all fs (mark_at f rows))) (append_assoc marks (f ∷ []) fs)
      (marked-all n fs (marks ++ f ∷ []) (mark_at f rows) (length-set rows (f.from - 1) (marked f (get_or rows (f.from - 1) [])) ∙ long)
      (All-tail (IsMark (suc k) n) f fs fits) (marked-more marks f rows mark h))

  pub length-mark_all : (fs : List Edge) (rows : List (List Edge)) → length (mark_all fs rows) ≡ length rows
  length-mark_all [] rows = refl
  length-mark_all (f ∷ fs) rows = length-mark_all fs (mark_at f rows) ∙ length-set rows (f.from - 1) (marked f (get_or rows (f.from - 1) []))
