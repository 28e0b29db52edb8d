-- The marks of the edges into a step are, kind by kind, those of its edges, by what is kept of the blocks. So rows with these marks
-- have the edges up to this step.
use Rattle.std.proofs.Common.{◌≡◌, ℕ, suc, ◌<◌, ◌≤◌, inl, inr, Bool, true, false, not, cond, eqb, ltb, List, [], ◌∷◌, ◌++◌, length, map, get_or, Option, Some, None, refl, ◌∙◌, ap, arith}
use Rattle.std.specs.Prelude.{◌||◌, ◌&&◌, All}
use Rattle.std.specs.List.{list_any}
use Rattle.std.specs.Option.{option_to_list}
use Rattle.std.proofs.lemmas.Bool.{cases_eq, cases_lt, lt-ltb, le-leb, lt-leb, eq-eqb, ne_eqb}
use Rattle.std.proofs.lemmas.List.Elements.{All-head, All-tail, All-append, All-map, All-nil, All-cons, All-weaker}
use Rattle.std.proofs.lemmas.List.Folds.{list_any-append}
use Rattle.dependence_queue.specs.declared.access.Access.{Access}
use Rattle.dependence_queue.specs.declared.edge.Edge.{Edge}
use Rattle.dependence_queue.specs.declared.edge.EdgeKind.{EdgeKind}
use Rattle.dependence_queue.specs.declared.edge.EdgeKind.TheVariants as kinds
use Rattle.dependence_queue.specs.declared.block_use.BlockUse.{BlockUse}
use Rattle.dependence_queue.specs.Conflicts.{has_number}
use Rattle.dependence_queue.specs.Edges.{is_written_between, edge_between, is_edge, edges_from}
use Rattle.dependence_queue.specs.Marks.{found_edge, mark_all, IsStepOf}
use Rattle.dependence_queue.specs.Uses.{no_use, use_of, flows_into, marks_into, AreUses, AreRows, HasSteps, UsesBelow}
use Rattle.dependence_queue.proofs.EdgeLists.{edges_from-none, edges_from-more}
use Rattle.dependence_queue.proofs.KeptUses.{uses-steps}
use Rattle.dependence_queue.proofs.MarkedRows.{if_any, some_mark, marked_edge, IsMark, AreMarked, unmarked, marked-all}

-- ---- marks of one kind

some_mark-found : (kind : Edge → Bool) (of : EdgeKind) (t : ℕ) (b : Bool) → ((y : ℕ) → kind (found_edge of t y) ≡ b) → (ss : List ℕ) (s : ℕ)
    → some_mark kind (map (found_edge of t) ss) s ≡ has_number ss s && b
some_mark-found kind of t b same [] s = refl
some_mark-found kind of t b same (y ∷ ys) s = rw (same y, some_mark-found kind of t b same ys s) (together (eqb s y) (has_number ys s) b)
  where
    together : (a h c : Bool) → (a && c) || (h && c) ≡ (a || h) && c
    together true true true = refl
    together true false true = refl
    together true true false = refl
    together true false false = refl
    together false h c = refl

-- one of these blocks was last written by s
abbrev pub some_writer : List BlockUse → List ℕ → ℕ → Bool
some_writer uses xs s = list_any (λ x. has_number (option_to_list (use_of uses x).writer) s) xs

some_mark-flows : (kind : Edge → Bool) (t : ℕ) (b : Bool) → ((y : ℕ) → kind (found_edge kinds.Flow t y) ≡ b) → (uses : List BlockUse) (xs : List ℕ) (s : ℕ)
    → some_mark kind (flows_into t uses xs) s ≡ some_writer uses xs s && b
some_mark-flows kind t b same uses [] s = refl
some_mark-flows kind t b same uses (x ∷ xs) s =
    list_any-append (λ f. eqb s f.from && kind f) (map (found_edge kinds.Flow t) (option_to_list (use_of uses x).writer)) (flows_into t uses xs)
    ∙ rw (some_mark-found kind kinds.Flow t b same (option_to_list (use_of uses x).writer) s, some_mark-flows kind t b same uses xs s)
    (together (has_number (option_to_list (use_of uses x).writer) s) (some_writer uses xs s) b)
  where
    together : (a h c : Bool) → (a && c) || (h && c) ≡ (a || h) && c
    together true true true = refl
    together true false true = refl
    together true true false = refl
    together true false false = refl
    together false h c = refl

-- ---- all marks into a step

module _ (t : ℕ) (access : Access) (uses : List BlockUse) (s : ℕ) where
  some_mark-into : (kind : Edge → Bool) (flow anti output : Bool) → ((y : ℕ) → kind (found_edge kinds.Flow t y) ≡ flow)
      → ((y : ℕ) → kind (found_edge kinds.Anti t y) ≡ anti) → ((y : ℕ) → kind (found_edge kinds.Output t y) ≡ output)
      → some_mark kind (marks_into t access uses) s ≡ (some_writer uses access.reads s && flow)
      || ((has_number (use_of uses access.write).readers s && anti) || (has_number (option_to_list (use_of uses access.write).writer) s && output))
  unfolding marks_into
  some_mark-into kind flow anti output a b c =
      let antis : List Edge = map (found_edge kinds.Anti t) (use_of uses access.write).readers in
      let outputs : List Edge = map (found_edge kinds.Output t) (option_to_list (use_of uses access.write).writer) in
      list_any-append (λ f. eqb s f.from && kind f) (flows_into t uses access.reads) (antis ++ outputs)
      ∙ rw (
        list_any-append (λ f. eqb s f.from && kind f) antis outputs,
        some_mark-flows kind t flow a uses access.reads s,
        some_mark-found kind kinds.Anti t anti b (use_of uses access.write).readers s,
        some_mark-found kind kinds.Output t output c (option_to_list (use_of uses access.write).writer) s,
      ) refl

  marked-flow : some_mark (λ f. f.flow) (marks_into t access uses) s ≡ some_writer uses access.reads s
  marked-flow = some_mark-into (λ f. f.flow) true false false (λ y. refl) (λ y. refl) (λ y. refl)
      ∙ first (some_writer uses access.reads s) (has_number (use_of uses access.write).readers s) (has_number (option_to_list (use_of uses access.write).writer) s)
    where
      first : (a b c : Bool) → (a && true) || ((b && false) || (c && false)) ≡ a
      first true b c = refl
      first false true true = refl
      first false true false = refl
      first false false true = refl
      first false false false = refl

  marked-anti : some_mark (λ f. f.anti) (marks_into t access uses) s ≡ has_number (use_of uses access.write).readers s
  marked-anti = some_mark-into (λ f. f.anti) false true false (λ y. refl) (λ y. refl) (λ y. refl)
      ∙ second (some_writer uses access.reads s) (has_number (use_of uses access.write).readers s) (has_number (option_to_list (use_of uses access.write).writer) s)
    where
      second : (a b c : Bool) → (a && false) || ((b && true) || (c && false)) ≡ b
      second true true c = refl
      second true false true = refl
      second true false false = refl
      second false true c = refl
      second false false true = refl
      second false false false = refl

  marked-output : some_mark (λ f. f.output) (marks_into t access uses) s ≡ has_number (option_to_list (use_of uses access.write).writer) s
  marked-output = some_mark-into (λ f. f.output) false false true (λ y. refl) (λ y. refl) (λ y. refl)
      ∙ third (some_writer uses access.reads s) (has_number (use_of uses access.write).readers s) (has_number (option_to_list (use_of uses access.write).writer) s)
    where
      third : (a b c : Bool) → (a && false) || ((b && false) || (c && true)) ≡ c
      third true true true = refl
      third true true false = refl
      third true false true = refl
      third true false false = refl
      third false true true = refl
      third false true false = refl
      third false false true = refl
      third false false false = refl

-- ---- the marks fit

some_kind : (kind : EdgeKind) (t s : ℕ) → is_edge (found_edge kind t s) ≡ true
some_kind kinds.Flow t s = refl
some_kind kinds.Anti t s = refl
some_kind kinds.Output t s = refl

marks-fit : (kind : EdgeKind) (t n : ℕ) (ss : List ℕ) → All (IsStepOf n) ss → All (IsMark t n) (map (found_edge kind t) ss)
marks-fit kind t n ss h = All-map (IsMark t n) (found_edge kind t) ss
    (All-weaker (IsStepOf n) (λ s. IsMark t n (found_edge kind t s)) (λ s is. record { to = refl; from = is; some = some_kind kind t s }) ss h)

writer-fits : (n : ℕ) (writer : Option ℕ) → ((s : ℕ) → writer ≡ Some s → IsStepOf n s) → All (IsStepOf n) (option_to_list writer)
writer-fits n None h = All-nil (IsStepOf n)
writer-fits n (Some s) h = All-cons (IsStepOf n) s [] (h s refl) (All-nil (IsStepOf n))

pub use_at : (n : ℕ) (uses : List BlockUse) (x : ℕ) → x < length uses → All (HasSteps n) uses → HasSteps n (use_of uses x)
use_at n uses x below h = h x no_use below

flows-fit : (t n : ℕ) (uses : List BlockUse) (xs : List ℕ) → All (HasSteps n) uses → All (λ x. x < length uses) xs → All (IsMark t n) (flows_into t uses xs)
flows-fit t n uses [] h below = All-nil (IsMark t n)
flows-fit t n uses (x ∷ xs) h below =
    let steps : HasSteps n (use_of uses x) = use_at n uses x (All-head (λ y. y < length uses) x xs below) h in
    All-append (IsMark t n) (map (found_edge kinds.Flow t) (option_to_list (use_of uses x).writer)) (flows_into t uses xs)
    (marks-fit kinds.Flow t n (option_to_list (use_of uses x).writer) (writer-fits n (use_of uses x).writer steps.writer))
    (flows-fit t n uses xs h (All-tail (λ y. y < length uses) x xs below))

all-fit : (t n : ℕ) (access : Access) (uses : List BlockUse) → All (HasSteps n) uses → UsesBelow (length uses) access → All (IsMark t n) (marks_into t access uses)
unfolding marks_into
all-fit t n access uses h below =
    let steps : HasSteps n (use_of uses access.write) = use_at n uses access.write below.write h in
    let antis : List Edge = map (found_edge kinds.Anti t) (use_of uses access.write).readers in
    let outputs : List Edge = map (found_edge kinds.Output t) (option_to_list (use_of uses access.write).writer) in
    All-append (IsMark t n) (flows_into t uses access.reads) (antis ++ outputs) (flows-fit t n uses access.reads h below.reads)
    (All-append (IsMark t n) antis outputs (marks-fit kinds.Anti t n (use_of uses access.write).readers steps.readers)
    (marks-fit kinds.Output t n (option_to_list (use_of uses access.write).writer) (writer-fits n (use_of uses access.write).writer steps.writer)))

-- ---- the edges into the next step

one_writer_more : (w x : ℕ) (h : Bool) (hidden : ℕ → Bool) → (eqb w x && not (hidden x)) || (h && not (hidden w)) ≡ (eqb w x || h) && not (hidden w)
one_writer_more w x h hidden = elim (cases_eq w x) [
  | inl same ↦ rw (← same, eq-eqb w w refl) (now h (not (hidden w)))
  | inr other ↦ rw (ne_eqb w x other) refl
]
  where
    now : (a c : Bool) → (true && c) || (a && c) ≡ (true || a) && c
    now a true = refl
    now true false = refl
    now false false = refl

and_false : (b : Bool) → b && false ≡ false
and_false true = refl
and_false false = refl

module _ (accesses : ℕ → Access) (k : ℕ) (uses : List BlockUse) (kept : AreUses accesses k uses) (below : UsesBelow (length uses) (accesses (suc k))) where
  writers-flow : (s : ℕ) → 0 < s → s ≤ k → (xs : List ℕ) → All (λ x. x < length uses) xs
      → some_writer uses xs s ≡ has_number xs (accesses s).write && not (is_written_between accesses (accesses s).write s (suc k))
  writers-flow s first inside [] within = refl
  writers-flow s first inside (x ∷ xs) within =
      rw (
        (kept.each x (All-head (λ y. y < length uses) x xs within)).writer s,
        lt-ltb 0 s first,
        le-leb s k inside,
        writers-flow s first inside xs (All-tail (λ y. y < length uses) x xs within),
      )
      (one_writer_more (accesses s).write x (has_number xs (accesses s).write) (λ y. is_written_between accesses y s (suc k)))

  writers-none : (s : ℕ) → k < s → (xs : List ℕ) → All (λ x. x < length uses) xs → some_writer uses xs s ≡ false
  writers-none s past [] within = refl
  writers-none s past (x ∷ xs) within =
      rw (
        (kept.each x (All-head (λ y. y < length uses) x xs within)).writer s,
        lt-leb s k past,
        and_false (ltb 0 s),
        writers-none s past xs (All-tail (λ y. y < length uses) x xs within),
      ) refl

  -- the marks from an earlier step are the edge
  marked-between : (s : ℕ) → 0 < s → s ≤ k → marked_edge (suc k) (marks_into (suc k) (accesses (suc k)) uses) s ≡ edge_between accesses s (suc k)
  unfolding edge_between
  marked-between s first inside =
      let access : Access = accesses (suc k) in
      rw (
        marked-flow (suc k) access uses s,
        marked-anti (suc k) access uses s,
        marked-output (suc k) access uses s,
        writers-flow s first inside access.reads below.reads,
        (kept.each access.write below.write).readers s,
        (kept.each access.write below.write).writer s,
        lt-ltb 0 s first,
        le-leb s k inside,
      ) refl

  -- no marks come from a later one
  marked-none : (s : ℕ) → k < s → is_edge (marked_edge (suc k) (marks_into (suc k) (accesses (suc k)) uses) s) ≡ false
  marked-none s past =
      let access : Access = accesses (suc k) in
      rw (
        marked-flow (suc k) access uses s,
        marked-anti (suc k) access uses s,
        marked-output (suc k) access uses s,
        writers-none s past access.reads below.reads,
        (kept.each access.write below.write).readers s,
        (kept.each access.write below.write).writer s,
        lt-leb s k past,
        and_false (ltb 0 s),
      ) refl

  pub rows-step : (rows : List (List Edge)) → k ≤ length rows → AreRows accesses k rows → AreRows accesses (suc k) (mark_all (marks_into (suc k) (accesses (suc k)) uses) rows)
  rows-step rows many h = record { each = each }
    where
      marked : AreMarked accesses k (marks_into (suc k) (accesses (suc k)) uses) (mark_all (marks_into (suc k) (accesses (suc k)) uses) rows)
      marked = marked-all accesses k (length rows) (marks_into (suc k) (accesses (suc k)) uses) [] rows refl
          (all-fit (suc k) (length rows) (accesses (suc k)) uses (uses-steps accesses k (length rows) uses many kept) below) (unmarked accesses k rows h)

      each : (j : ℕ) → j < length (mark_all (marks_into (suc k) (accesses (suc k)) uses) rows)
          → get_or (mark_all (marks_into (suc k) (accesses (suc k)) uses) rows) j [] ≡ edges_from accesses (suc k) (suc j)
      each j inside =
          let found : Edge = marked_edge (suc k) (marks_into (suc k) (accesses (suc k)) uses) (suc j) in
          marked.each j inside ∙ elim (cases_lt k (suc j)) [
            | inl past ↦ rw (edges_from-none accesses k (suc j) (omega arith), edges_from-none accesses (suc k) (suc j) (omega arith))
                (ap (λ (b : Bool). cond b (found ∷ []) []) (marked-none (suc j) past))
            | inr earlier ↦ rw (edges_from-more accesses k (suc j) earlier)
                (ap (λ (d : Edge). edges_from accesses k (suc j) ++ if_any d) (marked-between (suc j) (omega arith) earlier))
          ]
