-- Steps of the code over plain variables: one more access or number in a loop, and what the marks of one step come to.
use Rattle.std.proofs.Common.{◌≡◌, ℕ, zero, suc, replicate, ◌+◌, ◌-◌, ◌<◌, ◌≤◌, List, [], ◌∷◌, ◌++◌, inl, inr, cond, eqb, length, map, get_or, set, take, refl, sym, ◌∙◌, ap, subst, arith, add-zero}
use Rattle.std.specs.Prelude.{All}
use Rattle.std.specs.Option.{option_to_list}
use Rattle.std.proofs.lemmas.Bool.{cases_eq, eq-eqb, ne_eqb}
use Rattle.std.proofs.lemmas.List.{get_or_default, get_or-set_same, get_or-set_other}
use Rattle.std.proofs.lemmas.List.Sums.{sum_by_more, sum_by_more_le}
use Rattle.std.proofs.lemmas.List.Elements.{All-more, All-weaker}
use Rattle.dependence_queue.specs.declared.access.Access.{Access}
use Rattle.dependence_queue.specs.declared.edge.Edge.{Edge}
use Rattle.dependence_queue.specs.declared.edge.EdgeKind.TheVariants as kinds
use Rattle.dependence_queue.specs.declared.block_use.BlockUse.{BlockUse}
use Rattle.dependence_queue.specs.Edges.{no_access, access_at, count_into}
use Rattle.dependence_queue.specs.Marks.{found_edge, mark_at, mark_all}
use Rattle.dependence_queue.specs.Uses.{no_use, use_of, used_by, flows_into, marks_into, AreUses, AreRows, UsesBelow}
use Rattle.dependence_queue.proofs.KeptUses.{uses-step}
use Rattle.dependence_queue.proofs.FoundEdges.{rows-step}

-- ---- bounds of numbers

pub past_more : (numbers : List ℕ) (i low high : ℕ) → i < length numbers → All (λ x. x < low) (take i numbers) → low ≤ high → get_or numbers i 0 < high
    → All (λ x. x < high) (take (i + 1) numbers)
past_more numbers i low high inside h grows here =
    All-more (λ x. x < high) numbers i 0 inside (All-weaker (λ x. x < low) (λ x. x < high) (λ x is. omega arith) (take i numbers) h) here

pub uses_below_more : (accesses : List Access) (i low high : ℕ) (access : Access) → i < length accesses → access ≡ get_or accesses i access
    → All (UsesBelow low) (take i accesses) → low ≤ high → UsesBelow high access → All (UsesBelow high) (take (i + 1) accesses)
uses_below_more accesses i low high access inside is h grows here =
    All-more (UsesBelow high) accesses i access inside
    (All-weaker (UsesBelow low) (UsesBelow high)
    (λ a below. record { write = omega (arith, below.write); reads = All-weaker (λ x. x < low) (λ x. x < high) (λ x lower. omega arith) a.reads below.reads }) (take i accesses) h)
    (subst (UsesBelow high) is here)

-- ---- the marks of one step

mark_all-append : (first second : List Edge) (rows : List (List Edge)) → mark_all (first ++ second) rows ≡ mark_all second (mark_all first rows)
mark_all-append [] second rows = refl
mark_all-append (f ∷ fs) second rows = mark_all-append fs second (mark_at f rows)

pub marked_into : (t : ℕ) (access : Access) (uses : List BlockUse) (used : BlockUse) (reads readers : List ℕ) (rows first second third : List (List Edge))
    → access.write < length uses → used ≡ get_or uses access.write used → reads ≡ access.reads → readers ≡ used.readers
    → first ≡ mark_all (flows_into t uses reads) rows → second ≡ mark_all (map (found_edge kinds.Anti t) readers) first
    → third ≡ mark_all (map (found_edge kinds.Output t) (option_to_list used.writer)) second → third ≡ mark_all (marks_into t access uses) rows
unfolding marks_into
marked_into t access uses used reads readers rows first second third below is reads_are readers_are one two three =
    let same : used ≡ use_of uses access.write = is ∙ get_or_default uses access.write used no_use below in
    let flows : List Edge = flows_into t uses access.reads in
    let antis : List Edge = map (found_edge kinds.Anti t) (use_of uses access.write).readers in
    let outputs : List Edge = map (found_edge kinds.Output t) (option_to_list (use_of uses access.write).writer) in
    let a : first ≡ mark_all flows rows = one ∙ ap (λ (xs : List ℕ). mark_all (flows_into t uses xs) rows) reads_are in
    let b : second ≡ mark_all antis first = two ∙ ap (λ (xs : List ℕ). mark_all (map (found_edge kinds.Anti t) xs) first) (readers_are ∙ ap (λ (u : BlockUse). u.readers) same) in
    let c : third ≡ mark_all outputs second = three ∙ ap (λ (u : BlockUse). mark_all (map (found_edge kinds.Output t) (option_to_list u.writer)) second) same in
    c ∙ (ap (mark_all outputs) (b ∙ ap (mark_all antis) a)
    ∙ sym (mark_all-append flows (antis ++ outputs) rows ∙ mark_all-append antis outputs (mark_all flows rows)))

-- ---- one step of the analysis

module _ (accesses : List Access) (i step : ℕ) (access : Access) (inside : i < length accesses) (is : access ≡ get_or accesses i access) (here : step ≡ i + 1) where
  at_step : access ≡ access_at accesses (suc i)
  at_step = let place : suc i - 1 ≡ i = omega arith in rw place (is ∙ get_or_default accesses i access no_access inside)

  pub uses_after : (uses next : List BlockUse) → AreUses (access_at accesses) i uses → next ≡ used_by step access uses → AreUses (access_at accesses) (i + 1) next
  uses_after uses next h e =
      let one : suc i ≡ i + 1 = omega arith in
      subst (λ k. AreUses (access_at accesses) k next) one
      (subst (λ us. AreUses (access_at accesses) (suc i) us) (sym (e ∙ (ap (λ (t : ℕ). used_by t access uses) (here ∙ sym one) ∙ ap (λ (a : Access). used_by (suc i) a uses) at_step)))
      (uses-step (access_at accesses) i uses h))

  pub rows_after : (uses : List BlockUse) (rows next : List (List Edge)) → AreUses (access_at accesses) i uses → UsesBelow (length uses) access
      → i ≤ length rows → AreRows (access_at accesses) i rows → next ≡ mark_all (marks_into step access uses) rows → AreRows (access_at accesses) (i + 1) next
  rows_after uses rows next kept below many h e =
      let one : suc i ≡ i + 1 = omega arith in
      subst (λ k. AreRows (access_at accesses) k next) one
      (subst (λ rs. AreRows (access_at accesses) (suc i) rs)
      (sym (e ∙ (ap (λ (t : ℕ). mark_all (marks_into t access uses) rows) (here ∙ sym one) ∙ ap (λ (a : Access). mark_all (marks_into (suc i) a uses) rows) at_step)))
      (rows-step (access_at accesses) i uses kept (subst (UsesBelow (length uses)) at_step below) rows many h))

-- ---- edges into each step

-- one more edge is counted
pub counts_more : (edges : List Edge) (i : ℕ) (e d : Edge) (preds : List ℕ) → i < length edges → e ≡ get_or edges i d → e.to < length preds
    → ((t : ℕ) → get_or preds t 0 ≡ count_into (take i edges) t) → (t : ℕ) → get_or (set preds e.to (get_or preds e.to 0 + 1)) t 0 ≡ count_into (take (i + 1) edges) t
counts_more edges i e d preds inside is within h t =
    let f : Edge → ℕ = λ x. cond (eqb x.to t) 1 0 in
    let one : count_into (take (i + 1) edges) t ≡ count_into (take i edges) t + f e =
    sum_by_more f edges i d inside ∙ ap (λ (x : Edge). count_into (take i edges) t + f x) (sym is) in
    elim (cases_eq t e.to) [
      | inl here ↦ rw (here, get_or-set_same preds e.to (get_or preds e.to 0 + 1) 0 within)
          (ap (λ (k : ℕ). k + 1) (h e.to) ∙ sym ((rw here at one) ∙ rw (eq-eqb e.to e.to refl) refl))
      | inr other ↦ rw (get_or-set_other preds e.to t (get_or preds e.to 0 + 1) 0 other)
          (h t ∙ sym (one ∙ (rw (ne_eqb e.to t (λ same. other (sym same))) (add-zero (count_into (take i edges) t)))))
    ]

-- the count before it is less than all edges into its step
pub count_below : (edges : List Edge) (i : ℕ) (e d : Edge) (preds : List ℕ) → i < length edges → e ≡ get_or edges i d
    → ((t : ℕ) → get_or preds t 0 ≡ count_into (take i edges) t) → get_or preds e.to 0 + 1 ≤ count_into edges e.to
count_below edges i e d preds inside is h =
    let f : Edge → ℕ = λ x. cond (eqb x.to e.to) 1 0 in
    let one : f (get_or edges i d) ≡ 1 = ap f (sym is) ∙ rw (eq-eqb e.to e.to refl) refl in
    omega (arith, sum_by_more_le f edges i d inside, one, h e.to)

pub zeros_at : (n t : ℕ) → get_or {A = ℕ} (replicate n 0) t 0 ≡ 0
zeros_at zero t = refl
zeros_at (suc n) zero = refl
zeros_at (suc n) (suc t) = zeros_at n t
