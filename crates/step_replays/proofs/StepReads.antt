-- What a step may do to the blocks that it finds depends on the blocks that it reads or writes alone. Cited by the law that a step finds
-- the values that the list gives it, whenever it is run.
use Rattle.std.proofs.Common.{◌≡◌, ◌≢◌, ℕ, zero, suc, min, ◌+◌, ◌*◌, ◌/◌, ◌%◌, ◌<◌, ◌≤◌, ◌⊎◌, inl, inr, Bool, true, false, not, if◌then◌else◌, List, [], ◌∷◌, refl, sym, ◌∙◌, ap, ap₂, subst, arith}
use Rattle.std.specs.Prelude.{◌==◌, ◌&&◌, ◌||◌, nat_lt, IsTrue, slice_index}
use Rattle.std.proofs.lemmas.Bool.{cases_Bool, cases_eq, cases_order, eqb-true, lt-ltb, ltb-true}
use Rattle.std.proofs.lemmas.Bool.Decides.{nat_tests}
use Rattle.residue_sums.specs.Sums.{part_count}
use Rattle.residue_sums.specs.Tables.{Table, oriented, transpose, times, plus}
use Rattle.residue_sums.specs.Grids.{Grid, entry}
use Rattle.structure_rules.specs.declared.Structure.{Structure}
use Rattle.structure_rules.specs.declared.Structure.TheVariants.{General, Lower, UnitLower, Upper, UnitUpper, Diagonal, Symmetric}
use Rattle.structure_rules.specs.Structures.{view, stored_of}
use Rattle.operation_spec.specs.declared.operation.Operation.{Operation}
use Rattle.operation_spec.specs.declared.operation.Binding.{Binding}
use Rattle.operation_spec.specs.declared.operation.Factor.{Factor}
use Rattle.operation_spec.specs.declared.operation.Term.{Term}
use Rattle.operation_spec.specs.declared.operation.Form.{Form}
use Rattle.operation_spec.specs.declared.operation.Form.TheVariants.{Assign, Left, Right, Sylvester, Lu, Ldl}
use Rattle.operation_spec.specs.declared.task.Kind.{Kind}
use Rattle.operation_spec.specs.declared.task.Kind.TheVariants as kinds
use Rattle.operation_spec.specs.declared.task.Task.{Task}
use Rattle.task_graph.specs.Factors.{known}
use Rattle.equation.specs.declared.job.Place.{Place}
use Rattle.equation.specs.Jobs.{nth_grid, no_grid}
use Rattle.flash_blocks.specs.Blocks.{Blocks}
use Rattle.block_tasks.specs.Effects.{view_block, view_block_cols, view_block_rows, factor_block, factor_block_cols, block_structure, solution_block, term_effect, numbered_term_effect, left_effect, right_effect, lu_effect, ldl_effect, solve_effect, effect_by, IsEffect, bad_by, bad_factor, IsBadDiagonal}
use Rattle.equation.specs.Kernels.{IsUpdated, IsUpdatedLdl, IsSolvedLeft, IsSolvedRight, IsSolvedRightLdl, IsSolvedSylvester, IsFactoredLu, IsFactoredLdl}
use Rattle.step_replays.specs.Accesses.{block_number, factor_number, work_number, reads_of, left_reads, right_reads, solve_reads, term_reads, numbered_term_reads, list_reads}
use Rattle.dependence_queue.specs.Conflicts.{has_number}
use Rattle.step_replays.specs.Replays.{known_blocks}

-- the blocks of all matrices, out of the blocks by their numbers
abbrev pub blocks_from : ℕ → List Grid → (ℕ → Grid) → ℕ → Blocks
blocks_from b grids found k i j = if nat_lt i (part_count (nth_grid grids k).rows b) && nat_lt j (part_count (nth_grid grids k).cols b)
    then found (block_number b grids k i j) else no_grid

stored-diagonal : (s : Structure) (i k : ℕ) → (i == k) ≡ true → ((stored_of s i k).row ≡ i) × ((stored_of s i k).col ≡ k)
stored-diagonal General i k h = (refl, refl)
stored-diagonal Lower i k h = (refl, refl)
stored-diagonal UnitLower i k h = (refl, refl)
stored-diagonal Upper i k h = (refl, refl)
stored-diagonal UnitUpper i k h = (refl, refl)
stored-diagonal Diagonal i k h = (refl, refl)
stored-diagonal Symmetric i k h = let e : nat_lt i k ≡ false = grind (arith, nat_tests) in rw e (refl, refl)

view_block-same : (s : Structure) (w w' : Blocks) (i k : ℕ) → w (stored_of s i k).row (stored_of s i k).col ≡ w' (stored_of s i k).row (stored_of s i k).col → view_block s w i k ≡ view_block s w' i k
view_block-same s w w' i k e = elim (cases_Bool (i == k)) [
  | inl d ↦ (let p = stored-diagonal s i k d in let g : w i k ≡ w' i k = rw (p.0, p.1) at e in rw d (ap (λ (x : Grid). view s (entry x)) g))
  | inr d ↦ rw d (ap (λ (x : Grid). oriented (stored_of s i k).transposed (entry x)) e)
]

module _ (b : ℕ) (grids : List Grid) (op : Operation) (bind : Binding) (found found' : ℕ → Grid) where
  abbrev known_here : ℕ → Blocks
  known_here = known_blocks (blocks_from b grids found) bind

  abbrev known_there : ℕ → Blocks
  known_there = known_blocks (blocks_from b grids found') bind

  abbrev work_here : Blocks
  work_here = blocks_from b grids found bind.work

  abbrev work_there : Blocks
  work_there = blocks_from b grids found' bind.work

  -- the stores agree on the numbers of a list
  abbrev pub Agree : List ℕ → Type 0
  Agree ys = (x : ℕ) → has_number ys x ≡ true → found x ≡ found' x

  agree-head : (y : ℕ) (ys : List ℕ) → Agree (y ∷ ys) → found y ≡ found' y
  agree-head y ys h = h y (let e : (y == y) ≡ true = grind (arith, nat_tests) in rw e refl)

  agree-tail : (y : ℕ) (ys : List ℕ) → Agree (y ∷ ys) → Agree ys
  agree-tail y ys h x e = h x (elim (cases_Bool (x == y)) [ inl f ↦ rw f refl | inr f ↦ rw (f, e) refl ])

  block-same : (k i j : ℕ) → found (block_number b grids k i j) ≡ found' (block_number b grids k i j) → blocks_from b grids found k i j ≡ blocks_from b grids found' k i j
  block-same k i j e = ap (λ (x : Grid). if nat_lt i (part_count (nth_grid grids k).rows b) && nat_lt j (part_count (nth_grid grids k).cols b) then x else no_grid) e

  factor-same : (f : Factor) (i k : ℕ) → found (factor_number b grids op bind f i k) ≡ found' (factor_number b grids op bind f i k) → factor_block op known_here f i k ≡ factor_block op known_there f i k
  factor-same f i k = go f.primed
    where
      go : (primed : Bool) → found (block_number b grids (slice_index bind.knowns f.known) (if primed then stored_of (known op f.known).structure k i else stored_of (known op f.known).structure i k).row
          (if primed then stored_of (known op f.known).structure k i else stored_of (known op f.known).structure i k).col)
          ≡ found' (block_number b grids (slice_index bind.knowns f.known) (if primed then stored_of (known op f.known).structure k i else stored_of (known op f.known).structure i k).row
          (if primed then stored_of (known op f.known).structure k i else stored_of (known op f.known).structure i k).col)
          → (if primed then transpose (view_block (known op f.known).structure (known_here f.known) k i) else view_block (known op f.known).structure (known_here f.known) i k)
          ≡ (if primed then transpose (view_block (known op f.known).structure (known_there f.known) k i) else view_block (known op f.known).structure (known_there f.known) i k)
      go true e = ap (λ (t : Table). transpose t) (view_block-same (known op f.known).structure (known_here f.known) (known_there f.known) k i (block-same (slice_index bind.knowns f.known) _ _ e))
      go false e = view_block-same (known op f.known).structure (known_here f.known) (known_there f.known) i k (block-same (slice_index bind.knowns f.known) _ _ e)

  factor_cols-same : (f : Factor) (i k : ℕ) → found (factor_number b grids op bind f i k) ≡ found' (factor_number b grids op bind f i k) → factor_block_cols op known_here f i k ≡ factor_block_cols op known_there f i k
  factor_cols-same f i k = go f.primed
    where
      go : (primed : Bool) → found (block_number b grids (slice_index bind.knowns f.known) (if primed then stored_of (known op f.known).structure k i else stored_of (known op f.known).structure i k).row
          (if primed then stored_of (known op f.known).structure k i else stored_of (known op f.known).structure i k).col)
          ≡ found' (block_number b grids (slice_index bind.knowns f.known) (if primed then stored_of (known op f.known).structure k i else stored_of (known op f.known).structure i k).row
          (if primed then stored_of (known op f.known).structure k i else stored_of (known op f.known).structure i k).col)
          → (if primed then view_block_rows (known op f.known).structure (known_here f.known) k i else view_block_cols (known op f.known).structure (known_here f.known) i k)
          ≡ (if primed then view_block_rows (known op f.known).structure (known_there f.known) k i else view_block_cols (known op f.known).structure (known_there f.known) i k)
      go true e = ap (λ (g : Grid). if (stored_of (known op f.known).structure k i).transposed then g.cols else g.rows) (block-same (slice_index bind.knowns f.known) _ _ e)
      go false e = ap (λ (g : Grid). if (stored_of (known op f.known).structure i k).transposed then g.rows else g.cols) (block-same (slice_index bind.knowns f.known) _ _ e)

  -- ---- updates

  module _ (m i j : ℕ) (own : found (block_number b grids bind.work i j) ≡ found' (block_number b grids bind.work i j)) (new : Grid) where
    old : work_here i j ≡ work_there i j
    old = block-same bind.work i j own

    -- X at a block
    solution : (k l : ℕ) → work_here k l ≡ work_there k l → solution_block op work_here k l ≡ solution_block op work_there k l
    solution k l e = ap (λ (g : Grid). view (block_structure op.work.structure k l) (entry g)) e

    -- an update of the block with equal factors
    updated : (negative : Bool) (n n' : ℕ) (p p' q q' : Table) → n ≡ n' → p ≡ p' → q ≡ q'
        → IsUpdated m negative (block_structure op.work.structure i j) n p q (work_here i j) new → IsUpdated m negative (block_structure op.work.structure i j) n' p' q' (work_there i j) new
    updated negative n n' p p' q q' n_is p_is q_is h =
        subst (λ (s : ℕ × Table × Table × Grid). IsUpdated m negative (block_structure op.work.structure i j) s.0 s.1 s.2 s.3 new) (λ z. (n_is z, p_is z, q_is z, old z)) h

    term-same : (terms : List Term) (t k : ℕ) → Agree (term_reads b grids op bind terms t i j k) → term_effect m op known_here work_here terms t i j k new → term_effect m op known_there work_there terms t i j k new
    term-same [] t k h e = e
    term-same (term ∷ terms) zero k h e =
        let first = agree-head (factor_number b grids op bind term.first i k) (factor_number b grids op bind term.second k j ∷ []) h in
        let second = agree-head (factor_number b grids op bind term.second k j) [] (agree-tail (factor_number b grids op bind term.first i k) (factor_number b grids op bind term.second k j ∷ []) h) in
        updated term.minus _ _ _ _ _ _ (factor_cols-same term.first i k first) (factor-same term.first i k first) (factor-same term.second k j second) e
    term-same (term ∷ terms) (suc t) k h e = term-same terms t k h e

    numbered-same : (t k : ℕ) → Agree (numbered_term_reads b grids op bind t i j k) → numbered_term_effect m op known_here work_here t i j k new → numbered_term_effect m op known_there work_there t i j k new
    numbered-same zero k h e = e
    numbered-same (suc t) k h e = term-same op.terms t k h e

    -- op(T) at (i, k) and X at (k, j)
    by_left : (t : Factor) (k : ℕ) → Agree (factor_number b grids op bind t i k ∷ work_number b grids bind k j ∷ [])
        → IsUpdated m true (block_structure op.work.structure i j) (work_here k j).rows (factor_block op known_here t i k) (solution_block op work_here k j) (work_here i j) new
        → IsUpdated m true (block_structure op.work.structure i j) (work_there k j).rows (factor_block op known_there t i k) (solution_block op work_there k j) (work_there i j) new
    by_left t k h e =
        let x = block-same bind.work k j (agree-head (work_number b grids bind k j) [] (agree-tail (factor_number b grids op bind t i k) (work_number b grids bind k j ∷ []) h)) in
        updated true _ _ _ _ _ _ (ap (λ (g : Grid). g.rows) x) (factor-same t i k (agree-head (factor_number b grids op bind t i k) (work_number b grids bind k j ∷ []) h)) (solution k j x) e

    left-same : (form : Form) (k : ℕ) → Agree (left_reads b grids op bind form i j k) → left_effect m op known_here work_here form i j k new → left_effect m op known_there work_there form i j k new
    left-same Assign k h e = e
    left-same (Right t) k h e = e
    left-same (Left t) k h e = by_left t k h e
    left-same (Sylvester t u negative) k h e = by_left t k h e
    left-same Lu k h e =
        let l = block-same bind.work i k (agree-head (work_number b grids bind i k) (work_number b grids bind k j ∷ []) h) in
        let u = block-same bind.work k j (agree-head (work_number b grids bind k j) [] (agree-tail (work_number b grids bind i k) (work_number b grids bind k j ∷ []) h)) in
        updated true _ _ _ _ _ _ (ap (λ (g : Grid). g.cols) l) (ap (λ (g : Grid). entry g) l) (ap (λ (g : Grid). entry g) u) e
    left-same Ldl k h e =
        let behind : Agree (work_number b grids bind k k ∷ work_number b grids bind j k ∷ []) = agree-tail (work_number b grids bind i k) (work_number b grids bind k k ∷ work_number b grids bind j k ∷ []) h in
        let l = block-same bind.work i k (agree-head (work_number b grids bind i k) (work_number b grids bind k k ∷ work_number b grids bind j k ∷ []) h) in
        let d = block-same bind.work k k (agree-head (work_number b grids bind k k) (work_number b grids bind j k ∷ []) behind) in
        let r = block-same bind.work j k (agree-head (work_number b grids bind j k) [] (agree-tail (work_number b grids bind k k) (work_number b grids bind j k ∷ []) behind)) in
        subst (λ (s : Grid × Grid × Grid × Grid). IsUpdatedLdl m (block_structure op.work.structure i j) s.0.cols (entry s.0) (view Diagonal (entry s.1)) (transpose (entry s.2)) s.3 new)
        (λ z. (l z, d z, r z, old z)) e

    -- X at (i, k) and op(U) at (k, j)
    by_right : (negative : Bool) (u : Factor) (k : ℕ) → Agree (work_number b grids bind i k ∷ factor_number b grids op bind u k j ∷ [])
        → IsUpdated m negative (block_structure op.work.structure i j) (work_here i k).cols (solution_block op work_here i k) (factor_block op known_here u k j) (work_here i j) new
        → IsUpdated m negative (block_structure op.work.structure i j) (work_there i k).cols (solution_block op work_there i k) (factor_block op known_there u k j) (work_there i j) new
    by_right negative u k h e =
        let x = block-same bind.work i k (agree-head (work_number b grids bind i k) (factor_number b grids op bind u k j ∷ []) h) in
        updated negative _ _ _ _ _ _ (ap (λ (g : Grid). g.cols) x) (solution i k x)
        (factor-same u k j (agree-head (factor_number b grids op bind u k j) [] (agree-tail (work_number b grids bind i k) (factor_number b grids op bind u k j ∷ []) h))) e

    right-same : (form : Form) (k : ℕ) → Agree (right_reads b grids op bind form i j k) → right_effect m op known_here work_here form i j k new → right_effect m op known_there work_there form i j k new
    right-same Assign k h e = e
    right-same (Left t) k h e = e
    right-same Lu k h e = e
    right-same Ldl k h e = e
    right-same (Right u) k h e = by_right true u k h e
    right-same (Sylvester t u negative) k h e = by_right (not negative) u k h e

    -- ---- solves

    diagonal-read : (d : ℕ) → i ≢ j → min i j ≡ d → Agree (if i == j then [] else work_number b grids bind (min i j) (min i j) ∷ []) → work_here d d ≡ work_there d d
    diagonal-read d apart is h =
        let e : (i == j) ≡ false = grind (arith, nat_tests) in
        block-same bind.work d d (rw is at (agree-head (work_number b grids bind (min i j) (min i j)) [] (rw e at h)))

    lu-same : (above below : Bool) → nat_lt i j ≡ above → nat_lt j i ≡ below → (x : ℕ) → Agree (solve_reads b grids op bind x Lu i j) → lu_effect m work_here above below i j new → lu_effect m work_there above below i j new
    lu-same true below p q x h e =
        let less : i < j = ltb-true i j p in
        let d = diagonal-read i (λ f. absurd (omega arith)) (omega arith) h in
        subst (λ (s : Grid × Grid). IsSolvedLeft m General (view UnitLower (entry s.0)) s.1 new) (λ z. (d z, old z)) e
    lu-same false true p q x h e =
        let less : j < i = ltb-true j i q in
        let d = diagonal-read j (λ f. absurd (omega arith)) (omega arith) h in
        subst (λ (s : Grid × Grid). IsSolvedRight m General (view Upper (entry s.0)) s.1 new) (λ z. (d z, old z)) e
    lu-same false false p q x h e = subst (λ (g : Grid). IsFactoredLu m g new) old e

    ldl-same : (below : Bool) → nat_lt j i ≡ below → (x : ℕ) → Agree (solve_reads b grids op bind x Ldl i j) → ldl_effect m work_here below i j new → ldl_effect m work_there below i j new
    ldl-same true q x h e =
        let less : j < i = ltb-true j i q in
        let d = diagonal-read j (λ f. absurd (omega arith)) (omega arith) h in
        subst (λ (s : Grid × Grid). IsSolvedRightLdl m (entry s.0) s.1 new) (λ z. (d z, old z)) e
    ldl-same false q x h e = subst (λ (g : Grid). IsFactoredLdl m g new) old e

    solve-same : (x : ℕ) (form : Form) → Agree (solve_reads b grids op bind x form i j) → solve_effect m op known_here work_here form i j new → solve_effect m op known_there work_there form i j new
    solve-same x Assign h e = e
    solve-same x (Left t) h e =
        let p = factor-same t i i (agree-head (factor_number b grids op bind t i i) (list_reads op x) h) in
        subst (λ (s : Table × Grid). IsSolvedLeft m (block_structure op.work.structure i j) s.0 s.1 new) (λ z. (p z, old z)) e
    solve-same x (Right u) h e =
        let p = factor-same u j j (agree-head (factor_number b grids op bind u j j) (list_reads op x) h) in
        subst (λ (s : Table × Grid). IsSolvedRight m (block_structure op.work.structure i j) s.0 s.1 new) (λ z. (p z, old z)) e
    solve-same x (Sylvester t u negative) h e =
        let p = factor-same t i i (agree-head (factor_number b grids op bind t i i) (factor_number b grids op bind u j j ∷ list_reads op x) h) in
        let q = factor-same u j j (agree-head (factor_number b grids op bind u j j) (list_reads op x) (agree-tail (factor_number b grids op bind t i i) (factor_number b grids op bind u j j ∷ list_reads op x) h)) in
        subst (λ (s : Table × Table × Grid). IsSolvedSylvester m negative s.0 s.1 s.2 new) (λ z. (p z, q z, old z)) e
    solve-same x Lu h e = lu-same (nat_lt i j) (nat_lt j i) refl refl x h e
    solve-same x Ldl h e = ldl-same (nat_lt j i) refl x h e

    by_kind : (x : ℕ) (kind : Kind) (t k : ℕ) → Agree (reads_of b grids op bind x kind t i j k) → effect_by m op known_here work_here kind t i j k new → effect_by m op known_there work_there kind t i j k new
    by_kind x kinds.Pivots t k h e = e
    by_kind x kinds.Term t k h e = numbered-same t k h e
    by_kind x kinds.Left t k h e = left-same op.form k h e
    by_kind x kinds.Right t k h e = right-same op.form k h e
    by_kind x kinds.Solve t k h e = solve-same x op.form h e

  -- a block task leaves the same on all stores that agree on its accesses
  pub effect-same : (m x : ℕ) (u : Task) (new : Grid) → Agree (reads_of b grids op bind x u.kind u.term u.i u.j u.k)
      → found (block_number b grids bind.work u.i u.j) ≡ found' (block_number b grids bind.work u.i u.j)
      → IsEffect m op (known_blocks (blocks_from b grids found) bind) (blocks_from b grids found bind.work) u new
      → IsEffect m op (known_blocks (blocks_from b grids found') bind) (blocks_from b grids found' bind.work) u new
  effect-same m x u new reads own effect = by_kind m u.i u.j own new x u.kind u.term u.k reads effect

  -- and it meets the same bad pivot
  pub bad-same : (m : ℕ) (form : Form) (kind : Kind) (i j : ℕ) (place : Place) → found (block_number b grids bind.work i j) ≡ found' (block_number b grids bind.work i j)
      → bad_by m b form (blocks_from b grids found bind.work) kind i j place → bad_by m b form (blocks_from b grids found' bind.work) kind i j place
  bad-same m form kinds.Pivots i j place own h = absurd h
  bad-same m form kinds.Term i j place own h = absurd h
  bad-same m form kinds.Left i j place own h = absurd h
  bad-same m form kinds.Right i j place own h = absurd h
  bad-same m form kinds.Solve i j place own h = go form h
    where
      same : work_here i j ≡ work_there i j
      same = block-same bind.work i j own

      go : (form : Form) → bad_factor m b form work_here i j place → bad_factor m b form work_there i j place
      go Lu h = (h.0, h.1, (h.2.0, h.2.1, rw (← same) h.2.2, rw (← same) h.2.3))
      go Ldl h = (h.0, h.1, (h.2.0, h.2.1, rw (← same) h.2.2, rw (← same) h.2.3))
      go Assign h = absurd h
      go (Left t) h = absurd h
      go (Right u) h = absurd h
      go (Sylvester t u negative) h = absurd h
