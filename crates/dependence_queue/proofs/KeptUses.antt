-- What is kept of the blocks from step to step: after a step, the last writer of each block and its readers since are those among one
-- step more.
use Rattle.std.proofs.Common.{◌≡◌, ℕ, zero, suc, ◌<◌, ◌≤◌, inl, inr, Bool, true, false, not, eqb, ltb, leb, List, [], ◌∷◌, ◌++◌, length, get_or, set, replicate, Option, refl, sym, ◌∙◌, ap, subst, arith}
use Rattle.std.specs.Prelude.{◌||◌, ◌&&◌, All}
use Rattle.std.specs.Option.{option_to_list}
use Rattle.std.proofs.lemmas.Bool.{cases_eq, cases_order, lt-ltb, le-ltb, ltb-true, le-leb, lt-leb, leb-true, eq-eqb, ne_eqb, and_parts, or_left, or_right}
use Rattle.std.proofs.lemmas.List.{length-set, get_or-set_same, get_or-set_other, get_or-replicate, get_or_default, length-replicate}
use Rattle.dependence_queue.specs.declared.access.Access.{Access}
use Rattle.dependence_queue.specs.declared.block_use.BlockUse.{BlockUse}
use Rattle.dependence_queue.specs.Conflicts.{has_number}
use Rattle.dependence_queue.specs.Edges.{is_written_between}
use Rattle.dependence_queue.specs.Marks.{IsStepOf}
use Rattle.dependence_queue.specs.Uses.{no_use, written_by, with_reader, use_of, read_by, used_by, is_last_writer, is_reader_since, IsUse, AreUses, HasSteps}
use Rattle.dependence_queue.proofs.EdgeKinds.{not_written_between}

-- ---- numbers of a list

pub has_number-push : (xs : List ℕ) (y x : ℕ) → has_number (xs ++ y ∷ []) x ≡ has_number xs x || eqb x y
has_number-push [] y x = alone (eqb x y)
  where
    alone : (b : Bool) → b || false ≡ b
    alone true = refl
    alone false = refl
has_number-push (z ∷ zs) y x = rw (has_number-push zs y x) (regroup (eqb x z) (has_number zs x) (eqb x y))
  where
    regroup : (a b c : Bool) → a || (b || c) ≡ (a || b) || c
    regroup true b c = refl
    regroup false b c = refl

pub has_number-at : (xs : List ℕ) (i d : ℕ) → i < length xs → has_number xs (get_or xs i d) ≡ true
has_number-at [] i d below = absurd (omega arith)
has_number-at (x ∷ xs) zero d below = or_left (eqb x x) (has_number xs x) (eq-eqb x x refl)
has_number-at (x ∷ xs) (suc i) d below = or_right (eqb (get_or xs i d) x) (has_number xs (get_or xs i d)) (has_number-at xs i d (omega arith))

-- ---- the reads of a step

-- a block before and after step t reads these
record IsRead (t : ℕ) (xs : List ℕ) (x : ℕ) (u v : BlockUse) : Type 0 where
  writer : v.writer ≡ u.writer
  readers : (s : ℕ) → has_number v.readers s ≡ has_number u.readers s || (eqb s t && has_number xs x)

read_by-use : (t : ℕ) (xs : List ℕ) (uses : List BlockUse) (x : ℕ) → x < length uses → IsRead t xs x (use_of uses x) (use_of (read_by t xs uses) x)
read_by-use t [] uses x below = record { writer = refl; readers = λ s. same (has_number (use_of uses x).readers s) (eqb s t) }
  where
    same : (a b : Bool) → a ≡ a || (b && false)
    same true b = refl
    same false true = refl
    same false false = refl
read_by-use t (y ∷ ys) uses x below =
    let next : List BlockUse = set uses y (with_reader t (use_of uses y)) in
    let h = read_by-use t ys next x (omega (arith, length-set uses y (with_reader t (use_of uses y)))) in
    elim (cases_eq x y) [
      | inl here ↦
          let now : use_of next x ≡ with_reader t (use_of uses x) =
          subst (λ z. use_of (set uses z (with_reader t (use_of uses z))) x ≡ with_reader t (use_of uses x)) here (get_or-set_same uses x (with_reader t (use_of uses x)) no_use below) in
          record {
            writer = h.writer ∙ ap (λ (u : BlockUse). u.writer) now;
            readers = λ s. h.readers s ∙ (ap (λ (u : BlockUse). has_number u.readers s || (eqb s t && has_number ys x)) now
                ∙ (ap (λ (b : Bool). b || (eqb s t && has_number ys x)) (has_number-push (use_of uses x).readers t s)
                ∙ rw (eq-eqb x y here) (twice (has_number (use_of uses x).readers s) (eqb s t) (has_number ys x))));
          }
      | inr other ↦
          let now : use_of next x ≡ use_of uses x = get_or-set_other uses y x (with_reader t (use_of uses y)) no_use other in
          record {
            writer = h.writer ∙ ap (λ (u : BlockUse). u.writer) now;
            readers = λ s. h.readers s ∙ rw (now, ne_eqb x y other) refl;
          }
    ]
  where
    twice : (a b c : Bool) → (a || b) || (b && c) ≡ a || (b && true)
    twice true b c = refl
    twice false true c = refl
    twice false false c = refl

pub length-read_by : (t : ℕ) (xs : List ℕ) (uses : List BlockUse) → length (read_by t xs uses) ≡ length uses
length-read_by t [] uses = refl
length-read_by t (x ∷ xs) uses = length-read_by t xs (set uses x (with_reader t (use_of uses x))) ∙ length-set uses x (with_reader t (use_of uses x))

-- ---- one step more

-- the tests of step s, where it is the new one, an earlier one or a later one
since-last : (same low old new before w h h' b : Bool) → same ≡ true → low ≡ true → old ≡ false → new ≡ true → (before && w) || b ≡ false → h ≡ h'
    → low && (new && (h && not ((before && w) || b))) ≡ (same && h') || (not w && (low && (old && (h && not b))))
since-last same low old new before w h h' b e1 e2 e3 e4 e5 e6 = rw (e1, e2, e3, e4, e5, e6) (last h' (not w))
  where
    last : (c d : Bool) → c && true ≡ c || (d && false)
    last true d = refl
    last false true = refl
    last false false = refl

since-earlier : (same low old new before w h h' b : Bool) → same ≡ false → old ≡ true → new ≡ true → before ≡ true
    → low && (new && (h && not ((before && w) || b))) ≡ (same && h') || (not w && (low && (old && (h && not b))))
since-earlier same low old new before w h h' b e1 e2 e3 e4 = rw (e1, e2, e3, e4) (earlier low w)
  where
    earlier : (l v : Bool) → l && (h && not (v || b)) ≡ not v && (l && (h && not b))
    earlier true true = nothing h
      where
        nothing : (c : Bool) → c && false ≡ false
        nothing true = refl
        nothing false = refl
    earlier true false = refl
    earlier false true = refl
    earlier false false = refl

since-later : (same low old new before w h h' b : Bool) → same ≡ false → old ≡ false → new ≡ false
    → low && (new && (h && not ((before && w) || b))) ≡ (same && h') || (not w && (low && (old && (h && not b))))
since-later same low old new before w h h' b e1 e2 e3 = rw (e1, e2, e3) (later low (not w))
  where
    later : (l v : Bool) → l && false ≡ v && (l && false)
    later true true = refl
    later true false = refl
    later false true = refl
    later false false = refl

module _ (accesses : ℕ → Access) where
  -- s is one of the first k steps with a property, and none of them behind it writes x
  abbrev since : (ℕ → Bool) → ℕ → ℕ → ℕ → Bool
  since has k x s = ltb 0 s && (leb s k && (has s && not (is_written_between accesses x s (suc k))))

  since-more : (has : ℕ → Bool) (k x s : ℕ)
      → since has (suc k) x s ≡ (eqb s (suc k) && has (suc k)) || (not (eqb (accesses (suc k)).write x) && since has k x s)
  since-more has k x s =
      let w : Bool = eqb (accesses (suc k)).write x in
      let b : Bool = is_written_between accesses x s (suc k) in
      elim (cases_order s (suc k)) [
        | inl last ↦ since-last (eqb s (suc k)) (ltb 0 s) (leb s k) (leb s (suc k)) (ltb s (suc k)) w (has s) (has (suc k)) b
            (eq-eqb s (suc k) last) (lt-ltb 0 s (omega arith)) (lt-leb s k (omega arith)) (le-leb s (suc k) (omega arith))
            (not_written_between accesses x s (suc (suc k)) (λ r after before e. absurd (omega arith))) (ap has last)
        | inr (inl before) ↦ since-earlier (eqb s (suc k)) (ltb 0 s) (leb s k) (leb s (suc k)) (ltb s (suc k)) w (has s) (has (suc k)) b
            (ne_eqb s (suc k) (λ e. absurd (omega (arith, e, before)))) (le-leb s k (omega arith)) (le-leb s (suc k) (omega arith)) (lt-ltb s (suc k) before)
        | inr (inr past) ↦ since-later (eqb s (suc k)) (ltb 0 s) (leb s k) (leb s (suc k)) (ltb s (suc k)) w (has s) (has (suc k)) b
            (ne_eqb s (suc k) (λ e. absurd (omega (arith, e, past)))) (lt-leb s k (omega arith)) (lt-leb s (suc k) past)
      ]

  -- what step suc k does to a block, by whether it writes the block
  written-use : (k x : ℕ) (uses : List BlockUse) → x < length uses → IsUse accesses k x (use_of uses x)
      → (s : ℕ) → (has_number (option_to_list (use_of (set uses (accesses (suc k)).write (written_by (suc k))) x).writer) s
      ≡ (eqb s (suc k) && eqb (accesses (suc k)).write x) || (not (eqb (accesses (suc k)).write x) && is_last_writer accesses k x s))
      × (has_number (use_of (set uses (accesses (suc k)).write (written_by (suc k))) x).readers s
      ≡ not (eqb (accesses (suc k)).write x) && is_reader_since accesses k x s)
  written-use k x uses below h s = elim (cases_eq (accesses (suc k)).write x) [
    | inl here ↦ rw (here, get_or-set_same uses x (written_by (suc k)) no_use below, eq-eqb x x refl) (just (eqb s (suc k)), refl)
    | inr other ↦ rw (
      get_or-set_other uses (accesses (suc k)).write x (written_by (suc k)) no_use (λ e. other (sym e)),
      ne_eqb (accesses (suc k)).write x other,
      h.writer s,
      h.readers s,
    ) (as_before (eqb s (suc k)) (is_last_writer accesses k x s), refl)
  ]
    where
      just : (b : Bool) → b || false ≡ (b && true) || false
      just true = refl
      just false = refl

      as_before : (b c : Bool) → c ≡ (b && false) || (true && c)
      as_before true c = refl
      as_before false c = refl

  pub uses-step : (k : ℕ) (uses : List BlockUse) → AreUses accesses k uses → AreUses accesses (suc k) (used_by (suc k) (accesses (suc k)) uses)
  uses-step k uses h = record { each = each }
    where
      each : (x : ℕ) → x < length (used_by (suc k) (accesses (suc k)) uses) → IsUse accesses (suc k) x (use_of (used_by (suc k) (accesses (suc k)) uses) x)
      each x below =
          let access : Access = accesses (suc k) in
          let next : List BlockUse = set uses access.write (written_by (suc k)) in
          let long : length next ≡ length uses = length-set uses access.write (written_by (suc k)) in
          let inside : x < length uses = omega (arith, below, length-read_by (suc k) access.reads next, long) in
          let reads = read_by-use (suc k) access.reads next x (omega (arith, inside, long)) in
          let writes = written-use k x uses inside (h.each x inside) in
          record {
            writer = λ s. ap (λ (o : Option ℕ). has_number (option_to_list o) s) reads.writer ∙ ((writes s).0
                ∙ sym (since-more (λ r. eqb (accesses r).write x) k x s));
            readers = λ s. reads.readers s ∙ (ap (λ (b : Bool). b || (eqb s (suc k) && has_number access.reads x)) (writes s).1
                ∙ (swapped (not (eqb access.write x) && is_reader_since accesses k x s) (eqb s (suc k) && has_number access.reads x)
                ∙ sym (since-more (λ r. has_number (accesses r).reads x) k x s)));
          }
        where
          swapped : (a b : Bool) → a || b ≡ b || a
          swapped true true = refl
          swapped true false = refl
          swapped false true = refl
          swapped false false = refl

  -- before the first step
  pub uses-none : (n : ℕ) (uses : List BlockUse) → uses ≡ replicate n no_use → AreUses accesses 0 uses
  uses-none n uses e = record { each = each }
    where
      nothing : (has : ℕ → Bool) (x s : ℕ) → false ≡ since has 0 x s
      nothing has x s = elim (cases_eq s 0) [
        | inl none ↦ rw (le-ltb 0 s (omega arith)) refl
        | inr some ↦ rw (lt-leb s 0 (omega arith)) (never (ltb 0 s))
      ]
        where
          never : (b : Bool) → false ≡ b && false
          never true = refl
          never false = refl

      each : (x : ℕ) → x < length uses → IsUse accesses 0 x (use_of uses x)
      each x below =
          let unused : use_of uses x ≡ no_use = subst (λ us. use_of us x ≡ no_use) (sym e) (get_or-replicate n x no_use no_use (omega (arith, below, ap length e, length-replicate n no_use))) in
          rw unused (record { writer = nothing (λ r. eqb (accesses r).write x) x; readers = nothing (λ r. has_number (accesses r).reads x) x })

  -- ---- the steps that are kept

  since-within : (has : ℕ → Bool) (k n x s : ℕ) → k ≤ n → since has k x s ≡ true → IsStepOf n s
  since-within has k n x s small h =
      let p = and_parts (ltb 0 s) (leb s k && (has s && not (is_written_between accesses x s (suc k)))) h in
      let q = and_parts (leb s k) (has s && not (is_written_between accesses x s (suc k))) p.1 in
      (ltb-true 0 s p.0, omega (arith, leb-true s k q.0))

  use-steps : (k n x : ℕ) (u : BlockUse) → k ≤ n → IsUse accesses k x u → HasSteps n u
  use-steps k n x u small h = record {
    writer = λ s e. since-within (λ r. eqb (accesses r).write x) k n x s small (sym (h.writer s) ∙ rw e (or_left (eqb s s) false (eq-eqb s s refl)));
    readers = λ i d below. since-within (λ r. has_number (accesses r).reads x) k n x (get_or u.readers i d) small
        (sym (h.readers (get_or u.readers i d)) ∙ has_number-at u.readers i d below);
  }

  pub uses-steps : (k n : ℕ) (uses : List BlockUse) → k ≤ n → AreUses accesses k uses → All (HasSteps n) uses
  uses-steps k n uses small h i d below =
      subst (HasSteps n) (get_or_default uses i no_use d below) (use-steps k n i (use_of uses i) small (h.each i below))
