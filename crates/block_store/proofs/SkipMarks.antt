-- A claimed step's word: its mark stands exactly where the step is skipped.
use Rattle.std.proofs.Common.{◌≡◌, ◌≢◌, ℕ, ◌+◌, ◌*◌, ◌<◌, ◌≤◌, ◌⊎◌, inl, inr, true, false, List, get_or, refl, sym, ap, ◌∙◌, subst, arith}
use Rattle.std.proofs.lemmas.Bool.{cases_eq}
use Rattle.step_replays.specs.Replays.{StepResult}
use Rattle.block_store.specs.declared.key.BoardKey.{BoardKey}
use Rattle.block_store.specs.declared.outcome.StepOutcome.{StepOutcome}
use Rattle.block_store.specs.declared.outcome.StepOutcome.TheVariants.{Ran, Skipped, Failed}
use Rattle.block_store.specs.declared.view.View.{View}
use Rattle.block_store.specs.Keys.{step_count, edge, preds, outcome_at, is_bad, skip_of, IsReplayOf}
use Rattle.block_store.specs.Tallies.{In, good_of, bad_of, claims, goods, bads, marks, notices, noticed_into, marked_into, mark}
use Rattle.block_store.specs.Rule.{IsKept}
use Rattle.block_store.proofs.Sums.{some_term, sum_below-at, sum_below-tight}
use Rattle.block_store.proofs.Edges.{edge-steps}
use Rattle.block_store.proofs.Kept.{marks-le, notices-le}
use Rattle.block_store.proofs.Facts.{some_view, some_fact, good-is, bad-is}
use Rattle.block_store.proofs.Skips.{skips_right}

module _ (key : BoardKey) (words : List ℕ) (views : List View) (kept : IsKept key words views) (results : List StepResult) (replay : IsReplayOf key results) where
  pub goods-ran : (s : ℕ) → 0 < goods views s → outcome_at results s ≡ Ran
  goods-ran s heavy =
      let v = some_view (good_of s) views heavy in
      let f = some_fact (good_of s) v.1.facts v.3 in
      let is = good-is s f.0 f.2 in
      sym ((kept.each_view v.0 v.1 v.2).outcomes s is.0 Ran (subst (λ x. In x v.1.facts) is.1 f.1) results replay)

  pub bads-bad : (s : ℕ) → 0 < bads views s → is_bad (outcome_at results s) ≡ true
  bads-bad s heavy =
      let v = some_view (bad_of s) views heavy in
      let f = some_fact (bad_of s) v.1.facts v.3 in
      let is = bad-is s f.0 f.2 in
      ap is_bad (sym ((kept.each_view v.0 v.1 v.2).outcomes s is.0 is.1 (subst (λ x. In x v.1.facts) is.2 f.1) results replay)) ∙ is.3

  -- the mark of a claimed step stands exactly where it is Skipped
  marked-skipped : (t : ℕ) → 0 < claims views t → 0 < marked_into views key t → outcome_at results t ≡ Skipped
  marked-skipped t c h =
      let m = some_term (λ s. marks views s t) (step_count key + 1) h in
      (skips_right key results replay t (kept.claims_are.real t c)).1 (m.0, omega (arith, kept.claims_are.marked m.0 t, m.2), bads-bad m.0 (omega (arith, marks-le key words views kept m.0 t, m.2)))

  skipped-marked : (t : ℕ) → 0 < claims views t → outcome_at results t ≡ Skipped → 0 < marked_into views key t
  skipped-marked t c e =
      let b = (skips_right key results replay t (kept.claims_are.real t c)).0 e in
      let es = edge-steps key b.0 t b.1 in
      let r : b.0 < step_count key + 1 = let z = es.0.1 in omega arith in
      let full : notices views b.0 t ≡ edge key b.0 t = sum_below-tight (λ y. notices views y t) (λ y. edge key y t) (step_count key + 1) (λ y q. kept.claims_are.noticed y t) (kept.claims_are.ready t c) b.0 r in
      let no_good : goods views b.0 ≡ 0 = not_good b.0 b.2 (cases_eq (goods views b.0) 0) in
      let le : marks views b.0 t ≤ marked_into views key t = sum_below-at (λ y. marks views y t) b.0 (step_count key + 1) r in
      omega (arith, notices-le key words views kept b.0 t, b.1)
    where
      not_good : (s : ℕ) → is_bad (outcome_at results s) ≡ true → (goods views s ≡ 0) ⊎ (goods views s ≢ 0) → goods views s ≡ 0
      not_good s bad (inl z) = z
      not_good s bad (inr nz) = let r : false ≡ true = sym (ap is_bad (goods-ran s (omega arith))) ∙ bad in absurd (cc)

  pub claimed-word : (t : ℕ) → 0 < claims views t → get_or words t 0 ≡ 4294967296 + 8589934592 * skip_of (outcome_at results t)
  claimed-word t c = go (outcome_at results t) refl
    where
      w : get_or words t 0 + noticed_into views key t ≡ preds key t + 4294967296 * claims views t + 8589934592 * mark views key t
      w = kept.words_are.word t (kept.claims_are.real t c)

      unmarked : (outcome_at results t ≢ Skipped) → marked_into views key t ≡ 0
      unmarked ne = none (cases_eq (marked_into views key t) 0)
        where
          none : (marked_into views key t ≡ 0) ⊎ (marked_into views key t ≢ 0) → marked_into views key t ≡ 0
          none (inl z) = z
          none (inr nz) = absurd (ne (marked-skipped t c (omega arith)))

      go : (o : StepOutcome) → outcome_at results t ≡ o → get_or words t 0 ≡ 4294967296 + 8589934592 * skip_of o
      go Ran e = let z = unmarked (λ f. let g : Ran ≡ Skipped = sym e ∙ f in cc) in omega (arith, w, kept.claims_are.once t, kept.claims_are.ready t c)
      go Skipped e = let z = skipped-marked t c e in omega (arith, w, kept.claims_are.once t, kept.claims_are.ready t c)
      go (Failed row col) e = let z = unmarked (λ f. let g : Failed row col ≡ Skipped = sym e ∙ f in cc) in omega (arith, w, kept.claims_are.once t, kept.claims_are.ready t c)
