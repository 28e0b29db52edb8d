-- The failure that a worker notes, while its seat learns facts.
use Rattle.std.proofs.Common.{◌≡◌, ℕ, ◌≤◌, ◌⊎◌, inl, inr, List, ◌∷◌, Option, Some, None, refl, ap, subst, arith}
use Rattle.std.proofs.lemmas.Bool.{cases_Bool, ltb-true, ltb-false}
use Rattle.std.specs.Prelude.{nat_lt}
use Rattle.task_values.specs.declared.outcome.Failure.{Failure}
use Rattle.block_store.specs.declared.key.BoardKey.{BoardKey}
use Rattle.block_store.specs.declared.outcome.StepOutcome.{StepOutcome}
use Rattle.block_store.specs.declared.outcome.StepOutcome.TheVariants.{Ran, Skipped, Failed}
use Rattle.block_store.specs.declared.view.Fact.{Fact}
use Rattle.block_store.specs.declared.view.Fact.TheVariants.{Began, Ended}
use Rattle.block_store.specs.Tallies.{In}
use Rattle.dispatcher.specs.Workers.{HasFailed, IsLeastFailed, IsNoted, noted_after, statement_at}
use Rattle.dispatcher.proofs.QuietFacts.{HaveSameEvents}

-- it stays while no event is learned
pub noted-same : (key : BoardKey) (before after : List Fact) (noted : Option Failure) → HaveSameEvents before after → IsNoted key before noted → IsNoted key after noted
noted-same key before after None same none = λ t row col failed. none t row col (failed.0, same.ended t failed.0 (Failed row col) failed.1)
noted-same key before after (Some f) same least = record {
  step = least.step;
  failed = (least.failed.0, same.ended_stay least.step least.failed.0 (Failed f.row f.col) least.failed.1);
  of = least.of;
  least = λ t row col failed. least.least t row col (failed.0, same.ended t failed.0 (Failed row col) failed.1);
}

-- a step more has begun
pub noted-began : (key : BoardKey) (facts : List Fact) (t n : ℕ) (noted : Option Failure) → IsNoted key facts noted → IsNoted key (Began t n ∷ facts) noted
noted-began key facts t n noted is = noted-by noted (λ u row col failed. (failed.0, ended-behind u failed.0 (Failed row col) failed.1)) is
  where
    ended-behind : (u m : ℕ) (o : StepOutcome) → In (Ended u m o) (Began t n ∷ facts) → In (Ended u m o) facts
    ended-behind u m o (inl e) = absurd cc
    ended-behind u m o (inr i) = i

    noted-by : (noted : Option Failure) → ((u row col : ℕ) → HasFailed (Began t n ∷ facts) u row col → HasFailed facts u row col) → IsNoted key facts noted
        → IsNoted key (Began t n ∷ facts) noted
    noted-by None back none = λ u row col failed. none u row col (back u row col failed)
    noted-by (Some f) back least = record {
      step = least.step;
      failed = (least.failed.0, inr least.failed.1);
      of = least.of;
      least = λ u row col failed. least.least u row col (back u row col failed);
    }

-- ---- a step more has ended

-- one that didn't fail
module _ (key : BoardKey) (facts : List Fact) (t n : ℕ) (o : StepOutcome) (well : (row col : ℕ) → o ≡ Failed row col → ⊥) where
  only-before : (u row col : ℕ) → HasFailed (Ended t n o ∷ facts) u row col → HasFailed facts u row col
  only-before u row col (m, inl is) = let outcome : o ≡ Failed row col = cc in absurd (well row col outcome)
  only-before u row col (m, inr has) = (m, has)

  pub noted-well : (noted : Option Failure) → IsNoted key facts noted → IsNoted key (Ended t n o ∷ facts) noted
  noted-well None none = λ u row col failed. none u row col (only-before u row col failed)
  noted-well (Some f) least = record {
    step = least.step;
    failed = (least.failed.0, inr least.failed.1);
    of = least.of;
    least = λ u row col failed. least.least u row col (only-before u row col failed);
  }

-- one that failed
module _ (key : BoardKey) (facts : List Fact) (t n row col : ℕ) where
  failure : Failure
  failure = record { statement = statement_at key t; row = row; col = col }

  facts-after : List Fact
  facts-after = Ended t n (Failed row col) ∷ facts

  this-or : (u r c : ℕ) → HasFailed (Ended t n (Failed row col) ∷ facts) u r c → (t ≡ u) ⊎ HasFailed facts u r c
  this-or u r c (m, inl is) = let step : t ≡ u = cc in inl step
  this-or u r c (m, inr has) = inr (m, has)

  itself : (least : (u r c : ℕ) → HasFailed (Ended t n (Failed row col) ∷ facts) u r c → statement_at key t ≤ statement_at key u)
      → IsLeastFailed key (Ended t n (Failed row col) ∷ facts) failure
  unfolding failure
  itself least = record { step = t; failed = (n, inl refl); of = refl; least = least }

  kept : (f : Failure) → IsLeastFailed key facts f → f.statement ≤ statement_at key t → IsLeastFailed key (Ended t n (Failed row col) ∷ facts) f
  kept f least low = record {
    step = least.step;
    failed = (least.failed.0, inr least.failed.1);
    of = least.of;
    least = λ u r c failed. elim (this-or u r c failed) [
      | inl is ↦ subst (λ x. f.statement ≤ statement_at key x) is low
      | inr has ↦ least.least u r c has
    ];
  }

  pub noted-failed : (noted : Option Failure) → IsNoted key facts noted → IsNoted key (Ended t n (Failed row col) ∷ facts) (noted_after key t (Failed row col) noted)
  unfolding failure
  noted-failed None none = itself (λ u r c failed. elim (this-or u r c failed) [
    | inl is ↦ omega (arith, ap (statement_at key) is)
    | inr has ↦ absurd (none u r c has)
  ])
  noted-failed (Some f) least = elim (cases_Bool (nat_lt (statement_at key t) f.statement)) [
    | inl less ↦ rw less (itself (λ u r c failed. elim (this-or u r c failed) [
      | inl is ↦ omega (arith, ap (statement_at key) is)
      | inr has ↦ (let low = ltb-true (statement_at key t) f.statement less in omega (arith, low, least.least u r c has))
    ]))
    | inr other ↦ rw other (kept f least (ltb-false (statement_at key t) f.statement other))
  ]

pub noted-more : (key : BoardKey) (facts : List Fact) (t n : ℕ) (o : StepOutcome) (noted : Option Failure) → IsNoted key facts noted
    → IsNoted key (Ended t n o ∷ facts) (noted_after key t o noted)
noted-more key facts t n Ran noted is = noted-well key facts t n Ran (λ row col e. cc) noted is
noted-more key facts t n Skipped noted is = noted-well key facts t n Skipped (λ row col e. cc) noted is
noted-more key facts t n (Failed row col) noted is = noted-failed key facts t n row col noted is
