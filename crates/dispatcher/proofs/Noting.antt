-- Of the steps that failed by two workers, the one of the least statement. Cited where workers are joined.
use Rattle.std.proofs.Common.{◌≡◌, ℕ, ◌≤◌, inl, inr, List, ◌++◌, Option, Some, None, cond, arith}
use Rattle.std.specs.Prelude.{nat_lt, Bool, true, false}
use Rattle.std.proofs.lemmas.Bool.{ltb-true, ltb-false}
use Rattle.task_values.specs.declared.outcome.Failure.{Failure}
use Rattle.block_store.specs.declared.key.BoardKey.{BoardKey}
use Rattle.block_store.specs.declared.view.Fact.{Fact}
use Rattle.dispatcher.specs.Joining.{both_noted}
use Rattle.dispatcher.specs.Workers.{HasFailed, IsLeastFailed, IsNoted, statement_at}
use Rattle.dispatcher.proofs.JoinedFacts.{failed-left, failed-right, failed-either}

-- no step that failed in these facts is of a lesser statement
abbrev IsLeastOf : BoardKey → List Fact → Failure → Type 0
IsLeastOf key facts f = (t row col : ℕ) → HasFailed facts t row col → f.statement ≤ statement_at key t

module _ (key : BoardKey) (facts more : List Fact) where
  from-left : (f : Failure) → IsLeastFailed key facts f → IsLeastOf key more f → IsLeastFailed key (facts ++ more) f
  from-left f own other = record {
    step = own.step;
    failed = failed-left facts more own.step f.row f.col own.failed;
    of = own.of;
    least = λ t row col h. elim (failed-either facts more t row col h) [ inl l ↦ own.least t row col l | inr r ↦ other t row col r ];
  }

  from-right : (f : Failure) → IsLeastOf key facts f → IsLeastFailed key more f → IsLeastFailed key (facts ++ more) f
  from-right f other own = record {
    step = own.step;
    failed = failed-right facts more own.step f.row f.col own.failed;
    of = own.of;
    least = λ t row col h. elim (failed-either facts more t row col h) [ inl l ↦ other t row col l | inr r ↦ own.least t row col r ];
  }

  -- the later one where its statement is the lesser, else the earlier one
  lesser-one : (e f : Failure) (lt : Bool) → nat_lt f.statement e.statement ≡ lt → IsLeastFailed key facts e → IsLeastFailed key more f
      → IsLeastFailed key (facts ++ more) (cond lt f e)
  lesser-one e f true is a b = from-right f (λ t row col h. omega (arith, a.least t row col h, ltb-true f.statement e.statement is)) b
  lesser-one e f false is a b = from-left e a (λ t row col h. omega (arith, b.least t row col h, ltb-false f.statement e.statement is))

  pub noted-both : (noted other : Option Failure) → IsNoted key facts noted → IsNoted key more other → IsNoted key (facts ++ more) (both_noted noted other)
  noted-both None None a b = λ t row col h. elim (failed-either facts more t row col h) [ inl l ↦ a t row col l | inr r ↦ b t row col r ]
  noted-both (Some e) None a b = from-left e a (λ t row col h. absurd (b t row col h))
  noted-both None (Some f) a b = from-right f (λ t row col h. absurd (a t row col h)) b
  noted-both (Some e) (Some f) a b = lesser-one e f (nat_lt f.statement e.statement) (λ i. nat_lt f.statement e.statement) a b
