-- The first dimension of a job that is cut into too many parts: there is at most one, and none just where all have few.
use Rattle.std.proofs.Common.{◌≡◌, inl, inr, ◌⊎◌, ℕ, zero, suc, ◌<◌, ◌≤◌, length, refl, subst, arith}
use Rattle.std.proofs.lemmas.Bool.{cases_lt, cases_order}
use Rattle.equation.specs.declared.job.Job.{Job}
use Rattle.equation.proofs.FirstNumbers.{HasFirst, first_or_none}
use Rattle.step_replays.specs.Accesses.{operation_of, statement_of}
use Rattle.issue_list.specs.CanonicalSteps.{HasDimension, HasFewParts, IsFirstLong, most_parts, parts_at}

module _ (job : Job) (b : ℕ) where
  -- ---- one

  pub long_not_few : (s d : ℕ) → IsFirstLong job b s d → ¬ (HasFewParts job b)
  long_not_few s d is few = let long = is.own.long in let at_most = few s d is.own.has in omega arith

  no_later_statement : (s d t e : ℕ) → IsFirstLong job b s d → IsFirstLong job b t e → ¬ (s < t)
  no_later_statement s d t e is is_other less = let long = is.own.long in let at_most = is_other.statements s d less is.own.has in omega arith

  no_later_dimension : (s d e : ℕ) → IsFirstLong job b s d → IsFirstLong job b s e → ¬ (d < e)
  no_later_dimension s d e is is_other less = let long = is.own.long in let at_most = is_other.own.dimensions d less in omega arith

  same_statement : (s d t e : ℕ) → IsFirstLong job b s d → IsFirstLong job b t e → s ≡ t
  same_statement s d t e is is_other = elim (cases_order s t) [
    | inl same ↦ same
    | inr (inl less) ↦ absurd (no_later_statement s d t e is is_other less)
    | inr (inr more) ↦ absurd (no_later_statement t e s d is_other is more)
  ]

  same_dimension : (s d e : ℕ) → IsFirstLong job b s d → IsFirstLong job b s e → d ≡ e
  same_dimension s d e is is_other = elim (cases_order d e) [
    | inl same ↦ same
    | inr (inl less) ↦ absurd (no_later_dimension s d e is is_other less)
    | inr (inr more) ↦ absurd (no_later_dimension s e d is_other is more)
  ]

  pub one_first_long : (s d t e : ℕ) → IsFirstLong job b s d → IsFirstLong job b t e → (s ≡ t) × (d ≡ e)
  one_first_long s d t e is is_other =
      let same = same_statement s d t e is is_other in
      (same, same_dimension t d e (subst (λ (n : ℕ). IsFirstLong job b n d) same is) is_other)

  -- ---- some

  abbrev IsLong : ℕ → ℕ → Type 0
  IsLong s d = most_parts < parts_at job b s d

  -- of a statement's operation
  abbrev dim_count : ℕ → ℕ
  dim_count s = length (operation_of job (statement_of job s)).dims

  -- the statement behind so many others has a first long dimension
  abbrev HasLong : ℕ → Type 0
  HasLong k = HasFirst (IsLong (suc k)) (dim_count (suc k))

  long_or_not : (s d : ℕ) → IsLong s d ⊎ ¬ (IsLong s d)
  long_or_not s d = elim (cases_lt most_parts (parts_at job b s d)) [
    | inl long ↦ inl long
    | inr few ↦ inr (λ long. omega arith)
  ]

  in_statement : (s : ℕ) → HasFirst (IsLong s) (dim_count s) ⊎ ((d : ℕ) → d < dim_count s → ¬ (IsLong s d))
  in_statement s = first_or_none (IsLong s) (λ d before. long_or_not s d) (dim_count s)

  has_long_or_not : (k : ℕ) → HasLong k ⊎ ¬ (HasLong k)
  has_long_or_not k = elim (in_statement (suc k)) [
    | inl found ↦ inl found
    | inr none ↦ inr (λ found. none found.number found.within found.such)
  ]

  few_unless_long : (s d : ℕ) → ¬ (IsLong s d) → parts_at job b s d ≤ most_parts
  few_unless_long s d not = elim (cases_lt most_parts (parts_at job b s d)) [
    | inl long ↦ absurd (not long)
    | inr few ↦ few
  ]

  few_in_statement : (t e : ℕ) → HasDimension job t e → ((k : ℕ) → suc k ≡ t → ¬ (HasLong k)) → parts_at job b t e ≤ most_parts
  few_in_statement zero e has none = absurd (omega (arith, has.from))
  few_in_statement (suc t) e has none = elim (in_statement (suc t)) [
    | inl found ↦ absurd (none t refl found)
    | inr few ↦ few_unless_long (suc t) e (few e has.declared)
  ]

  first_long : (found : HasFirst HasLong (length job.statements)) → IsFirstLong job b (suc found.number) found.such.number
  first_long found = record {
    own = record {
      has = record { from = omega arith; within = omega (arith, found.within); declared = found.such.within };
      long = found.such.such;
      dimensions = λ e less. few_unless_long (suc found.number) e (found.such.first e less);
    };
    statements = λ t e less has. few_in_statement t e has (λ k is. found.first k (omega (arith, is, less)));
  }

  pub first_long_or_few : ((s : ℕ) × (d : ℕ) × IsFirstLong job b s d) ⊎ HasFewParts job b
  first_long_or_few = elim (first_or_none HasLong (λ k before. has_long_or_not k) (length job.statements)) [
    | inl found ↦ inl (suc found.number, found.such.number, first_long found)
    | inr none ↦ inr (λ s d has. few_in_statement s d has (λ k is. none k (omega (arith, is, has.within))))
  ]
