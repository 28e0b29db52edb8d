-- The variants that were found for the statements of a job, and the steps by them. Cited by the functions that find the variants and list the
-- steps.
use Rattle.std.proofs.Common.{◌≡◌, ℕ, zero, suc, ◌+◌, ◌<◌, ◌≤◌, inl, inr, Option, Some, None, List, [], ◌∷◌, ◌++◌, length, map, get_or, All, refl, sym, ap, ◌∙◌, subst, arith, add-one, length-append}
use Rattle.std.specs.Prelude.{slice_get}
use Rattle.std.specs.List.{flat_map, range_with_len}
use Rattle.std.proofs.lemmas.Bool.{cases_lt}
use Rattle.std.proofs.lemmas.List.Elements.{All-head, All-tail, All-weaker}
use Rattle.std.proofs.lemmas.Option.{slice_get_within}
use Rattle.operation_spec.specs.declared.operation.Operation.{Operation}
use Rattle.invariant_family.specs.declared.variant.Variant.{Variant}
use Rattle.invariant_family.specs.Families.{family_of, variant_numbered}
use Rattle.equation.specs.declared.job.Job.{Job}
use Rattle.step_replays.specs.declared.step.Step.{Step}
use Rattle.step_replays.specs.Accesses.{operation_of, statement_of}
use Rattle.step_replays.specs.Fits.{counts_of}
use Rattle.issue_list.specs.CanonicalSteps.{step_of}
use Rattle.issue_list.specs.IssuedSteps.{HaveVariants, issued_statement_steps, issued_steps, number_for, tasks_by, variant_of}
use Rattle.issue_list.specs.declared.choice.Choice.{Choice}
use Rattle.issue_list.specs.Choices.{IsFirstWithout, numbers_for, numbers_of}
use Rattle.issue_list.specs.ChosenVariants.{AreFirstVariants, AreVariants, HaveFound, chosen_steps, statement_steps_by, steps_by}
use Rattle.issue_list.proofs.NumbersInOrder.{numbers-within}

-- ---- items of lists

slice_get-front : {X : Type 0} (xs : List X) (x : X) (k : ℕ) → k < length xs → slice_get (xs ++ x ∷ []) k ≡ slice_get xs k
slice_get-front [] x k below = absurd (omega (arith, below))
slice_get-front (y ∷ ys) x zero below = refl
slice_get-front (y ∷ ys) x (suc k) below = slice_get-front ys x k (omega (arith, below))

slice_get-last : {X : Type 0} (xs : List X) (x : X) → slice_get (xs ++ x ∷ []) (length xs) ≡ Some x
slice_get-last [] x = refl
slice_get-last (y ∷ ys) x = slice_get-last ys x

slice_get-some : {X : Type 0} (xs : List X) (k : ℕ) → k < length xs → (x : X) × (slice_get xs k ≡ Some x)
slice_get-some [] k below = absurd (omega (arith, below))
slice_get-some (x ∷ xs) zero below = (x, refl)
slice_get-some (x ∷ xs) (suc k) below = slice_get-some xs k (omega (arith, below))

joined-same : (f g : ℕ → List Step) (ns : List ℕ) → All (λ s. f s ≡ g s) ns → flat_map f ns ≡ flat_map g ns
joined-same f g [] same = refl
joined-same f g (n ∷ ns) same = rw (All-head (λ s. f s ≡ g s) n ns same, joined-same f g ns (All-tail (λ s. f s ≡ g s) n ns same)) refl

-- ---- the variants of the first statements

-- the variant of a statement, as code has found it
pub found-by : (job : Job) (op : Operation) (choice : Choice) (found : Option Variant) (count n number : ℕ) (v : Variant) → found ≡ Some v
    → found ≡ variant_numbered (family_of op) number → op ≡ operation_of job (statement_of job (n + 1)) → number ≡ get_or (numbers_for count choice) n 0
    → count ≡ length job.statements → variant_of job (n + 1) (get_or (numbers_of job choice) n 0) ≡ Some v
found-by job op choice found count n number v is at own numbered all =
    ap (λ (o : Operation). variant_numbered (family_of o) (get_or (numbers_of job choice) n 0)) (sym own)
    ∙ ap (variant_numbered (family_of op)) (ap (λ (c : ℕ). get_or (numbers_for c choice) n 0) (sym all) ∙ sym numbered) ∙ sym at ∙ is

module _ (job : Job) (numbers : List ℕ) where
  -- none
  pub found-none : HaveFound job numbers []
  found-none k below = absurd (omega (arith, below))

  -- one more
  pub found-more : (n : ℕ) (vs more : List Variant) (v : Variant) → length vs ≡ n → HaveFound job numbers vs
      → variant_of job (n + 1) (get_or numbers n 0) ≡ Some v → more ≡ vs ++ v ∷ [] → HaveFound job numbers more
  found-more n vs more v count found e is = subst (λ (all : List Variant). HaveFound job numbers all) (sym is) each
    where
      own : variant_of job (suc (length vs)) (number_for numbers (suc (length vs))) ≡ Some v
      own = let next : n + 1 ≡ suc n = omega arith in
          subst (λ (k : ℕ). variant_of job (suc k) (number_for numbers (suc k)) ≡ Some v) (sym count)
          (subst (λ (s : ℕ). variant_of job s (get_or numbers n 0) ≡ Some v) next e)

      each : HaveFound job numbers (vs ++ v ∷ [])
      each k below = elim (cases_lt k (length vs)) [
        | inl less ↦ found k less ∙ sym (slice_get-front vs v k less)
        | inr more ↦ (let last : length vs ≡ k = omega (arith, more, below, length-append vs (v ∷ [])) in
            subst (λ (n : ℕ). variant_of job (suc n) (number_for numbers (suc n)) ≡ slice_get (vs ++ v ∷ []) n) last (own ∙ sym (slice_get-last vs v)))
      ]

  module _ (vs : List Variant) (are : AreFirstVariants job numbers vs) where
    -- the next statement is the first without a variant
    pub first-without : length vs < length job.statements → IsFirstWithout job numbers (length vs + 1)
    first-without below = record {
      from = omega arith;
      within = omega (arith, below);
      none = let next : suc (length vs) ≡ length vs + 1 = omega arith in subst (λ (s : ℕ). variant_of job s (number_for numbers s) ≡ None) next (are.none below);
      before = λ t from less. earlier t from (omega (arith, less));
    }
      where
        earlier : (t : ℕ) → 1 ≤ t → t ≤ length vs → (v : Variant) × (variant_of job t (number_for numbers t) ≡ Some v)
        earlier zero from within = absurd (omega (arith, from))
        earlier (suc k) from within = let own = slice_get-some vs k (omega (arith, within)) in (own.0, are.found k (omega (arith, within)) ∙ own.1)

    module _ (all : length job.statements ≤ length vs) where
      pub have-variants : HaveVariants job numbers
      have-variants zero from within = absurd (omega (arith, from))
      have-variants (suc k) from within = let own = slice_get-some vs k (omega (arith, within, all)) in (own.0, are.found k (omega (arith, within, all)) ∙ own.1)

      pub are-variants : AreVariants job vs
      are-variants = record {
        count = omega (arith, all, are.few);
        each = λ k v e. (number_for numbers (suc k), are.found k (slice_get_within vs k v e) ∙ e);
      }

      -- the steps by them are those by the numbers
      pub chosen-issued : (b : ℕ) → chosen_steps job b vs ≡ issued_steps job b numbers
      unfolding issued_steps issued_statement_steps
      chosen-issued b = joined-same (statement_steps_by job b vs)
          (λ s. map (step_of job b s) (tasks_by (operation_of job (statement_of job s)) (counts_of job b s) (variant_of job s (number_for numbers s))))
          (range_with_len 1 (length job.statements))
          (All-weaker (λ s. (1 ≤ s) × (s ≤ length job.statements)) (λ s. statement_steps_by job b vs s ≡ map (step_of job b s) (tasks_by (operation_of job (statement_of job s)) (counts_of job b s) (variant_of job s (number_for numbers s))))
          (λ s within. own s within.0 within.1) (range_with_len 1 (length job.statements)) (numbers-within (length job.statements)))
        where
          own : (s : ℕ) → 1 ≤ s → s ≤ length job.statements
              → statement_steps_by job b vs s ≡ map (step_of job b s) (tasks_by (operation_of job (statement_of job s)) (counts_of job b s) (variant_of job s (number_for numbers s)))
          own zero from within = absurd (omega (arith, from))
          own (suc k) from within = ap (λ (v : Option Variant). map (step_of job b (suc k)) (tasks_by (operation_of job (statement_of job (suc k))) (counts_of job b (suc k)) v))
              (sym (are.found k (omega (arith, within, all))))

-- the steps of a statement whose variant is there
pub statement-steps : (job : Job) (b : ℕ) (vs : List Variant) (k : ℕ) (v : Variant) → slice_get vs k ≡ Some v → statement_steps_by job b vs (k + 1) ≡ steps_by job b (k + 1) v
statement-steps job b vs k v e =
    let place : variant_numbered vs (k + 1) ≡ Some v = rw add-one e in
    ap (λ (found : Option Variant). map (step_of job b (k + 1)) (tasks_by (operation_of job (statement_of job (k + 1))) (counts_of job b (k + 1)) found)) place
