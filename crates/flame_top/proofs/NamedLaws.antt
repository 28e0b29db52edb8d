-- What is due for an operation of a job by its name: one status and one text where that is so of the operation, and always some; and
-- that a named operation is one of the job's.
use Rattle.std.proofs.Common.{◌≡◌, inl, inr, ◌⊎◌, ℕ, suc, Bool, true, false, List, [], ◌∷◌, Option, Some, None, bytes_eq, refl, subst, arith}
use Rattle.std.specs.Prelude.{All}
use Rattle.operation_spec.specs.declared.operation.Operation.{Operation}
use Rattle.operation_spec.specs.ValidOperations.{IsValid}
use Rattle.worksheet_text.specs.SheetReading.{operation_named}
use Rattle.flame_top.specs.NamedOperations.{DueNamed}
use Rattle.flame_top.specs.Refusals.{no_operation_text}
use Rattle.flame_top.proofs.SameDue.{IsDetermined, IsSomeDue, same_says}

-- what has the status 0 or 3
abbrev pub IsZeroOrThree : (ℕ → List ℕ → Type 0) → Type 0
IsZeroOrThree due = (status : ℕ) (text : List ℕ) → due status text → (status ≡ 0) ⊎ (status ≡ 3)

module _ (due : Operation → ℕ → List ℕ → Type 0) where
  pub same_named : ((op : Operation) → IsDetermined (due op)) → (found : Option Operation) → IsDetermined (DueNamed due found)
  same_named same None = same_says 3 no_operation_text
  same_named same (Some op) = same op

  pub some_named : ((op : Operation) → IsSomeDue (due op)) → (found : Option Operation) → IsSomeDue (DueNamed due found)
  some_named some None = (3, no_operation_text, (refl, refl))
  some_named some (Some op) = some op

  pub status_named : ((op : Operation) → IsZeroOrThree (due op)) → (found : Option Operation) → IsZeroOrThree (DueNamed due found)
  status_named status_of None status text is = inr is.0
  status_named status_of (Some op) status text is = status_of op status text is

-- ---- the operation with a name

-- where all operations are valid, it is
pub valid_named : (operations : List Operation) (name : List ℕ) (op : Operation) → All IsValid operations → operation_named operations name ≡ Some op → IsValid op
valid_named [] name op all named = absurd cc
valid_named (first ∷ more) name op all named =
    go (bytes_eq first.name name) refl (valid_named more name op (λ k d below. all (suc k) d (omega arith)))
  where
    go : (test : Bool) → bytes_eq first.name name ≡ test → (operation_named more name ≡ Some op → IsValid op) → IsValid op
    go true e behind = (let found = rw e at named in let same : first ≡ op = cc in subst IsValid same (all 0 first (omega arith)))
    go false e behind = behind (rw e at named)
