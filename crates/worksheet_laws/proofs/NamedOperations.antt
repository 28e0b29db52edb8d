-- The operation of a list that is found by a name. Cited by the laws of worksheets that were read, or stand behind a job.
use Rattle.std.proofs.Common.{◌≡◌, ℕ, Bool, true, false, if◌then◌else◌, List, [], ◌∷◌, All, Some, refl, subst}
use Rattle.std.specs.Str.{bytes_eq}
use Rattle.std.proofs.lemmas.List.Elements.{All-head, All-tail}
use Rattle.operation_spec.specs.declared.operation.Operation.{Operation}
use Rattle.operation_spec.proofs.FoundNames.{text_is}
use Rattle.worksheet_text.specs.SheetReading.{operation_named}

-- it has the name, and what all of them have
pub named_has : (P : Operation → Type 0) (operations : List Operation) (name : List ℕ) (op : Operation) → All P operations → operation_named operations name ≡ Some op → (op.name ≡ name) × P op
named_has P [] name op all found = absurd cc
named_has P (first ∷ operations) name op all found = by_test (bytes_eq first.name name) refl found (λ others. named_has P operations name op (All-tail P first operations all) others)
  where
    by_test : (b : Bool) → bytes_eq first.name name ≡ b → (if b then Some first else operation_named operations name) ≡ Some op → (operation_named operations name ≡ Some op → (op.name ≡ name) × P op) → (op.name ≡ name) × P op
    by_test true is same others = let is_op : first ≡ op = cc in subst (λ (o : Operation). (o.name ≡ name) × P o) is_op (text_is first.name name is, All-head P first operations all)
    by_test false is found others = others found
