-- Known operands and terms by their place in the lists of an operation. Cited by the functions that look them up.
use Rattle.std.proofs.Common.{◌≡◌, ◌≢◌, ℕ, zero, suc, ◌-◌, ◌≤◌, false, List, [], ◌∷◌, length, Option, Some, None, refl, arith, Bor}
use Rattle.std.specs.Prelude.{slice_get, unwrap_or}
use Rattle.std.specs.Option.{option_copied}
use Rattle.operation_spec.specs.declared.operation.Operation.{Operation}
use Rattle.operation_spec.specs.declared.operation.Term.{Term}
use Rattle.task_graph.specs.Factors.{factor_cols}
use Rattle.task_graph.specs.Tasks.{has_product, has_term, has_numbered_term}
use Rattle.task_graph.specs.Classes.{inner_dim_of, inner_dim_of_term}

-- what a lent item or a lent default points to
pub now-unwrap_or : {X : Type 0} (found : Option (Bor X)) (default : Bor X)
    → (unwrap_or found default).now ≡ unwrap_or (option_copied found) default.now
now-unwrap_or None default = refl
now-unwrap_or (Some x) default = refl

-- the term at a place of a list is the one that decides
has_term-at : (op : Operation) (counts : List ℕ) (terms : List Term) (t : ℕ) (term : Term) (i j k : ℕ)
    → slice_get terms t ≡ Some term → has_term op counts terms t i j k ≡ has_product op counts term i j k
has_term-at op counts [] t term i j k h = cc
has_term-at op counts (x ∷ xs) zero term i j k h = cc
has_term-at op counts (x ∷ xs) (suc t) term i j k h = has_term-at op counts xs t term i j k h

-- past a list there is no term
has_term-past : (op : Operation) (counts : List ℕ) (terms : List Term) (t i j k : ℕ)
    → length terms ≤ t → has_term op counts terms t i j k ≡ false
has_term-past op counts [] t i j k h = refl
has_term-past op counts (x ∷ xs) zero i j k h = absurd (omega arith)
has_term-past op counts (x ∷ xs) (suc t) i j k h = has_term-past op counts xs t i j k (omega arith)

-- the same of the term with a number
pub has_numbered_term-at : (op : Operation) (counts : List ℕ) (t : ℕ) (term : Term) (i j k : ℕ) → t ≢ 0
    → slice_get op.terms (t - 1) ≡ Some term → has_numbered_term op counts t i j k ≡ has_product op counts term i j k
has_numbered_term-at op counts zero term i j k h e = absurd (h refl)
has_numbered_term-at op counts (suc t) term i j k h e =
    let at : suc t - 1 ≡ t = omega arith in has_term-at op counts op.terms t term i j k (rw at at e)

-- past the terms there is none
pub has_numbered_term-past : (op : Operation) (counts : List ℕ) (t i j k : ℕ) → t ≢ 0
    → length op.terms ≤ t - 1 → has_numbered_term op counts t i j k ≡ false
has_numbered_term-past op counts zero i j k h e = absurd (h refl)
has_numbered_term-past op counts (suc t) i j k h e = has_term-past op counts op.terms t i j k (omega arith)

-- the inner dimension of the term at a place of a list
inner_dim_of-at : (op : Operation) (terms : List Term) (t : ℕ) (term : Term)
    → slice_get terms t ≡ Some term → inner_dim_of op terms t ≡ factor_cols op term.first
inner_dim_of-at op [] t term h = cc
inner_dim_of-at op (x ∷ xs) zero term h = cc
inner_dim_of-at op (x ∷ xs) (suc t) term h = inner_dim_of-at op xs t term h

-- past a list it is dimension 0
inner_dim_of-past : (op : Operation) (terms : List Term) (t : ℕ) → length terms ≤ t → inner_dim_of op terms t ≡ 0
inner_dim_of-past op [] t h = refl
inner_dim_of-past op (x ∷ xs) zero h = absurd (omega arith)
inner_dim_of-past op (x ∷ xs) (suc t) h = inner_dim_of-past op xs t (omega arith)

-- the same of the term with a number
pub inner_dim_of_term-at : (op : Operation) (t : ℕ) (term : Term) → t ≢ 0
    → slice_get op.terms (t - 1) ≡ Some term → inner_dim_of_term op t ≡ factor_cols op term.first
inner_dim_of_term-at op zero term h e = absurd (h refl)
inner_dim_of_term-at op (suc t) term h e =
    let at : suc t - 1 ≡ t = omega arith in inner_dim_of-at op op.terms t term (rw at at e)

-- past the terms it is dimension 0
pub inner_dim_of_term-past : (op : Operation) (t : ℕ) → t ≢ 0 → length op.terms ≤ t - 1 → inner_dim_of_term op t ≡ 0
inner_dim_of_term-past op zero h e = absurd (h refl)
inner_dim_of_term-past op (suc t) h e = inner_dim_of-past op op.terms t (omega arith)
