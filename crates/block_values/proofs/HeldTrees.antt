-- A state without a solve denotes what the block holds.
use Rattle.std.proofs.Common.{◌≡◌, ℕ, zero, suc, ◌+◌, ◌-◌, ◌%◌, List, [], ◌∷◌, Bool, true, false, if◌then◌else◌, refl, sym, ◌∙◌, ap₂}
use Rattle.residue_sums.specs.Tables.{Table, plus}
use Rattle.residue_sums.specs.Grids.{entry}
use Rattle.operation_spec.specs.declared.operation.Term.{Term}
use Rattle.operation_spec.specs.declared.operation.Form.{Form}
use Rattle.operation_spec.specs.declared.operation.Form.TheVariants as forms
use Rattle.operation_spec.specs.declared.task.Kind.{Kind}
use Rattle.operation_spec.specs.declared.task.Kind.TheVariants as kinds
use Rattle.operation_spec.specs.declared.task.Task.{Task}
use Rattle.equation.specs.Equations.{minus}
use Rattle.task_graph.specs.Needs.{is_solve}
use Rattle.block_values.specs.declared.leaf.Leaf.TheVariants.{Work}
use Rattle.block_values.specs.Trees.{Tree, Block, Add, Sub}
use Rattle.block_values.specs.Values.{Setting, IsValue}
use Rattle.block_values.specs.States.{term_product, numbered_product, left_product, right_product, task_product, task_minus, with_updates, has_solved, state_tree}
use Rattle.block_values.specs.Held.{held_term, held_numbered, held_left, held_right, held_product, with_products}
use Rattle.block_values.proofs.PureTrees.{IsPure, value, IsValue-at, value-only}
use Rattle.block_values.proofs.TaskShares.{IsPure-with_updates}

term_is : (s : Setting) (terms : List Term) (t i j k r c : ℕ) → value s (term_product terms t i j k) r c ≡ held_term s terms t k r c
term_is s [] t i j k r c = refl
term_is s (term ∷ terms) zero i j k r c = refl
term_is s (term ∷ terms) (suc t) i j k r c = term_is s terms t i j k r c

numbered_is : (s : Setting) (t i j k r c : ℕ) → value s (numbered_product s.op t i j k) r c ≡ held_numbered s t k r c
numbered_is s zero i j k r c = refl
numbered_is s (suc t) i j k r c = term_is s s.op.terms t i j k r c

left_is : (s : Setting) (form : Form) (i j k r c : ℕ) → value s (left_product form i j k) r c ≡ held_left s form k r c
left_is s forms.Assign i j k r c = refl
left_is s (forms.Left t) i j k r c = refl
left_is s (forms.Right t) i j k r c = refl
left_is s (forms.Sylvester t u negative) i j k r c = refl
left_is s forms.Lu i j k r c = refl
left_is s forms.Ldl i j k r c = refl

right_is : (s : Setting) (form : Form) (i j k r c : ℕ) → value s (right_product form i j k) r c ≡ held_right s form k r c
right_is s forms.Assign i j k r c = refl
right_is s (forms.Left t) i j k r c = refl
right_is s (forms.Right t) i j k r c = refl
right_is s (forms.Sylvester t u negative) i j k r c = refl
right_is s forms.Lu i j k r c = refl
right_is s forms.Ldl i j k r c = refl

product_is : (s : Setting) (kind : Kind) (t i j k r c : ℕ) → value s (task_product s.op kind t i j k) r c ≡ held_product s kind t k r c
product_is s kinds.Pivots t i j k r c = refl
product_is s kinds.Term t i j k r c = numbered_is s t i j k r c
product_is s kinds.Left t i j k r c = left_is s s.op.form i j k r c
product_is s kinds.Right t i j k r c = right_is s s.op.form i j k r c
product_is s kinds.Solve t i j k r c = refl

-- a sum with updates has the table with their products
pub updates_are : (s : Setting) (tasks : List Task) (sum : Tree) (a : Table) → ((r c : ℕ) → value s sum r c ≡ a r c) → (r c : ℕ)
    → value s (with_updates s.op tasks sum) r c ≡ with_products s tasks a r c
updates_are s [] sum a same r c = same r c
updates_are s (task ∷ tasks) sum a same r c = updates_are s tasks _ _
    (step (is_solve task.kind) (task_minus s.op task.kind task.term)) r c
  where
    step : (solves negative : Bool) (r c : ℕ) → value s (if solves then sum else (if negative then Sub sum (task_product s.op task.kind task.term task.i task.j task.k) else Add sum (task_product s.op task.kind task.term task.i task.j task.k))) r c
        ≡ (if solves then a else (if negative then minus s.modulus a (held_product s task.kind task.term task.k) else plus s.modulus a (held_product s task.kind task.term task.k))) r c
    step true negative r c = same r c
    step false true r c = ap₂ (λ (x y : ℕ). (x + (s.modulus - y)) % s.modulus) (same r c) (product_is s task.kind task.term task.i task.j task.k r c)
    step false false r c = ap₂ (λ (x y : ℕ). (x + y) % s.modulus) (same r c) (product_is s task.kind task.term task.i task.j task.k r c)

-- a state without a solve has the held table as its value, and no other
pub held_value : (s : Setting) (i j : ℕ) (done : List Task) → has_solved done ≡ false
    → ((y : Table) → ((r c : ℕ) → y r c ≡ with_products s done (entry s.work) r c) → IsValue s (state_tree s.op i j done) y)
    × ((y : Table) → IsValue s (state_tree s.op i j done) y → (r c : ℕ) → y r c ≡ with_products s done (entry s.work) r c)
held_value s i j done unsolved = rw unsolved (
  λ y same. IsValue-at s sum y pure (λ r c. same r c ∙ sym (updates_are s done (Block Work false i j) (entry s.work) (λ r c. refl) r c)),
  λ y is r c. value-only s sum y pure is r c ∙ updates_are s done (Block Work false i j) (entry s.work) (λ r c. refl) r c,
)
  where
    sum : Tree
    sum = with_updates s.op done (Block Work false i j)

    pure : IsPure sum
    pure = IsPure-with_updates s done (Block Work false i j) tt
