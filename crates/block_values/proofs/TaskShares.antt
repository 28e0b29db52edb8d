-- What the updates of a block add to its sum and take from it.
use Rattle.std.proofs.Common.{◌≡◌, ℕ, zero, suc, ◌+◌, ◌-◌, ◌<◌, List, [], ◌∷◌, ◌++◌, Bool, true, false, if◌then◌else◌, not, refl, arith}
use Rattle.std.proofs.Math.Nat.{mod-lt}
use Rattle.residue_sums.specs.Residues.{Cong}
use Rattle.residue_sums.specs.Sums.{sum_below}
use Rattle.residue_sums.specs.Tables.{Table}
use Rattle.residue_sums.proofs.Congruence.{Cong-refl, Cong-add, Cong-by, Cong-mod, Cong-multiple}
use Rattle.operation_spec.specs.declared.operation.Term.{Term}
use Rattle.operation_spec.specs.declared.operation.Form.{Form}
use Rattle.operation_spec.specs.declared.operation.Form.TheVariants as forms
use Rattle.operation_spec.specs.declared.task.Kind.{Kind}
use Rattle.operation_spec.specs.declared.task.Kind.TheVariants as kinds
use Rattle.operation_spec.specs.declared.task.Task.{Task}
use Rattle.task_graph.specs.Needs.{is_solve}
use Rattle.task_graph.specs.Tasks.{has}
use Rattle.task_graph.specs.Listing.{joined, task_if_any}
use Rattle.block_values.specs.Trees.{Tree, Zero, Add, Sub, Mul}
use Rattle.block_values.specs.Values.{Setting}
use Rattle.block_values.specs.States.{term_product, numbered_product, left_product, right_product, task_product, task_minus, with_updates}
use Rattle.block_values.proofs.PureTrees.{IsPure, value}

-- ---- the product of an update is a sum of products of blocks, and a residue

-- a product of blocks, or nothing
pub record IsProduct (s : Setting) (e : Tree) : Type 0 where
  pub pure : IsPure e
  pub below : 0 < s.modulus → (r c : ℕ) → value s e r c < s.modulus

IsProduct-zero : (s : Setting) → IsProduct s Zero
IsProduct-zero s = record { pure = tt; below = λ pos r c. pos }

IsProduct-mul : (s : Setting) (a b : Tree) → IsPure a → IsPure b → IsProduct s (Mul a b)
IsProduct-mul s a b x y = record { pure = (x, y); below = λ pos r c. mod-lt _ pos }

IsProduct-term : (s : Setting) (terms : List Term) (t i j k : ℕ) → IsProduct s (term_product terms t i j k)
IsProduct-term s [] t i j k = IsProduct-zero s
IsProduct-term s (term ∷ terms) zero i j k = IsProduct-mul s _ _ tt tt
IsProduct-term s (term ∷ terms) (suc t) i j k = IsProduct-term s terms t i j k

IsProduct-numbered : (s : Setting) (t i j k : ℕ) → IsProduct s (numbered_product s.op t i j k)
IsProduct-numbered s zero i j k = IsProduct-zero s
IsProduct-numbered s (suc t) i j k = IsProduct-term s s.op.terms t i j k

IsProduct-left : (s : Setting) (form : Form) (i j k : ℕ) → IsProduct s (left_product form i j k)
IsProduct-left s forms.Assign i j k = IsProduct-zero s
IsProduct-left s (forms.Left t) i j k = IsProduct-mul s _ _ tt tt
IsProduct-left s (forms.Right t) i j k = IsProduct-zero s
IsProduct-left s (forms.Sylvester t u negative) i j k = IsProduct-mul s _ _ tt tt
IsProduct-left s forms.Lu i j k = IsProduct-mul s _ _ tt tt
IsProduct-left s forms.Ldl i j k = IsProduct-mul s _ _ (tt, tt) tt

IsProduct-right : (s : Setting) (form : Form) (i j k : ℕ) → IsProduct s (right_product form i j k)
IsProduct-right s forms.Assign i j k = IsProduct-zero s
IsProduct-right s (forms.Left t) i j k = IsProduct-zero s
IsProduct-right s (forms.Right t) i j k = IsProduct-mul s _ _ tt tt
IsProduct-right s (forms.Sylvester t u negative) i j k = IsProduct-mul s _ _ tt tt
IsProduct-right s forms.Lu i j k = IsProduct-zero s
IsProduct-right s forms.Ldl i j k = IsProduct-zero s

pub IsProduct-task : (s : Setting) (kind : Kind) (t i j k : ℕ) → IsProduct s (task_product s.op kind t i j k)
IsProduct-task s kinds.Pivots t i j k = IsProduct-zero s
IsProduct-task s kinds.Term t i j k = IsProduct-numbered s t i j k
IsProduct-task s kinds.Left t i j k = IsProduct-left s s.op.form i j k
IsProduct-task s kinds.Right t i j k = IsProduct-right s s.op.form i j k
IsProduct-task s kinds.Solve t i j k = IsProduct-zero s

-- ---- shares

-- whether a product is of the kind asked for: one that is taken, or one that is added
abbrev pub same_sign : Bool → Bool → Bool
same_sign true negative = negative
same_sign false negative = not negative

-- what the tasks take at (r, c), or what they add
abbrev pub task_share : Setting → Bool → Task → Table
task_share s taken a r c = if is_solve a.kind then 0
    else (if same_sign taken (task_minus s.op a.kind a.term) then value s (task_product s.op a.kind a.term a.i a.j a.k) r c else 0)

abbrev pub shares : Setting → Bool → List Task → Table
shares s taken [] r c = 0
shares s taken (a ∷ tasks) r c = task_share s taken a r c + shares s taken tasks r c

-- one more update
one_update : (s : Setting) (solves negative : Bool) (p sum : Tree) (r c : ℕ) → value s p r c < s.modulus
    → Cong s.modulus (value s (if solves then sum else (if negative then Sub sum p else Add sum p)) r c
    + (if solves then 0 else (if same_sign true negative then value s p r c else 0)))
    (value s sum r c + (if solves then 0 else (if same_sign false negative then value s p r c else 0)))
one_update s true negative p sum r c below = Cong-refl s.modulus _
one_update s false true p sum r c below =
    Cong-by (Cong-add (Cong-mod s.modulus (value s sum r c + (s.modulus - value s p r c))) (Cong-multiple s.modulus 1)) (omega arith)
one_update s false false p sum r c below = Cong-by (Cong-mod s.modulus (value s sum r c + value s p r c)) (omega arith)

-- the sum with the updates, by its shares
pub with_updates-shares : (s : Setting) (tasks : List Task) (sum : Tree) (r c : ℕ) → 0 < s.modulus
    → Cong s.modulus (value s (with_updates s.op tasks sum) r c + shares s true tasks r c) (value s sum r c + shares s false tasks r c)
with_updates-shares s [] sum r c pos = Cong-refl s.modulus _
with_updates-shares s (a ∷ tasks) sum r c pos =
    let product : IsProduct s (task_product s.op a.kind a.term a.i a.j a.k) = IsProduct-task s a.kind a.term a.i a.j a.k in
    let next : Tree = (if is_solve a.kind then sum
    else (if task_minus s.op a.kind a.term then Sub sum (task_product s.op a.kind a.term a.i a.j a.k) else Add sum (task_product s.op a.kind a.term a.i a.j a.k))) in
    Cong-by (Cong-add (with_updates-shares s tasks next r c pos)
    (one_update s (is_solve a.kind) (task_minus s.op a.kind a.term) (task_product s.op a.kind a.term a.i a.j a.k) sum r c (product.below pos r c))) (omega arith)

-- it is pure
pub IsPure-with_updates : (s : Setting) (tasks : List Task) (sum : Tree) → IsPure sum → IsPure (with_updates s.op tasks sum)
IsPure-with_updates s [] sum pure = pure
IsPure-with_updates s (a ∷ tasks) sum pure = IsPure-with_updates s tasks _ (step (is_solve a.kind) (task_minus s.op a.kind a.term))
  where
    product : IsProduct s (task_product s.op a.kind a.term a.i a.j a.k)
    product = IsProduct-task s a.kind a.term a.i a.j a.k

    step : (solves negative : Bool) → IsPure (if solves then sum else (if negative then Sub sum (task_product s.op a.kind a.term a.i a.j a.k) else Add sum (task_product s.op a.kind a.term a.i a.j a.k)))
    step true negative = pure
    step false true = (pure, product.pure)
    step false false = (pure, product.pure)

-- ---- shares of lists

pub shares-append : (s : Setting) (taken : Bool) (xs ys : List Task) (r c : ℕ) → shares s taken (xs ++ ys) r c ≡ shares s taken xs r c + shares s taken ys r c
shares-append s taken [] ys r c = omega arith
shares-append s taken (a ∷ xs) ys r c = omega (arith, shares-append s taken xs ys r c)

pub shares-joined : (s : Setting) (taken : Bool) (f : ℕ → List Task) (n r c : ℕ) → shares s taken (joined f n) r c ≡ sum_below (λ k. shares s taken (f k) r c) n
unfolding joined
shares-joined s taken f zero r c = refl
shares-joined s taken f (suc n) r c = omega (arith, shares-joined s taken f n r c, shares-append s taken (joined f n) (f n) r c)

pub shares-task : (s : Setting) (counts : List ℕ) (taken : Bool) (a : Task) (r c : ℕ)
    → shares s taken (task_if_any s.op counts a) r c ≡ (if has s.op counts a then task_share s taken a r c else 0)
unfolding task_if_any
shares-task s counts taken a r c = go (has s.op counts a)
  where
    go : (b : Bool) → shares s taken (if b then a ∷ [] else []) r c ≡ (if b then task_share s taken a r c else 0)
    go true = omega arith
    go false = refl
