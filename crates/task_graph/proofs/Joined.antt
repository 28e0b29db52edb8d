-- Lists of tasks made part by part. Cited by the functions that add tasks to a list.
use Rattle.std.proofs.Common.{◌≡◌, ℕ, zero, suc, ◌+◌, ◌<◌, ◌≤◌, ◌⊎◌, inl, inr, List, ◌++◌, length, Result, Err, sym, ap, ◌∙◌, arith, add-one, append_assoc, append-nil, length-append}
use Rattle.std.specs.Prelude.{IsErrAnd}
use Rattle.std.proofs.lemmas.Result.{err_from_is_err_and}
use Rattle.operation_spec.specs.declared.task.Task.{Task}
use Rattle.task_graph.specs.Listing.{joined}

-- a place before the end of n + 1 places is before that of n, or the last
pub below_or_last : (k n : ℕ) → k < suc n → (k < n) ⊎ (k ≡ n)
below_or_last k n h = grind arith

-- a part and those before it are no longer than all
joined-grows : (f : ℕ → List Task) (k n : ℕ) → k < n → length (joined f k) + length (f k) ≤ length (joined f n)
unfolding joined
joined-grows f k zero h = absurd (omega arith)
joined-grows f k (suc n) h = elim (below_or_last k n h) [
  | inl l ↦ omega (arith, joined-grows f k n l, length-append (joined f n) (f n))
  | inr e ↦ rw (e, length-append (joined f n) (f n)) (omega arith)
]

-- no part yet
pub grown-none : (f : ℕ → List Task) (old : List Task) → old ≡ old ++ joined f 0
unfolding joined
grown-none f old = sym (append-nil old)

-- a list that has grown by the first parts grows by one more
pub grown-next : (f : ℕ → List Task) (k : ℕ) (old : List Task) {found added new : List Task}
    → found ≡ old ++ joined f k → added ≡ f k → new ≡ found ++ added → new ≡ old ++ joined f (k + 1)
unfolding joined
grown-next f k old {found} {added} e same h =
    rw add-one (h ∙ ap (λ xs. found ++ xs) same ∙ ap (λ xs. xs ++ f k) e ∙ append_assoc old (joined f k) (f k))

-- a list that has grown by all parts
pub grown-all : (f : ℕ → List Task) (k n : ℕ) (old : List Task) {found : List Task}
    → k ≤ n → n ≤ k → found ≡ old ++ joined f k → found ≡ old ++ joined f n
grown-all f k n old below above e = let same : k ≡ n = omega arith in rw same at e

-- where one more part is too much, all are
pub grown_past : (f : ℕ → List Task) (k n limit : ℕ) (old : List Task) {found added : List Task}
    → k < n → found ≡ old ++ joined f k → added ≡ f k → limit < length found + length added → limit < length old + length (joined f n)
grown_past f k n limit old h e same over =
    omega (arith, joined-grows f k n h, ap length e, ap length same, length-append old (joined f k))

-- a list that has grown by one part and then by another
pub grown_more : (a b old : List Task) {found new : List Task} → found ≡ old ++ a → new ≡ found ++ b → new ≡ old ++ (a ++ b)
grown_more a b old e h = h ∙ ap (λ xs. xs ++ b) e ∙ append_assoc old a b

-- where a part is too much, it is so with another behind it
pub past_longer : (a b old : List Task) (limit : ℕ) → limit < length old + length a → limit < length old + length (a ++ b)
past_longer a b old limit over = omega (arith, length-append a b)

-- where a second part is too much, both are
pub past_more : (a b old : List Task) (limit : ℕ) {found : List Task} → found ≡ old ++ a → limit < length found + length b
    → limit < length old + length (a ++ b)
past_more a b old limit e over = omega (arith, length-append a b, ap length e, length-append old a)

-- the fault that `?` passes on is the one that came
pub passed_on : {T U E : Type 0} {came fault : E} (r : Result T E) → IsErrAnd r (λ e. e ≡ came) → r ≡ Err fault
    → ◌≡◌ {A = Result U E} (Err came) (Err fault)
passed_on r passed told = let p = err_from_is_err_and r passed in cc
