-- The matrices of a statement that were held against the operands of its operation. Cited by the law that what is read
-- is spelled so.
use Rattle.std.proofs.Common.{◌≡◌, ℕ, zero, suc, ◌<◌, true, false, not, ◌||◌, ◌==◌, if◌then◌else◌, List, [], ◌∷◌, length, get_or, map, Ok, Option, Some, None, All, refl, sym, ap, ◌∙◌, subst, arith, slice_get, eqb-true, inl, inr}
use Rattle.std.specs.List.{list_all}
use Rattle.std.proofs.lemmas.Bool.{or_parts, or_cases, cond_both, not-false, not-true, eq-eqb, eqb-false, cond-true}
use Rattle.std.proofs.lemmas.List.{length-map}
use Rattle.std.proofs.lemmas.List.Elements.{All-nil, All-cons, All-head, All-tail}
use Rattle.std.proofs.lemmas.List.Sums.{AllPass-from_list_all}
use Rattle.residue_sums.specs.Grids.{Grid}
use Rattle.text_scan.specs.Lines.{Line}
use Rattle.text_scan.proofs.FaultTests.{passed_by}
use Rattle.byte_texts.proofs.Binding.{same_ok}
use Rattle.text_scan.specs.Faults.{Fault}
use Rattle.operation_spec.specs.declared.operation.Operation.{Operation}
use Rattle.operation_spec.specs.declared.operation.Operand.{Operand}
use Rattle.equation.specs.declared.job.Statement.{Statement}
use Rattle.equation.specs.Jobs.{no_grid, nth_grid, HasLengths, Fits}
use Rattle.job_text.specs.declared.binding.Length.{Length}
use Rattle.job_text.specs.JobFaults.{lengths_of, has_two_lengths, statement_of, has_alias, is_misbound, bound_at, nth_bound}
use Rattle.job_text.proofs.BoundAgain.{nth_bound-at, nth_bound-none}
use Rattle.job_text.proofs.ListFacts.{not_among}

-- ---- lengths of dimensions

-- the first length that a dimension was given
abbrev length_in : List Length → ℕ → ℕ
length_in [] dim = 0
length_in (a ∷ lengths) dim = if a.dim == dim then a.length_of else length_in lengths dim

-- a length behind the first of some, which has one value with it where they have one dimension
behind_first : (a b : Length) (n : ℕ) → (not (b.dim == a.dim) || b.length_of == a.length_of) ≡ true → b.length_of ≡ n → b.length_of ≡ (if a.dim == b.dim then a.length_of else n)
behind_first a b n agree is = cond_both (a.dim == b.dim) a.length_of n (λ x. b.length_of ≡ x) same (λ _. is)
  where
    same : (a.dim == b.dim) ≡ true → b.length_of ≡ a.length_of
    same one = elim (or_cases (not (b.dim == a.dim)) (b.length_of == a.length_of) agree) [
      | inl other ↦ absurd (eqb-false b.dim a.dim (not-true (b.dim == a.dim) other) (sym (eqb-true a.dim b.dim one)))
      | inr equal ↦ eqb-true b.length_of a.length_of equal
    ]

-- where no dimension has two lengths, each has its first
one_length : (lengths : List Length) → has_two_lengths lengths ≡ false → All (λ a. a.length_of ≡ length_in lengths a.dim) lengths
one_length [] e = All-nil (λ (a : Length). a.length_of ≡ 0)
one_length (a ∷ lengths) e =
    let test = λ (b : Length). not (b.dim == a.dim) || b.length_of == a.length_of in
    let parts = or_parts (not (list_all test lengths)) (has_two_lengths lengths) e in
    let agree = AllPass-from_list_all test lengths (not-false (list_all test lengths) parts.0) in
    let others = one_length lengths parts.1 in
    All-cons (λ (b : Length). b.length_of ≡ length_in (a ∷ lengths) b.dim) a lengths
    (sym (cond-true (a.dim == a.dim) a.length_of (length_in lengths a.dim) (eq-eqb a.dim a.dim refl)))
    (λ k d below. behind_first a (get_or lengths k d) (length_in lengths (get_or lengths k d).dim) (agree k d below) (others k d below))

-- so each operand has the lengths of its matrix
have_lengths : (lengths : ℕ → ℕ) (operands : List Operand) (grids : List Grid) → length grids ≡ length operands → All (λ a. a.length_of ≡ lengths a.dim) (lengths_of operands grids)
    → (k : ℕ) (o : Operand) (g : Grid) → k < length operands → HasLengths lengths (get_or operands k o) (get_or grids k g)
have_lengths lengths [] grids same all k o g below = absurd (omega arith)
have_lengths lengths (p ∷ operands) [] same all k o g below = absurd (omega arith)
have_lengths lengths (p ∷ operands) (h ∷ grids) same all zero o g below =
    let d : Length = record { dim = 0; length_of = 0 } in
    record { rows = all 0 d (omega arith); cols = all 1 d (omega arith) }
have_lengths lengths (p ∷ operands) (h ∷ grids) same all (suc k) o g below =
    have_lengths lengths operands grids (omega arith) (λ j d inside. all (suc (suc j)) d (omega arith)) k o g (omega arith)

-- ---- the matrices fit the operation

-- no matrices are too few
none_misbound : (op : Operation) (grids : List Grid) → is_misbound op grids [] ≡ false → ⊥
none_misbound op grids e = omega (arith, eqb-true 0 (length (op.work ∷ op.knowns)) (not-false _ (or_parts _ _ e).0))

fits_taken : (op : Operation) (grids : List Grid) (n : ℕ) (bound : List ℕ) → All (λ k. k < length grids) bound → is_misbound op grids bound ≡ false → has_alias bound ≡ false
    → Fits op grids (statement_of n bound).bind
fits_taken op grids n [] below e apart = absurd (none_misbound op grids e)
fits_taken op grids n (work ∷ knowns) below e apart =
    let bound = work ∷ knowns in
    let operands = op.work ∷ op.knowns in
    let taken = map (nth_grid grids) bound in
    let parts = or_parts (not (length bound == length operands)) (has_two_lengths (lengths_of operands taken)) e in
    let count = eqb-true (length bound) (length operands) (not-false _ parts.0) in
    let lengths = length_in (lengths_of operands taken) in
    let have = have_lengths lengths operands taken (omega (arith, count, length-map bound (nth_grid grids))) (one_length (lengths_of operands taken) parts.1) in
    record {
      work_in = All-head (λ k. k < length grids) work knowns below;
      knowns_in = All-tail (λ k. k < length grids) work knowns below;
      count = omega (arith, count);
      lengths = lengths;
      work = have 0 op.work no_grid (omega arith);
      knowns = λ k inside. have (suc k) op.work no_grid (omega arith);
      apart = not_among knowns work apart;
    }

-- ---- the operation with a number

-- where the matrices were held against one, it was found
operation_found : (line : Line) (operations : List Operation) (grids : List Grid) (n : ℕ) (bound : List ℕ) (s : Statement) → nth_bound line operations grids n bound ≡ Ok s
    → (op : Operation) × (slice_get operations n ≡ Some op) × (bound_at line op grids n bound ≡ Ok s)
operation_found line operations grids n bound s e = by_number (slice_get operations n) refl
  where
    by_number : (found : Option Operation) → slice_get operations n ≡ found → (op : Operation) × (slice_get operations n ≡ Some op) × (bound_at line op grids n bound ≡ Ok s)
    by_number None none = let fault = sym (nth_bound-none line operations grids n bound none) ∙ e in absurd cc
    by_number (Some op) found = (op, found, sym (nth_bound-at line operations grids n bound op found) ∙ e)

-- a statement's operation, its matrices, and its numbers
pub record BoundTaken (operations : List Operation) (grids : List Grid) (n : ℕ) (bound : List ℕ) (s : Statement) : Type 0 where
  pub operation : Operation
  pub found : slice_get operations s.operation ≡ Some operation
  pub fits : Fits operation grids s.bind
  pub numbers : bound ≡ s.bind.work ∷ s.bind.knowns
  pub number : n ≡ s.operation

-- the numbers in a statement are those that it was made of
statement_numbers : (op : Operation) (grids : List Grid) (n : ℕ) (bound : List ℕ) → is_misbound op grids bound ≡ false
    → (bound ≡ (statement_of n bound).bind.work ∷ (statement_of n bound).bind.knowns) × (n ≡ (statement_of n bound).operation)
statement_numbers op grids n [] e = absurd (none_misbound op grids e)
statement_numbers op grids n (work ∷ knowns) e = (refl, refl)

-- the tests of the matrices against the operands
bound_taken : (line : Line) (op : Operation) (grids : List Grid) (n : ℕ) (bound : List ℕ) (s : Statement) → bound_at line op grids n bound ≡ Ok s
    → (is_misbound op grids bound ≡ false) × (has_alias bound ≡ false) × (statement_of n bound ≡ s)
unfolding bound_at
bound_taken line op grids n bound s e =
    let binding = passed_by _ _ _ s e in
    let alias = passed_by _ _ _ s binding.1 in
    (binding.0, alias.0, same_ok {F = Fault} (statement_of n bound) s alias.1)

pub nth_bound_taken : (line : Line) (operations : List Operation) (grids : List Grid) (n : ℕ) (bound : List ℕ) (s : Statement) → All (λ k. k < length grids) bound
    → nth_bound line operations grids n bound ≡ Ok s → BoundTaken operations grids n bound s
nth_bound_taken line operations grids n bound s below e =
    let at = operation_found line operations grids n bound s e in
    let op = at.0 in
    let taken = bound_taken line op grids n bound s at.2 in
    let numbers = statement_numbers op grids n bound taken.0 in
    subst (BoundTaken operations grids n bound) taken.2 (record {
      operation = op;
      found = ap (slice_get operations) (sym numbers.1) ∙ at.1;
      fits = fits_taken op grids n bound below taken.0 taken.1;
      numbers = numbers.0;
      number = numbers.1;
    })
