-- Lengths that matrices give the dimensions of operands: where each comes from one function no dimension has two. Cited
-- by what shows that a statement's line is read as the statement.
use Rattle.std.proofs.Common.{◌≡◌, ℕ, suc, ◌<◌, Bool, true, false, not, ◌||◌, ◌==◌, List, [], ◌∷◌, length, get_or, All, refl, sym, ap, ◌∙◌, arith, eq-eqb}
use Rattle.std.specs.List.{list_all}
use Rattle.std.proofs.lemmas.Bool.{eqb-true, not_from_true, or_from}
use Rattle.std.proofs.lemmas.List.Elements.{All-nil, All-cons, All-head, All-tail}
use Rattle.std.proofs.lemmas.List.Sums.{list_all-from_AllPass}
use Rattle.residue_sums.specs.Grids.{Grid}
use Rattle.operation_spec.specs.declared.operation.Operand.{Operand}
use Rattle.equation.specs.Jobs.{nth_grid, HasLengths}
use Rattle.job_text.specs.declared.binding.Length.{Length}
use Rattle.job_text.specs.JobFaults.{lengths_of, has_two_lengths}

-- two lengths of which those of one dimension are one
same_length : (d e m n : ℕ) → (d ≡ e → m ≡ n) → (not (d == e) || m == n) ≡ true
same_length d e m n same = by_test (d == e) refl
  where
    by_test : (t : Bool) → (d == e) ≡ t → (not t || m == n) ≡ true
    by_test true is = eq-eqb m n (same (eqb-true d e is))
    by_test false other = refl

-- lengths as a function gives them
abbrev pub AreLengths : (ℕ → ℕ) → List Length → Type 0
AreLengths lengths ls = All (λ l. l.length_of ≡ lengths l.dim) ls

-- no dimension has two of them
pub has_two_lengths-one : (lengths : ℕ → ℕ) (ls : List Length) → AreLengths lengths ls → has_two_lengths ls ≡ false
has_two_lengths-one lengths [] are = refl
has_two_lengths-one lengths (a ∷ ls) are =
    let given : Length → Type 0 = λ l. l.length_of ≡ lengths l.dim in
    let first = All-head given a ls are in
    let others = All-tail given a ls are in
    let same : Length → Bool = λ b. not (b.dim == a.dim) || b.length_of == a.length_of in
    let all : list_all same ls ≡ true = list_all-from_AllPass same ls (λ k d below. same_length _ _ _ _ (λ one. others k d below ∙ ap lengths one ∙ sym first)) in
    or_from _ _ (not_from_true _ all) (has_two_lengths-one lengths ls others)

-- those of matrices that have the lengths of their operands
pub lengths_of-has : (lengths : ℕ → ℕ) (operands : List Operand) (grids : List Grid) (d : Operand)
    → ((k : ℕ) → k < length operands → HasLengths lengths (get_or operands k d) (nth_grid grids k)) → AreLengths lengths (lengths_of operands grids)
lengths_of-has lengths [] grids d has = All-nil (λ (l : Length). l.length_of ≡ lengths l.dim)
lengths_of-has lengths (o ∷ operands) [] d has = All-nil (λ (l : Length). l.length_of ≡ lengths l.dim)
lengths_of-has lengths (o ∷ operands) (g ∷ grids) d has =
    let given : Length → Type 0 = λ l. l.length_of ≡ lengths l.dim in
    let here = has 0 (omega arith) in
    let others = lengths_of-has lengths operands grids d (λ k below. has (suc k) (omega arith)) in
    All-cons given (record { dim = o.rows; length_of = g.rows }) (record { dim = o.cols; length_of = g.cols } ∷ lengths_of operands grids) here.rows
    (All-cons given (record { dim = o.cols; length_of = g.cols }) (lengths_of operands grids) here.cols others)
