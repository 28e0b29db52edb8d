-- The line of an equation that was read, and what its tests tell. Cited by the laws of operation texts.
use Rattle.std.proofs.Common.{◌≡◌, ℕ, suc, ◌<◌, ◌≤◌, Bool, true, false, not, ◌==◌, if◌then◌else◌, List, [], ◌∷◌, length, codes, Ok, Option, Some, None, IsTrue, bytes_eq, refl, ap, subst, eqb-true, ltb-false}
use Rattle.std.proofs.lemmas.Bool.{not-false}
use Rattle.byte_texts.proofs.Binding.{same_ok}
use Rattle.text_scan.specs.Lines.{Line}
use Rattle.text_scan.proofs.FaultTests.{passed_by}
use Rattle.operation_spec.specs.declared.equation.Equation.{Equation}
use Rattle.operation_spec.specs.declared.operation.Operand.{Operand}
use Rattle.operation_spec.specs.Equations.{equation_of, sides_of, sizes_agree, meets_form, uses_operand, has_dim}
use Rattle.operation_spec.specs.OperationFaults.{names_behind, names_of, equation_in, all_below, is_malformed, sides_at, equation_at}
use Rattle.operation_spec.specs.ValidOperations.{term_limit}
use Rattle.operation_spec.proofs.FoundNames.{text_is}
use Rattle.operation_spec.proofs.KnownSides.{AreKnownSides, sides_are_known}
use Rattle.operation_spec.proofs.ListParts.{all_below_at}
use Rattle.operation_spec.proofs.ManyTests.{none_of_five}

-- what holds of an equation that has no fault
pub record IsFaultless (dims : List (List ℕ)) (work : Operand) (knowns : List Operand) (e : Equation) : Type 0 where
  pub first : e.first ≡ 0
  pub known : AreKnownSides (length (work ∷ knowns)) (sides_of e)
  pub few : length e.products ≤ term_limit
  pub sizes : IsTrue (sizes_agree work knowns e)
  pub form : IsTrue (meets_form work knowns e.left)
  pub knowns_used : (k : ℕ) → k < length knowns → uses_operand e (suc k) ≡ true
  pub dims_used : (d : ℕ) → d < length dims → has_dim work knowns d ≡ true

-- the test of its form and of what it uses
well_formed : (dims : List (List ℕ)) (work : Operand) (knowns : List Operand) (e : Equation) → is_malformed dims work knowns e ≡ false
    → (e.first ≡ 0) × (uses_operand e 0 ≡ false) × (meets_form work knowns e.left ≡ true)
    × (all_below (length knowns) (λ k. uses_operand e (suc k)) ≡ true) × (all_below (length dims) (has_dim work knowns) ≡ true)
well_formed dims work knowns e h =
    let parts = none_of_five (not (e.first == 0)) (uses_operand e 0) (not (meets_form work knowns e.left))
    (not (all_below (length knowns) (λ k. uses_operand e (suc k)))) (not (all_below (length dims) (has_dim work knowns))) h in
    (eqb-true e.first 0 (not-false _ parts.0), parts.1, not-false _ parts.2, not-false _ parts.3, not-false _ parts.4)

-- all tests
sides_taken : (dims : List (List ℕ)) (work : Operand) (knowns : List Operand) (line : ℕ) (e read : Equation) → sides_at dims work knowns line e ≡ Ok read
    → (e ≡ read) × IsFaultless dims work knowns e
unfolding sides_at
sides_taken dims work knowns line e read h =
    let known = passed_by _ _ _ read h in
    let few = passed_by _ _ _ read known.1 in
    let sizes = passed_by _ _ _ read few.1 in
    let formed = passed_by _ _ _ read sizes.1 in
    let form = well_formed dims work knowns e formed.0 in (
      same_ok e read formed.1,
      record {
        first = form.0;
        known = sides_are_known work knowns e known.0 form.1;
        few = ltb-false term_limit (length e.products) few.0;
        sizes = not-false (sizes_agree work knowns e) sizes.0;
        form = form.2;
        knowns_used = all_below_at (length knowns) (λ k. uses_operand e (suc k)) form.3;
        dims_used = all_below_at (length dims) (has_dim work knowns) form.4;
      },
    )

-- the words of an equation's line
in_line : (names words : List (List ℕ)) (e : Equation) → equation_in names words ≡ Some e
    → (words ≡ codes "equation" ∷ names_behind words) × (equation_of names (names_behind words) ≡ Some e)
in_line names [] e said = absurd cc
in_line names (first ∷ words) e said = by_first (bytes_eq first (codes "equation")) refl said
  where
    by_first : (b : Bool) → bytes_eq first (codes "equation") ≡ b → (if b then equation_of names words else None) ≡ Some e
        → (first ∷ words ≡ codes "equation" ∷ words) × (equation_of names words ≡ Some e)
    by_first true is said = (ap (λ (w : List ℕ). w ∷ words) (text_is first (codes "equation") is), said)
    by_first false is said = absurd cc

-- an equation's line that was read
pub record EquationRead (dims : List (List ℕ)) (work : Operand) (knowns : List Operand) (words : List (List ℕ)) (e : Equation) : Type 0 where
  pub spelled : words ≡ codes "equation" ∷ names_behind words
  pub said : equation_of (names_of work knowns) (names_behind words) ≡ Some e
  pub faultless : IsFaultless dims work knowns e

pub equation_read : (dims : List (List ℕ)) (work : Operand) (knowns : List Operand) (line : Line) (e : Equation) → equation_at dims work knowns line ≡ Ok e
    → EquationRead dims work knowns line.words e
unfolding equation_at
equation_read dims work knowns line e h = by_said (equation_in (names_of work knowns) line.words) refl h
  where
    told : (read : Equation) → equation_in (names_of work knowns) line.words ≡ Some read → sides_at dims work knowns line.number read ≡ Ok e → EquationRead dims work knowns line.words e
    told read is tests =
        let taken = sides_taken dims work knowns line.number read e tests in
        let words = in_line (names_of work knowns) line.words read is in
        subst (EquationRead dims work knowns line.words) taken.0 (record { spelled = words.0; said = words.1; faultless = taken.1 })

    by_said : (o : Option Equation) → equation_in (names_of work knowns) line.words ≡ o → equation_at dims work knowns line ≡ Ok e → EquationRead dims work knowns line.words e
    by_said None is h = absurd (let none = rw is at h in cc)
    by_said (Some read) is h = told read is (rw is at h)
