-- The lines of an operation that were read: its name, its dimensions and its end. Cited by the laws of operation texts.
use Rattle.std.proofs.Common.{◌≡◌, ℕ, ◌<◌, Bool, true, false, ◌&&◌, ◌==◌, nat_lt, if◌then◌else◌, List, [], ◌∷◌, length, codes, Ok, Err, IsTrue, All, bytes_eq, ap, subst, ltb-true, ltb-false}
use Rattle.std.specs.List.{list_all}
use Rattle.std.proofs.lemmas.Bool.{and_parts, not-false}
use Rattle.std.proofs.lemmas.List.Sums.{AllPass-from_list_all}
use Rattle.byte_texts.proofs.Binding.{same_ok}
use Rattle.text_scan.specs.FaultKinds.{Syntax}
use Rattle.text_scan.specs.Faults.{◌on◌}
use Rattle.text_scan.specs.Lines.{Line, due_line, inner_line, is_end, nth_word}
use Rattle.text_scan.specs.Words.{is_name}
use Rattle.text_scan.proofs.FaultTests.{passed_by}
use Rattle.operation_spec.specs.OperationFaults.{is_name_line, name_at, is_dims_line, dims_at, names_behind, end_at}
use Rattle.operation_spec.specs.ValidOperations.{HasDims, dim_limit}
use Rattle.operation_spec.proofs.FoundNames.{text_is, once_from_has_twice}

-- the lines are the one that was due, and those behind it
pub due_taken : (end : ℕ) (lines : List Line) (x : Line × List Line) → due_line end lines ≡ Ok x → lines ≡ x.0 ∷ x.1
due_taken end [] x e = absurd cc
due_taken end (line ∷ lines) x e = ap (λ (p : Line × List Line). p.0 ∷ p.1) (same_ok (line, lines) x e)

pub inner_taken : (end : ℕ) (lines : List Line) (x : Line × List Line) → inner_line end lines ≡ Ok x → lines ≡ x.0 ∷ x.1
inner_taken end [] x e = absurd cc
inner_taken end (line ∷ lines) x e = unless (line.number == end) e
  where
    unless : (b : Bool) → (if b then Err (Syntax on end) else Ok (line, lines)) ≡ Ok x → line ∷ lines ≡ x.0 ∷ x.1
    unless true e = absurd cc
    unless false e = ap (λ (p : Line × List Line). p.0 ∷ p.1) (same_ok (line, lines) x e)

-- `operation NAME`
name_line : (words : List (List ℕ)) → is_name_line words ≡ true → (words ≡ codes "operation" ∷ nth_word words 1 ∷ []) × IsTrue (is_name (nth_word words 1))
name_line (first ∷ name ∷ []) is =
    let both = and_parts (bytes_eq first (codes "operation")) (is_name name) is in
    (ap (λ (w : List ℕ). w ∷ name ∷ []) (text_is first (codes "operation") both.0), both.1)
name_line _ is = absurd cc

pub name_taken : (line : Line) (name : List ℕ) → name_at line ≡ Ok name → (line.words ≡ codes "operation" ∷ name ∷ []) × IsTrue (is_name name)
unfolding name_at
name_taken line name e =
    let form = passed_by _ _ _ name e in
    subst (λ (w : List ℕ). (line.words ≡ codes "operation" ∷ w ∷ []) × IsTrue (is_name w)) (same_ok _ name form.1) (name_line line.words (not-false _ form.0))

-- `dims NAME ..`
pub record DimsTaken (words dims : List (List ℕ)) : Type 0 where
  pub spelled : words ≡ codes "dims" ∷ dims
  pub some : 0 < length dims
  pub named : All (λ name. IsTrue (is_name name)) dims

dims_line : (words : List (List ℕ)) → is_dims_line words ≡ true → DimsTaken words (names_behind words)
dims_line [] is = absurd cc
dims_line (first ∷ names) is =
    let all = and_parts (bytes_eq first (codes "dims") && nat_lt 0 (length names)) (list_all is_name names) is in
    let both = and_parts (bytes_eq first (codes "dims")) (nat_lt 0 (length names)) all.0 in
    record {
      spelled = ap (λ (w : List ℕ). w ∷ names) (text_is first (codes "dims") both.0);
      some = ltb-true 0 (length names) both.1;
      named = AllPass-from_list_all is_name names all.1;
    }

pub dims_taken : (line : Line) (dims : List (List ℕ)) → dims_at line ≡ Ok dims → DimsTaken line.words dims × HasDims dims
unfolding dims_at
dims_taken line dims e =
    let form = passed_by _ _ _ dims e in
    let few = passed_by _ _ _ dims form.1 in
    let once = passed_by _ _ _ dims few.1 in
    let taken = dims_line line.words (not-false _ form.0) in
    subst (λ (names : List (List ℕ)). DimsTaken line.words names × HasDims names) (same_ok _ dims once.1)
    (taken, record { some = taken.some; few = ltb-false dim_limit (length (names_behind line.words)) few.0; once = once_from_has_twice (names_behind line.words) once.0 })

-- `end`
end_line : (words : List (List ℕ)) → is_end words ≡ true → words ≡ codes "end" ∷ []
end_line (word ∷ []) is = ap (λ (w : List ℕ). w ∷ []) (text_is word (codes "end") is)
end_line _ is = absurd cc

pub end_taken : (line : Line) (done : Unit {0}) → end_at line ≡ Ok done → line.words ≡ codes "end" ∷ []
unfolding end_at
end_taken line done e = end_line line.words (not-false _ (passed_by _ _ _ done e).0)
