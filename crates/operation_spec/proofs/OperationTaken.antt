-- An operation that was read is valid and spelled by its lines. Cited by the law of operation texts.
use Rattle.std.proofs.Common.{◌≡◌, ℕ, suc, List, [], ◌∷◌, ◌++◌, length, map, codes, Result, Ok, Err, IfOk, All, IsTrue, sym, ap, ◌∙◌, subst, arith, append_assoc}
use Rattle.std.proofs.lemmas.Bool.{not-true}
use Rattle.std.proofs.lemmas.List.{map-append, length-map}
use Rattle.std.proofs.lemmas.List.Elements.{All-cons}
use Rattle.byte_texts.specs.Reading.{Gives}
use Rattle.byte_texts.proofs.Binding.{bind_ok, same_ok}
use Rattle.text_scan.specs.LineOrder.{AreLines}
use Rattle.text_scan.specs.Lines.{Line}
use Rattle.text_scan.specs.Words.{is_word, is_name}
use Rattle.operation_spec.specs.declared.equation.Equation.{Equation}
use Rattle.operation_spec.specs.declared.fault.SpecFault.{SpecFault}
use Rattle.operation_spec.specs.declared.operation.Operand.{Operand}
use Rattle.operation_spec.specs.declared.operation.Operation.{Operation}
use Rattle.operation_spec.specs.Equations.{may_be_work, sides_of, sizes_agree, meets_form, equation_of_operation}
use Rattle.operation_spec.specs.OperationFaults.{Declared, names_behind, declared_at, operation_at, form_of, spec_fault, term_of}
use Rattle.operation_spec.specs.OperationLines.{operand_line, equation_words, operation_lines}
use Rattle.operation_spec.specs.ValidOperations.{HasDims, IsOperand, IsValid, HasNames, SpellsOperation, all_names}
use Rattle.operation_spec.proofs.EquationLine.{EquationRead, equation_read}
use Rattle.operation_spec.proofs.EquationTaken.{equation_taken}
use Rattle.operation_spec.proofs.KnownSides.{AreKnownSides, used_factor, used_dim, equation_again, factors_are, factors_below}
use Rattle.operation_spec.proofs.KnownsTaken.{AreKnowns, no_knowns, knowns_taken}
use Rattle.operation_spec.proofs.LinesTaken.{DimsTaken, due_taken, inner_taken, name_taken, dims_taken, end_taken}
use Rattle.operation_spec.proofs.OperandTaken.{LineOf, work_taken}
use Rattle.operation_spec.proofs.SpelledNames.{spelled_names_are_words}

-- the lines that declare dimensions and operands, which were read, and what holds of these
pub record DeclaredTaken (lines : List Line) (d : Declared) : Type 0 where
  pub dims_line : Line
  pub work_line : Line
  pub known_lines : List Line
  pub lines_are : lines ≡ dims_line ∷ work_line ∷ (known_lines ++ (d.knowns.line ∷ d.knowns.rest))
  pub dims_are : DimsTaken dims_line.words d.dims
  pub has_dims : HasDims d.dims
  pub work_is : LineOf d.dims (codes "work") work_line.words d.work
  pub may_be : IsTrue (may_be_work d.work.structure)
  pub knowns_spelled : map (λ line. line.words) known_lines ≡ map (operand_line d.dims (codes "known")) d.knowns.operands
  pub knowns_are : AreKnowns d.dims d.work d.knowns.operands

-- ---- the lines

two_lines : (first second : Line) (lines behind others rest : List Line) → lines ≡ first ∷ behind → behind ≡ second ∷ others → others ≡ rest → lines ≡ first ∷ second ∷ rest
two_lines first second lines behind others rest e e_behind e_others = cc

-- the lines of an operation, and the rest
all_lines : (all lines known rest others : List Line) (first second third equation last : Line) → all ≡ first ∷ lines → lines ≡ second ∷ third ∷ (known ++ (equation ∷ others))
    → others ≡ last ∷ rest → all ≡ (first ∷ second ∷ third ∷ (known ++ (equation ∷ last ∷ []))) ++ rest
all_lines all lines known rest others first second third equation last e e_lines e_others = cc (append_assoc known (equation ∷ last ∷ []) rest)

-- ---- the declarations

declared_taken : (end : ℕ) (lines : List Line) (d : Declared) → declared_at end lines ≡ Ok d → DeclaredTaken lines d
unfolding declared_at
declared_taken end lines d e =
    let second = bind_ok _ _ d e in
    let dims = bind_ok _ _ d second.2 in
    let third = bind_ok _ _ d dims.2 in
    let work = bind_ok _ _ d third.2 in
    let knowns = bind_ok _ _ d work.2 in
    let dims_are = dims_taken second.0.0 dims.0 dims.1 in
    let work_is = work_taken dims.0 third.0.0 work.0 work.1 in
    let taken = knowns_taken end dims.0 work.0 [] third.0.1 knowns.0 (no_knowns dims.0 work.0) knowns.1 in
    subst (DeclaredTaken lines) (same_ok _ d knowns.2) (record {
      dims_line = second.0.0;
      work_line = third.0.0;
      known_lines = taken.own;
      lines_are = two_lines second.0.0 third.0.0 lines second.0.1 third.0.1 (taken.own ++ (knowns.0.line ∷ knowns.0.rest))
          (inner_taken end lines second.0 second.1) (inner_taken end second.0.1 third.0 third.1) taken.lines_are;
      dims_are = dims_are.0;
      has_dims = dims_are.1;
      work_is = work_is.0;
      may_be = work_is.1;
      knowns_spelled = rw taken.operands_are taken.words_are;
      knowns_are = taken.are;
    })

-- ---- the whole operation

-- what the lines say
abbrev operation_from : List ℕ → Declared → Equation → Operation
operation_from name d e = record {
  name = name;
  dims = d.dims;
  work = d.work;
  knowns = d.knowns.operands;
  form = form_of e.left;
  terms = map term_of e.products;
}

module _ (name : List ℕ) (lines : List Line) (d : Declared) (e : Equation) (declared : DeclaredTaken lines d)
    (read : EquationRead d.dims d.work d.knowns.operands d.knowns.line.words e) where
  abbrev op : Operation
  op = operation_from name d e

  -- its equation is the one that was read
  equation_same : e ≡ equation_of_operation op
  equation_same = sym (equation_again (length (d.work ∷ d.knowns.operands)) e read.faultless.first read.faultless.known)

  valid_taken : IsValid op
  valid_taken = record {
    dims = declared.has_dims;
    operands = All-cons (IsOperand d.dims) d.work d.knowns.operands declared.work_is.valid declared.knowns_are.valid;
    names_once = declared.knowns_are.once;
    work = declared.may_be;
    few_knowns = declared.knowns_are.few;
    few_terms = omega (arith, read.faultless.few, length-map e.products term_of);
    factors = rw (factors_are e) (factors_below (length d.knowns.operands) (sides_of e) read.faultless.known);
    sizes = subst (λ (x : Equation). IsTrue (sizes_agree d.work d.knowns.operands x)) equation_same read.faultless.sizes;
    form = subst (λ (x : Equation). IsTrue (meets_form d.work d.knowns.operands x.left)) equation_same read.faultless.form;
    knowns_used = λ k below. rw (factors_are e) (used_factor (sides_of e) k (not-true _ (read.faultless.knowns_used k below)));
    dims_used = λ n below. used_dim (d.work ∷ d.knowns.operands) n (not-true _ (read.faultless.dims_used n below));
  }

  names_taken : All (λ w. IsTrue (is_word w)) (all_names op) → IsTrue (is_name name) → HasNames op
  names_taken words own = record {
    words = words;
    own = own;
    dims = declared.dims_are.named;
    operands = All-cons (λ (o : Operand). IsTrue (is_name o.name)) d.work d.knowns.operands declared.work_is.named declared.knowns_are.named;
  }

  -- the words of the equation's line
  equation_spelled : d.knowns.line.words ≡ codes "equation" ∷ equation_words op
  equation_spelled =
      let known = subst (λ n. AreKnownSides (suc n) (sides_of e)) (sym (length-map d.knowns.operands (λ o. o.name))) read.faultless.known in
      read.spelled ∙ ap (λ (words : List (List ℕ)). codes "equation" ∷ words)
      (equation_taken d.work.name (map (λ o. o.name) d.knowns.operands) (names_behind d.knowns.line.words) e read.said read.faultless.first known)

  -- the words of all lines
  words_spelled : (first last : Line) → first.words ≡ codes "operation" ∷ name ∷ [] → last.words ≡ codes "end" ∷ []
      → map (λ line. line.words) (first ∷ declared.dims_line ∷ declared.work_line ∷ (declared.known_lines ++ (d.knowns.line ∷ last ∷ []))) ≡ operation_lines op
  words_spelled first last first_is last_is =
      let known_is = map-append (λ (line : Line). line.words) declared.known_lines (d.knowns.line ∷ last ∷ [])
      ∙ ap (λ (l : List (List (List ℕ))). l ++ (d.knowns.line.words ∷ last.words ∷ [])) declared.knowns_spelled in
      let dims_is = declared.dims_are.spelled in
      let work_is = declared.work_is.spelled in
      let equation_is = equation_spelled in
      cc

  spelled : (end : ℕ) (first last : Line) (all rest : List Line) → AreLines end all → all ≡ first ∷ lines → d.knowns.rest ≡ last ∷ rest
      → (first.words ≡ codes "operation" ∷ name ∷ []) × IsTrue (is_name name) → last.words ≡ codes "end" ∷ [] → SpellsOperation all op rest
  spelled end first last all rest are first_line last_line first_is last_is =
      let own = first ∷ declared.dims_line ∷ declared.work_line ∷ (declared.known_lines ++ (d.knowns.line ∷ last ∷ [])) in
      let parts = all_lines all lines declared.known_lines rest d.knowns.rest first declared.dims_line declared.work_line d.knowns.line last first_line declared.lines_are last_line in
      let words = words_spelled first last first_is.0 last_is in
      record {
        text = (own, parts, words);
        valid = valid_taken;
        names = names_taken (spelled_names_are_words end all own rest op are parts words) first_is.1;
      }

pub operation_taken : (end : ℕ) (lines : List Line) (op : Operation) (rest : List Line) → AreLines end lines → operation_at end lines ≡ Ok (op, rest) → SpellsOperation lines op rest
unfolding operation_at
operation_taken end lines op rest are h =
    let first = bind_ok _ _ (op, rest) h in
    let name = bind_ok _ _ (op, rest) first.2 in
    let declared = bind_ok _ _ (op, rest) name.2 in
    let e = bind_ok _ _ (op, rest) declared.2 in
    let last = bind_ok _ _ (op, rest) e.2 in
    let done = bind_ok _ _ (op, rest) last.2 in
    let d = declared.0 in
    let read = equation_read d.dims d.work d.knowns.operands d.knowns.line e.0 e.1 in
    subst (λ (x : Operation × List Line). SpellsOperation lines x.0 x.1) (same_ok _ (op, rest) done.2)
    (spelled name.0 first.0.1 d e.0 (declared_taken end first.0.1 d declared.1) read end first.0.0 last.0.0 lines last.0.1 are (inner_taken end lines first.0 first.1)
    (due_taken end d.knowns.rest last.0 last.1) (name_taken first.0.0 name.0 name.1) (end_taken last.0.0 done.0 done.1))

-- the same of what a reader answers, where it is what the lines say
pub found_operation : (end : ℕ) (lines rest : List Line) (read : Result Operation SpecFault) → AreLines end lines → Gives spec_fault (λ op. (op, rest)) read (operation_at end lines) → IfOk read (λ op. SpellsOperation lines op rest)
found_operation end lines rest (Ok op) are gives = operation_taken end lines op rest are gives
found_operation end lines rest (Err fault) are gives = tt
