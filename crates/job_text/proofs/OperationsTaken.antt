-- The operation blocks of a job that were read. Cited by the law that what is read is spelled so.
use Rattle.std.proofs.Common.{◌≡◌, ◌≢◌, ℕ, zero, suc, ◌<◌, ◌≤◌, false, List, [], ◌∷◌, ◌++◌, length, map, codes, Ok, All, AllPairs, sym, ap, ◌∙◌, arith, append-nil, length-append, leb-false}
use Rattle.std.specs.List.{flat_map}
use Rattle.std.proofs.lemmas.List.Concat.{flat_map-append}
use Rattle.std.proofs.lemmas.List.Elements.{All-nil, All-push}
use Rattle.std.proofs.lemmas.List.Quantifiers.{all_pairs_push}
use Rattle.byte_texts.proofs.Binding.{bind_ok}
use Rattle.text_scan.specs.Names.{is_among}
use Rattle.text_scan.specs.LineOrder.{AreLines}
use Rattle.text_scan.specs.Lines.{Line, begins_with, nth_word}
use Rattle.text_scan.proofs.FaultTests.{passed_by}
use Rattle.operation_spec.specs.declared.operation.Operation.{Operation}
use Rattle.operation_spec.specs.OperationLines.{operation_lines}
use Rattle.operation_spec.specs.ValidOperations.{HasNames, IsValid, SpellsOperation}
use Rattle.operation_spec.proofs.FoundNames.{none_is}
use Rattle.operation_spec.proofs.OperationTaken.{operation_taken}
use Rattle.job_text.specs.JobFaults.{operation_limit, operation_head_at, next_operation_at, operations_at}
use Rattle.job_text.proofs.ListFacts.{All-from_map}
use Rattle.job_text.proofs.SectionLines.{first_words, lines_behind, SectionTaken, no_part, part_before, at_word}

-- what holds of operations that were read
pub record AreOperations (ops : List Operation) : Type 0 where
  pub valid : All IsValid ops
  pub named : All HasNames ops
  pub once : AllPairs (λ a b. a.name ≢ b.name) ops
  pub few : length ops ≤ operation_limit

pub no_operations : AreOperations []
no_operations = record { valid = All-nil IsValid; named = All-nil HasNames; once = λ i j d before below. absurd (omega arith); few = omega arith }

-- ---- one block

-- a block behind others
record OperationTaken (found : List Operation) (lines : List Line) (op : Operation) (rest : List Line) : Type 0 where
  spelled : SpellsOperation lines op rest
  few : length found < operation_limit
  new : All (λ o. o.name ≢ op.name) found

-- the tests of its first line
head_taken : (end : ℕ) (found : List Operation) (line : Line) (done : Unit {0}) → operation_head_at end found line ≡ Ok done
    → (length found < operation_limit) × (is_among (map (λ o. o.name) found) (nth_word line.words 1) ≡ false)
unfolding operation_head_at
head_taken end found line done e =
    let form = passed_by _ _ _ done e in
    let few = passed_by _ _ _ done form.1 in
    let name = passed_by _ _ _ done few.1 in
    (leb-false operation_limit (length found) few.0, name.0)

block_taken : (end : ℕ) (found : List Operation) (line : Line) (lines : List Line) (op : Operation) (rest : List Line) → AreLines end (line ∷ lines)
    → next_operation_at end found line lines ≡ Ok (op, rest) → OperationTaken found (line ∷ lines) op rest
unfolding next_operation_at
block_taken end found line lines op rest are e =
    let head = bind_ok _ _ (op, rest) e in
    let tests = head_taken end found line head.0 head.1 in
    let spelled = operation_taken end (line ∷ lines) op rest are head.2 in
    let words = first_words line lines spelled.text.0 rest _ _ spelled.text.1 spelled.text.2 in
    let new = sym (ap (λ (ws : List (List ℕ)). is_among (map (λ o. o.name) found) (nth_word ws 1)) words) ∙ tests.1 in
    record {
      spelled = spelled;
      few = tests.0;
      new = All-from_map (λ (name : List ℕ). name ≢ op.name) (λ (o : Operation). o.name) found (none_is (map (λ o. o.name) found) op.name new);
    }

-- with one more
one_more : (found : List Operation) (lines : List Line) (op : Operation) (rest : List Line) → AreOperations found → OperationTaken found lines op rest → AreOperations (found ++ op ∷ [])
one_more found lines op rest are more = record {
  valid = All-push IsValid found op are.valid more.spelled.valid;
  named = All-push HasNames found op are.named more.spelled.names;
  once = all_pairs_push (λ a b. a.name ≢ b.name) found op are.once more.new;
  few = omega (arith, more.few, length-append found (op ∷ []));
}

-- ---- all blocks

-- lines that were read as operations behind those found
abbrev pub OperationsTaken : List Operation → List Line → List Operation × List Line → Type 0
OperationsTaken = SectionTaken AreOperations (flat_map operation_lines)

-- a block, where those behind it were read
block_before : (end : ℕ) (found : List Operation) (line : Line) (lines : List Line) (read : List Operation × List Line) (op : Operation) (rest : List Line) → AreLines end (line ∷ lines)
    → AreOperations found → next_operation_at end found line lines ≡ Ok (op, rest)
    → (AreLines end rest → AreOperations (found ++ op ∷ []) → OperationsTaken (found ++ op ∷ []) rest read) → OperationsTaken found (line ∷ lines) read
block_before end found line lines read op rest lines_are are e others =
    let taken = block_taken end found line lines op rest lines_are e in
    let own = taken.spelled.text.0 in
    let text = flat_map-append operation_lines found (op ∷ []) ∙ ap (λ (words : List (List (List ℕ))). flat_map operation_lines found ++ words) (append-nil (operation_lines op) ∙ sym taken.spelled.text.2) in
    part_before AreOperations (flat_map operation_lines) found (found ++ op ∷ []) (line ∷ lines) own rest read taken.spelled.text.1 text
    (others (lines_behind end (line ∷ lines) own rest lines_are taken.spelled.text.1) (one_more found (line ∷ lines) op rest are taken))

pub operations_taken : (blocks end : ℕ) (found : List Operation) (lines : List Line) (read : List Operation × List Line) → AreLines end lines → AreOperations found
    → operations_at blocks end found lines ≡ Ok read → OperationsTaken found lines read
unfolding operations_at
operations_taken zero end found lines read lines_are are e = no_part AreOperations (flat_map operation_lines) found lines read are e
operations_taken (suc blocks) end found [] read lines_are are e = no_part AreOperations (flat_map operation_lines) found [] read are e
operations_taken (suc blocks) end found (line ∷ lines) read lines_are are e =
    at_word AreOperations (flat_map operation_lines) found (line ∷ lines) read (next_operation_at end found line lines) (λ x. operations_at blocks end (found ++ x.0 ∷ []) x.1) are
    (λ x step behind. block_before end found line lines read x.0 x.1 lines_are are step (λ rest_are more. operations_taken blocks end (found ++ x.0 ∷ []) x.1 read rest_are more behind))
    (begins_with (codes "operation") line.words) e
