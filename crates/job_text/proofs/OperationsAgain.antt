-- The lines of operations are read as these, block by block. Cited by the law that a job's lines are read as the job.
use Rattle.std.proofs.Common.{◌≡◌, ◌≢◌, ℕ, zero, suc, ◌<◌, ◌≤◌, true, false, List, [], ◌∷◌, ◌++◌, length, map, codes, All, AllPairs, IsTrue, Ok, refl, sym, ap, subst, ◌∙◌, arith, append_assoc, length-append}
use Rattle.std.specs.List.{flat_map}
use Rattle.std.proofs.lemmas.Bool.{lt-leb, ne_eqb}
use Rattle.std.proofs.lemmas.List.{append-nil, length-map}
use Rattle.std.proofs.lemmas.List.Elements.{All-map}
use Rattle.text_scan.specs.LineOrder.{AreLines}
use Rattle.text_scan.specs.Lines.{Line, begins_with}
use Rattle.text_scan.specs.Words.{is_name}
use Rattle.text_scan.proofs.LineOrders.{AreLines-behind, AreLines-inner}
use Rattle.operation_spec.specs.declared.operation.Operation.{Operation}
use Rattle.operation_spec.specs.OperationLines.{operation_lines}
use Rattle.operation_spec.specs.ValidOperations.{HasNames, IsValid}
use Rattle.operation_spec.proofs.ImageParts.{map_nil}
use Rattle.operation_spec.proofs.NamesApart.{is_among-none}
use Rattle.operation_spec.proofs.OperationAgain.{spelled_operation_is_read}
use Rattle.job_text.specs.JobFaults.{operation_limit, operation_head_at, next_operation_at, operations_at}
use Rattle.job_text.proofs.ItemsAgain.{All-at, AllPairs-before}
use Rattle.job_text.proofs.SectionsAgain.{words_of, first_begins, first_block}

-- operations that a text can have
pub record AreOperations (ops : List Operation) : Type 0 where
  pub valid : All IsValid ops
  pub named : All HasNames ops
  pub few : length ops ≤ operation_limit
  pub once : AllPairs (λ a b. a.name ≢ b.name) ops

-- ---- a block

-- no test of its first line holds
operation_head_at-line : (end : ℕ) (found : List Operation) (line : Line) (name : List ℕ) → line.words ≡ codes "operation" ∷ name ∷ [] → line.number ≢ end → IsTrue (is_name name)
    → length found < operation_limit → All (λ op. op.name ≢ name) found → operation_head_at end found line ≡ Ok tt
unfolding operation_head_at
operation_head_at-line end found line name words inside named few others =
    let free = is_among-none (map (λ (op : Operation). op.name) found) name (All-map (λ other. other ≢ name) (λ (op : Operation). op.name) found others) in
    rw (ne_eqb line.number end inside, words, named, lt-leb operation_limit (length found) few, free) refl

-- an operation among others, and its lines before others
module _ (end : ℕ) (found : List Operation) (op : Operation) (ops all : List Operation) (line : Line) (lines rest : List Line) (parts : found ++ op ∷ ops ≡ all) (are : AreOperations all)
    (in_order : AreLines end (line ∷ (lines ++ rest))) (words : words_of (line ∷ lines) ≡ operation_lines op) where
  head_passes : operation_head_at end found line ≡ Ok tt
  head_passes =
      let first : line.words ≡ codes "operation" ∷ op.name ∷ [] = cc in
      let many : 0 < length (lines ++ rest) = omega (arith, length-append lines rest, length-map (line ∷ lines) (λ (l : Line). l.words), ap length words) in
      let few : length found < operation_limit = omega (arith, length-append found (op ∷ ops), ap length parts, are.few) in
      operation_head_at-line end found line op.name first (AreLines-inner line (lines ++ rest) in_order many) (All-at HasNames found op ops all parts are.named).own few
      (AllPairs-before (λ a b. a.name ≢ b.name) found op ops all parts are.once)

  -- the block is read as the operation
  next_operation_at-lines : next_operation_at end found line (lines ++ rest) ≡ Ok (op, rest)
  unfolding next_operation_at
  next_operation_at-lines =
      let read = spelled_operation_is_read end (line ∷ (lines ++ rest)) op rest in_order
      (record { text = (line ∷ lines, refl, words); valid = All-at IsValid found op ops all parts are.valid; names = All-at HasNames found op ops all parts are.named }) in
      rw (head_passes, read) refl

  -- it is found, and the lines behind it are left
  one_more_operation : (blocks : ℕ) → operations_at (suc blocks) end found (line ∷ (lines ++ rest)) ≡ operations_at blocks end (found ++ op ∷ []) rest
  unfolding operations_at
  one_more_operation blocks =
      let begins : begins_with (codes "operation") line.words ≡ true = let first : line.words ≡ codes "operation" ∷ op.name ∷ [] = cc in ap (begins_with (codes "operation")) first in
      rw (begins, next_operation_at-lines) refl

-- ---- all blocks

-- the lines begin with no operation
no_more_operations : (blocks end : ℕ) (found : List Operation) (lines : List Line) → first_begins (codes "operation") (words_of lines) ≡ false → operations_at blocks end found lines ≡ Ok (found, lines)
unfolding operations_at
no_more_operations zero end found lines other = refl
no_more_operations (suc blocks) end found [] other = refl
no_more_operations (suc blocks) end found (line ∷ lines) other = rw other refl

-- the operations behind those found; there are as many blocks at least
pub operations_at-lines : (end : ℕ) (found ops all : List Operation) (blocks : ℕ) (own rest : List Line) → found ++ ops ≡ all → AreOperations all → AreLines end (own ++ rest)
    → words_of own ≡ flat_map operation_lines ops → first_begins (codes "operation") (words_of rest) ≡ false → length ops ≤ blocks
    → operations_at blocks end found (own ++ rest) ≡ Ok (all, rest)
operations_at-lines end found [] all blocks own rest parts are in_order words other enough =
    let none : own ≡ [] = map_nil (λ (l : Line). l.words) own words in
    ap (λ (ls : List Line). operations_at blocks end found (ls ++ rest)) none ∙ no_more_operations blocks end found rest other ∙ ap (λ (ops : List Operation). Ok (ops, rest)) (sym (append-nil found) ∙ parts)
operations_at-lines end found (op ∷ ops) all zero own rest parts are in_order words other enough = absurd (omega arith)
operations_at-lines end found (op ∷ ops) all (suc blocks) own rest parts are in_order words other enough =
    let b = first_block own (operation_lines op) (flat_map operation_lines ops) (omega arith) words in
    let whole : own ++ rest ≡ b.line ∷ (b.lines ++ (b.behind ++ rest)) = ap (λ (ls : List Line). ls ++ rest) b.parts ∙ append_assoc (b.line ∷ b.lines) b.behind rest in
    let all_in_order = subst (AreLines end) whole in_order in
    ap (operations_at (suc blocks) end found) whole
    ∙ one_more_operation end found op ops all b.line b.lines (b.behind ++ rest) parts are all_in_order b.words blocks
    ∙ operations_at-lines end (found ++ op ∷ []) ops all blocks b.behind rest (append_assoc found (op ∷ []) ops ∙ parts) are (AreLines-behind (b.line ∷ b.lines) (b.behind ++ rest) all_in_order)
    b.behind_words other (omega arith)
