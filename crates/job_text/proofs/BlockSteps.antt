-- Blocks of a section, read one after another. Cited by the readers of operations and of matrices.
use Rattle.std.proofs.Common.{◌≡◌, ℕ, zero, suc, true, false, List, [], ◌∷◌, ◌++◌, codes, Option, Result, Ok, refl, sym, ap, ◌∙◌}
use Rattle.byte_texts.specs.Reading.{◌>>=◌, EndsWith}
use Rattle.byte_texts.proofs.Binding.{EndsWith-along, EndsWith-bind}
use Rattle.text_scan.specs.Faults.{Fault}
use Rattle.text_scan.specs.Lines.{Line, begins}
use Rattle.operation_spec.specs.declared.operation.Operation.{Operation}
use Rattle.matrix_text.specs.MatrixFaults.{NamedGrid}
use Rattle.job_text.specs.JobFaults.{Matrices, matrices_at, operations_at, with_matrix}
use Rattle.job_text.specs.Sections.{matrix_in, operation_in}

-- ---- operations: what is read of all lines is what is read of those that are left, behind what was found

-- at a block its reading comes first
operations_at-block : (left end : ℕ) (found : List Operation) (lines : List Line) → begins (codes "operation") lines ≡ true
    → operations_at (suc left) end found lines ≡ (operation_in end found lines >>= λ read. operations_at left end (found ++ read.0 ∷ []) read.1)
unfolding operations_at
operations_at-block left end found [] here = absurd cc
operations_at-block left end found (line ∷ lines) here = rw here refl

module _ (left end : ℕ) (found : List Operation) (lines : List Line) (all : Result (List Operation × List Line) Fault)
    (so_far : operations_at (suc left) end found lines ≡ all) (here : begins (codes "operation") lines ≡ true) where
  operation_first : all ≡ (operation_in end found lines >>= λ read. operations_at left end (found ++ read.0 ∷ []) read.1)
  operation_first = sym so_far ∙ operations_at-block left end found lines here

  pub operations-next : (rest : List Line) (op : Operation) → operation_in end found lines ≡ Ok (op, rest) → operations_at left end (found ++ op ∷ []) rest ≡ all
  operations-next rest op read = sym (operation_first ∙ ap (λ (r : Result (Operation × List Line) Fault). r >>= λ read. operations_at left end (found ++ read.0 ∷ []) read.1) read)

  pub operations-fault : (fault : Option Fault) → EndsWith fault (operation_in end found lines) → EndsWith fault all
  operations-fault fault ends = EndsWith-along fault all _ operation_first (EndsWith-bind fault (operation_in end found lines) _ ends)

-- there are no further blocks
pub operations-end : (blocks end : ℕ) (found : List Operation) (lines : List Line) → begins (codes "operation") lines ≡ false → operations_at blocks end found lines ≡ Ok (found, lines)
unfolding operations_at
operations-end zero end found lines other = refl
operations-end (suc blocks) end found [] other = refl
operations-end (suc blocks) end found (line ∷ lines) other = rw other refl

-- ---- matrices

matrices_at-block : (left end m : ℕ) (found : Matrices) (lines : List Line) → begins (codes "matrix") lines ≡ true
    → matrices_at (suc left) end m found lines ≡ (matrix_in end m found lines >>= λ read. matrices_at left end m (with_matrix found read.0) read.1)
unfolding matrices_at
matrices_at-block left end m found [] here = absurd cc
matrices_at-block left end m found (line ∷ lines) here = rw here refl

module _ (left end m : ℕ) (found : Matrices) (lines : List Line) (all : Result (Matrices × List Line) Fault)
    (so_far : matrices_at (suc left) end m found lines ≡ all) (here : begins (codes "matrix") lines ≡ true) where
  matrix_first : all ≡ (matrix_in end m found lines >>= λ read. matrices_at left end m (with_matrix found read.0) read.1)
  matrix_first = sym so_far ∙ matrices_at-block left end m found lines here

  pub matrices-next : (rest : List Line) (new : NamedGrid) → matrix_in end m found lines ≡ Ok (new, rest) → matrices_at left end m (with_matrix found new) rest ≡ all
  matrices-next rest new read = sym (matrix_first ∙ ap (λ (r : Result (NamedGrid × List Line) Fault). r >>= λ read. matrices_at left end m (with_matrix found read.0) read.1) read)

  pub matrices-fault : (fault : Option Fault) → EndsWith fault (matrix_in end m found lines) → EndsWith fault all
  matrices-fault fault ends = EndsWith-along fault all _ matrix_first (EndsWith-bind fault (matrix_in end m found lines) _ ends)

pub matrices-end : (blocks end m : ℕ) (found : Matrices) (lines : List Line) → begins (codes "matrix") lines ≡ false → matrices_at blocks end m found lines ≡ Ok (found, lines)
unfolding matrices_at
matrices-end zero end m found lines other = refl
matrices-end (suc blocks) end m found [] other = refl
matrices-end (suc blocks) end m found (line ∷ lines) other = rw other refl
