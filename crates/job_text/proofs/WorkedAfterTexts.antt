-- The definitions of the second part of an input, computed on small texts: its matrices, or its fault.
use Rattle.std.proofs.Common.{◌≡◌, ℕ, List, [], ◌∷◌, Result, Ok, Err, refl, codes}
use Rattle.residue_sums.specs.Grids.{Grid}
use Rattle.byte_texts.specs.Reading.{◌>>=◌}
use Rattle.text_scan.specs.Faults.{Fault, ◌on◌}
use Rattle.text_scan.specs.FaultKinds.{Binding, EntryRange, RowLength, Syntax, TrailingText}
use Rattle.text_scan.specs.Tokens.{front_of, tokens_from}
use Rattle.operation_spec.specs.Equations.{equation_of}
use Rattle.operation_spec.specs.OperationFaults.{name_at, dims_at, work_at, known_at, knowns_at, sides_at, equation_at, end_at, declared_at, operation_at}
use Rattle.matrix_text.specs.MatrixFaults.{heading_at, row_at, next_row_at, rows_at, last_at, matrix_at}
use Rattle.job_text.specs.declared.stop.Stop.TheVariants.{After}
use Rattle.job_text.specs.AfterFaults.{after_at, after_head_at, after_in, block_at, blocks_at}
use Rattle.job_text.specs.JobFaults.{header_at, modulus_at, operation_head_at, next_operation_at, operations_at, matrix_head_at, next_matrix_at, matrices_at, bound_at, statement_head_at, statement_at, statements_at, print_at, prints_at, nothing_at, first_lines_at, job_at, sections_at}
use Rattle.job_text.specs.SpelledJobs.{job_in}

-- the matrices that a text has behind its job
read : List ℕ → Result (List Grid) Fault
read text = job_in After text >>= λ x. after_in text x.1 x.0

factors : read (codes "flame 1\nmodulus 101\noperation lu\ndims n\nwork W general n n\nequation lu X = W\nend\nmatrix A 2 2\n2 1\n4 5\nend\ndo lu A\nafter A 2 2\n2 1\n2 3\nend\n") ≡ Ok (record { rows = 2; cols = 2; entries = 2 ∷ 1 ∷ 2 ∷ 3 ∷ [] } ∷ [])
unfolding read job_in after_at blocks_at block_at after_head_at job_at sections_at first_lines_at nothing_at prints_at print_at statements_at statement_at statement_head_at bound_at matrices_at next_matrix_at matrix_head_at operations_at next_operation_at operation_head_at modulus_at header_at matrix_at last_at rows_at next_row_at row_at heading_at operation_at declared_at end_at equation_at sides_at knowns_at known_at work_at dims_at name_at equation_of tokens_from front_of
factors = refl

factors_at_the_end : read (codes "flame 1\nmodulus 101\noperation lu\ndims n\nwork W general n n\nequation lu X = W\nend\nmatrix A 2 2\n2 1\n4 5\nend\ndo lu A\n# c\nafter A 2 2\n2 1 # @\n\n2 3\nend") ≡ Ok (record { rows = 2; cols = 2; entries = 2 ∷ 1 ∷ 2 ∷ 3 ∷ [] } ∷ [])
unfolding read job_in after_at blocks_at block_at after_head_at job_at sections_at first_lines_at nothing_at prints_at print_at statements_at statement_at statement_head_at bound_at matrices_at next_matrix_at matrix_head_at operations_at next_operation_at operation_head_at modulus_at header_at matrix_at last_at rows_at next_row_at row_at heading_at operation_at declared_at end_at equation_at sides_at knowns_at known_at work_at dims_at name_at equation_of tokens_from front_of
factors_at_the_end = refl

no_block : read (codes "flame 1\nmodulus 101\noperation lu\ndims n\nwork W general n n\nequation lu X = W\nend\nmatrix A 2 2\n2 1\n4 5\nend\ndo lu A\n") ≡ Err (Syntax on 13)
unfolding read job_in after_at blocks_at block_at after_head_at job_at sections_at first_lines_at nothing_at prints_at print_at statements_at statement_at statement_head_at bound_at matrices_at next_matrix_at matrix_head_at operations_at next_operation_at operation_head_at modulus_at header_at matrix_at last_at rows_at next_row_at row_at heading_at operation_at declared_at end_at equation_at sides_at knowns_at known_at work_at dims_at name_at equation_of tokens_from front_of
no_block = refl

another_matrix : read (codes "flame 1\nmodulus 101\noperation lu\ndims n\nwork W general n n\nequation lu X = W\nend\nmatrix A 2 2\n2 1\n4 5\nend\ndo lu A\nafter B 2 2\n2 1\n2 3\nend\n") ≡ Err (Binding on 13)
unfolding read job_in after_at blocks_at block_at after_head_at job_at sections_at first_lines_at nothing_at prints_at print_at statements_at statement_at statement_head_at bound_at matrices_at next_matrix_at matrix_head_at operations_at next_operation_at operation_head_at modulus_at header_at matrix_at last_at rows_at next_row_at row_at heading_at operation_at declared_at end_at equation_at sides_at knowns_at known_at work_at dims_at name_at equation_of tokens_from front_of
another_matrix = refl

another_matrix_at_the_end : read (codes "flame 1\nmodulus 101\noperation lu\ndims n\nwork W general n n\nequation lu X = W\nend\nmatrix A 2 2\n2 1\n4 5\nend\ndo lu A\nafter B 2 2") ≡ Err (Syntax on 13)
unfolding read job_in after_at blocks_at block_at after_head_at job_at sections_at first_lines_at nothing_at prints_at print_at statements_at statement_at statement_head_at bound_at matrices_at next_matrix_at matrix_head_at operations_at next_operation_at operation_head_at modulus_at header_at matrix_at last_at rows_at next_row_at row_at heading_at operation_at declared_at end_at equation_at sides_at knowns_at known_at work_at dims_at name_at equation_of tokens_from front_of
another_matrix_at_the_end = refl

another_shape : read (codes "flame 1\nmodulus 101\noperation lu\ndims n\nwork W general n n\nequation lu X = W\nend\nmatrix A 2 2\n2 1\n4 5\nend\ndo lu A\nafter A 2 3\n2 1\n2 3\nend\n") ≡ Err (Binding on 13)
unfolding read job_in after_at blocks_at block_at after_head_at job_at sections_at first_lines_at nothing_at prints_at print_at statements_at statement_at statement_head_at bound_at matrices_at next_matrix_at matrix_head_at operations_at next_operation_at operation_head_at modulus_at header_at matrix_at last_at rows_at next_row_at row_at heading_at operation_at declared_at end_at equation_at sides_at knowns_at known_at work_at dims_at name_at equation_of tokens_from front_of
another_shape = refl

row_too_long : read (codes "flame 1\nmodulus 101\noperation lu\ndims n\nwork W general n n\nequation lu X = W\nend\nmatrix A 2 2\n2 1\n4 5\nend\ndo lu A\nafter A 2 2\n2 1\n2 3 4\nend\n") ≡ Err (RowLength on 15)
unfolding read job_in after_at blocks_at block_at after_head_at job_at sections_at first_lines_at nothing_at prints_at print_at statements_at statement_at statement_head_at bound_at matrices_at next_matrix_at matrix_head_at operations_at next_operation_at operation_head_at modulus_at header_at matrix_at last_at rows_at next_row_at row_at heading_at operation_at declared_at end_at equation_at sides_at knowns_at known_at work_at dims_at name_at equation_of tokens_from front_of
row_too_long = refl

entry_too_large : read (codes "flame 1\nmodulus 101\noperation lu\ndims n\nwork W general n n\nequation lu X = W\nend\nmatrix A 2 2\n2 1\n4 5\nend\ndo lu A\nafter A 2 2\n2 101\n2 3\nend\n") ≡ Err (EntryRange on 14)
unfolding read job_in after_at blocks_at block_at after_head_at job_at sections_at first_lines_at nothing_at prints_at print_at statements_at statement_at statement_head_at bound_at matrices_at next_matrix_at matrix_head_at operations_at next_operation_at operation_head_at modulus_at header_at matrix_at last_at rows_at next_row_at row_at heading_at operation_at declared_at end_at equation_at sides_at knowns_at known_at work_at dims_at name_at equation_of tokens_from front_of
entry_too_large = refl

line_behind : read (codes "flame 1\nmodulus 101\noperation lu\ndims n\nwork W general n n\nequation lu X = W\nend\nmatrix A 2 2\n2 1\n4 5\nend\ndo lu A\nafter A 2 2\n2 1\n2 3\nend\nprint A\n") ≡ Err (TrailingText on 17)
unfolding read job_in after_at blocks_at block_at after_head_at job_at sections_at first_lines_at nothing_at prints_at print_at statements_at statement_at statement_head_at bound_at matrices_at next_matrix_at matrix_head_at operations_at next_operation_at operation_head_at modulus_at header_at matrix_at last_at rows_at next_row_at row_at heading_at operation_at declared_at end_at equation_at sides_at knowns_at known_at work_at dims_at name_at equation_of tokens_from front_of
line_behind = refl
