use Rattle.job_text.proofs.AfterPrinted.{printed_before_matrices, printed_matrices, printed_matrices_read}
use Rattle.job_text.proofs.after_laws.printed_matrices_are_spelled.Goals as goal

pub returns : goal.returns
returns c = record {
  job = λ job grids valid writable after. printed_before_matrices job valid writable grids after;
  matrices = λ job grids valid writable after. printed_matrices job valid writable grids after;
  read = λ job grids valid writable after. printed_matrices_read job valid writable grids after;
}
