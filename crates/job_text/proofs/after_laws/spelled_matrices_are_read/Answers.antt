use Rattle.std.proofs.Common.{arith}
use Rattle.job_text.proofs.AfterAgain.{after_read}
use Rattle.job_text.proofs.after_laws.spelled_matrices_are_read.Goals as goal

pub returns : goal.returns
returns c = λ bytes rest job grids valid short is. after_read bytes rest job grids (omega (arith, valid.modulus.below_limit)) short is
