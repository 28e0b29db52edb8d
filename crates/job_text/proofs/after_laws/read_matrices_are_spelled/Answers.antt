use Rattle.std.proofs.Common.{arith}
use Rattle.job_text.proofs.AfterTaken.{after_spelled}
use Rattle.job_text.proofs.after_laws.read_matrices_are_spelled.Goals as goal

pub returns : goal.returns
returns c = λ bytes rest job grids valid short read. after_spelled bytes rest job grids (omega (arith, valid.modulus.below_limit)) short read
