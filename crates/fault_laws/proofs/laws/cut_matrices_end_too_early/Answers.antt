use Rattle.fault_laws.proofs.AfterFaultsStay.{matrices_cut}
use Rattle.fault_laws.proofs.laws.cut_matrices_end_too_early.Goals as goal

pub returns : goal.returns
returns c = λ lines more rest job tokens fault within whole scanned late is. matrices_cut job lines more rest tokens fault within whole scanned late is
