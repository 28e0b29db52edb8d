use Rattle.fault_laws.proofs.FaultsStay.{texts_cut}
use Rattle.fault_laws.proofs.laws.cut_texts_end_too_early.Goals as goal

pub returns : goal.returns
returns c = texts_cut
