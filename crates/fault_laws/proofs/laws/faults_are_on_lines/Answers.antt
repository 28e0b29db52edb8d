use Rattle.fault_laws.proofs.FaultsStay.{in_text}
use Rattle.fault_laws.proofs.laws.faults_are_on_lines.Goals as goal

pub returns : goal.returns
returns c = in_text
