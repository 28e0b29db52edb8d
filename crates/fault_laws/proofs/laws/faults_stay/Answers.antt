use Rattle.fault_laws.proofs.FaultsStay.{bad_bytes_stay, faults_stay}
use Rattle.fault_laws.proofs.laws.faults_stay.Goals as goal

pub returns : goal.returns
returns c = record {
  told = λ stop front more other tokens fault is kind above scanned. faults_stay stop front more other tokens fault is kind above scanned;
  bad_byte = bad_bytes_stay;
}
