use Rattle.fault_laws.proofs.AfterFaultsStay.{after_faults_stay}
use Rattle.fault_laws.proofs.laws.after_faults_stay.Goals as goal

pub returns : goal.returns
returns c = λ front more other rest job tokens fault within is kind above scanned. after_faults_stay job front more other rest tokens fault within is kind above scanned
