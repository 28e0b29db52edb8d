-- Matrices under their names, as definitions speak of them.
use Rattle.job_text.specs.declared.blocks.NamedMatrices.{NamedMatrices}
use Rattle.job_text.specs.JobFaults.{Matrices}

abbrev pub matrices_seen : NamedMatrices → Matrices
matrices_seen found = record { names = found.names; grids = found.matrices }
