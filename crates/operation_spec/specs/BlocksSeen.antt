-- What was read of a block, as definitions speak of it, in front of the lines behind.
use Rattle.std.specs.Prelude.{List}
use Rattle.text_scan.specs.Lines.{Line}
use Rattle.operation_spec.specs.declared.declarations.Declarations.{Declarations}
use Rattle.operation_spec.specs.declared.declarations.KnownOperands.{KnownOperands}
use Rattle.operation_spec.specs.OperationFaults.{Declared, Knowns}

abbrev pub knowns_seen : List Line → KnownOperands → Knowns
knowns_seen rest k = record { operands = k.operands; line = k.next; rest = rest }

abbrev pub declared_seen : List Line → Declarations → Declared
declared_seen rest d = record { dims = d.dims; work = d.work; knowns = knowns_seen rest d.knowns }
