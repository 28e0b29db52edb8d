-- The faults of a worksheet's text: those that other texts have, too, and a split's dimensions that are out of order.
use Rattle.std.specs.Prelude.{ℕ, Option, Some, None, Result, Ok, Err}
use Rattle.text_scan.specs.Faults.{Fault, ◌on◌}
use Rattle.text_scan.specs.FaultKinds.{NameUnknown, Syntax}
use Rattle.worksheet_text.specs.declared.fault.WsFault.{WsFault}
use Rattle.worksheet_text.specs.declared.fault.WsFault.TheVariants as ws_faults

-- a fault of any text, or, on a line, a second dimension that isn't declared after the first
pub data SheetFault : Type 0 where
  Text : Fault → SheetFault
  SplitOrder : ℕ → SheetFault

abbrev pub syntax : ℕ → SheetFault
syntax line = Text (Syntax on line)

abbrev pub unknown : ℕ → SheetFault
unknown line = Text (NameUnknown on line)

-- the fault that an error names; want of memory names none
abbrev pub ws_fault : WsFault → Option SheetFault
ws_fault ws_faults.Memory = None
ws_fault (ws_faults.Syntax line) = Some (syntax line)
ws_fault (ws_faults.NameUnknown line) = Some (unknown line)
ws_fault (ws_faults.SplitOrder line) = Some (SplitOrder line)

-- what was read, with the fault of a text as one of a worksheet's
abbrev pub as_text : {A : Type 0} → Result A Fault → Result A SheetFault
as_text (Ok x) = Ok x
as_text (Err fault) = Err (Text fault)
