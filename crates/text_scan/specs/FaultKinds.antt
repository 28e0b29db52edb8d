-- What can be wrong with a text that is read by its lines.

pub data FaultKind : Type 0 where
  BadByte : FaultKind
  Header : FaultKind
  TrailingText : FaultKind
  Syntax : FaultKind
  Modulus : FaultKind
  Limit : FaultKind
  NameTwice : FaultKind
  NameUnknown : FaultKind
  TooManyTerms : FaultKind
  Shape : FaultKind
  Form : FaultKind
  TooLarge : FaultKind
  RowLength : FaultKind
  EntryRange : FaultKind
  Binding : FaultKind
  Alias : FaultKind
