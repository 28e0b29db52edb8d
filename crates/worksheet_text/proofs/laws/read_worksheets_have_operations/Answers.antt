use Rattle.worksheet_text.proofs.ReadOperations.{found_in_bytes}
use Rattle.worksheet_text.proofs.laws.read_worksheets_have_operations.Goals as goal

pub returns : goal.returns
returns c bytes rest operations w read = found_in_bytes bytes rest operations w read
