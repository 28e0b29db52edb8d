use Rattle.text_scan.proofs.NormalScans.{normal_text_scanned, end_line_of-normal_text}
use Rattle.text_scan.proofs.laws.normal_texts_are_scanned.Goals as goal

pub returns : goal.returns
returns c = record { tokens = normal_text_scanned; end_line = end_line_of-normal_text }
