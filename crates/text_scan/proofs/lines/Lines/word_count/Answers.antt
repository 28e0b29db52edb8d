use Rattle.std.proofs.Common.{sym}
use Rattle.text_scan.proofs.TokenParts.{word_count-lines_of}
use Rattle.text_scan.proofs.lines.Lines.word_count.Goals as goal

pub returns : goal.returns
returns c = rw (← c.self.view_is) (sym (word_count-lines_of c.self.inside.bytes.now c.self.inside.tokens.now))
