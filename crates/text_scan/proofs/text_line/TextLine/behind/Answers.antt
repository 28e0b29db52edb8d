use Rattle.std.proofs.Common.{sym, ap, ◌∙◌}
use Rattle.std.proofs.lemmas.List.{drop-map}
use Rattle.text_scan.specs.Words.{word}
use Rattle.text_scan.specs.TokenWords.{words_of}
use Rattle.text_scan.proofs.text_line.TextLine.behind.Goals as goal

pub returns : goal.returns
returns c = ap (words_of c.self.inside.bytes.now) c.tokens_behind.ensures ∙ rw (← c.self.view_is) (sym (drop-map (word c.self.inside.bytes.now) c.args.at c.self.inside.tokens.now))
