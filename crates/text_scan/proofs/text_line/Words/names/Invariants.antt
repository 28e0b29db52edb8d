use Rattle.std.proofs.Common.{◌≡◌, ◌++◌, drop}
use Rattle.text_scan.specs.TokenWords.{words_of}
use Rattle.text_scan.proofs.text_line.Words.names.Given as goal

-- the names so far, and the words that are left
abbrev pub invariant-loop-token : goal.invariant-loop-token
invariant-loop-token l = l.names ++ words_of l.bytes (drop l.token-index l.token-items) ≡ words_of l.bytes l.token-items
