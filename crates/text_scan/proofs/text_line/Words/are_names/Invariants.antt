use Rattle.std.proofs.Common.{◌≡◌, drop}
use Rattle.std.specs.List.{list_all}
use Rattle.text_scan.specs.TokenWords.{words_of}
use Rattle.text_scan.specs.Words.{is_name}
use Rattle.text_scan.proofs.text_line.Words.are_names.Given as goal

-- all are names where those that are left are
abbrev pub invariant-loop-token : goal.invariant-loop-token
invariant-loop-token l = list_all is_name (words_of l.bytes (drop l.token-index l.token-items)) ≡ list_all is_name (words_of l.bytes l.token-items)
