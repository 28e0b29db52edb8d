use Rattle.std.proofs.Common.{◌≡◌, drop, map}
use Rattle.std.specs.List.{list_all}
use Rattle.std.specs.Prelude.{string_bytes}
use Rattle.command_words.specs.Words.{may_name}
use Rattle.command_words.proofs.names.may_all_name.Given as goal

-- all may name where those that are left may
abbrev pub invariant-loop-word : goal.invariant-loop-word
invariant-loop-word l = list_all may_name (map string_bytes (drop l.word-index l.words)) ≡ list_all may_name (map string_bytes l.words)
