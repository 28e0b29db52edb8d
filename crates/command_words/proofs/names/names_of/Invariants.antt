use Rattle.std.proofs.Common.{◌≡◌, ◌++◌, drop, map}
use Rattle.std.specs.Prelude.{string_bytes}
use Rattle.command_words.proofs.names.names_of.Given as goal

-- the names so far, and the words that are left
abbrev pub invariant-loop-word : goal.invariant-loop-word
invariant-loop-word l = l.names ++ map string_bytes (drop l.word-index l.words) ≡ map string_bytes l.words
