use Rattle.command_words.proofs.VariantWords.{AreRead, texts}
use Rattle.command_words.proofs.numbers.variants_in.Given as goal

-- the numbers so far are those of the pieces so far
abbrev pub invariant-loop-piece : goal.invariant-loop-piece
invariant-loop-piece l = AreRead l.word (texts l.piece-items) l.piece-index l.numbers
