use Rattle.std.proofs.Common.{◌∙◌, sym, ap, length}
use Rattle.std.proofs.lemmas.Bool.{eqb-true, eqb-false}
use Rattle.std.proofs.lemmas.List.{nil_from_length}
use Rattle.command_words.proofs.NumberWords.{whole_word, part_of_word, no_number}
use Rattle.command_words.proofs.numbers.word_number.Goals as goal

pub returns-then-is_empty : goal.returns-then-is_empty
returns-then-is_empty c =
    whole_word c.args.word.now c.in-Some.value c.in-Some.rest.now c.in-Some.ensures (nil_from_length c.in-Some.rest.now (eqb-true _ _ (sym c.is_empty.ensures ∙ c.if-is_empty.true)))

pub returns-else-is_empty : goal.returns-else-is_empty
returns-else-is_empty c =
    part_of_word c.args.word.now c.in-Some.value c.in-Some.rest.now c.in-Some.ensures (λ none. eqb-false (length c.in-Some.rest.now) 0 (sym c.is_empty.ensures ∙ c.if-is_empty.false) (ap length none))

pub returns-in-None : goal.returns-in-None
returns-in-None c = no_number c.args.word.now c.in-None.ensures
