use Rattle.std.proofs.Common.{inr, refl, subst, arith}
use Rattle.command_words.specs.declared.command.Command.{Command}
use Rattle.command_words.specs.Words.{ReadsInput}
use Rattle.command_words.proofs.OneCommand.{one_command}
use Rattle.flame_top.proofs.DueStatuses.{bad_is_due}
use Rattle.flame_top.proofs.Delivered.{nothing_taken, some_input, answers_from_Delivers, Answers-wider}
use Rattle.flame_top.proofs.program.top.Goals as goal

pub returns-in-Ok-None-clause-answers : goal.returns-in-Ok-None-clause-answers
returns-in-Ok-None-clause-answers g c =
    let input = some_input (g.S.Source.left c.args.source.now) in
    answers_from_Delivers _ _ _ _ _ 2 _ c.deliver.result (λ e. omega arith, λ e. omega arith, λ e. omega arith)
    (input.0, input.1, bad_is_due _ input.0 _ (rw c.in-Ok-None.field-0-is at c.in-Ok-None.ensures.none) refl) refl (nothing_taken (g.S.Source.left c.args.source.now)) c.deliver.ensures

pub returns-in-Ok-Some-clause-answers : goal.returns-in-Ok-Some-clause-answers
returns-in-Ok-Some-clause-answers g c =
    let named = rw c.in-Ok-Some.field-0-is at c.in-Ok-Some.ensures.found in
    Answers-wider _ _ (λ input status text is. inr (c.in-Ok-Some.command, named, is)) _ _ _ _ _ c.answer_named.ensures.answers

pub returns-in-Ok-Some-clause-ended : goal.returns-in-Ok-Some-clause-ended
returns-in-Ok-Some-clause-ended g c = λ command named reads due not.
    let found = rw c.in-Ok-Some.field-0-is at c.in-Ok-Some.ensures.found in
    let same = one_command _ command c.in-Ok-Some.command named found in
    c.answer_named.ensures.ended (subst (λ (x : Command). ReadsInput x) same reads) due not
