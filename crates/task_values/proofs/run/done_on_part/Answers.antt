use Rattle.task_values.proofs.run.done_on_part.Goals as goal

pub write_pivots-requires-clause-can : goal.write_pivots-requires-clause-can
write_pivots-requires-clause-can c = c.requires.can.inverts c.in-Pivots.is

pub apply-requires-clause-can : goal.apply-requires-clause-can
apply-requires-clause-can c = c.requires.can.applies c.in_default.not-Pivots

pub returns-in-Pivots-clause-outcome : goal.returns-in-Pivots-clause-outcome
returns-in-Pivots-clause-outcome c = record {
  inverted = λ kind. c.write_pivots.ensures.outcome;
  applied = λ apart. absurd (apart c.in-Pivots.is);
}

pub returns-in_default-clause-outcome : goal.returns-in_default-clause-outcome
returns-in_default-clause-outcome c = record {
  inverted = λ kind. absurd (c.in_default.not-Pivots kind);
  applied = λ apart. c.apply.ensures.outcome;
}
