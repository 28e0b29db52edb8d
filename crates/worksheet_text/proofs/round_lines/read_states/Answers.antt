use Rattle.std.proofs.Common.{◌∙◌}
use Rattle.std.proofs.lemmas.Result.{err_from_is_err_and}
use Rattle.worksheet_text.specs.SheetFaults.{ws_fault}
use Rattle.worksheet_text.specs.SheetReading.{state_at}
use Rattle.worksheet_text.proofs.EachLine.{each-end, each-fault, each-next}
use Rattle.worksheet_text.proofs.round_lines.read_states.Goals as goal

pub returns-in_err-state-clause-states : goal.returns-in_err-state-clause-states
returns-in_err-state-clause-states c =
    let p = err_from_is_err_and c.from_residual.result c.from_residual.ensures.1 in
    rw (p.1, p.2) (each-fault c.args.word.now (state_at c.args.lines.now.end) c.loop-line.found _ _ _ (ws_fault c.in_err-state.field-0.0) _ c.loop-line.invariant.on c.in-Some.ensures.1 c.in-Some.ensures.0
    (rw c.end-end.ensures at c.in_err-state.ensures))

pub loop-line-preserved : goal.loop-line-preserved
loop-line-preserved c = record {
  end = c.in-Some.ensures.2 ∙ c.loop-line.invariant.end;
  on = rw c.in_ok-push.ensures.ok (each-next c.args.word.now (state_at c.args.lines.now.end) c.loop-line.found _ _ _ c.in_ok-state.state _ c.loop-line.invariant.on c.in-Some.ensures.1 c.in-Some.ensures.0
      (rw c.end-end.ensures at c.in_ok-state.ensures));
}

pub returns-clause-states : goal.returns-clause-states
returns-clause-states c =
    rw c.in_default.ensures.1 (each-end c.args.word.now (state_at c.args.lines.now.end) c.loop-line.found _ _ c.loop-line.invariant.on c.in_default.ensures.0)
