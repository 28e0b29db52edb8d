use Rattle.std.proofs.Common.{◌≡◌, ◌∙◌, ◌<◌, ℕ, List, drop, length, map, All, sym, ap, subst}
use Rattle.text_scan.specs.Names.{number_of}
use Rattle.job_text.specs.MatricesSeen.{matrices_seen}
use Rattle.job_text.proofs.LineSteps.{found_at, past_end, statement_at-bound, statement_at-none}
use Rattle.job_text.proofs.StatementsTaken.{numbers_below}
use Rattle.job_text.proofs.statements.read_statement.Goals as goal

pub bind-requires : goal.bind-requires
bind-requires c =
    let names = c.args.matrices.now.names in
    let words = drop 2 c.args.line.now.words in
    let is : c.deref.result.now ≡ map (number_of names) words = c.deref.ensures.value ∙ (rw (c.as_slice.ensures, c.behind.ensures) at c.in_ok-bound.ensures) in
    let count : length names ≡ length c.as_slice-in-Some.result.now = c.requires.named ∙ sym (ap length c.as_slice-in-Some.ensures) in
    let below : All (λ k. k < length names) (map (number_of names) words) = numbers_below names words c.in_ok-statement_head.ensures.known in
    subst (λ (numbers : List ℕ). All (λ k. k < length c.as_slice-in-Some.result.now) numbers) (sym is) (subst (λ n. All (λ k. k < n) (map (number_of names) words)) count below)

pub returns-in-Some : goal.returns-in-Some
returns-in-Some c =
    let line = c.args.line.now in
    let is = rw c.word.ensures at c.operation_number-n.ensures.value in
    let are = c.deref.ensures.value ∙ (rw (c.as_slice.ensures, c.behind.ensures) at c.in_ok-bound.ensures) in
    rw (statement_at-bound c.args.operations.now (matrices_seen c.args.matrices.now) c.args.found.now line c.operation_number-n.result c.deref.result.now c.in_ok-statement_head.ensures.head is are c.in-Some.op.now (found_at c.args.operations.now c.operation_number-n.result c.in-Some.op.now c.in-Some.ensures.lookup.3.0 c.in-Some.ensures.lookup.1))
    (rw (c.as_slice-in-Some.ensures, c.number-number.ensures) at (c.bind.ensures line.words))

pub returns : goal.returns
returns c =
    let line = c.args.line.now in
    let is = rw c.word.ensures at c.operation_number-n.ensures.value in
    let are = rw (c.as_slice.ensures, c.behind.ensures) at c.in_ok-bound.ensures in
    rw c.number-number.ensures (statement_at-none c.args.operations.now (matrices_seen c.args.matrices.now) c.args.found.now line c.operation_number-n.result _ c.in_ok-statement_head.ensures.head is are (past_end c.args.operations.now c.operation_number-n.result c.in-None.ensures.lookup.3))
