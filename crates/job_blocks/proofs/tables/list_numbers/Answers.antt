use Rattle.std.proofs.Common.{◌≡◌, ℕ, ◌+◌, ◌<◌, ◌++◌, ◌∷◌, [], List, length, subst, sym, ap, ◌∙◌, arith}
use Rattle.equation.specs.declared.job.Statement.{Statement}
use Rattle.equation.specs.Jobs.{IsStatement}
use Rattle.step_replays.specs.Accesses.{no_statement}
use Rattle.job_blocks.proofs.BlockCounts.{lists_of-take}
use Rattle.job_blocks.proofs.TableSteps.{first_items, items-more, list-more, list_start, statement-own}
use Rattle.job_blocks.proofs.tables.list_numbers.Goals as goal

pub loop-statement-init : goal.loop-statement-init
loop-statement-init c = record {
  items = c.in_ok-push.ensures.items ∙ ap (λ (xs : List ℕ). xs ++ c.args.first ∷ []) c.in_ok-numbers.ensures.items ∙ start;
  next = none;
}
  where
    none : c.args.first ≡ list_start c.args.job.now c.args.first 0
    none = omega arith

    start : c.args.first ∷ [] ≡ first_items (list_start c.args.job.now c.args.first) 1
    start = ap (λ (n : ℕ). n ∷ []) none

pub list_count-next-requires : goal.list_count-next-requires
list_count-next-requires c =
    let own = statement-own c.args.job.now c.as_slice-statements.result.now c.loop-statement.statement-index c.statement-item.result c.as_slice-statements.ensures
    c.loop-statement-test.true c.statement-item.is in
    let below : c.loop-statement.statement-index < length c.args.job.now.statements =
    omega (arith, c.loop-statement-test.true, ap (λ (xs : List Statement). length xs) c.as_slice-statements.ensures) in
    subst (IsStatement c.args.job.now) (sym own) (c.requires.job.statements c.loop-statement.statement-index no_statement below)

pub overflow_add-next : goal.overflow_add-next
overflow_add-next c =
    let own = statement-own c.args.job.now c.as_slice-statements.result.now c.loop-statement.statement-index c.statement-item.result c.as_slice-statements.ensures
    c.loop-statement-test.true c.statement-item.is in
    let below : c.loop-statement.statement-index < length c.args.job.now.statements =
    omega (arith, c.loop-statement-test.true, ap (λ (xs : List Statement). length xs) c.as_slice-statements.ensures) in
    let step = list-more c.args.job.now c.args.first c.loop-statement.statement-index c.list_count-next.result c.statement-item.result below own c.list_count-next.ensures in
    omega (arith, step, lists_of-take c.args.job.now c.args.job.now.statements (c.loop-statement.statement-index + 1), c.requires.few, c.loop-statement.invariant.next)

pub loop-statement-preserved : goal.loop-statement-preserved
loop-statement-preserved c =
    let own = statement-own c.args.job.now c.as_slice-statements.result.now c.loop-statement.statement-index c.statement-item.result c.as_slice-statements.ensures
    c.loop-statement-test.true c.statement-item.is in
    let below : c.loop-statement.statement-index < length c.args.job.now.statements =
    omega (arith, c.loop-statement-test.true, ap (λ (xs : List Statement). length xs) c.as_slice-statements.ensures) in
    let step = list-more c.args.job.now c.args.first c.loop-statement.statement-index c.list_count-next.result c.statement-item.result below own c.list_count-next.ensures in
    let last : c.loop-statement.next + c.list_count-next.result ≡ list_start c.args.job.now c.args.first (c.loop-statement.statement-index + 1) =
    omega (arith, step, c.loop-statement.invariant.next) in
    record {
      items = c.in_ok-push-2.ensures.items
          ∙ items-more (list_start c.args.job.now c.args.first) c.loop-statement.numbers.items (c.loop-statement.statement-index + 1) (c.loop-statement.next + c.list_count-next.result)
          c.loop-statement.invariant.items last;
      next = last;
    }

pub returns : goal.returns
returns c =
    let done : c.loop-statement.statement-index ≡ length c.args.job.now.statements =
    omega (arith, ap (λ (xs : List Statement). length xs) c.as_slice-statements.ensures) in
    c.loop-statement.invariant.items ∙ ap (λ (n : ℕ). first_items (list_start c.args.job.now c.args.first) (n + 1)) done
