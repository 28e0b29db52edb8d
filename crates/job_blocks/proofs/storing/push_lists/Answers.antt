use Rattle.std.proofs.Common.{◌≡◌, ◌<◌, ◌≤◌, ◌++◌, List, length, append-nil, get_or, sym, subst, ap, ◌∙◌, arith}
use Rattle.std.specs.List.{flat_map}
use Rattle.std.proofs.lemmas.List.{drop_all}
use Rattle.equation.specs.declared.job.Statement.{Statement}
use Rattle.equation.specs.Jobs.{IsStatement}
use Rattle.step_replays.specs.Accesses.{no_statement}
use Rattle.job_blocks.specs.Tables.{zero_list}
use Rattle.job_blocks.proofs.NumberedBlocks.{lists-more}
use Rattle.job_blocks.proofs.TableSteps.{statement-own}
use Rattle.job_blocks.proofs.storing.push_lists.Goals as goal

pub push_list-requires : goal.push_list-requires
push_list-requires c =
    let own = statement-own c.args.job.now c.as_slice-statements.result.now c.loop-statement.statement-index c.statement-item.result c.as_slice-statements.ensures
    c.loop-statement-test.true c.statement-item.is in
    let below : c.loop-statement.statement-index < length c.args.job.now.statements =
    omega (arith, c.loop-statement-test.true, ap (λ (xs : List Statement). length xs) c.as_slice-statements.ensures) in
    subst (IsStatement c.args.job.now) (sym own) (c.requires.statements c.loop-statement.statement-index no_statement below)

pub loop-statement-preserved : goal.loop-statement-preserved
loop-statement-preserved c =
    let below : c.loop-statement.statement-index < length c.args.job.now.statements =
    omega (arith, c.loop-statement-test.true, ap (λ (xs : List Statement). length xs) c.as_slice-statements.ensures) in
    let read : c.statement-item.result ≡ get_or c.args.job.now.statements c.loop-statement.statement-index c.statement-item.result =
    c.statement-item.is ∙ ap (λ (xs : List Statement). get_or xs c.loop-statement.statement-index c.statement-item.result) c.as_slice-statements.ensures in
    lists-more c.args.job.now c.loop-statement.statement-index c.statement-item.result c.loop-statement.blocks.items _ below read c.in_ok-push_list.ensures
    ∙ c.loop-statement.invariant

pub returns : goal.returns
returns c =
    let all : length c.args.job.now.statements ≤ c.loop-statement.statement-index =
    omega (arith, ap (λ (xs : List Statement). length xs) c.as_slice-statements.ensures) in
    sym (append-nil c.loop-statement.blocks.items)
    ∙ ap (λ (rest : List Statement). c.loop-statement.blocks.items ++ flat_map (zero_list c.args.job.now) rest) (sym (drop_all c.loop-statement.statement-index c.args.job.now.statements all))
    ∙ c.loop-statement.invariant
