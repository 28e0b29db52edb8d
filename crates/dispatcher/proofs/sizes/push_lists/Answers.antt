use Rattle.std.proofs.Common.{◌≡◌, ℕ, ◌+◌, ◌-◌, ◌<◌, length, get_or, ap, ◌∙◌, arith}
use Rattle.std.proofs.lemmas.List.{get_or_default}
use Rattle.equation.specs.declared.job.Job.{Job}
use Rattle.equation.specs.declared.job.Statement.{Statement}
use Rattle.step_replays.specs.Accesses.{no_statement, statement_of}
use Rattle.job_blocks.specs.Tables.{zero_list}
use Rattle.dispatcher.proofs.ShapeLists.{shapes-more}
use Rattle.dispatcher.proofs.sizes.push_lists.Goals as goal

pub loop-n-preserved : goal.loop-n-preserved
loop-n-preserved c =
    let job = c.args.blocks.now.job in
    let n : ℕ = c.loop-n.n in
    let s : Statement = statement_of job (n + 1) in
    let place : n + 1 - 1 ≡ n = omega arith in
    let below : n < length job.statements = omega (arith, c.loop-n-test.true, c.len-count.ensures, ap (λ (j : Job). length j.statements) c.job.ensures.job) in
    let read : s ≡ get_or job.statements n s = ap (λ (i : ℕ). get_or job.statements i no_statement) place ∙ get_or_default job.statements n no_statement s below in
    shapes-more (zero_list job) job.statements n s c.loop-n.sizes.items _ below read c.in_ok-push_list.ensures ∙ c.loop-n.invariant
