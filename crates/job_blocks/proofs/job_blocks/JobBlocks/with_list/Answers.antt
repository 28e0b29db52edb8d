use Rattle.std.proofs.Common.{◌≡◌, ℕ, List, [], ◌∷◌, ◌++◌, true, false, append-nil, refl, sym, ap, ◌∙◌}
use Rattle.std.proofs.lemmas.Result.{IfOk-weaker}
use Rattle.step_replays.specs.Accesses.{has_pivots, list_reads, pivot_number}
use Rattle.job_blocks.specs.BlockedJobs.{operation_at}
use Rattle.job_blocks.proofs.job_blocks.JobBlocks.with_list.Goals as goal

pub returns-then-has_pivots : goal.returns-then-has_pivots
returns-then-has_pivots c =
    let x = c.args.self.now in
    let pivots : has_pivots (operation_at x c.args.s) ≡ true = sym c.if-has_pivots.ensures in
    let own : c.list.result ∷ [] ≡ list_reads (operation_at x c.args.s) (pivot_number x.job x.b c.args.s) =
    rw pivots (ap (λ (n : ℕ). n ∷ []) c.list.ensures) in
    IfOk-weaker c.joined.result _ _ (λ reads made. made ∙ ap (λ (ns : List ℕ). c.args.diagonal.now ++ ns) own) c.joined.ensures

pub returns-else-has_pivots : goal.returns-else-has_pivots
returns-else-has_pivots c =
    let x = c.args.self.now in
    let none : has_pivots (operation_at x c.args.s) ≡ false = sym c.if-has_pivots.ensures in
    let own : [] ≡ list_reads (operation_at x c.args.s) (pivot_number x.job x.b c.args.s) = rw none refl in
    IfOk-weaker c.numbers.result _ _ (λ reads made. made ∙ sym (append-nil c.args.diagonal.now) ∙ ap (λ (ns : List ℕ). c.args.diagonal.now ++ ns) own) c.numbers.ensures
