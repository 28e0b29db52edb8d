use Rattle.std.proofs.Common.{◌≡◌, ◌∷◌, [], ◌++◌, true, false, List, length, append-nil, refl, sym, ap, ◌∙◌, arith}
use Rattle.std.proofs.lemmas.List.{get_or_read}
use Rattle.std.proofs.lemmas.Result.{on_ok_weaker}
use Rattle.residue_sums.specs.Grids.{Grid}
use Rattle.equation.specs.Jobs.{nth_grid, no_grid}
use Rattle.step_replays.specs.Accesses.{has_pivots, operation_of, zero_list_by}
use Rattle.job_blocks.specs.Tables.{zero_list}
use Rattle.job_blocks.proofs.storing.push_list.Goals as goal

pub bounds-as_slice-statement : goal.bounds-as_slice-statement
bounds-as_slice-statement c = omega (arith, c.requires.fits.work_in, ap (λ (xs : List Grid). length xs) c.as_slice.ensures)

pub returns-then-has_pivots : goal.returns-then-has_pivots
returns-then-has_pivots c =
    let job = c.args.job.now in
    let s = c.args.statement.now in
    let pivots : has_pivots (operation_of job s) ≡ true = sym (c.if-has_pivots.ensures ∙ ap has_pivots c.operation_of-op.ensures) in
    let work : c.index-as_slice-statement.result ≡ nth_grid job.matrices s.bind.work =
    get_or_read c.as_slice.result.now s.bind.work c.index-as_slice-statement.result
    (omega (arith, c.requires.fits.work_in, ap (λ (xs : List Grid). length xs) c.as_slice.ensures)) c.index-as_slice-statement.is no_grid
    ∙ ap (λ (xs : List Grid). nth_grid xs s.bind.work) c.as_slice.ensures in
    let own : zero_list_by c.operation_of-op.result.now.form c.index-as_slice-statement.result ∷ [] ≡ zero_list job s =
    rw (pivots, work, c.operation_of-op.ensures) refl in
    on_ok_weaker c.push_zeros.result (λ made. made ∙ ap (λ (xs : List Grid). c.args.blocks.now.items ++ xs) own) c.push_zeros.ensures

pub returns-else-has_pivots : goal.returns-else-has_pivots
returns-else-has_pivots c =
    let job = c.args.job.now in
    let s = c.args.statement.now in
    let none : has_pivots (operation_of job s) ≡ false = sym (c.if-has_pivots.ensures ∙ ap has_pivots c.operation_of-op.ensures) in
    let own : [] ≡ zero_list job s = rw none refl in
    sym (append-nil c.args.blocks.now.items) ∙ ap (λ (xs : List Grid). c.args.blocks.now.items ++ xs) own
