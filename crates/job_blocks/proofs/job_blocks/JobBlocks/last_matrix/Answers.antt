use Rattle.std.proofs.Common.{◌≡◌, ℕ, List, length, take, drop, refl, ap, ◌∙◌, arith}
use Rattle.std.proofs.lemmas.Result.{IfOk-weaker}
use Rattle.residue_sums.specs.Grids.{Grid}
use Rattle.equation.specs.declared.job.Job.{Job}
use Rattle.step_replays.specs.Accesses.{blocks_in}
use Rattle.flash_blocks.specs.Blocks.{gathered, grid_of}
use Rattle.flash_blocks.specs.Flashes.{BlockedGrid, flash_block}
use Rattle.job_blocks.proofs.BlockCounts.{blocks_in-more}
use Rattle.job_blocks.proofs.GatherSteps.{own, own-count, own-gathered, own-shapes}
use Rattle.job_blocks.proofs.ReadSteps.{matrix-read}
use Rattle.job_blocks.proofs.job_blocks.JobBlocks.last_matrix.Goals as goal

pub start-requires : goal.start-requires
start-requires c = omega (arith, c.requires.matrix)

pub split_off-requires : goal.split_off-requires
split_off-requires c =
    omega (arith, c.start.ensures, c.requires.count, blocks_in-more c.args.self.now.b c.args.self.now.job.matrices c.args.k c.requires.matrix, c.args.blocks.now.ok.0)

pub bounds-as_slice-k : goal.bounds-as_slice-k
bounds-as_slice-k c =
    let all : c.as_slice.result.now ≡ c.args.self.now.job.matrices = c.as_slice.ensures ∙ ap (λ (j : Job). j.matrices) c.job.ensures.job in
    omega (arith, c.requires.matrix, ap (λ (xs : List Grid). length xs) all)

pub from_blocks-flash-requires : goal.from_blocks-flash-requires
from_blocks-flash-requires c =
    let x = c.args.self.now in
    let g = matrix-read x c.args.k c.as_slice.result.now c.index-as_slice-k.result c.requires.matrix
    (c.as_slice.ensures ∙ ap (λ (j : Job). j.matrices) c.job.ensures.job) c.index-as_slice-k.is in
    let items : c.in_ok-own.own.items ≡ drop (blocks_in x.b (take c.args.k x.job.matrices)) c.args.blocks.now.items =
    c.in_ok-own.ensures.tail ∙ ap (λ (n : ℕ). drop n c.args.blocks.now.items) c.start.ensures in
    record {
      size = c.b.ensures.positive;
      count = rw (items, c.b.ensures.size, c.rows.ensures.rows, c.cols.ensures.cols, g) (own-count x c.args.k c.args.blocks.now.items c.requires.matrix c.requires.count);
    }

pub gather-requires : goal.gather-requires
gather-requires c =
    let x = c.args.self.now in
    let g = matrix-read x c.args.k c.as_slice.result.now c.index-as_slice-k.result c.requires.matrix
    (c.as_slice.ensures ∙ ap (λ (j : Job). j.matrices) c.job.ensures.job) c.index-as_slice-k.is in
    let items : c.in_ok-own.own.items ≡ drop (blocks_in x.b (take c.args.k x.job.matrices)) c.args.blocks.now.items =
    c.in_ok-own.ensures.tail ∙ ap (λ (n : ℕ). drop n c.args.blocks.now.items) c.start.ensures in
    rw (c.from_blocks-flash.ensures, items, c.b.ensures.size, c.rows.ensures.rows, c.cols.ensures.cols, g)
    (own-shapes x c.args.k c.args.blocks.now.items c.requires.matrix c.requires.count c.requires.shapes)

pub returns-clause-matrix : goal.returns-clause-matrix
returns-clause-matrix c =
    let x = c.args.self.now in
    let g = matrix-read x c.args.k c.as_slice.result.now c.index-as_slice-k.result c.requires.matrix
    (c.as_slice.ensures ∙ ap (λ (j : Job). j.matrices) c.job.ensures.job) c.index-as_slice-k.is in
    let items : c.in_ok-own.own.items ≡ drop (blocks_in x.b (take c.args.k x.job.matrices)) c.args.blocks.now.items =
    c.in_ok-own.ensures.tail ∙ ap (λ (n : ℕ). drop n c.args.blocks.now.items) c.start.ensures in
    let flash : c.from_blocks-flash.result ≡ own x c.args.k c.args.blocks.now.items =
    rw (c.from_blocks-flash.ensures, items, c.b.ensures.size, c.rows.ensures.rows, c.cols.ensures.cols, g) refl in
    IfOk-weaker c.gather.result _ _ (λ m made. made
    ∙ ap (λ (f : BlockedGrid). grid_of (gathered f.b (flash_block f)) f.rows f.cols) flash
    ∙ own-gathered x c.args.k c.args.blocks.now.items) c.gather.ensures

pub returns-clause-rest : goal.returns-clause-rest
returns-clause-rest c =
    IfOk-weaker c.gather.result _ _ (λ m made. c.in_ok-own.ensures.items ∙ ap (λ (n : ℕ). take n c.args.blocks.now.items) c.start.ensures) c.gather.ensures
