use Rattle.std.proofs.Common.{◌≡◌, ℕ, ◌+◌, ◌-◌, ◌<◌, ◌≤◌, List, length, take, get_or, sym, subst, ap, ◌∙◌, arith}
use Rattle.std.proofs.lemmas.List.{get_or-reverse, length-reverse, length-take-le}
use Rattle.std.proofs.lemmas.List.FromFn.{length-map-range_with_len}
use Rattle.residue_sums.specs.Grids.{Grid}
use Rattle.equation.specs.declared.job.Job.{Job}
use Rattle.step_replays.specs.Accesses.{blocks_in}
use Rattle.job_blocks.specs.BlockedJobs.{HaveBlockShapesOf, gathered_matrix}
use Rattle.job_blocks.proofs.BlockCounts.{blocks_in-take}
use Rattle.job_blocks.proofs.GatherSteps.{from_last, gathered-take, shapes-take, take-fewer, turned}
use Rattle.job_blocks.proofs.TableSteps.{first_items, items-more}
use Rattle.job_blocks.proofs.job_blocks.JobBlocks.gathered.Goals as goal

pub start-requires : goal.start-requires
start-requires c =
    let all : length c.job.result.now.matrices ≡ length c.args.self.now.job.matrices = ap (λ (j : Job). length j.matrices) c.job.ensures.job in
    omega (arith, c.len-count.ensures, all)

pub loop-done-init : goal.loop-done-init
loop-done-init c =
    let none : c.len-count.result - 0 ≡ c.len-count.result = omega arith in
    record {
      left = c.truncate.ensures.items ∙ ap (λ (n : ℕ). take n c.args.blocks.items)
          (c.start.ensures ∙ ap (λ (n : ℕ). blocks_in c.args.self.now.b (take n c.args.self.now.job.matrices)) (sym none));
      matrices = c.in_ok-last_first.ensures.items;
    }

pub last_matrix-requires : goal.last_matrix-requires
last_matrix-requires c =
    let x = c.args.self.now in
    let all : length c.job.result.now.matrices ≡ length x.job.matrices = ap (λ (j : Job). length j.matrices) c.job.ensures.job in
    let k : ℕ = c.len-count.result - 1 - c.loop-done.done in
    let below : k < length x.job.matrices = omega (arith, c.len-count.ensures, all) in
    let next : c.len-count.result - c.loop-done.done ≡ k + 1 = omega arith in
    let left = c.loop-done.invariant.left ∙ ap (λ (n : ℕ). take (blocks_in x.b (take n x.job.matrices)) c.args.blocks.items) next in
    let enough : blocks_in x.b (take (k + 1) x.job.matrices) ≤ length c.args.blocks.items = omega (arith, blocks_in-take x.b x.job.matrices (k + 1), c.requires.count) in
    record {
      matrix = below;
      count = ap (λ (xs : List Grid). length xs) left ∙ length-take-le (blocks_in x.b (take (k + 1) x.job.matrices)) c.args.blocks.items enough;
      shapes = subst (HaveBlockShapesOf x k) (sym left) (shapes-take x c.args.blocks.items k (c.requires.shapes k));
    }

pub loop-done-preserved : goal.loop-done-preserved
loop-done-preserved c =
    let x = c.args.self.now in
    let all : length c.job.result.now.matrices ≡ length x.job.matrices = ap (λ (j : Job). length j.matrices) c.job.ensures.job in
    let k : ℕ = c.len-count.result - 1 - c.loop-done.done in
    let below : k < length x.job.matrices = omega (arith, c.len-count.ensures, all) in
    let next : c.len-count.result - c.loop-done.done ≡ k + 1 = omega arith in
    let rest : k ≡ c.len-count.result - (c.loop-done.done + 1) = omega arith in
    let turn : k ≡ length x.job.matrices - 1 - c.loop-done.done = omega (arith, c.len-count.ensures, all) in
    let left = c.loop-done.invariant.left ∙ ap (λ (n : ℕ). take (blocks_in x.b (take n x.job.matrices)) c.args.blocks.items) next in
    let made = c.in_ok-last_matrix.ensures.matrix
    ∙ ap (λ (xs : List Grid). gathered_matrix x xs k) left
    ∙ gathered-take x c.args.blocks.items k c.job.ensures.valid.size below
    ∙ ap (gathered_matrix x c.args.blocks.items) turn in
    record {
      left = c.in_ok-last_matrix.ensures.rest
          ∙ ap (λ (xs : List Grid). take (blocks_in x.b (take k x.job.matrices)) xs) left
          ∙ take-fewer x c.args.blocks.items k below
          ∙ ap (λ (n : ℕ). take (blocks_in x.b (take n x.job.matrices)) c.args.blocks.items) rest;
      matrices = c.in_ok-push.ensures.items
          ∙ items-more (from_last x c.args.blocks.items) c.loop-done.last_first.items c.loop-done.done _ c.loop-done.invariant.matrices made;
    }

pub returns : goal.returns
returns c =
    let x = c.args.self.now in
    let all : c.len-count.result ≡ length x.job.matrices = c.len-count.ensures ∙ ap (λ (j : Job). length j.matrices) c.job.ensures.job in
    let done : c.loop-done.done ≡ length x.job.matrices = omega (arith, all) in
    let last_first = c.loop-done.invariant.matrices ∙ ap (first_items (from_last x c.args.blocks.items)) done in
    let many : length c.loop-done.last_first.items ≡ length x.job.matrices =
    ap (λ (xs : List Grid). length xs) last_first ∙ length-map-range_with_len (from_last x c.args.blocks.items) 0 (length x.job.matrices) in
    c.from_vec.ensures ∙ turned x c.args.blocks.items c.reverse.new.self.items c.loop-done.last_first.items last_first
    (ap (λ (xs : List Grid). length xs) c.reverse.ensures.items ∙ length-reverse c.loop-done.last_first.items ∙ many)
    (λ k d below. ap (λ (xs : List Grid). get_or xs k d) c.reverse.ensures.items
    ∙ get_or-reverse c.loop-done.last_first.items k d (omega (arith, many))
    ∙ ap (λ (n : ℕ). get_or c.loop-done.last_first.items (n - 1 - k) d) many)
