use Rattle.std.proofs.Common.{◌≡◌, ℕ, ◌≤◌, List, length, ap, ◌∙◌, arith}
use Rattle.step_replays.specs.Accesses.{blocks_in}
use Rattle.job_blocks.specs.Tables.{block_cols, list_numbers, starts_of}
use Rattle.job_blocks.proofs.BlockCounts.{blocks_in-le, lists_of-le}
use Rattle.job_blocks.proofs.TableSteps.{length-starts, start-all, start-value}
use Rattle.job_blocks.proofs.job_blocks.JobBlocks.new.Goals as goal

pub starts_of-requires : goal.starts_of-requires
starts_of-requires c = record {
  size = c.requires.size;
  few = rw c.as_slice-matrices.ensures (omega (arith, blocks_in-le c.args.b c.args.job.now.matrices c.requires.size, c.requires.job.entries));
}

pub index-requires : goal.index-requires
index-requires c =
    omega (arith, c.in_ok-starts.starts.ok.0, ap (λ (xs : List ℕ). length xs) c.in_ok-starts.ensures, length-starts c.args.b c.as_slice-matrices.result.now)

pub list_numbers-requires : goal.list_numbers-requires
list_numbers-requires c =
    let grids = c.as_slice-matrices.result.now in
    let within : length grids ≤ length grids = omega arith in
    let value = start-value c.args.b grids c.in_ok-starts.starts.items (length grids) c.index.result.now c.in_ok-starts.ensures within c.index.ensures in
    let all : c.index.result.now ≡ blocks_in c.args.b c.args.job.now.matrices =
    value ∙ start-all c.args.b grids ∙ ap (blocks_in c.args.b) c.as_slice-matrices.ensures in
    record {
      job = c.requires.job;
      few = omega (
        arith,
        all,
        blocks_in-le c.args.b c.args.job.now.matrices c.requires.size,
        c.requires.job.entries,
        lists_of-le c.args.job.now c.args.job.now.statements,
        c.requires.job.few_statements,
      );
    }

pub invariant_of-result : goal.invariant_of-result
invariant_of-result c =
    let grids = c.as_slice-matrices.result.now in
    let within : length grids ≤ length grids = omega arith in
    let value = start-value c.args.b grids c.in_ok-starts.starts.items (length grids) c.index.result.now c.in_ok-starts.ensures within c.index.ensures in
    let all : c.index.result.now ≡ blocks_in c.args.b c.args.job.now.matrices =
    value ∙ start-all c.args.b grids ∙ ap (blocks_in c.args.b) c.as_slice-matrices.ensures in
    record {
      valid = c.requires.job;
      size = c.requires.size;
      starts_are = c.in_ok-starts.ensures ∙ ap (starts_of c.args.b) c.as_slice-matrices.ensures;
      cols_are = c.in_ok-cols.ensures ∙ ap (block_cols c.args.b) c.as_slice-matrices.ensures;
      lists_are = c.in_ok-lists.ensures ∙ ap (list_numbers c.args.job.now) all;
    }
