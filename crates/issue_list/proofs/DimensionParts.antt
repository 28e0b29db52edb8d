-- The parts of the dimensions of a statement, as code has counted them. Cited by the function that tests them.
use Rattle.std.proofs.Common.{◌≡◌, ℕ, ◌<◌, ◌≤◌, List, length, get_or, sym, subst, arith}
use Rattle.std.proofs.lemmas.List.FromFn.{length-map-range_with_len}
use Rattle.residue_sums.specs.Sums.{part_count}
use Rattle.step_replays.specs.Fits.{length_of}
use Rattle.job_blocks.specs.BlockedJobs.{BlockedJob, HasStatement, IsBlockedJob, binding_at, counts_at, operation_at}
use Rattle.job_blocks.proofs.StatementFacts.{sound}
use Rattle.issue_list.specs.CanonicalSteps.{HasDimension, IsFirstLongOf, most_parts, parts_at}

-- each declared dimension has a count
length-counts : (x : BlockedJob) (s : ℕ) → length (counts_at x s) ≡ length (operation_at x s).dims
length-counts x s = length-map-range_with_len (λ (d : ℕ). part_count (length_of (operation_at x s) x.job.matrices (binding_at x s) d) x.b) 0 (length (operation_at x s).dims)

-- they are few
pub counts-few : (x : BlockedJob) (s : ℕ) (counts : List ℕ) → IsBlockedJob x → HasStatement x s → counts ≡ counts_at x s → length counts ≤ 6
counts-few x s counts is has e =
    subst (λ (all : List ℕ). length all ≤ 6) (sym e) (omega (arith, length-counts x s, (sound x s is has).valid.dims.few))

-- the first count that is too high is that of the first dimension with too many parts
pub first-long : (x : BlockedJob) (s d : ℕ) (counts : List ℕ) → HasStatement x s → counts ≡ counts_at x s → d < length counts → most_parts < get_or counts d 0
    → ((e : ℕ) → e < d → get_or counts e 0 ≤ most_parts) → IsFirstLongOf x.job x.b s d
first-long x s d counts has e below long before = record {
  has = record { from = has.from; within = has.within; declared = subst (λ (n : ℕ). d < n) (length-counts x s) (subst (λ (all : List ℕ). d < length all) e below) };
  long = subst (λ (all : List ℕ). most_parts < get_or all d 0) e long;
  dimensions = subst (λ (all : List ℕ). (f : ℕ) → f < d → get_or all f 0 ≤ most_parts) e before;
}

-- where no count is too high, no dimension has too many parts
pub counts-all_few : (x : BlockedJob) (s : ℕ) (counts : List ℕ) → counts ≡ counts_at x s → ((d : ℕ) → d < length counts → get_or counts d 0 ≤ most_parts)
    → (d : ℕ) → HasDimension x.job s d → parts_at x.job x.b s d ≤ most_parts
counts-all_few x s counts e few d has = subst (λ (all : List ℕ). (d : ℕ) → d < length all → get_or all d 0 ≤ most_parts) e few d (omega (arith, length-counts x s, has.declared))
