use Rattle.issue_list.proofs.SmallJobs.{small-valid}
use Rattle.issue_list.proofs.tests.job.Goals as goal

pub returns : goal.returns
returns c =
    rw (
      c.in_ok-one-2.ensures,
      c.in_ok-one-3.ensures,
      c.in_ok-one-5.ensures,
      c.in_ok-one-6.ensures,
      c.new-8.ensures,
      c.from_entries.ensures,
      c.into_vec.ensures,
      c.in_ok-one-4.ensures,
      c.in_ok-one.ensures,
      c.new.ensures,
      c.new-2.ensures,
      c.new-3.ensures,
      c.new-4.ensures,
      c.new-5.ensures,
      c.new-6.ensures,
      c.new-7.ensures,
    ) (small-valid c.args.modulus c.requires)
