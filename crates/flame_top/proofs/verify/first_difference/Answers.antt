use Rattle.std.proofs.Common.{◌≡◌, ◌+◌, get_or, refl, subst, sym, below_more}
use Rattle.residue_sums.specs.Grids.{Grid}
use Rattle.flame_top.proofs.VerifiedStatements.{AreBefore, cols_here, differing, fits_here, in_after, next_here, residues_here, rows_here, satisfied, valid_operation}
use Rattle.flame_top.proofs.verify.first_difference.Goals as goal

pub bounds-after-at : goal.bounds-after-at
bounds-after-at c =
    in_after c.args.job.now c.requires.job c.args.after.now c.requires.after c.as_slice-s-items.result.now c.as_slice-in-loop-at.result.now c.loop-at.at c.s-item.result c.index-as_slice-s.result
    c.as_slice-s-items.ensures c.as_slice-in-loop-at.ensures c.loop-at-test.true c.s-item.is c.index-as_slice-s.is

pub residual-requires-clause-valid : goal.residual-requires-clause-valid
residual-requires-clause-valid c =
    valid_operation c.args.job.now c.requires.job c.args.after.now c.requires.after c.as_slice-s-items.result.now c.as_slice-in-loop-at.result.now c.loop-at.at c.s-item.result c.index-as_slice-s.result
    c.as_slice-s-items.ensures c.as_slice-in-loop-at.ensures c.loop-at-test.true c.s-item.is c.index-as_slice-s.is

pub residual-requires-clause-fits : goal.residual-requires-clause-fits
residual-requires-clause-fits c =
    fits_here c.args.job.now c.requires.job c.args.after.now c.requires.after c.as_slice-s-items.result.now c.as_slice-in-loop-at.result.now c.loop-at.at c.s-item.result c.index-as_slice-s.result
    c.as_slice-s-items.ensures c.as_slice-in-loop-at.ensures c.loop-at-test.true c.s-item.is c.index-as_slice-s.is c.loop-at.matrices c.loop-at.invariant.before

pub residual-requires-clause-rows : goal.residual-requires-clause-rows
residual-requires-clause-rows c =
    rows_here c.args.job.now c.requires.job c.args.after.now c.requires.after c.as_slice-s-items.result.now c.as_slice-in-loop-at.result.now c.loop-at.at c.s-item.result c.index-as_slice-s.result
    c.as_slice-s-items.ensures c.as_slice-in-loop-at.ensures c.loop-at-test.true c.s-item.is c.index-as_slice-s.is c.loop-at.matrices c.loop-at.invariant.before c.index-after-at.result c.index-after-at.is

pub residual-requires-clause-cols : goal.residual-requires-clause-cols
residual-requires-clause-cols c =
    cols_here c.args.job.now c.requires.job c.args.after.now c.requires.after c.as_slice-s-items.result.now c.as_slice-in-loop-at.result.now c.loop-at.at c.s-item.result c.index-as_slice-s.result
    c.as_slice-s-items.ensures c.as_slice-in-loop-at.ensures c.loop-at-test.true c.s-item.is c.index-as_slice-s.is c.loop-at.matrices c.loop-at.invariant.before c.index-after-at.result c.index-after-at.is

pub residual-requires-clause-after : goal.residual-requires-clause-after
residual-requires-clause-after c =
    residues_here c.args.job.now c.requires.job c.args.after.now c.requires.after c.as_slice-s-items.result.now c.as_slice-in-loop-at.result.now c.loop-at.at c.s-item.result c.index-as_slice-s.result
    c.as_slice-s-items.ensures c.as_slice-in-loop-at.ensures c.loop-at-test.true c.s-item.is c.index-as_slice-s.is c.loop-at.matrices c.loop-at.invariant.before c.index-after-at.result c.index-after-at.is

pub returns-in-Some : goal.returns-in-Some
returns-in-Some c = (
  c.loop-at.at,
  refl,
  differing c.args.job.now c.requires.job c.args.after.now c.requires.after c.as_slice-s-items.result.now c.as_slice-in-loop-at.result.now c.loop-at.at c.s-item.result c.index-as_slice-s.result
      c.as_slice-s-items.ensures c.as_slice-in-loop-at.ensures c.loop-at-test.true c.s-item.is c.index-as_slice-s.is c.loop-at.matrices c.loop-at.invariant.before c.index-after-at.result c.index-after-at.is c.in-Some.place c.in-Some.ensures.first,
  c.loop-at.invariant.verified,
)

pub bounds-after-at-in-loop-at : goal.bounds-after-at-in-loop-at
bounds-after-at-in-loop-at c =
    in_after c.args.job.now c.requires.job c.args.after.now c.requires.after c.as_slice-s-items.result.now c.as_slice-in-loop-at.result.now c.loop-at.at c.s-item.result c.index-as_slice-s.result
    c.as_slice-s-items.ensures c.as_slice-in-loop-at.ensures c.loop-at-test.true c.s-item.is c.index-as_slice-s.is

pub loop-at-preserved : goal.loop-at-preserved
loop-at-preserved c =
    let next : Grid = c.in_ok-next.next in
    let copied : next ≡ c.index-after-at-in-loop-at.result = c.in_ok-next.ensures in
    let read : next ≡ get_or c.args.after.now c.loop-at.at next = subst (λ (h : Grid). h ≡ get_or c.args.after.now c.loop-at.at h) (sym copied) c.index-after-at-in-loop-at.is in
    record {
      before = subst (AreBefore c.args.job.now c.args.after.now (c.loop-at.at + 1)) (sym c.replaced-matrices.ensures)
          (next_here c.args.job.now c.requires.job c.args.after.now c.requires.after c.as_slice-s-items.result.now c.as_slice-in-loop-at.result.now c.loop-at.at c.s-item.result c.index-as_slice-s.result
          c.as_slice-s-items.ensures c.as_slice-in-loop-at.ensures c.loop-at-test.true c.s-item.is c.index-as_slice-s.is c.loop-at.matrices c.loop-at.invariant.before next read);
      verified = below_more _ _ c.loop-at.invariant.verified
          (satisfied c.args.job.now c.requires.job c.args.after.now c.requires.after c.as_slice-s-items.result.now c.as_slice-in-loop-at.result.now c.loop-at.at c.s-item.result c.index-as_slice-s.result
          c.as_slice-s-items.ensures c.as_slice-in-loop-at.ensures c.loop-at-test.true c.s-item.is c.index-as_slice-s.is c.loop-at.matrices c.loop-at.invariant.before c.index-after-at.result c.index-after-at.is (c.in_default.ensures.none.0 refl));
    }
