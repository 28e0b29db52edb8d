use Rattle.std.proofs.Common.{refl}
use Rattle.matrix_parts.specs.Lent.{grid_of}
use Rattle.block_kernels.proofs.FactorEffects.{ldl_bad, ldl_factored, ldl_fits, ldl_none, ldl_square}
use Rattle.block_kernels.proofs.block_task.BlockTask.factor_ldl.Goals as goal

pub factor_ldl-requires-clause-square : goal.factor_ldl-requires-clause-square
factor_ldl-requires-clause-square c = ldl_square c.args.self.now c.requires.can.knowns c.requires.can.work (grid_of c.args.w.now) c.requires.can.ready c.requires.kind c.requires.form c.requires.diagonal

pub factor_ldl-requires-clause-residues : goal.factor_ldl-requires-clause-residues
factor_ldl-requires-clause-residues c = c.requires.can.ready.residues

pub whole_place-requires-clause-row : goal.whole_place-requires-clause-row
whole_place-requires-clause-row c = (ldl_fits c.args.self.now c.requires.can.knowns c.requires.can.work (grid_of c.args.w.now) c.requires.can.ready c.requires.kind c.requires.form c.requires.diagonal c.in-Err.bad.row ((c.factor_ldl.ensures.bad_pivot c.in-Err.bad).0 c.in-Err.is).1).0

pub whole_place-requires-clause-col : goal.whole_place-requires-clause-col
whole_place-requires-clause-col c = rw ((c.factor_ldl.ensures.bad_pivot c.in-Err.bad).0 c.in-Err.is).0 (ldl_fits c.args.self.now c.requires.can.knowns c.requires.can.work (grid_of c.args.w.now) c.requires.can.ready c.requires.kind c.requires.form c.requires.diagonal c.in-Err.bad.row ((c.factor_ldl.ensures.bad_pivot c.in-Err.bad).0 c.in-Err.is).1).1

pub returns-in-Ok-clause-outcome : goal.returns-in-Ok-clause-outcome
returns-in-Ok-clause-outcome c = λ knowns work ready. (
  ldl_factored c.args.self.now knowns work (grid_of c.args.w.now) ready c.requires.kind c.requires.form c.requires.diagonal (grid_of c.factor_ldl.new.w) c.in-Ok.ensures.factored,
  ldl_none c.args.self.now knowns work (grid_of c.args.w.now) ready c.requires.kind c.requires.form c.requires.diagonal
      (λ q below bad. absurd (let e = (c.factor_ldl.ensures.bad_pivot (record { row = q; col = q })).1 (refl, below, bad) in cc)),
)

pub returns-in-Err-clause-outcome : goal.returns-in-Err-clause-outcome
returns-in-Err-clause-outcome c = λ knowns work ready. ldl_bad c.args.self.now knowns work (grid_of c.args.w.now) ready c.requires.kind c.requires.form c.requires.diagonal c.whole_place.result c.in-Err.bad.row c.in-Err.bad.col c.whole_place.ensures.row c.whole_place.ensures.col ((c.factor_ldl.ensures.bad_pivot c.in-Err.bad).0 c.in-Err.is)
