use Rattle.std.proofs.Common.{◌*◌, ◌/◌, ◌^◌, ◌<◌, sym, arith}
use Rattle.std.proofs.Math.Nat.{mod-lt}
use Rattle.row_products.proofs.Reciprocals.{reciprocal_below, reciprocal_near, rest_below, rest_above}
use Rattle.row_products.proofs.reducer.Reducer.residue.Goals as goal

pub overflow_sub-rest : goal.overflow_sub-rest
overflow_sub-rest c = rw (c.from.ensures, c.from-2.ensures, c.value-m.ensures.value)
    (reciprocal_below c.args.x c.self.inside.modulus c.self.inside.reciprocal c.self.invariant.1)

pub returns-then-rest-m-clause-value : goal.returns-then-rest-m-clause-value
returns-then-rest-m-clause-value c = rw (c.from.ensures, c.from-2.ensures, c.value-m.ensures.value, sym c.self.view_is)
    (rest_above c.args.x (c.args.x * c.self.inside.reciprocal / 2 ^ 64) c.self.inside.modulus
    (reciprocal_below c.args.x c.self.inside.modulus c.self.inside.reciprocal c.self.invariant.1)
    (rw (c.from.ensures, c.from-2.ensures, c.value-m.ensures.value) at c.if-rest-m.true)
    (reciprocal_near c.args.x c.self.inside.modulus c.self.inside.reciprocal c.self.invariant.0.at_least_two c.ranges.x.fits c.self.invariant.1))

pub returns-else-rest-m-clause-value : goal.returns-else-rest-m-clause-value
returns-else-rest-m-clause-value c = rw (c.from.ensures, c.from-2.ensures, c.value-m.ensures.value, sym c.self.view_is)
    (rest_below c.args.x (c.args.x * c.self.inside.reciprocal / 2 ^ 64) c.self.inside.modulus
    (reciprocal_below c.args.x c.self.inside.modulus c.self.inside.reciprocal c.self.invariant.1)
    (rw (c.from.ensures, c.from-2.ensures, c.value-m.ensures.value) at c.if-rest-m.false))

pub returns-then-rest-m-clause-range : goal.returns-then-rest-m-clause-range
returns-then-rest-m-clause-range c = rw (returns-then-rest-m-clause-value c)
    (mod-lt c.args.x (omega (arith, c.self.view_is, c.self.invariant.0.at_least_two)))

pub returns-then-rest-m-clause-small : goal.returns-then-rest-m-clause-small
returns-then-rest-m-clause-small c =
    let below : c.args.self < 2 ^ 32 = omega (arith, c.self.view_is, c.self.invariant.0.below_limit) in
    omega (arith, returns-then-rest-m-clause-range c, below)
