use Rattle.std.proofs.Common.{◌≡◌, ◌++◌, drop}
use Rattle.invariant_family.specs.Numbers.{places_from}
use Rattle.invariant_family.specs.Rules.{wants}
use Rattle.invariant_family.proofs.rules.Rules.wanting.Given as goal

-- the places so far, and those behind them
abbrev pub invariant-loop-place : goal.invariant-loop-place
invariant-loop-place l = l.places.items ++ places_from (λ b. wants l.self.op.now l.self.pairs.now b l.task) l.place (drop l.place l.behind) ≡ places_from (λ b. wants l.self.op.now l.self.pairs.now b l.task) 0 l.behind
