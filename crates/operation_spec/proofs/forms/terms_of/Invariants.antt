use Rattle.std.proofs.Common.{◌≡◌, ◌++◌, drop, map}
use Rattle.operation_spec.specs.OperationFaults.{term_of}
use Rattle.operation_spec.proofs.forms.terms_of.Given as goal

-- the terms so far, and those of the products that are left
abbrev pub invariant-loop-p : goal.invariant-loop-p
invariant-loop-p l = l.terms ++ map term_of (drop l.p-index l.products) ≡ map term_of l.products
