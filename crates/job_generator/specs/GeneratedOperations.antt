-- The four operations of a generated job.
use Rattle.std.specs.Prelude.{ℕ, List, [], ◌∷◌, codes, false}
use Rattle.structure_rules.specs.declared.Structure.{Structure}
use Rattle.structure_rules.specs.declared.Structure.TheVariants.{General, UnitLower, Upper}
use Rattle.operation_spec.specs.declared.operation.Factor.{Factor}
use Rattle.operation_spec.specs.declared.operation.Operand.{Operand}
use Rattle.operation_spec.specs.declared.operation.Operation.{Operation}
use Rattle.operation_spec.specs.declared.operation.Form.TheVariants.{Assign, Left, Lu}

abbrev pub operand : List ℕ → Structure → ℕ → ℕ → Operand
operand name structure rows cols = record { name = name; structure = structure; rows = rows; cols = cols }

-- a known operand as it is, not transposed
abbrev pub factor : ℕ → Factor
factor known = record { known = known; primed = false }

-- X = W + L * U, of a unit lower and an upper factor
unfoldable pub prod : Operation
prod = record {
  name = codes "prod";
  dims = codes "n" ∷ [];
  work = operand (codes "W") General 0 0;
  knowns = operand (codes "L") UnitLower 0 0 ∷ operand (codes "U") Upper 0 0 ∷ [];
  form = Assign;
  terms = record { minus = false; first = factor 0; second = factor 1 } ∷ [];
}

-- lu X = W
unfoldable pub lu : Operation
lu = record {
  name = codes "lu";
  dims = codes "n" ∷ [];
  work = operand (codes "W") General 0 0;
  knowns = [];
  form = Lu;
  terms = [];
}

-- T * X = W, of a triangular factor
unfoldable pub solve : List ℕ → Structure → Operation
solve name structure = record {
  name = name;
  dims = codes "n" ∷ codes "m" ∷ [];
  work = operand (codes "W") General 0 1;
  knowns = operand (codes "T") structure 0 0 ∷ [];
  form = Left (factor 0);
  terms = [];
}

abbrev pub ulow : Operation
ulow = solve (codes "ulow") UnitLower

abbrev pub upp : Operation
upp = solve (codes "upp") Upper
