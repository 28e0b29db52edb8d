-- The operations that definitions are tried on.
use Rattle.std.proofs.Common.{ℕ, List, [], ◌∷◌, Bool, true, false, codes}
use Rattle.structure_rules.specs.declared.Structure.{Structure}
use Rattle.structure_rules.specs.declared.Structure.TheVariants.{General, Lower, UnitLower, Upper, Symmetric}
use Rattle.operation_spec.specs.declared.operation.Factor.{Factor}
use Rattle.operation_spec.specs.declared.operation.Operand.{Operand}
use Rattle.operation_spec.specs.declared.operation.Operation.{Operation}
use Rattle.operation_spec.specs.declared.operation.Term.{Term}
use Rattle.operation_spec.specs.declared.operation.Form.TheVariants.{Assign, Left, Right, Sylvester, Lu, Ldl}

abbrev pub operand : List ℕ → Structure → ℕ → ℕ → Operand
operand name structure rows cols = record { name = name; structure = structure; rows = rows; cols = cols }

abbrev pub factor : ℕ → Bool → Factor
factor k primed = record { known = k; primed = primed }

-- F * G added, of the known operands with these numbers
abbrev pub added : ℕ → ℕ → Term
added f g = record { minus = false; first = factor f false; second = factor g false }

-- X = W + A * B
unfoldable pub mul : Operation
mul = record {
  name = codes "mul";
  dims = codes "m" ∷ codes "n" ∷ codes "k" ∷ [];
  work = operand (codes "W") General 0 1;
  knowns = operand (codes "A") General 0 2 ∷ operand (codes "B") General 2 1 ∷ [];
  form = Assign;
  terms = added 0 1 ∷ [];
}

-- lu X = W
unfoldable pub lu : Operation
lu = record {
  name = codes "lu";
  dims = codes "n" ∷ [];
  work = operand (codes "W") General 0 0;
  knowns = [];
  form = Lu;
  terms = [];
}

-- ldl X = W
unfoldable pub ldl : Operation
ldl = record {
  name = codes "ldl";
  dims = codes "n" ∷ [];
  work = operand (codes "W") Lower 0 0;
  knowns = [];
  form = Ldl;
  terms = [];
}

-- T * X = W with a lower T
unfoldable pub low : Operation
low = record {
  name = codes "low";
  dims = codes "n" ∷ codes "m" ∷ [];
  work = operand (codes "W") General 0 1;
  knowns = operand (codes "T") Lower 0 0 ∷ [];
  form = Left (factor 0 false);
  terms = [];
}

-- T' * X = W with a lower T
unfoldable pub low_primed : Operation
low_primed = record {
  name = codes "low";
  dims = codes "n" ∷ codes "m" ∷ [];
  work = operand (codes "W") General 0 1;
  knowns = operand (codes "T") Lower 0 0 ∷ [];
  form = Left (factor 0 true);
  terms = [];
}

-- T * X = W with a lower T, on the lower part of a square W
unfoldable pub inv : Operation
inv = record {
  name = codes "inv";
  dims = codes "n" ∷ [];
  work = operand (codes "W") Lower 0 0;
  knowns = operand (codes "T") Lower 0 0 ∷ [];
  form = Left (factor 0 false);
  terms = [];
}

-- T * X + X * U = W with a lower T and an upper U
unfoldable pub syl : Operation
syl = record {
  name = codes "syl";
  dims = codes "m" ∷ codes "n" ∷ [];
  work = operand (codes "W") General 0 1;
  knowns = operand (codes "T") Lower 0 0 ∷ operand (codes "U") Upper 1 1 ∷ [];
  form = Sylvester (factor 0 false) (factor 1 false) false;
  terms = [];
}

-- X = W + A * A', on the lower part of W
unfoldable pub sqr : Operation
sqr = record {
  name = codes "sqr";
  dims = codes "n" ∷ codes "k" ∷ [];
  work = operand (codes "W") Lower 0 0;
  knowns = operand (codes "A") General 0 1 ∷ [];
  form = Assign;
  terms = record { minus = false; first = factor 0 false; second = factor 0 true } ∷ [];
}

-- X = W + L * U
unfoldable pub prod : Operation
prod = record {
  name = codes "prod";
  dims = codes "n" ∷ [];
  work = operand (codes "W") General 0 0;
  knowns = operand (codes "L") UnitLower 0 0 ∷ operand (codes "U") Upper 0 0 ∷ [];
  form = Assign;
  terms = added 0 1 ∷ [];
}

-- X = W + A * B with a symmetric A
unfoldable pub sym : Operation
sym = record {
  name = codes "sym";
  dims = codes "n" ∷ codes "m" ∷ [];
  work = operand (codes "W") General 0 1;
  knowns = operand (codes "A") Symmetric 0 0 ∷ operand (codes "B") General 0 1 ∷ [];
  form = Assign;
  terms = added 0 1 ∷ [];
}

-- X * T = W with a lower T
unfoldable pub low_right : Operation
low_right = record {
  name = codes "low";
  dims = codes "n" ∷ codes "m" ∷ [];
  work = operand (codes "W") General 0 1;
  knowns = operand (codes "T") Lower 1 1 ∷ [];
  form = Right (factor 0 false);
  terms = [];
}

-- T * X - X * U = W with a lower T and a lower U
unfoldable pub syl_lower : Operation
syl_lower = record {
  name = codes "syl";
  dims = codes "m" ∷ codes "n" ∷ [];
  work = operand (codes "W") General 0 1;
  knowns = operand (codes "T") Lower 0 0 ∷ operand (codes "U") Lower 1 1 ∷ [];
  form = Sylvester (factor 0 false) (factor 1 false) true;
  terms = [];
}

-- X * T' = W - A * T with an upper T
unfoldable pub upp_right : Operation
upp_right = record {
  name = codes "right";
  dims = codes "n" ∷ codes "m" ∷ [];
  work = operand (codes "W") General 0 1;
  knowns = operand (codes "T") Upper 1 1 ∷ operand (codes "A") General 0 1 ∷ [];
  form = Right (factor 0 true);
  terms = record { minus = true; first = factor 1 false; second = factor 0 false } ∷ [];
}
