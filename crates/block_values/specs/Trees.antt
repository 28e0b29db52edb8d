-- Expressions of blocks, as definitions speak of them.
use Rattle.std.specs.Prelude.{ℕ, Bool}
use Rattle.block_values.specs.declared.leaf.Leaf.{Leaf}

pub data Tree : Type 0 where
  Zero : Tree
  Block : (leaf : Leaf) (primed : Bool) (i j : ℕ) → Tree
  Add : (a b : Tree) → Tree
  Sub : (a b : Tree) → Tree
  Mul : (a b : Tree) → Tree
  SolveLeft : (t sum : Tree) → Tree
  SolveRight : (sum t : Tree) → Tree
  Sylvester : (t u : Tree) (minus : Bool) (sum : Tree) → Tree
  Lu : (sum : Tree) → Tree
  Ldl : (sum : Tree) → Tree
