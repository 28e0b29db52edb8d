use Rattle.std.proofs.Common.{◌≡◌, take}
use Rattle.flame_top.proofs.verify.copies.Given as goal

abbrev pub invariant-loop-matrix : goal.invariant-loop-matrix
invariant-loop-matrix l = l.all.items ≡ take l.matrix-index l.matrices
