-- Operations and splits that are named, computed on small rows.
use Rattle.std.proofs.Common.{◌≡◌, [], ◌∷◌, refl}
use Rattle.std.specs.Prelude.{codes, Some, None}
use Rattle.operation_spec.proofs.WorkedOperations.{lu, low}
use Rattle.worksheet_text.specs.SheetReading.{operation_named}
use Rattle.flame_top.specs.Pme.{split_named}

second_operation : operation_named (low ∷ lu ∷ []) (codes "lu") ≡ Some lu
unfolding low lu
second_operation = refl

no_operation : operation_named (low ∷ lu ∷ []) (codes "l") ≡ None
unfolding low lu
no_operation = refl

-- one dimension, and two in declared order
single_split : split_named low.dims (codes "m" ∷ []) ≡ Some (record { first = 1; second = None })
unfolding low
single_split = refl

pair_split : split_named low.dims (codes "n" ∷ codes "m" ∷ []) ≡ Some (record { first = 0; second = Some 1 })
unfolding low
pair_split = refl

-- one that isn't there, two in the other order, one twice, and three
no_dimension : split_named low.dims (codes "k" ∷ []) ≡ None
unfolding low
no_dimension = refl

no_second : split_named low.dims (codes "n" ∷ codes "k" ∷ []) ≡ None
unfolding low
no_second = refl

other_order : split_named low.dims (codes "m" ∷ codes "n" ∷ []) ≡ None
unfolding low
other_order = refl

same_dimension : split_named low.dims (codes "n" ∷ codes "n" ∷ []) ≡ None
unfolding low
same_dimension = refl
