-- Tests of a line that has no fault: none of them holds. Cited by the laws of every block of lines that is read.
use Rattle.std.proofs.Common.{◌≡◌, Bool, true, false, List, ◌∷◌, Result, Ok, Err, refl, if◌then◌else◌}
use Rattle.text_scan.specs.Faults.{Test, first_fault}

-- the first test doesn't hold, and the others decide
pub passed_by : {F A : Type 0} (holds : Bool) (fault : F) (others : Result A F) (x : A) → (if holds then Err fault else others) ≡ Ok x → (holds ≡ false) × (others ≡ Ok x)
passed_by true fault others x e = absurd cc
passed_by false fault others x e = (refl, e)

-- and back, one after another for each test of a list, with `refl` behind the last
pub passes_by : {F A : Type 0} {holds : Bool} {others : Result A F} {x : A} (fault : F) → holds ≡ false → others ≡ Ok x → (if holds then Err fault else others) ≡ Ok x
passes_by fault not_held e = rw not_held e

-- the first test of a list didn't hold, and what the others leave
pub passed : {F A : Type 0} (test : Test F) (tests : List (Test F)) (x y : A) → first_fault (test ∷ tests) x ≡ Ok y → (test.holds ≡ false) × (first_fault tests x ≡ Ok y)
passed test tests x y e = passed_by test.holds test.fault (first_fault tests x) y e
