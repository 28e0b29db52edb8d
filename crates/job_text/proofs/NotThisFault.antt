-- Reading that never ends with one fault, step by step and test by test. Cited by what shows that no fault is a bad byte.
use Rattle.std.proofs.Common.{◌≢◌, Bool, true, false, Result, Ok, Err, if◌then◌else◌}
use Rattle.byte_texts.specs.Reading.{◌>>=◌}

module _ {F : Type 0} (bad : F) where
  -- a step without it, and others
  pub then_none : {A B : Type 0} (r : Result A F) (f : A → Result B F) → r ≢ Err bad → ((x : A) → f x ≢ Err bad) → (r >>= f) ≢ Err bad
  then_none (Ok x) f first others e = others x e
  then_none (Err fault) f first others e = first (cc e)

  -- a test with another fault, and those behind it
  pub test_none : {A : Type 0} (holds : Bool) (fault : F) (others : Result A F) → fault ≢ bad → others ≢ Err bad → (if holds then Err fault else others) ≢ Err bad
  test_none true fault others told behind e = told cc
  test_none false fault others told behind e = behind e

  -- a value
  pub value_none : {A : Type 0} (x : A) → ◌≢◌ {A = Result A F} (Ok x) (Err bad)
  value_none x e = cc
