-- What a piece takes from the front of what is left.
use Rattle.std.proofs.Common.{◌≡◌, ℕ, ◌+◌, ◌-◌, ◌<◌, ◌≤◌, List, ◌++◌, length, take, drop, Option, Some, None, refl, sym, ap, ◌∙◌, arith, length-append, length-take, length-drop}
use Rattle.std.specs.Io.KnownBytes.{Consumes}
use Rattle.outside_io.specs.Causes.{Tells}
use Rattle.std.proofs.lemmas.List.{take_at, take-append-drop, drop-drop}

-- a piece that is copied to the front of a buffer is what is gone from the source; cited by the source in memory
pub drop-piece : (at k : ℕ) (bytes piece rest : List ℕ) → piece ≡ take (at + k - at) (drop at bytes) → at + k ≤ length bytes → drop at bytes ≡ take k (piece ++ rest) ++ drop (at + k) bytes
drop-piece at k bytes piece rest copied within =
    let size : at + k - at ≡ k = omega arith in
    let is_front : piece ≡ take k (drop at bytes) = copied ∙ ap (λ n. take n (drop at bytes)) size in
    let len : length piece ≡ k = omega (arith, ap length is_front, length-take k (drop at bytes), length-drop at bytes) in
    sym (rw (take_at piece rest k len, is_front) (ap (λ (l : List ℕ). take k (drop at bytes) ++ l) (sym (drop-drop k at bytes)) ∙ take-append-drop k (drop at bytes)))

-- what was consumed is a front of what is told, and where nothing is told it is some input; cited by `read_all`
pub long_input : (old new : Option (List ℕ)) (bytes : List ℕ) (limit : ℕ) → Consumes old new bytes → limit < length bytes → (input : List ℕ) × Tells old input × (limit < length input)
long_input None new bytes limit consumed long = (bytes, tt, long)
long_input (Some left) None bytes limit consumed long = absurd consumed
long_input (Some left) (Some rest) bytes limit consumed long = (left, refl, omega (arith, ap length consumed, length-append bytes rest))
