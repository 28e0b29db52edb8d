-- Tests that hold together, and tests of which none holds. Cited by the laws of operation texts.
use Rattle.std.proofs.Common.{◌≡◌, Bool, true, false, ◌&&◌, ◌||◌}
use Rattle.std.proofs.lemmas.Bool.{and_parts, or_parts}

pub all_of_three : (a b c : Bool) → (a && b && c) ≡ true → (a ≡ true) × (b ≡ true) × (c ≡ true)
all_of_three a b c h = let last = and_parts (a && b) c h in let front = and_parts a b last.0 in (front.0, front.1, last.1)

pub all_of_four : (a b c d : Bool) → (a && b && c && d) ≡ true → (a ≡ true) × (b ≡ true) × (c ≡ true) × (d ≡ true)
all_of_four a b c d h = let last = and_parts (a && b && c) d h in let front = all_of_three a b c last.0 in (front.0, front.1, front.2, last.1)

pub all_of_five : (a b c d e : Bool) → (a && b && c && d && e) ≡ true → (a ≡ true) × (b ≡ true) × (c ≡ true) × (d ≡ true) × (e ≡ true)
all_of_five a b c d e h = let last = and_parts (a && b && c && d) e h in let front = all_of_four a b c d last.0 in (front.0, front.1, front.2, front.3, last.1)

pub none_of_five : (a b c d e : Bool) → (a || b || c || d || e) ≡ false → (a ≡ false) × (b ≡ false) × (c ≡ false) × (d ≡ false) × (e ≡ false)
none_of_five a b c d e h =
    let five = or_parts (a || b || c || d) e h in
    let four = or_parts (a || b || c) d five.0 in
    let three = or_parts (a || b) c four.0 in
    let two = or_parts a b three.0 in
    (two.0, two.1, three.1, four.1, five.1)
