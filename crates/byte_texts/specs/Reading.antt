-- Reading from left to right: a value and the bytes behind it, or a fault.
use Rattle.std.specs.Prelude.{◌≡◌, Result, Ok, Err, Option, Some, None}

-- read on, where nothing was refused
infixl 10 ◌>>=◌
abbrev pub ◌>>=◌ : {A B F : Type 0} → Result A F → (A → Result B F) → Result B F
(Ok x) >>= f = f x
(Err e) >>= f = Err e

-- the value, where there is one, and else the fault
abbrev pub some_or : {A F : Type 0} → F → Option A → Result A F
some_or fault None = Err fault
some_or fault (Some x) = Ok x

-- reading ends with this fault; nothing is said where memory ran out, which is no fault of the text
abbrev pub EndsWith : {Y F : Type 0} → Option F → Result Y F → Type 0
EndsWith None read = Unit {0}
EndsWith (Some fault) read = read ≡ Err fault

-- what a function answered, seen by view, is what reading gives, unless memory ran out;
-- fault_of names the fault of an error, and answers None for want of memory
abbrev pub Gives : {X Y E F : Type 0} → (E → Option F) → (X → Y) → Result X E → Result Y F → Type 0
Gives fault_of view (Ok x) read = read ≡ Ok (view x)
Gives fault_of view (Err e) read = EndsWith (fault_of e) read
