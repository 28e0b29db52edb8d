-- Steps of reading that were not refused. Cited by the laws of every text that is read.
use Rattle.std.proofs.Common.{◌≡◌, Result, Ok, Err, Option, Some, None, refl, ap, ◌∙◌}
use Rattle.byte_texts.specs.Reading.{◌>>=◌, EndsWith}

-- the value of the first step
pub bind_ok : {A B F : Type 0} (r : Result A F) (f : A → Result B F) (y : B) → (r >>= f) ≡ Ok y → (x : A) × (r ≡ Ok x) × (f x ≡ Ok y)
bind_ok (Ok x) f y e = (x, refl, e)
bind_ok (Err d) f y e = absurd cc

-- what two answers with one value have
pub same_ok : {A F : Type 0} (x y : A) → ◌≡◌ {A = Result A F} (Ok x) (Ok y) → x ≡ y
same_ok x y e = cc

-- what two options with one pair have
pub same_some_pair : {A B : Type 0} (x y : A × B) → Some x ≡ Some y → (x.0 ≡ y.0) × (x.1 ≡ y.1)
same_some_pair x y e = let same : x ≡ y = cc in (ap (λ p. p.0) same, ap (λ p. p.1) same)

-- ---- the fault that reading ends with

-- along equal readings
pub EndsWith-along : {Y F : Type 0} (fault : Option F) (r q : Result Y F) → r ≡ q → EndsWith fault q → EndsWith fault r
EndsWith-along None r q same ends = tt
EndsWith-along (Some f) r q same ends = same ∙ ends

-- where a first step ends with it, reading on does
pub EndsWith-bind : {X Y F : Type 0} (fault : Option F) (r : Result X F) (f : X → Result Y F) → EndsWith fault r → EndsWith fault (r >>= f)
EndsWith-bind None r f ends = tt
EndsWith-bind (Some e) r f ends = rw ends refl
