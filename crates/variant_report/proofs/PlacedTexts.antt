-- Texts of the items of a list, one behind the other, for code that goes by places.
use Rattle.std.proofs.Common.{◌≡◌, ℕ, zero, suc, ◌+◌, List, [], ◌∷◌, ◌++◌, drop, refl, add-one, append-nil, append_assoc}
use Rattle.std.specs.List.{flat_map, slice_get}
use Rattle.std.specs.Option.{option_to_list}

-- the texts from a place on: that of the item there, if there is one, and those behind it
text_at : {X A : Type 0} (f : X → List A) (xs : List X) (i : ℕ) → flat_map f (drop i xs) ≡ flat_map f (option_to_list (slice_get xs i)) ++ flat_map f (drop (suc i) xs)
text_at f [] zero = refl
text_at f [] (suc i) = refl
text_at f (x ∷ xs) zero = simp append-nil
text_at f (x ∷ xs) (suc i) = text_at f xs i

-- the text of the item at a place is appended, if there is one: with the texts behind it all stand there
pub next_text : {X A : Type 0} (f : X → List A) (xs : List X) (i : ℕ) (before after all : List A)
    → after ≡ before ++ flat_map f (option_to_list (slice_get xs i)) → before ++ flat_map f (drop i xs) ≡ all → after ++ flat_map f (drop (i + 1) xs) ≡ all
next_text f xs i before after all e so_far = rw (add-one, e, append_assoc, ← text_at f xs i) so_far
