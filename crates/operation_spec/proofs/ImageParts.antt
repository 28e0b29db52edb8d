-- Parts of a list, by what its image is. Cited by the laws of what is read line by line.
use Rattle.std.proofs.Common.{◌≡◌, List, [], ◌∷◌, ◌++◌, map, refl, ap}

pub map_cons : {A B : Type 0} (f : A → B) (xs : List A) (y : B) (ys : List B) → map f xs ≡ y ∷ ys → (x : A) × (behind : List A) × (xs ≡ x ∷ behind) × (f x ≡ y) × (map f behind ≡ ys)
map_cons f [] y ys e = absurd cc
map_cons f (x ∷ xs) y ys e = (x, xs, refl, cc, cc)

pub map_append : {A B : Type 0} (f : A → B) (xs : List A) (ys zs : List B) → map f xs ≡ ys ++ zs → (front : List A) × (behind : List A) × (xs ≡ front ++ behind) × (map f front ≡ ys) × (map f behind ≡ zs)
map_append f xs [] zs e = ([], xs, refl, refl, e)
map_append f [] (y ∷ ys) zs e = absurd cc
map_append f (x ∷ xs) (y ∷ ys) zs e =
    let parts = map_append f xs ys zs cc in
    (x ∷ parts.0, parts.1, ap (λ (l : List _). x ∷ l) parts.2, cc (parts.3, e), parts.4)

pub map_nil : {A B : Type 0} (f : A → B) (xs : List A) → map f xs ≡ [] → xs ≡ []
map_nil f [] e = refl
map_nil f (x ∷ xs) e = absurd cc
