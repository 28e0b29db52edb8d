-- Searches along a list for the first item that passes a test. Cited by the functions that look for a first task.
use Rattle.std.proofs.Common.{◌≡◌, ℕ, ◌+◌, ◌<◌, ◌≤◌, List, [], ◌∷◌, length, get_or, drop, Bool, true, false, cond, Some, None, refl, sym, ap, ◌∙◌}
use Rattle.std.specs.Prelude.{is_some, ◌||◌}
use Rattle.std.specs.List.{find, list_any}
use Rattle.std.proofs.lemmas.List.{at_drop_more, at_drop_all}

-- there is one that passes a test where one is found
pub any_found : {X : Type 0} (p : X → Bool) (xs : List X) → list_any p xs ≡ is_some (find p xs)
any_found p [] = refl
any_found p (x ∷ xs) = step (p x) (any_found p xs)
  where
    step : (b : Bool) → list_any p xs ≡ is_some (find p xs) → (b || list_any p xs) ≡ is_some (cond b (Some x) (find p xs))
    step true others = refl
    step false others = others

module _ {X : Type 0} (p : X → Bool) (xs : List X) (i : ℕ) (so_far : find p (drop i xs) ≡ find p xs) where
  -- the item at place i is the first one
  pub found_at : (d : X) → i < length xs → p (get_or xs i d) ≡ true → find p xs ≡ Some (get_or xs i d)
  found_at d below passes = sym so_far ∙ at_drop_more (find p) xs i d below ∙ ap (λ b. cond b (Some (get_or xs i d)) (find p (drop (i + 1) xs))) passes

  -- it isn't, and the search goes on
  pub passed_at : (d : X) → i < length xs → p (get_or xs i d) ≡ false → find p (drop (i + 1) xs) ≡ find p xs
  passed_at d below passes = sym (ap (λ b. cond b (Some (get_or xs i d)) (find p (drop (i + 1) xs))) passes) ∙ sym (at_drop_more (find p) xs i d below) ∙ so_far

  -- there is none
  pub none_at : length xs ≤ i → find p xs ≡ None
  none_at past = sym so_far ∙ at_drop_all (find p) xs i past
