-- Where nothing is found. Cited by what the check says of each place.
use Rattle.std.proofs.Common.{◌≡◌, List, [], ◌∷◌, Bool, true, false, cond, Option, Some, None, refl, ap, ◌∙◌}
use Rattle.std.specs.Prelude.{◌&&◌, ◌||◌, not}
use Rattle.std.specs.List.{find, list_all, list_any}
use Rattle.std.specs.Option.{option_map}
use Rattle.std.proofs.lemmas.Bool.{and_parts, and_from}
use Rattle.worksheet.specs.declared.verdict.Verdict.TheVariants.{Right}
use Rattle.worksheet_check.specs.declared.findings.Finding.{Finding}
use Rattle.worksheet_check.specs.Findings.{first_finding, verdict_by}

-- ---- findings in their order

-- a verdict that is right comes from no finding
pub none_right : (o : Option Finding) → verdict_by o ≡ Right → o ≡ None
none_right None h = refl
none_right (Some f) h = cc

-- nothing is found first and in the others
pub none_parts : (o : Option Finding) (others : List (Option Finding)) → first_finding (o ∷ others) ≡ None → (o ≡ None) × (first_finding others ≡ None)
none_parts None others h = (refl, h)
none_parts (Some f) others h = cc

pub none_first : (o : Option Finding) (others : List (Option Finding)) → o ≡ None → first_finding others ≡ None → first_finding (o ∷ others) ≡ None
none_first None others none h = h
none_first (Some f) others none h = none

-- ---- searches

-- a finding of what a search gives is none where the search gives nothing
pub mapped_none : {X Y : Type 0} (f : X → Y) (o : Option X) → option_map f o ≡ None → o ≡ None
mapped_none f None h = refl
mapped_none f (Some x) h = cc

pub none_mapped : {X Y : Type 0} (f : X → Y) (o : Option X) → o ≡ None → option_map f o ≡ None
none_mapped f o h = ap (option_map f) h

module _ {X : Type 0} (wrong right : X → Bool) (either : (x : X) → right x ≡ not (wrong x)) where
  -- where nothing wrong is found, all is right
  pub all_right : (xs : List X) → find wrong xs ≡ None → list_all right xs ≡ true
  all_right [] h = refl
  all_right (x ∷ xs) h = step (all_right xs) (wrong x) refl h
    where
      step : (find wrong xs ≡ None → list_all right xs ≡ true) → (b : Bool) → wrong x ≡ b → cond b (Some x) (find wrong xs) ≡ None
          → (right x && list_all right xs) ≡ true
      step others true e none = cc
      step others false e none = and_from (right x) (list_all right xs) (either x ∙ ap not e) (others none)

  -- and back
  pub none_wrong : (xs : List X) → list_all right xs ≡ true → find wrong xs ≡ None
  none_wrong [] h = refl
  none_wrong (x ∷ xs) h = step (none_wrong xs) (wrong x) refl (and_parts (right x) (list_all right xs) h)
    where
      step : (list_all right xs ≡ true → find wrong xs ≡ None) → (b : Bool) → wrong x ≡ b → (right x ≡ true) × (list_all right xs ≡ true) → cond b (Some x) (find wrong xs) ≡ None
      step others true e both = let never : right x ≡ false = either x ∙ ap not e in cc
      step others false e both = others both.1

  -- some is wrong, or all is right
  pub all_or_any : (xs : List X) → list_all right xs ≡ not (list_any wrong xs)
  all_or_any [] = refl
  all_or_any (x ∷ xs) = ap (λ b. b && list_all right xs) (either x) ∙ ap (λ b. not (wrong x) && b) (all_or_any xs) ∙ none_of_both (wrong x) (list_any wrong xs)
    where
      none_of_both : (a b : Bool) → (not a && not b) ≡ not (a || b)
      none_of_both true b = refl
      none_of_both false b = refl

-- where the one doesn't hold or the other does
pub implies : (a b : Bool) → (not a || b) ≡ not (a && not b)
implies true true = refl
implies true false = refl
implies false b = refl

pub implied : (a b : Bool) → (not a || b) ≡ true → a ≡ true → b ≡ true
implied true b h e = h
implied false b h e = cc

pub from_implied : (a b : Bool) → (a ≡ true → b ≡ true) → (not a || b) ≡ true
from_implied true b h = h refl
from_implied false b h = refl
