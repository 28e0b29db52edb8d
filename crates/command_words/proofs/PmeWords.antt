-- Words are the names of an operation and its dimensions, or not.
use Rattle.std.proofs.Common.{◌≡◌, inl, inr, ◌⊎◌, ℕ, ◌<◌, ◌≤◌, Bool, true, false, List, length, refl, arith}
use Rattle.std.specs.List.{list_all}
use Rattle.std.proofs.lemmas.Bool.{cases_lt}
use Rattle.command_words.specs.Words.{ArePmeWords, may_name}

pub pme_words_or_not : (op : List ℕ) (dims : List (List ℕ)) → ArePmeWords op dims ⊎ ¬ (ArePmeWords op dims)
pme_words_or_not op dims = go (may_name op) refl (cases_lt (length dims) 1) (cases_lt 2 (length dims)) (list_all may_name dims) refl
  where
    go : (named : Bool) → may_name op ≡ named → (length dims < 1) ⊎ (1 ≤ length dims) → (2 < length dims) ⊎ (length dims ≤ 2)
        → (all : Bool) → list_all may_name dims ≡ all → ArePmeWords op dims ⊎ ¬ (ArePmeWords op dims)
    go false e some few all f = inr (λ are. let is = are.operation_named in absurd cc)
    go true e (inl none) few all f = inr (λ are. let is = are.some_dimension in absurd (omega arith))
    go true e (inr some) (inl many) all f = inr (λ are. let is = are.few_dimensions in absurd (omega arith))
    go true e (inr some) (inr few) false f = inr (λ are. let is = are.dimensions_named in absurd cc)
    go true e (inr some) (inr few) true f =
        inl (record { operation_named = e; some_dimension = some; few_dimensions = few; dimensions_named = f })
