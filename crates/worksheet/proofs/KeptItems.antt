-- What a filter keeps of a list, and what a test of all its items says of one. Cited by the laws of worksheets.
use Rattle.std.proofs.Common.{◌≡◌, List, Bool, true}
use Rattle.std.specs.Prelude.{Contains}
use Rattle.std.specs.List.{filter, list_all}
use Rattle.std.proofs.lemmas.List.Elements.{All-contains, All-contains_itself, All-filter, filter_passes}
use Rattle.std.proofs.lemmas.List.Sums.{AllPass-from_list_all}

-- an item that is kept passes the test
pub kept-passes : {X : Type 0} (test : X → Bool) (xs : List X) (x : X) → Contains (filter test xs) x → test x ≡ true
kept-passes test xs x h = All-contains (λ y. test y ≡ true) (filter test xs) x (filter_passes test xs) h

-- and is one of the list
pub kept-contained : {X : Type 0} (test : X → Bool) (xs : List X) (x : X) → Contains (filter test xs) x → Contains xs x
kept-contained test xs x h = All-contains (Contains xs) (filter test xs) x (All-filter test (Contains xs) xs (All-contains_itself xs)) h

-- an item of a list whose items all pass
pub all-passes : {X : Type 0} (test : X → Bool) (xs : List X) (x : X) → list_all test xs ≡ true → Contains xs x → test x ≡ true
all-passes test xs x all h = All-contains (λ y. test y ≡ true) xs x (AllPass-from_list_all test xs all) h
