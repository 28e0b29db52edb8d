-- The names of numbers in range: they are names, they are among the names, and they have these numbers. Cited by what
-- shows that a statement's line is read as the statement, and that it has words.
use Rattle.std.proofs.Common.{◌≡◌, ◌≢◌, ℕ, ◌<◌, Bool, true, List, [], ◌∷◌, length, get_or, map, All, AllPairs, IsTrue, refl}
use Rattle.std.specs.List.{list_all}
use Rattle.std.proofs.lemmas.List.Elements.{All-head, All-tail, All-map}
use Rattle.std.proofs.lemmas.List.Sums.{list_all-from_AllPass}
use Rattle.text_scan.specs.Names.{is_among, number_of}
use Rattle.operation_spec.specs.OperationLines.{nth_name}
use Rattle.operation_spec.proofs.NamesApart.{number_of-nth, is_among-nth}

module _ (names : List (List ℕ)) where
  -- they pass a test that all names pass
  pub names_pass : (test : List ℕ → Bool) (ks : List ℕ) → All (λ name. IsTrue (test name)) names → All (λ k. k < length names) ks → list_all test (map (nth_name names) ks) ≡ true
  names_pass test ks pass below =
      list_all-from_AllPass test (map (nth_name names) ks) (All-map (λ name. IsTrue (test name)) (nth_name names) ks (λ k d inside. pass (get_or ks k d) [] (below k d inside)))

  pub are_among : (ks : List ℕ) → AllPairs (λ a b. a ≢ b) names → All (λ k. k < length names) ks → list_all (is_among names) (map (nth_name names) ks) ≡ true
  are_among ks once below =
      list_all-from_AllPass (is_among names) (map (nth_name names) ks)
      (All-map (λ name. IsTrue (is_among names name)) (nth_name names) ks (λ k d inside. is_among-nth names (get_or ks k d) once (below k d inside)))

  pub numbers_again : (ks : List ℕ) → AllPairs (λ a b. a ≢ b) names → All (λ k. k < length names) ks → map (number_of names) (map (nth_name names) ks) ≡ ks
  numbers_again [] once below = refl
  numbers_again (k ∷ ks) once below =
      let inside : ℕ → Type 0 = λ j. j < length names in
      let here = number_of-nth names k once (All-head inside k ks below) in
      let others = numbers_again ks once (All-tail inside k ks below) in
      cc
