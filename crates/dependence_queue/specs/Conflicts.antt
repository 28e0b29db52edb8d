-- Which steps conflict, and which of their conflicts are direct edges, by the blocks that they write and read. The accesses
-- are given by the number of their step.
use Rattle.std.specs.Prelude.{◌≡◌, ◌≢◌, ◌⊎◌, ℕ, ◌<◌, List, [], ◌∷◌, Bool, false, ◌==◌, ◌||◌, IsTrue}
use Rattle.dependence_queue.specs.declared.access.Access.{Access}

-- the number is in the list
abbrev pub has_number : List ℕ → ℕ → Bool
has_number [] x = false
has_number (y ∷ ys) x = x == y || has_number ys x

-- ---- conflicts of an earlier step with a later one

-- on block x: the earlier one writes what the later one reads, reads what it writes, or both write it
abbrev pub IsFlowOn : Access → Access → ℕ → Type 0
IsFlowOn a c x = IsTrue (has_number c.reads x) × (a.write ≡ x)

abbrev pub IsAntiOn : Access → Access → ℕ → Type 0
IsAntiOn a c x = IsTrue (has_number a.reads x) × (c.write ≡ x)

abbrev pub IsOutputOn : Access → Access → ℕ → Type 0
IsOutputOn a c x = (a.write ≡ x) × (c.write ≡ x)

-- any of them
abbrev pub ConflictOn : Access → Access → ℕ → Type 0
ConflictOn a c x = IsFlowOn a c x ⊎ IsAntiOn a c x ⊎ IsOutputOn a c x

-- the same as a test, on any block
abbrev pub conflicts : Access → Access → Bool
conflicts a c = has_number c.reads a.write || has_number a.reads c.write || a.write == c.write

-- ---- edges

-- step s conflicts with a later step t, in a way and on a block that no step strictly between them writes
abbrev pub IsEdgeOf : (Access → Access → ℕ → Type 0) → (ℕ → Access) → ℕ → ℕ → Type 0
IsEdgeOf IsOn accesses s t =
    (x : ℕ) × (s < t) × IsOn (accesses s) (accesses t) x × ((r : ℕ) → s < r → r < t → (accesses r).write ≢ x)

-- a direct edge goes from step s to step t, and its kinds
abbrev pub IsDirectEdge : (ℕ → Access) → ℕ → ℕ → Type 0
IsDirectEdge accesses s t = IsEdgeOf ConflictOn accesses s t

abbrev pub IsFlowEdge : (ℕ → Access) → ℕ → ℕ → Type 0
IsFlowEdge accesses s t = IsEdgeOf IsFlowOn accesses s t

abbrev pub IsAntiEdge : (ℕ → Access) → ℕ → ℕ → Type 0
IsAntiEdge accesses s t = IsEdgeOf IsAntiOn accesses s t

abbrev pub IsOutputEdge : (ℕ → Access) → ℕ → ℕ → Type 0
IsOutputEdge accesses s t = IsEdgeOf IsOutputOn accesses s t
