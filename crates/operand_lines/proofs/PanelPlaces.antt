-- Places of the lines of a panel, each of so many numbers, one line behind the other.
use Rattle.std.proofs.Common.{◌≡◌, ◌≢◌, ℕ, ◌+◌, ◌*◌, ◌<◌, ◌≤◌, ◌⊎◌, inl, inr, List, get_or, set, arith}
use Rattle.std.proofs.lemmas.Nat.{mul-add-lt, same_from_place, row_fits}
use Rattle.std.proofs.lemmas.List.{get_or-set_other}

-- a place of an earlier line is before a later line's beginning
pub line_before : (g h height k : ℕ) → g < h → k < height → g * height + k < h * height
line_before g h height k earlier within = omega (arith, mul-add-lt g height k h earlier within)

-- a line ends where the last one does, or before
pub line_room : (g lines height : ℕ) → g < lines → g * height + height ≤ lines * height
line_room g lines height below = row_fits g height lines height below (omega arith)

-- a write to one place of a line leaves all others
pub place_apart : (xs : List ℕ) (g k e q height v : ℕ) → k < height → q < height → (e ≢ g) ⊎ (q ≢ k)
    → get_or (set xs (g * height + k) v) (e * height + q) 0 ≡ get_or xs (e * height + q) 0
place_apart xs g k e q height v within there apart = get_or-set_other xs (g * height + k) (e * height + q) v 0 differs
  where
    differs : e * height + q ≢ g * height + k
    differs same = elim apart [
      | inl line ↦ line (same_from_place e q g k height there within same).0
      | inr place ↦ place (same_from_place e q g k height there within same).1
    ]
