-- What a write into a panel leaves. Cited by the kernels that factor by panels.
use Rattle.std.proofs.Common.{◌≡◌, ◌≢◌, ℕ, ◌+◌, ◌*◌, ◌<◌, ◌⊎◌, inl, inr, List, length, get_or, set, get_or-set_other, get_or-set_same, ap, ◌∙◌, arith}
use Rattle.std.proofs.lemmas.Nat.{same_from_place}
use Rattle.part_factors.specs.PanelRows.{in_panel}

pub in_panel-set_same : (xs : List ℕ) (height j k v : ℕ) → j * height + k < length xs → in_panel (set xs (j * height + k) v) height 0 j k ≡ v
in_panel-set_same xs height j k v below = ap (λ (p : ℕ). get_or (set xs (j * height + k) v) (j * height + p) 0) (omega arith) ∙ get_or-set_same xs (j * height + k) v 0 below

pub in_panel-set_other : (xs : List ℕ) (height j k v i p : ℕ) → k < height → p < height → (i ≢ j) ⊎ (p ≢ k)
    → in_panel (set xs (j * height + k) v) height 0 i p ≡ in_panel xs height 0 i p
in_panel-set_other xs height j k v i p k_in p_in apart = get_or-set_other xs (j * height + k) (i * height + (0 + p)) v 0 (λ e.
    let same = same_from_place i p j k height p_in k_in (omega (arith, e)) in
    elim apart [ inl row ↦ row same.0 | inr col ↦ col same.1 ])

-- a line from a later number on
pub in_panel-from : (xs : List ℕ) (height from j k : ℕ) → in_panel xs height from j k ≡ in_panel xs height 0 j (from + k)
in_panel-from xs height from j k = ap (λ (p : ℕ). get_or xs (j * height + p) 0) (omega arith)

-- a number of a line by its place in the panel
pub in_panel-place : (xs : List ℕ) (height j k : ℕ) → get_or xs (j * height + k) 0 ≡ in_panel xs height 0 j k
in_panel-place xs height j k = ap (λ (p : ℕ). get_or xs (j * height + p) 0) (omega arith)
