-- Numbers of which a region alone is lent.
use Rattle.std.specs.Prelude.{ℕ, suc, ◌+◌, ◌-◌, ◌*◌, ◌/◌, ◌%◌, ◌^◌, nat_lt, Bool, true, false, ◌&&◌, not, List, [], ◌∷◌, length}
use base.Fml.{Lft, GName, Fml, ftrue, ffalse, fsep, feq, flt, fobs, fbor}
use base.Stored.{coded_list}
use lib.Dec.{T}
use types.SemTy.{SemTy, Body}
use denote.Builtin.{u64}
use denote.Memory.{mem, shared_of}
use denote.Sharing.{nothing, said, beside, within}
use denote.RawPtr.{Ptr, block_ptr, null_ptr}
use Rattle.matrix_parts.specs.declared.region.Region.{Region}

-- k is one of the n numbers from start on
abbrev pub is_among : ℕ → ℕ → ℕ → Bool
is_among start n k = not (nat_lt k start) && nat_lt k (start + n)

-- whether the number at place k belongs to the region
abbrev pub is_in : Region → ℕ → Bool
is_in r k = not (nat_lt k r.first) && (is_among r.top r.rows ((k - r.first) / r.stride) && is_among r.left r.cols ((k - r.first) % r.stride))

abbrev pub covers : Region → ℕ → Type 0
covers r k = T (is_in r k)

abbrev pub kept : Bool → Fml → Fml
kept true F = F
kept false F = ftrue

-- those of the numbers lie from a place in memory on whose place in the list the test has
abbrev pub held : (ℕ → Bool) → ℕ → ℕ → List ℕ → Fml
held has b o [] = ftrue
held has b o (x ∷ xs) = fsep (kept (has 0) ((mem u64).own_at x b o)) (held (λ k. has (suc k)) b (o + 8) xs)

-- n numbers, of which those are had that the test has
abbrev pub Held : ℕ → (ℕ → Bool) → SemTy
Held n has = record { rep = List ℕ; coded = coded_list u64.coded; size = 0; own_at = λ xs b o. fsep (feq ℕ (length xs) n) (held has b o xs) }

-- w where the first test holds, v where the second one does, and else x
abbrev pub chosen : Bool → Bool → ℕ → ℕ → ℕ → ℕ
chosen true q w v x = w
chosen false true w v x = v
chosen false false w v x = x

-- three lists of one length, place by place
abbrev pub woven : (ℕ → Bool) → (ℕ → Bool) → List ℕ → List ℕ → List ℕ → List ℕ
woven p q ws vs [] = []
woven p q [] vs (x ∷ xs) = []
woven p q (w ∷ ws) [] (x ∷ xs) = []
woven p q (w ∷ ws) (v ∷ vs) (x ∷ xs) = chosen (p 0) (q 0) w v x ∷ woven (λ k. p (suc k)) (λ k. q (suc k)) ws vs xs

-- a region of numbers, which take fewer than 2 ^ 63 bytes, is lent
abbrev pub lent_in : Lft → GName → Ptr → Region → List ℕ → Fml
lent_in κ γ null_ptr r xs = ffalse
lent_in κ γ (block_ptr b o) r xs = fsep (flt (length xs * 8) (2 ^ 63)) (fsep (fobs γ ((coded_list u64.coded).code xs)) (fbor κ (Body (Held (length xs) (is_in r)) b o γ)))

-- of what a test has or hasn't, what is shared
abbrev pub kept_shared : Bool → (Lft → Fml) → Lft → Fml
kept_shared true t = t
kept_shared false t = nothing

-- those of the numbers that the test has are shared
abbrev pub shared : (ℕ → Bool) → ℕ → ℕ → List ℕ → Lft → Fml
shared has b o [] = nothing
shared has b o (x ∷ xs) = beside (kept_shared (has 0) (shared_of u64 x b o)) (shared (λ k. has (suc k)) b (o + 8) xs)

-- a region of numbers that is lent for κ', as it is seen behind a `&`
abbrev pub shared_in : Lft → Ptr → Region → List ℕ → Lft → Fml
shared_in κ' null_ptr r xs = said ffalse
shared_in κ' (block_ptr b o) r xs = beside (said (flt (length xs * 8) (2 ^ 63))) (within κ' (shared (is_in r) b o xs))
