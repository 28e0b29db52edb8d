-- A `&` to the right to a region is made where one to a number is. Assumes `Logic`.
use Rattle.std.proofs.Common.{◌≡◌, ◌++◌, ℕ, zero, suc, ◌+◌, ◌*◌, ◌^◌, ◌<◌, Bool, true, false, T, List, [], ◌∷◌, length, get_or, refl, arith}
use seplogic.Ra.Ura.{Ura}
use base.Logic.{ent, sep}
use base.Fml.{Lft, GName, Fml, Incl, Incl-trans, ftrue, ffalse, fsep, feq, flt, fobs, fbor}
use base.Stored.{coded_list}
use contract.BorrowLft.{meet_⊑_left, meet_⊑_right, ⊑_meet, ⊑_static}
use ghost.Rules.{span}
use types.Logic.{Logic, sem, lfts}
use types.Kit.{‵, raw, ◌⊛◌, later, ◌$◌, ◌∵◌, !, qed, by, keep, drop, use1, use2, rewrite, split, fsplit, await, updating, now, done}
use types.SemTy.{Body}
use denote.Builtin.{u64}
use denote.Memory.{mem, shared_of}
use denote.RawPtr.{Ptr, block_ptr, null_ptr}
use denote.Sharing.{ShrLaws, nothing, said, beside, within}
use denote.SharingLaws.{beside_shr_laws, nothing_shr_laws, said_shr_laws, within_shr_laws}
use denote.Shares.{Shares-less, peels}
use denote.Param.Laws.{Laws, of_field}
use denote.Param.Shared.{copy_shared}
use denote.Struct.Field.{u64-field}
use denote.Struct.Laws.{u64-laws, u64-copy}
use denote.Struct.Lending.{Lends, Lends-both, Lends-nothing, Lends-said, Lends-false}
use Rattle.matrix_parts.specs.declared.region.Region.{Region}
use Rattle.matrix_parts.specs.Regions.{is_in, kept, held, Held, lent_in, kept_shared, shared, shared_in}

number_laws : Laws u64
number_laws = of_field u64-field u64-laws refl (copy_shared u64-field u64-copy)

kept_laws : (t : Bool) (x b o : ℕ) → ShrLaws (kept_shared t (shared_of u64 x b o))
kept_laws true x b o = number_laws.shr_laws x b o
kept_laws false x b o = nothing_shr_laws

shared_laws : (has : ℕ → Bool) (b o : ℕ) (xs : List ℕ) → ShrLaws (shared has b o xs)
shared_laws has b o [] = nothing_shr_laws
shared_laws has b o (x ∷ xs) = beside_shr_laws _ _ (kept_laws (has 0) x b o) (shared_laws (λ k. has (suc k)) b (o + 8) xs)

pub shared_in_laws : (κ' : Lft) (p : Ptr) (r : Region) (xs : List ℕ) → ShrLaws (shared_in κ' p r xs)
shared_in_laws κ' (block_ptr b o) r xs = beside_shr_laws _ _ (said_shr_laws (flt (length xs * 8) (2 ^ 63)) tt) (within_shr_laws κ' (shared (is_in r) b o xs) (shared_laws (is_in r) b o xs))
shared_in_laws κ' null_ptr r xs = said_shr_laws ffalse tt

pub number_shr_laws : (x b o : ℕ) → ShrLaws (shared_of u64 x b o)
number_shr_laws x b o = number_laws.shr_laws x b o

module _ {M : Type 1} {𝓤 : Ura M} (𝓛 : Logic 𝓤) (l : Lft) where
  open 𝓛 use {H, A}

  Lends-kept : (t : Bool) (x b o : ℕ) → Lends 𝓛 (kept t ((mem u64).own_at x b o)) (kept_shared t (shared_of u64 x b o)) l
  Lends-kept true x b o = λ κ ts. Shares-less 𝓛 u64 u64.lives l (⊑_static l) (number_laws.shares 𝓛) x κ ts b o
  Lends-kept false x b o = Lends-nothing 𝓛 ftrue l

  Lends-held : (has : ℕ → Bool) (b o : ℕ) (xs : List ℕ) → Lends 𝓛 (held has b o xs) (shared has b o xs) l
  Lends-held has b o [] = Lends-nothing 𝓛 ftrue l
  Lends-held has b o (x ∷ xs) = Lends-both 𝓛 (kept (has 0) ((mem u64).own_at x b o)) (held (λ k. has (suc k)) b (o + 8) xs) (kept_shared (has 0) (shared_of u64 x b o)) (shared (λ k. has (suc k)) b (o + 8) xs) l
      (Lends-kept (has 0) x b o) (Lends-held (λ k. has (suc k)) b (o + 8) xs)

  module _ (κ' : Lft) (il : Incl l κ') (γ : GName) (has : ℕ → Bool) (b o : ℕ) (xs : List ℕ) where
    abbrev n : ℕ
    n = length xs

    abbrev Lent : Fml
    Lent = fsep (fobs γ ((coded_list u64.coded).code xs)) (fbor κ' (Body (Held n has) b o γ))

    Lends-lent : Lends 𝓛 Lent (within κ' (shared has b o xs)) l
    Lends-lent κ ts inc sp =
        let sm : Incl (span ts) (κ ++ κ') = ⊑_meet (span ts) κ κ' sp (Incl-trans inc il) in
        qed 𝓛 (‵ (fbor κ Lent) ∷ raw (lfts 𝓛 ts) ∷ []) {P = H.⇛ (sep 𝓤 (sem 𝓛 (within κ' (shared has b o xs) κ)) (lfts 𝓛 ts))} (
        updating ! $ use1 𝓛 (‵ (fbor (κ ++ κ') Lent)) (𝓛.bors.bor_shorten κ (κ ++ κ') Lent (meet_⊑_left κ κ')) $
        use2 𝓛 (later (‵ (fbor (κ ++ κ') ((Held n has).own_at xs b o)) ⊛ raw (lfts 𝓛 ts))) (peels 𝓛 (Held n has) (κ ++ κ') κ' ts sm γ xs b o (meet_⊑_right κ κ')) $ await ! tt $
        use1 𝓛 (later (‵ (beside nothing (shared has b o xs) (κ ++ κ')) ⊛ raw (lfts 𝓛 ts)))
        (Lends-both 𝓛 (feq ℕ n n) (held has b o xs) nothing (shared has b o xs) l (Lends-nothing 𝓛 (feq ℕ n n) l) (Lends-held has b o xs) (κ ++ κ') ts inc sm) $ await ! tt $ split ! $
        fsplit ! $ drop ! $ now ! $ done !)

  pub Lends-region : (κ' : Lft) → Incl l κ' → (γ : GName) (p : Ptr) (r : Region) (xs : List ℕ) → Lends 𝓛 (lent_in κ' γ p r xs) (shared_in κ' p r xs) l
  Lends-region κ' il γ (block_ptr b o) r xs = Lends-both 𝓛 (flt (length xs * 8) (2 ^ 63)) (Lent κ' il γ (is_in r) b o xs) (said (flt (length xs * 8) (2 ^ 63))) (within κ' (shared (is_in r) b o xs)) l
      (Lends-said 𝓛 (flt (length xs * 8) (2 ^ 63)) tt l) (Lends-lent κ' il γ (is_in r) b o xs)
  Lends-region κ' il γ null_ptr r xs = Lends-false 𝓛 (said ffalse) l

module _ {M : Type 1} {𝓤 : Ura M} (𝓛 : Logic 𝓤) (b : ℕ) (κ : Lft) where
  kept_out : (t : Bool) (f : Lft → Fml) → T t → ent 𝓤 (sem 𝓛 (kept_shared t f κ)) (sem 𝓛 (f κ))
  kept_out true f h = base.Logic.id⊢ 𝓤 (sem 𝓛 (f κ))
  kept_out false f h = absurd h

  -- one of the shared numbers
  pub shared_at : (has : ℕ → Bool) (xs : List ℕ) (k o at : ℕ) → k < length xs → T (has k) → at ≡ k * 8 + o → ent 𝓤 (sem 𝓛 (shared has b o xs κ)) (sem 𝓛 (shared_of u64 (get_or xs k 0) b at κ))
  shared_at has [] k o at below had place = absurd (omega arith)
  shared_at has (x ∷ xs) zero o at below had place = qed 𝓛 (‵ (shared has b o (x ∷ xs) κ) ∷ []) ∵ fsplit ! $ keep ! (0 ∷ []) $
      use1 𝓛 (‵ (shared_of u64 x b o κ)) (kept_out (has 0) (shared_of u64 x b o) had) $ rewrite ! 0 (λ (p : ℕ). ‵ (shared_of u64 x b p κ)) {x = at} (omega arith) refl $ done !
  shared_at has (x ∷ xs) (suc k) o at below had place = qed 𝓛 (‵ (shared has b o (x ∷ xs) κ) ∷ []) ∵ fsplit ! $ keep ! (1 ∷ []) $ by ! (shared_at (λ i. has (suc i)) xs k (o + 8) at (omega arith) had (omega arith))
