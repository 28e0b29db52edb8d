-- Lent numbers are lent on in two regions, and what is in neither waits. Assumes `Logic`.
use Rattle.std.proofs.Common.{ℕ, Bool, List, [], ◌∷◌, length, refl}
use seplogic.Ra.Ura.{Ura}
use base.Stored.{coded_list}
use base.Logic.{SProp, ent, sep}
use base.Fml.{Lft, GName, Share, Fml, fsep, feq, flft, fobs, fbor}
use types.Logic.{Logic, sem}
use types.Kit.{Item, ‵, ◌⊛◌, some, later, ◌$◌, ◌∵◌, !, qed, move, keep, drop, use1, use3, split, split3, pick, fsplit, fjoin, feq_i, feq_l, show, await, updating, mean, group, done}
use types.Kit.{now as at_once}
use types.Mut.{open_ref}
use types.Follow.{after₂, takes_two}
use types.SemTy.{SemTy, Body}
use denote.Builtin.{u64}
use Rattle.matrix_parts.specs.Regions.{held, Held, woven}
use Rattle.matrix_parts.proofs.Regions.{AreTwoOf, length-woven}
use Rattle.matrix_parts.proofs.RegionMemory.{cut, mend, others}

module _ {M : Type 1} {𝓤 : Ura M} (𝓛 : Logic 𝓤) (b o : ℕ) (own : List ℕ → Fml) (has f g : ℕ → Bool) (two : (k : ℕ) → AreTwoOf (has k) (f k) (g k))
    (out : (xs : List ℕ) → ent 𝓤 (sem 𝓛 (own xs)) (sem 𝓛 (held has b o xs))) (back : (xs : List ℕ) → ent 𝓤 (sem 𝓛 (held has b o xs)) (sem 𝓛 (own xs))) where
  open 𝓛 use {H, A}

  -- n numbers, that are owned so
  abbrev pub Whole : ℕ → SemTy
  Whole n = record { rep = List ℕ; coded = coded_list u64.coded; size = 0; own_at = λ xs _ _. fsep (feq ℕ (length xs) n) (own xs) }

  module _ (κ : Lft) (q : Share) (γ : GName) (xs : List ℕ) where
    abbrev n : ℕ
    n = length xs

    abbrev join : List ℕ → List ℕ → List ℕ
    join ws vs = woven f g ws vs xs

    abbrev Rest : SProp 𝓤
    Rest = sem 𝓛 (held (others 𝓛 b has f g) b o xs)

    joins : (ws vs : List ℕ) → ent 𝓤 (sep 𝓤 (sem 𝓛 ((Held n f).own_at ws b o)) (sep 𝓤 (sem 𝓛 ((Held n g).own_at vs b o)) Rest)) (sem 𝓛 ((Whole n).own_at (join ws vs) b o))
    joins ws vs = qed 𝓛 (‵ ((Held n f).own_at ws b o) ∷ ‵ ((Held n g).own_at vs b o) ∷ ‵ (held (others 𝓛 b has f g) b o xs) ∷ []) ∵ fsplit ! $ feq_l ! (λ e. move ! (1 ∷ []) $ fsplit ! $ feq_l ! (λ e'. move ! (1 ∷ 0 ∷ 2 ∷ []) $
        use3 𝓛 (‵ (held has b o (join ws vs))) (mend 𝓛 b has f g two xs ws vs e e' o) $ use1 𝓛 (‵ (own (join ws vs))) (back (join ws vs)) $
        feq_i ! ℕ (length (join ws vs)) n (length-woven f g ws vs xs e e') $ fjoin ! $ done !))

    abbrev lends : (ℕ → Bool) → GName → Fml
    lends t δ = fsep (fobs δ ((coded_list u64.coded).code xs)) (fbor κ (Body (Held n t) b o δ))

    abbrev pub Taken : GName × GName → Item 𝓤
    Taken γs = ‵ (lends f γs.0) ⊛ ‵ (lends g γs.1) ⊛ ‵ (flft κ q) ⊛ ‵ (after₂ (Whole n) (Held n f) (Held n g) γ γs.0 γs.1 join)

    pub splits_regions : ent 𝓤 (sep 𝓤 (sem 𝓛 (fobs γ ((coded_list u64.coded).code xs))) (sep 𝓤 (sem 𝓛 (fbor κ (Body (Whole n) b o γ))) (A.lft κ q))) (H.⇛ (mean 𝓛 (some Taken)))
    splits_regions = qed 𝓛 (‵ (fobs γ ((coded_list u64.coded).code xs)) ∷ ‵ (fbor κ (Body (Whole n) b o γ)) ∷ ‵ (flft κ q) ∷ []) ∵ updating ! $ open_ref ! tt (Whole n) {x = xs} {b = b} {o = o} $ fsplit ! $ drop ! $
        use1 𝓛 (‵ (held has b o xs)) (out xs) $ use1 𝓛 (‵ (held f b o xs) ⊛ ‵ (held g b o xs) ⊛ ‵ (held (others 𝓛 b has f g) b o xs)) (cut 𝓛 b has f g two xs o) $ split3 ! $
        feq_i ! ℕ n n refl $ fjoin ! $ move ! (1 ∷ []) $ feq_i ! ℕ n n refl $ fjoin ! $ move ! (3 ∷ 4 ∷ 5 ∷ 1 ∷ 0 ∷ 2 ∷ []) $ group ! 6 $
        use1 𝓛 (later (some (λ (γs : GName × GName). (‵ (fobs γs.0 ((coded_list u64.coded).code xs)) ⊛ ‵ (fbor κ (Body (Held n f) b o γs.0))) ⊛ (‵ (fobs γs.1 ((coded_list u64.coded).code xs)) ⊛ ‵ (fbor κ (Body (Held n g) b o γs.1)))
        ⊛ ‵ (flft κ q) ⊛ ‵ (after₂ (Whole n) (Held n f) (Held n g) γ γs.0 γs.1 join))))
        (takes_two 𝓛 (Whole n) (Held n f) (Held n g) join κ q b o b o b o γ Rest joins ((coded_list u64.coded).code xs) ((coded_list u64.coded).code xs) xs xs) $ await ! tt $ pick ! (λ γs. split3 ! $
        split ! $ fjoin ! $ move ! (1 ∷ []) $ split ! $ fjoin ! $ move ! (2 ∷ []) $ split ! $ at_once ! $ show ! (λ (z : GName × GName). mean 𝓛 (Taken z)) γs $ keep ! (3 ∷ 2 ∷ 0 ∷ 1 ∷ []) $ done !)
