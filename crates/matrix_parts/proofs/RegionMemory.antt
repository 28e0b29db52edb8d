-- Numbers of which some are had lie in memory: one of them is taken out and put back, and those of two tests are cut apart. Assumes `Logic`.
use Rattle.std.proofs.Common.{◌≡◌, ℕ, zero, suc, ◌+◌, ◌*◌, ◌<◌, Bool, true, false, ◌&&◌, not, T, List, [], ◌∷◌, length, get_or, set, refl, arith, lit<}
use seplogic.Ra.Ura.{Ura}
use base.Logic.{ent, sep, emp, id⊢}
use base.Fml.{Fml, ftrue, fsep}
use types.Logic.{Logic, sem}
use types.Kit.{‵, ◌⊛◌, ◌$◌, ◌∵◌, !, qed, move, keep, use1, use2, use3, rewrite, split, split3, fsplit, fjoin, done}
use types.SemTy.{cells}
use denote.Builtin.{u64}
use denote.Memory.{mem}
use denote.Steps.{nothing}
use mir.Val.{has_ty, WT}
use denote.RawPtr.{Ptr, block_ptr, null_ptr}
use Rattle.matrix_parts.proofs.region.Base.TheLaws.{lowered, mir as base_mir}
use Rattle.matrix_parts.specs.Regions.{kept, held, chosen, woven}
use Rattle.matrix_parts.proofs.Regions.{AreTwoOf}

-- what neither of two tests takes
abbrev pub rest : Bool → Bool → Bool → Bool
rest m p q = m && (not p && not q)

module _ {M : Type 1} {𝓤 : Ura M} (𝓛 : Logic 𝓤) (b : ℕ) where
  abbrev cell : ℕ → ℕ → Fml
  cell x o = (mem u64).own_at x b o

  kept_out : (t : Bool) (F : Fml) → T t → ent 𝓤 (sem 𝓛 (kept t F)) (sem 𝓛 F)
  kept_out true F h = id⊢ 𝓤 (sem 𝓛 F)
  kept_out false F h = absurd h

  kept_in : (t : Bool) (F : Fml) → T t → ent 𝓤 (sem 𝓛 F) (sem 𝓛 (kept t F))
  kept_in true F h = id⊢ 𝓤 (sem 𝓛 F)
  kept_in false F h = absurd h

  -- those that are had but for the k-th
  abbrev pub around : (ℕ → Bool) → ℕ → List ℕ → ℕ → Fml
  around has o [] k = ftrue
  around has o (x ∷ xs) zero = held (λ i. has (suc i)) b (o + 8) xs
  around has o (x ∷ xs) (suc k) = fsep (kept (has 0) (cell x o)) (around (λ i. has (suc i)) (o + 8) xs k)

  pub cell_out : (has : ℕ → Bool) (xs : List ℕ) (k o at : ℕ) → k < length xs → T (has k) → at ≡ k * 8 + o
      → ent 𝓤 (sem 𝓛 (held has b o xs)) (sep 𝓤 (sem 𝓛 (cell (get_or xs k 0) at)) (sem 𝓛 (around has o xs k)))
  cell_out has [] k o at below had place = absurd (omega arith)
  cell_out has (x ∷ xs) zero o at below had place = qed 𝓛 (‵ (held has b o (x ∷ xs)) ∷ []) ∵ fsplit ! $
      use1 𝓛 (‵ (cell x o)) (kept_out (has 0) (cell x o) had) $ rewrite ! 0 (λ (p : ℕ). ‵ (cell x p)) {x = at} (omega arith) refl $ done !
  cell_out has (x ∷ xs) (suc k) o at below had place = qed 𝓛 (‵ (held has b o (x ∷ xs)) ∷ []) ∵ fsplit ! $ move ! (1 ∷ []) $
      use1 𝓛 (‵ (cell (get_or xs k 0) at) ⊛ ‵ (around (λ i. has (suc i)) (o + 8) xs k)) (cell_out (λ i. has (suc i)) xs k (o + 8) at (omega arith) had (omega arith)) $
      split ! $ move ! (2 ∷ 1 ∷ []) $ fjoin ! $ move ! (1 ∷ []) $ done !

  pub cell_in : (has : ℕ → Bool) (xs : List ℕ) (k o at v : ℕ) → k < length xs → T (has k) → at ≡ k * 8 + o
      → ent 𝓤 (sep 𝓤 (sem 𝓛 (cell v at)) (sem 𝓛 (around has o xs k))) (sem 𝓛 (held has b o (set xs k v)))
  cell_in has [] k o at v below had place = absurd (omega arith)
  cell_in has (x ∷ xs) zero o at v below had place = qed 𝓛 (‵ (cell v at) ∷ ‵ (around has o (x ∷ xs) zero) ∷ []) ∵
      rewrite ! 0 (λ (p : ℕ). ‵ (cell v p)) {x = o} (omega arith) refl $ use1 𝓛 (‵ (kept (has 0) (cell v o))) (kept_in (has 0) (cell v o) had) $ fjoin ! $ done !
  cell_in has (x ∷ xs) (suc k) o at v below had place = qed 𝓛 (‵ (cell v at) ∷ ‵ (fsep (kept (has 0) (cell x o)) (around (λ i. has (suc i)) (o + 8) xs k)) ∷ []) ∵
      move ! (1 ∷ []) $ fsplit ! $ move ! (2 ∷ 1 ∷ []) $
      use2 𝓛 (‵ (held (λ i. has (suc i)) b (o + 8) (set xs k v))) (cell_in (λ i. has (suc i)) xs k (o + 8) at v (omega arith) had (omega arith)) $ move ! (1 ∷ 0 ∷ []) $ fjoin ! $ done !

  -- one number, as one of two tests has it, or neither
  cut_one : (m p q : Bool) → AreTwoOf m p q → (F : Fml) → ent 𝓤 (sem 𝓛 (kept m F)) (sep 𝓤 (sem 𝓛 (kept p F)) (sep 𝓤 (sem 𝓛 (kept q F)) (sem 𝓛 (kept (rest m p q) F))))
  cut_one m true true two F = absurd (two.apart tt tt)
  cut_one true true false two F = qed 𝓛 (‵ F ∷ []) ∵ nothing ! $ nothing ! $ move ! (2 ∷ []) $ done !
  cut_one true false true two F = qed 𝓛 (‵ F ∷ []) ∵ nothing ! $ nothing ! $ move ! (1 ∷ 2 ∷ []) $ done !
  cut_one true false false two F = qed 𝓛 (‵ F ∷ []) ∵ nothing ! $ nothing ! $ done !
  cut_one false true false two F = absurd (two.first tt)
  cut_one false false true two F = absurd (two.second tt)
  cut_one false false false two F = qed 𝓛 (‵ ftrue ∷ []) ∵ nothing ! $ nothing ! $ done !

  mend_one : (m p q : Bool) → AreTwoOf m p q → (w v x o : ℕ)
      → ent 𝓤 (sep 𝓤 (sem 𝓛 (kept p (cell w o))) (sep 𝓤 (sem 𝓛 (kept q (cell v o))) (sem 𝓛 (kept (rest m p q) (cell x o))))) (sem 𝓛 (kept m (cell (chosen p q w v x) o)))
  mend_one m true true two w v x o = absurd (two.apart tt tt)
  mend_one true true false two w v x o = qed 𝓛 (‵ (cell w o) ∷ ‵ ftrue ∷ ‵ ftrue ∷ []) ∵ keep ! (0 ∷ []) $ done !
  mend_one true false true two w v x o = qed 𝓛 (‵ ftrue ∷ ‵ (cell v o) ∷ ‵ ftrue ∷ []) ∵ keep ! (1 ∷ []) $ done !
  mend_one true false false two w v x o = qed 𝓛 (‵ ftrue ∷ ‵ ftrue ∷ ‵ (cell x o) ∷ []) ∵ keep ! (2 ∷ []) $ done !
  mend_one false true false two w v x o = absurd (two.first tt)
  mend_one false false true two w v x o = absurd (two.second tt)
  mend_one false false false two w v x o = qed 𝓛 (‵ ftrue ∷ ‵ ftrue ∷ ‵ ftrue ∷ []) ∵ keep ! (0 ∷ []) $ done !

  abbrev pub others : (ℕ → Bool) → (ℕ → Bool) → (ℕ → Bool) → ℕ → Bool
  others has p q k = rest (has k) (p k) (q k)

  pub cut : (has p q : ℕ → Bool) → ((k : ℕ) → AreTwoOf (has k) (p k) (q k)) → (xs : List ℕ) (o : ℕ)
      → ent 𝓤 (sem 𝓛 (held has b o xs)) (sep 𝓤 (sem 𝓛 (held p b o xs)) (sep 𝓤 (sem 𝓛 (held q b o xs)) (sem 𝓛 (held (others has p q) b o xs))))
  cut has p q two [] o = qed 𝓛 (‵ ftrue ∷ []) ∵ nothing ! $ nothing ! $ done !
  cut has p q two (x ∷ xs) o = qed 𝓛 (‵ (fsep (kept (has 0) (cell x o)) (held (λ k. has (suc k)) b (o + 8) xs)) ∷ []) ∵ fsplit ! $
      use1 𝓛 (‵ (kept (p 0) (cell x o)) ⊛ ‵ (kept (q 0) (cell x o)) ⊛ ‵ (kept (others has p q 0) (cell x o))) (cut_one (has 0) (p 0) (q 0) (two 0) (cell x o)) $ split3 ! $ move ! (3 ∷ []) $
      use1 𝓛 (‵ (held (λ k. p (suc k)) b (o + 8) xs) ⊛ ‵ (held (λ k. q (suc k)) b (o + 8) xs) ⊛ ‵ (held (λ k. others has p q (suc k)) b (o + 8) xs)) (cut (λ k. has (suc k)) (λ k. p (suc k)) (λ k. q (suc k)) (λ k. two (suc k)) xs (o + 8)) $ split3 ! $
      move ! (5 ∷ 2 ∷ []) $ fjoin ! $ move ! (4 ∷ 2 ∷ []) $ fjoin ! $ move ! (3 ∷ 2 ∷ []) $ fjoin ! $ done !

  pub mend : (has p q : ℕ → Bool) → ((k : ℕ) → AreTwoOf (has k) (p k) (q k)) → (xs ws vs : List ℕ) → length ws ≡ length xs → length vs ≡ length xs → (o : ℕ)
      → ent 𝓤 (sep 𝓤 (sem 𝓛 (held p b o ws)) (sep 𝓤 (sem 𝓛 (held q b o vs)) (sem 𝓛 (held (others has p q) b o xs)))) (sem 𝓛 (held has b o (woven p q ws vs xs)))
  mend has p q two [] ws vs e e' o = qed 𝓛 (‵ (held p b o ws) ∷ ‵ (held q b o vs) ∷ ‵ ftrue ∷ []) ∵ keep ! (2 ∷ []) $ done !
  mend has p q two (x ∷ xs) [] vs e e' o = absurd (omega (arith, e))
  mend has p q two (x ∷ xs) (w ∷ ws) [] e e' o = absurd (omega (arith, e'))
  mend has p q two (x ∷ xs) (w ∷ ws) (v ∷ vs) e e' o = qed 𝓛 (‵ (fsep (kept (p 0) (cell w o)) (held (λ k. p (suc k)) b (o + 8) ws)) ∷ ‵ (fsep (kept (q 0) (cell v o)) (held (λ k. q (suc k)) b (o + 8) vs))
      ∷ ‵ (fsep (kept (others has p q 0) (cell x o)) (held (λ k. others has p q (suc k)) b (o + 8) xs)) ∷ []) ∵ fsplit ! $ move ! (2 ∷ []) $ fsplit ! $ move ! (4 ∷ []) $ fsplit ! $
      -- [the third; its others; the second; its others; the first; its others]
      move ! (4 ∷ 2 ∷ 0 ∷ []) $ use3 𝓛 (‵ (kept (has 0) (cell (chosen (p 0) (q 0) w v x) o))) (mend_one (has 0) (p 0) (q 0) (two 0) w v x o) $
      move ! (3 ∷ 2 ∷ 1 ∷ []) $ use3 𝓛 (‵ (held (λ k. has (suc k)) b (o + 8) (woven (λ k. p (suc k)) (λ k. q (suc k)) ws vs xs)))
      (mend (λ k. has (suc k)) (λ k. p (suc k)) (λ k. q (suc k)) (λ k. two (suc k)) xs ws vs (omega (arith, e)) (omega (arith, e')) (o + 8)) $ move ! (1 ∷ 0 ∷ []) $ fjoin ! $ done !

  -- all of the numbers
  pub all_out : (xs : List ℕ) (o : ℕ) → ent 𝓤 (sem 𝓛 (cells (mem u64) xs b o)) (sem 𝓛 (held (λ k. true) b o xs))
  all_out [] o = id⊢ 𝓤 (emp 𝓤)
  all_out (x ∷ xs) o = qed 𝓛 (‵ (cell x o) ∷ ‵ (cells (mem u64) xs b (o + 8)) ∷ []) ∵ move ! (1 ∷ []) $ use1 𝓛 (‵ (held (λ k. true) b (o + 8) xs)) (all_out xs (o + 8)) $ move ! (1 ∷ 0 ∷ []) $ done !

  pub all_in : (xs : List ℕ) (o : ℕ) → ent 𝓤 (sem 𝓛 (held (λ k. true) b o xs)) (sem 𝓛 (cells (mem u64) xs b o))
  all_in [] o = id⊢ 𝓤 (emp 𝓤)
  all_in (x ∷ xs) o = qed 𝓛 (‵ (cell x o) ∷ ‵ (held (λ k. true) b (o + 8) xs) ∷ []) ∵ move ! (1 ∷ []) $ use1 𝓛 (‵ (cells (mem u64) xs b (o + 8))) (all_in xs (o + 8)) $ move ! (1 ∷ 0 ∷ []) $ done !

-- the machine value of a pointer in a struct of its own
pub base_good : (p : Ptr) → T (has_ty base_mir (lowered (record { at = p }))) × WT (lowered (record { at = p }))
base_good (block_ptr b o) = (tt, (tt, tt))
base_good null_ptr = (tt, (record { fits = lit< tt }, tt))
