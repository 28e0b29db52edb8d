-- What a panel owns: the right to its region. Assumes `Logic`.
use Rattle.std.proofs.Common.{ℕ, ◌*◌, ◌^◌, ◌<◌, Bool, length, List, [], ◌∷◌, ◌++◌, T, refl, ap, ◌∙◌, lit<, w32, w64}
use seplogic.Ra.Ura.{Ura}
use mir.Syntax.{named}
use mir.Val.{Val, has_ty, WT, vint, vptr, vstruct, vcons, vnil, of_list}
use base.Logic.{ent, sep, emp}
use base.Fml.{GName, Share, Fml, fsep, feq, flft, fobs, fbor}
use base.Stored.{coded_list}
use types.Logic.{Logic, sem}
use types.Kit.{Item, ‵, ◌⊛◌, some, later, ◌$◌, ◌∵◌, !, qed, move, keep, split, split3, pick, use0, use1, use3, fjoin, fjoin3, fpack, feq_i, flt_i, show, await, updating, mean, done}
use types.Kit.{now as at_once}
use types.Follow.{after₂}
use types.SemTy.{Body}
use denote.RattleType.{RattleType, Valss, owns}
use denote.RawPtr.{Ptr, block_ptr, null_ptr}
use denote.Builtin.{u32, u64, usize}
use denote.Struct.Tuple.{Tuple}
use denote.Laws.{Is, Tells}
use denote.Plain.{uint_Makes}
use denote.Ref.{NamedLft}
use denote.Shadow.{makes_shadow}
use denote.Steps.{nothing, owned}
use denote.Struct.Declared as Declared
use denote.Struct.Owning.{shape}
use denote.Struct.Struct.{Struct, within}
use Rattle.matrix_parts.specs.declared.region.Base.{Base}
use Rattle.matrix_parts.specs.declared.region.Region.{Region}
use Rattle.matrix_parts.specs.declared.panel_mut.PanelMut.{PanelMut}
use Rattle.matrix_parts.specs.Regions.{is_in, held, Held, lent_in, woven}
use Rattle.matrix_parts.specs.contracts.region.Base as pointer
use Rattle.matrix_parts.specs.contracts.region.Region as region
use Rattle.matrix_parts.specs.contracts.region.Lent as lent
use Rattle.matrix_parts.specs.contracts.panel_mut.PanelMut as panel
use Rattle.matrix_parts.proofs.Regions.{AreTwoOf}
use Rattle.matrix_parts.proofs.RegionSplits.{Whole, Taken, splits_regions}
use Rattle.matrix_parts.proofs.PartSteps.{pair_val}
use Rattle.matrix_parts.proofs.region.Base.TheLaws as pointer_laws
use Rattle.matrix_parts.proofs.region.Region.TheLaws as region_laws
use Rattle.matrix_parts.proofs.panel_mut.PanelMut.TheLaws as panel_laws

-- the machine values: of the right, which takes no bytes, and of a panel
abbrev pub mark : Val
mark = vstruct (vcons (vstruct vnil) vnil)

abbrev pub panel_val : Base → Region → Val
panel_val p r = vstruct (vcons (pointer_laws.lowered p) (vcons mark (vcons (region_laws.lowered r) vnil)))

abbrev pub Data : NamedLft → RattleType
Data a = Struct (shape (lent.the_type a))

pub mark_made : (a : NamedLft) {M : Type 1} {𝓤 : Ura M} (𝓛 : Logic 𝓤) → ent 𝓤 (emp 𝓤) (sem 𝓛 ((Data a).own_val (tt, tt) (mark ∷ [])))
mark_made a 𝓛 = makes_shadow 𝓛 ((Data a).own_val (tt, tt) (mark ∷ [])) (λ vss. (tt, ((λ uss. (tt, tt)), tt))) ((vstruct vnil ∷ [], tt), (refl, ((tt, (refl, tt)), tt)))

pub panel_tells : (a : NamedLft) → Tells (panel.the_row a) (Is (panel.the_row a)) (λ p. panel_val p.base p.region ∷ [])
panel_tells a p vs so =
    let one = pointer_laws.lowers.val_is p.base so.0.0 so.1.1.0 in
    let two = so.1.1.1.0.0.1.0 ∙ ap (λ (ws : List Val). vstruct (of_list (ws ++ [])) ∷ []) so.1.1.1.0.0.1.1.0.1.0 in
    let three = region_laws.lowers.val_is p.region so.0.1.1.0 so.1.1.1.1.0 in
    so.1.0 ∙ (λ k. vstruct (of_list (one k ++ (two k ++ (three k ++ [])))) ∷ [])

-- a panel of numbers that lie at a place in memory
abbrev pub panel_at : ℕ → ℕ → GName → Region → List ℕ → PanelMut
panel_at b o γ r xs = record { base = record { at = block_ptr b o }; lent = record { mark = record {}; loan = γ; at = block_ptr b o; region = r; numbers = xs }; region = r }

-- the numbers of a region fit their types
pub record AreFit (r : Region) : Type 0 where
  pub first : r.first < 2 ^ 64
  pub stride : r.stride < 2 ^ 64
  pub top : r.top < 2 ^ 32
  pub left : r.left < 2 ^ 32
  pub rows : r.rows < 2 ^ 32
  pub cols : r.cols < 2 ^ 32

module _ {M : Type 1} {𝓤 : Ura M} (𝓛 : Logic 𝓤) where
  pub region_made : (r : Region) → AreFit r → ent 𝓤 (emp 𝓤) (sem 𝓛 (region.the_row.own_val r (region_laws.lowered r ∷ [])))
  region_made r fit = qed 𝓛 [] ∵
      nothing ! $ owned ! u32 _ (uint_Makes 𝓛 w32) r.cols _ (refl, fit.cols) $ fjoin ! $ owned ! u32 _ (uint_Makes 𝓛 w32) r.rows _ (refl, fit.rows) $ fjoin ! $
      owned ! u32 _ (uint_Makes 𝓛 w32) r.left _ (refl, fit.left) $ fjoin ! $ owned ! u32 _ (uint_Makes 𝓛 w32) r.top _ (refl, fit.top) $ fjoin ! $
      owned ! usize _ (uint_Makes 𝓛 w64) r.stride _ (refl, fit.stride) $ fjoin ! $ owned ! usize _ (uint_Makes 𝓛 w64) r.first _ (refl, fit.first) $ fjoin ! $
      feq_i ! (List Val) (region_laws.lowered r ∷ []) (region_laws.lowered r ∷ []) refl $ fjoin ! $
      fpack ! (Valss (Declared.fields region.the_type)) (within (Declared.shape region.the_type) (region.the_type.to r) (region_laws.lowered r ∷ []))
      (vint w64 r.first ∷ [], (vint w64 r.stride ∷ [], (vint w32 r.top ∷ [], (vint w32 r.left ∷ [], (vint w32 r.rows ∷ [], (vint w32 r.cols ∷ [], tt)))))) $ done !

  pub pointer_made : (b o : ℕ) → ent 𝓤 (emp 𝓤) (sem 𝓛 (pointer.the_row.own_val (record { at = block_ptr b o }) (pointer_laws.lowered (record { at = block_ptr b o }) ∷ [])))
  pointer_made b o = qed 𝓛 [] ∵
      nothing ! $ feq_i ! (List Val) (vptr b o ∷ []) (vptr b o ∷ []) refl $ fjoin ! $ feq_i ! (List Val) (vstruct (vcons (vptr b o) vnil) ∷ []) (vstruct (vcons (vptr b o) vnil) ∷ []) refl $ fjoin ! $
      fpack ! (Valss (Declared.fields pointer.the_type)) (within (Declared.shape pointer.the_type) (pointer.the_type.to (record { at = block_ptr b o })) (vstruct (vcons (vptr b o) vnil) ∷ [])) (vptr b o ∷ [], tt) $ done !

  pub panel_made : (a : NamedLft) (γ : GName) (b o : ℕ) (r : Region) (xs : List ℕ) → AreFit r
      → ent 𝓤 (sem 𝓛 (lent_in a.lft γ (block_ptr b o) r xs)) (sem 𝓛 ((panel.the_row a).own_val (panel_at b o γ r xs) (panel_val (record { at = block_ptr b o }) r ∷ [])))
  panel_made a γ b o r xs fit =
      let p : PanelMut = panel_at b o γ r xs in let v : Val = panel_val (record { at = block_ptr b o }) r in
      qed 𝓛 (‵ (lent_in a.lft γ (block_ptr b o) r xs) ∷ []) ∵ use0 𝓛 (‵ ((Data a).own_val (tt, tt) (mark ∷ []))) (mark_made a 𝓛) $ fjoin ! $
      use0 𝓛 (‵ (region.the_row.own_val r (region_laws.lowered r ∷ []))) (region_made r fit) $ nothing ! $ move ! (1 ∷ 0 ∷ []) $ fjoin ! $ move ! (1 ∷ 0 ∷ []) $ fjoin ! $
      use0 𝓛 (‵ (pointer.the_row.own_val p.base (pointer_laws.lowered p.base ∷ []))) (pointer_made b o) $ fjoin ! $ feq_i ! (List Val) (v ∷ []) (v ∷ []) refl $ fjoin ! $
      fpack ! (Valss (Declared.fields (panel.the_type a))) (within (Declared.shape (panel.the_type a)) ((panel.the_type a).to p) (v ∷ [])) (pointer_laws.lowered p.base ∷ [], (mark ∷ [], (region_laws.lowered r ∷ [], tt))) $ done !

pub panel_good : (p : Ptr) (r : Region) → AreFit r → T (has_ty (panel_laws.mir (named 0)) (panel_val (record { at = p }) r)) × WT (panel_val (record { at = p }) r)
panel_good (block_ptr b o) r fit = (tt, ((tt, tt), ((tt, tt), ((record { fits = fit.first }, (record { fits = fit.stride }, (record { fits = fit.top }, (record { fits = fit.left }, (record { fits = fit.rows }, (record { fits = fit.cols }, tt)))))), tt))))
panel_good null_ptr r fit = (tt, ((record { fits = lit< tt }, tt), ((tt, tt), ((record { fits = fit.first }, (record { fits = fit.stride }, (record { fits = fit.top }, (record { fits = fit.left }, (record { fits = fit.rows }, (record { fits = fit.cols }, tt)))))), tt))))

-- numbers that are owned at a place are lent on as two panels, and what is in neither waits
module _ {M : Type 1} {𝓤 : Ura M} (𝓛 : Logic 𝓤) (a : NamedLft) (q : Share) (b o : ℕ) (γ : GName) (xs : List ℕ) (own : List ℕ → Fml) (has : ℕ → Bool) (r s : Region) (two : (k : ℕ) → AreTwoOf (has k) (is_in r k) (is_in s k))
    (out : (zs : List ℕ) → ent 𝓤 (sem 𝓛 (own zs)) (sem 𝓛 (held has b o zs))) (back : (zs : List ℕ) → ent 𝓤 (sem 𝓛 (held has b o zs)) (sem 𝓛 (own zs))) where
  open 𝓛 use {H, A}

  abbrev Row : RattleType
  Row = panel.the_row a

  abbrev pub pair_out : Val
  pair_out = pair_val (panel_val (record { at = block_ptr b o }) r) (panel_val (record { at = block_ptr b o }) s)

  abbrev pub follows_panels : GName × GName → Fml
  follows_panels γs = after₂ (Whole 𝓛 b o own has (is_in r) (is_in s) two out back (length xs)) (Held (length xs) (is_in r)) (Held (length xs) (is_in s)) γ γs.0 γs.1 (λ ws vs. woven (is_in r) (is_in s) ws vs xs)

  abbrev pub LentOn : GName × GName → Item 𝓤
  LentOn γs = ‵ ((Tuple (Row ∷ Row ∷ [])).own_val (panel_at b o γs.0 r xs, panel_at b o γs.1 s xs) (pair_out ∷ [])) ⊛ ‵ (flft a.lft q) ⊛ ‵ (follows_panels γs)

  pub lent_on : length xs * 8 < 2 ^ 63 → AreFit r → AreFit s → ent 𝓤 (sep 𝓤 (sem 𝓛 (fobs γ ((coded_list u64.coded).code xs)))
      (sep 𝓤 (sem 𝓛 (fbor a.lft (Body (Whole 𝓛 b o own has (is_in r) (is_in s) two out back (length xs)) b o γ))) (A.lft a.lft q))) (H.⇛ (mean 𝓛 (some LentOn)))
  lent_on bytes fit fit' = qed 𝓛 (‵ (fobs γ ((coded_list u64.coded).code xs)) ∷ ‵ (fbor a.lft (Body (Whole 𝓛 b o own has (is_in r) (is_in s) two out back (length xs)) b o γ)) ∷ ‵ (flft a.lft q) ∷ []) ∵ updating ! $
      use3 𝓛 (later (some (Taken 𝓛 b o own has (is_in r) (is_in s) two out back a.lft q γ xs))) (splits_regions 𝓛 b o own has (is_in r) (is_in s) two out back a.lft q γ xs) $ await ! tt $ pick ! (λ γs. split3 ! $
      let one : PanelMut = panel_at b o γs.0 r xs in let other : PanelMut = panel_at b o γs.1 s xs in
      flt_i ! (length xs * 8) (2 ^ 63) bytes $ fjoin ! $ use1 𝓛 (‵ (Row.own_val one (panel_val one.base r ∷ []))) (panel_made 𝓛 a γs.0 b o r xs fit) $ move ! (1 ∷ []) $
      flt_i ! (length xs * 8) (2 ^ 63) bytes $ fjoin ! $ use1 𝓛 (‵ (Row.own_val other (panel_val other.base s ∷ []))) (panel_made 𝓛 a γs.1 b o s xs fit') $
      nothing ! $ move ! (2 ∷ 1 ∷ 0 ∷ []) $ fjoin3 ! $ feq_i ! (List Val) (pair_out ∷ []) (pair_out ∷ []) refl $ fjoin ! $
      fpack ! (Valss (Row ∷ Row ∷ [])) (λ uss. fsep (feq (List Val) (pair_out ∷ []) (vstruct (of_list (uss.0 ++ (uss.1.0 ++ []))) ∷ [])) (owns (Row ∷ Row ∷ []) (one, (other, tt)) uss)) (panel_val one.base r ∷ [], (panel_val other.base s ∷ [], tt)) $
      move ! (1 ∷ []) $ split ! $ at_once ! $ show ! (λ (z : GName × GName). mean 𝓛 (LentOn z)) γs $ keep ! (2 ∷ 0 ∷ 1 ∷ []) $ done !)
