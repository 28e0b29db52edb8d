-- `read` loads the number at its place. Assumes `Logic`.
use Rattle.std.proofs.Common.{◌≡◌, ℕ, ◌+◌, ◌*◌, ◌^◌, ◌<◌, List, [], ◌∷◌, ◌++◌, length, get_or, refl, ◌∙◌, arith, w64}
use Rattle.std.proofs.raw_atomic.Walks.{proved}
use base.Fraction.{full_share}
use mir.Syntax.{named}
use mir.Val.{Val, vint, vptr}
use base.Logic.{SProp, emp, never, id⊢}
use base.Fml.{Incl-refl, Lft, Share, ftrue, fat, flft}
use types.Kit.{‵, raw, ◌⊛◌, at_ret, ◌$◌, ◌∵◌, !, qed, by, move, keep, drop, split, split3, join, fsplit, fjoin, use0, use1, use2, rewrite, flt_l, flt_i}
use types.Part.{whole, sub}
use types.Run.{stop, fld, lit, bin, load, look, of_opd, first, blocks, exec, returns, enter}
use types.ByLocal.{alloc_all, pass_all, free_all, look_at, take_at, give_at, get, get_in, through, sets, sets_last, env}
use contract.Running.{tables}
use contract.Monad.{fact, fact_i}
use denote.Exit.{yes}
use denote.RattleType.{RattleType, owns}
use denote.RawPtr.{Ptr, in_a_block}
use denote.Ref.{shr_vals, shr_Tells}
use denote.Opens.{hide, unhide}
use denote.Builtin.{RefOf}
use types.Na.{before-Incl}
use base.Before.{before}
use contract.BorrowLft.{⊑_meet}
use denote.Memory.{shared_of}
use denote.Signature.{types_at, plain, named_lft}
use denote.Steps.{nothing, heard, owned, looks, shuts, tied, ties}
use denote.Builtin.{usize, u64}
use denote.Copied.{uint_Copied}
use denote.Plain.{uint_vals, uint_Tells, uint_Makes}
use denote.Triple.Walked.{Stays, stay_dropped, walk_of, Goes-dropped}
use Rattle.matrix_parts.specs.Regions.{is_in, covers, shared_in}
use Rattle.matrix_parts.specs.contracts.region.Base as pointer
use Rattle.matrix_parts.specs.contracts.region.Lent as lent
use Rattle.matrix_parts.specs.contracts.region.Lent.read.{ended, clauses}
use Rattle.matrix_parts.specs.contracts.region.Lent.read.Key.{name as #self}
use Rattle.matrix_parts.proofs.region.Base.TheLaws as base_laws
use Rattle.matrix_parts.proofs.RegionSharing.{shared_at, number_shr_laws}
use Rattle.matrix_parts.proofs.Ends.{leaves}
use Rattle.matrix_parts.proofs.RegionMemory.{base_good}
use Rattle.matrix_parts.proofs.region.Lent.read.Statement.{statement}
use Rattle.matrix_parts.proofs.region.Lent.read.Code as code

pub read_spec : {M : Type 1} → statement M
read_spec 𝓤 𝓛 𝓜 𝓡 wired =
    let H = 𝓛.H in let 𝓣 = tables 𝓤 H 𝓜 𝓡 𝓡.env in let c = clauses 𝓛 𝓜.mem 𝓡.returns in
    let self = RefOf (0 ∷ []) tt (plain (λ κs. lent.the_row (named_lft 2 1 tt κs))) (λ _. tt) in
    let hs : Stays ended.signature.params ended.kept = (stay_dropped self yes, (stay_dropped (plain (λ _. pointer.the_row)) yes, (stay_dropped (plain (λ _. usize)) yes, tt))) in
    proved 𝓛 ended hs c 𝓜 𝓡 (Goes-dropped 𝓛 2 self yes (λ κs x f. refl), (Goes-dropped 𝓛 2 (plain (λ _. pointer.the_row)) yes (λ κs x f. refl), (Goes-dropped 𝓛 2 (plain (λ _. usize)) yes (λ κs x f. refl), tt)))
    #self code.function (code.unfolded 𝓤 H 𝓜 𝓡 wired)
    (λ κs. (shr_vals, ((λ p. base_laws.lowered p ∷ []), (uint_vals w64, tt)))) (λ κs. (shr_Tells (named 0) κs.0 (lent.the_row (named_lft 2 1 tt κs)), (base_laws.lowers.val_is, (uint_Tells w64, tt)))) (λ κs qs bounds a gh are.
    let κ : Lft = κs.0 in let q : Share = qs.0 in let κ' : Lft = κs.1.0 in let q' : Share = qs.1.0 in let Row : RattleType = lent.the_row (named_lft 2 1 tt κs) in
    let r = a.0 in let d = a.0.now in let rb : ℕ = r.ref_ptr.0 in let ro : ℕ = r.ref_ptr.1 in let p = a.1.0 in let place : ℕ = a.1.1.0 in let xs : List ℕ = d.numbers in
    let y : (walk_of 𝓛 ended hs c).Ghost = ((κs, qs, bounds, a, (shr_vals r, (base_laws.lowered p ∷ [], (vint w64 place ∷ [], tt)))), gh) in let Post : Val → SProp 𝓤 = (walk_of 𝓛 ended hs c).post y in
    let f_place : place < 2 ^ 64 = are.1.1.0.1 in
    qed 𝓛 (((‵ (flft κ q) ⊛ ‵ (flft κ' q') ⊛ ‵ ftrue) ⊛ ‵ (owns (types_at ended.signature.params κs) a y.0.4)) ∷ raw (fact 𝓤 (p.at ≡ d.at)) ∷ raw (fact 𝓤 (place < length xs)) ∷ raw (fact 𝓤 (covers d.region place)) ∷ []) ∵
    move ! (1 ∷ 2 ∷ 3 ∷ []) $ heard ! _ (λ same. heard ! _ (λ below. heard ! _ (λ had. split ! $ split3 ! $ move ! (3 ∷ []) $ fsplit ! $ fsplit ! $ drop ! $ keep ! (0 ∷ 2 ∷ 3 ∷ []) $
    -- [self; the tokens]
    enter ! 𝓣.C 𝓣.Λ code.function (vptr rb ro ∷ base_laws.lowered p ∷ vint w64 place ∷ []) Post $ alloc_all ! (λ l. pass_all ! refl ((tt, tt), (base_good p.at, ((tt, record { fits = f_place }), tt))) $
    unhide ! $ fsplit ! $ drop ! $ in_a_block ! d.at (λ at. shared_in κ' at d.region xs κ) (id⊢ 𝓤 (never 𝓤)) (λ b o e. fsplit ! $ flt_l ! (λ small.
    let x : ℕ = get_or xs place 0 in let bytes : ℕ = place * 8 in let f_bytes : bytes < 2 ^ 64 = omega (arith, small, below) in
    use1 𝓛 (‵ (shared_of u64 x b (bytes + o) (κ ++ κ'))) (shared_at 𝓛 b (κ ++ κ') (is_in d.region) xs place o (bytes + o) below had refl) $
    use0 𝓛 (‵ (before κ (κ ++ κ'))) (before-Incl 𝓛 κ (κ ++ κ') (⊑_meet κ κ κ' (Incl-refl κ) bounds.0)) $ use2 𝓛 (‵ (shared_of u64 x b (bytes + o) κ)) ((number_shr_laws x b (bytes + o)).mono _ _ 𝓛 κ (κ ++ κ')) $ hide ! $
    looks ! tt u64 (uint_Copied 𝓛 w64).opens x b (bytes + o) (λ s us. tied ! s u64.mir us b (bytes + o) $ move ! (1 ∷ []) $ flt_l ! (λ f_x.
    -- [the number; its way back; ..]
    take_at ! 2 $ rewrite ! 0 (λ (at : Ptr). ‵ (fat full_share base_laws.mir (l 2) 0 (base_laws.lowered (record { at = at })))) (same ∙ e) refl $ give_at ! 2 $ first ! $ blocks ! $
    sets ! (bin ! (get ! refl) (lit ! tt) (record { fits = f_bytes })) refl (tt, record { fits = f_bytes }) $
    sets ! (bin ! (get_in ! (fld ! refl (stop !)) (sub ! 0 refl (whole !))) (get ! refl) tt) refl (tt, tt) $
    sets_last ! (of_opd ! (load ! (through ! refl (stop !)) (look ! 0 refl))) refl (tt, record { fits = f_x }) $
    exec ! 𝓣.C 𝓣.Λ (env code.Mir.locals l) code.Mir.t-2 (at_ret _ Post) $ sets ! (of_opd ! (get ! refl)) refl (tt, record { fits = f_x }) $
    flt_i ! x (2 ^ 64) f_x $ move ! (1 ∷ 0 ∷ []) $ ties ! s u64.mir (vint w64 x ∷ []) b (bytes + o) $ shuts ! tt u64 s x (vint w64 x ∷ []) b (bytes + o) $
    returns ! (look_at ! 0 refl) $ free_all ! refl $
    -- [the token of self; self; the token of 'a]
    nothing ! $ move ! (3 ∷ 0 ∷ []) $ join ! $ move ! (1 ∷ 0 ∷ []) $ join ! $ nothing ! $ nothing ! $ fjoin ! $ nothing ! $ fjoin ! $ nothing ! $ fjoin ! $
    owned ! u64 _ (uint_Makes 𝓛 w64) x _ (refl, f_x) $ use0 𝓛 (raw (fact 𝓤 (x ≡ get_or xs place 0))) (fact_i 𝓤 _ (emp 𝓤) refl) $ keep ! (3 ∷ 2 ∷ 1 ∷ 0 ∷ []) $
    by ! (leaves 𝓛 ended hs c y (vint w64 x) x (tt, (tt, (tt, tt))) (tt, (tt, (tt, tt)))))))))))))
