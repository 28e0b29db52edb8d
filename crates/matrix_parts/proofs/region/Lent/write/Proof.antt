-- `write` stores a number at its place. Assumes `Logic`.
use Rattle.std.proofs.Common.{◌≡◌, ℕ, ◌+◌, ◌*◌, ◌^◌, ◌<◌, List, [], ◌∷◌, length, set, get_or, length-set, sym, refl, ◌∙◌, subst, arith, w64}
use Rattle.std.proofs.raw_atomic.Walks.{proved}
use base.Fraction.{full_share}
use mir.Syntax.{ty_int, named}
use mir.Val.{Val, vint, vunit, vptr}
use base.Logic.{SProp, emp, id⊢}
use base.Fml.{Lft, Share, ftrue, fat, flft, fbor}
use types.Kit.{‵, raw, ◌⊛◌, at_ret, ◌$◌, ◌∵◌, !, qed, by, move, keep, drop, split, split3, join, fsplit, fsplit3, fjoin, fjoin3, use0, use1, use2, rewrite, feq_i, flt_l, flt_i}
use types.Part.{whole, sub}
use types.Run.{stop, fld, lit, unit_lit, bin, store, of_opd, assigns_last, first, blocks, exec, returns, enter}
use types.ByLocal.{alloc_all, pass_all, free_all, look_at, take_at, give_at, get, get_in, through, sets, env}
use types.Mut.{open_ref, close_ref}
use types.SemTy.{Body}
use contract.Running.{tables}
use contract.Monad.{fact, fact_i}
use denote.Exit.{yes}
use denote.RattleType.{RattleType, owns}
use denote.Memory.{mem}
use denote.RawPtr.{Ptr, in_a_block}
use denote.Ref.{mut_vals, mut_Tells}
use denote.Signature.{types_at, plain, named_lft}
use denote.Steps.{nothing, heard, opens, closes}
use denote.Builtin.{usize, u64}
use denote.Plain.{uint_vals, uint_Tells, uint_in, uint_out}
use denote.Triple.Walked.{Stays, stay_dropped, stay_ref, walk_of, Goes-dropped, Goes-ref}
use Rattle.matrix_parts.specs.Regions.{is_in, covers, held, Held, lent_in}
use Rattle.matrix_parts.specs.contracts.region.Base as pointer
use Rattle.matrix_parts.specs.contracts.region.Lent as lent
use Rattle.matrix_parts.specs.contracts.region.Lent.write.{ended, clauses}
use Rattle.matrix_parts.specs.contracts.region.Lent.write.Key.{name as #self}
use Rattle.matrix_parts.proofs.region.Base.TheLaws as base_laws
use Rattle.matrix_parts.proofs.Ends.{leaves}
use Rattle.matrix_parts.proofs.RegionMemory.{cell_out, cell_in, around, base_good}
use Rattle.matrix_parts.proofs.region.Lent.write.Statement.{statement}
use Rattle.matrix_parts.proofs.region.Lent.write.Code as code

pub write_spec : {M : Type 1} → statement M
write_spec 𝓤 𝓛 𝓜 𝓡 wired =
    let H = 𝓛.H in let 𝓣 = tables 𝓤 H 𝓜 𝓡 𝓡.env in let c = clauses 𝓛 𝓜.mem 𝓡.returns in
    let self = plain (λ κs. lent.the_row (named_lft 2 1 tt κs)) in
    let hs : Stays ended.signature.params ended.kept = (stay_ref (0 ∷ []) tt self, (stay_dropped (plain (λ _. pointer.the_row)) yes, (stay_dropped (plain (λ _. usize)) yes, (stay_dropped (plain (λ _. u64)) yes, tt)))) in
    proved 𝓛 ended hs c 𝓜 𝓡 (Goes-ref 𝓛 2 0 tt self, (Goes-dropped 𝓛 2 (plain (λ _. pointer.the_row)) yes (λ κs x f. refl), (Goes-dropped 𝓛 2 (plain (λ _. usize)) yes (λ κs x f. refl), (Goes-dropped 𝓛 2 (plain (λ _. u64)) yes (λ κs x f. refl), tt))))
    #self code.function (code.unfolded 𝓤 H 𝓜 𝓡 wired)
    (λ κs. (mut_vals, ((λ p. base_laws.lowered p ∷ []), (uint_vals w64, (uint_vals w64, tt))))) (λ κs. (mut_Tells (named 0) κs.0 (lent.the_row (named_lft 2 1 tt κs)), (base_laws.lowers.val_is, (uint_Tells w64, (uint_Tells w64, tt))))) (λ κs qs bounds a gh are.
    let κ : Lft = κs.0 in let q : Share = qs.0 in let κ' : Lft = κs.1.0 in let q' : Share = qs.1.0 in let Row : RattleType = lent.the_row (named_lft 2 1 tt κs) in
    let r = a.0 in let d = a.0.now in let rb : ℕ = r.ref_ptr.0 in let ro : ℕ = r.ref_ptr.1 in let p = a.1.0 in let place : ℕ = a.1.1.0 in let v : ℕ = a.1.1.1.0 in let xs : List ℕ = d.numbers in
    let y : (walk_of 𝓛 ended hs c).Ghost = ((κs, qs, bounds, a, (mut_vals r, (base_laws.lowered p ∷ [], (vint w64 place ∷ [], (vint w64 v ∷ [], tt))))), gh) in let Post : Val → SProp 𝓤 = (walk_of 𝓛 ended hs c).post y in
    let f_place : place < 2 ^ 64 = are.1.1.0.1 in let f_v : v < 2 ^ 64 = are.1.1.1.0.1 in
    qed 𝓛 (((‵ (flft κ q) ⊛ ‵ (flft κ' q') ⊛ ‵ ftrue) ⊛ ‵ (owns (types_at ended.signature.params κs) a y.0.4)) ∷ raw (fact 𝓤 (p.at ≡ d.at)) ∷ raw (fact 𝓤 (place < length xs)) ∷ raw (fact 𝓤 (covers d.region place)) ∷ []) ∵
    move ! (1 ∷ 2 ∷ 3 ∷ []) $ heard ! _ (λ same. heard ! _ (λ below. heard ! _ (λ had. split ! $ split3 ! $ move ! (3 ∷ []) $ fsplit ! $ keep ! (0 ∷ 2 ∷ 3 ∷ []) $
    -- [self; the tokens]
    enter ! 𝓣.C 𝓣.Λ code.function (vptr rb ro ∷ base_laws.lowered p ∷ vint w64 place ∷ vint w64 v ∷ []) Post $ alloc_all ! (λ l. pass_all ! refl ((tt, tt), (base_good p.at, ((tt, record { fits = f_place }), ((tt, record { fits = f_v }), tt)))) $
    fsplit3 ! $ move ! (1 ∷ 2 ∷ 3 ∷ []) $ opens ! tt Row {h = d} rb ro (λ us. move ! (1 ∷ []) $ fsplit ! $ move ! (1 ∷ []) $
    in_a_block ! d.at (λ at. lent_in κ' d.loan at d.region xs) (id⊢ 𝓤 _) (λ b o e. fsplit ! $ flt_l ! (λ small. fsplit ! $
    -- [obs and the borrow of the numbers; the mark; self's cell; its open borrow, in three entries; its place; the token of 'a]
    let x : ℕ = get_or xs place 0 in let new : List ℕ = set xs place v in let long : length new ≡ length xs = length-set xs place v in let bytes : ℕ = place * 8 in let f_bytes : bytes < 2 ^ 64 = omega (arith, small, below) in
    move ! (0 ∷ 1 ∷ 8 ∷ []) $ open_ref ! tt (Held (length xs) (is_in d.region)) {x = xs} {b = b} {o = o} $ fsplit ! $ drop ! $
    use1 𝓛 (‵ ((mem u64).own_at x b (bytes + o)) ⊛ ‵ (around 𝓛 b (is_in d.region) o xs place)) (cell_out 𝓛 b (is_in d.region) xs place o (bytes + o) below had refl) $ split ! $
    use1 𝓛 (‵ (fat full_share (ty_int w64) b (bytes + o) (vint w64 x))) (uint_out 𝓛 full_share w64 x b (bytes + o)) $
    -- [the number; the others; their open borrow, in three entries; the mark; self's cell; ..]
    take_at ! 2 $ rewrite ! 0 (λ (at : Ptr). ‵ (fat full_share base_laws.mir (l 2) 0 (base_laws.lowered (record { at = at })))) (same ∙ e) refl $ give_at ! 2 $ first ! $ blocks ! $
    sets ! (bin ! (get ! refl) (lit ! tt) (record { fits = f_bytes })) refl (tt, record { fits = f_bytes }) $
    sets ! (bin ! (get_in ! (fld ! refl (stop !)) (sub ! 0 refl (whole !))) (get ! refl) tt) refl (tt, tt) $
    assigns_last ! (of_opd ! (get ! refl)) (through ! refl (stop !)) (store ! 0 refl (tt, record { fits = f_v })) $
    exec ! 𝓣.C 𝓣.Λ (env code.Mir.locals l) code.Mir.t-2 (at_ret _ Post) $ sets ! (of_opd ! (unit_lit !)) refl (tt, tt) $
    use1 𝓛 (‵ ((mem u64).own_at v b (bytes + o))) (uint_in 𝓛 full_share w64 v b (bytes + o)) $
    use2 𝓛 (‵ (held (is_in d.region) b o new)) (cell_in 𝓛 b (is_in d.region) xs place o (bytes + o) v below had refl) $ feq_i ! ℕ (length new) (length xs) long $ fjoin ! $
    close_ref ! tt (Held (length xs) (is_in d.region)) new $ rewrite ! 1 (λ (k : ℕ). ‵ (fbor κ' (Body (Held k (is_in d.region)) b o d.loan))) (sym long) refl $ fjoin ! $
    flt_i ! (length new * 8) (2 ^ 63) (subst (λ (k : ℕ). k * 8 < 2 ^ 63) (sym long) small) $ fjoin ! $ rewrite ! 0 (λ (at : Ptr). ‵ (lent_in κ' d.loan at d.region new)) (sym e) refl $
    move ! (2 ∷ 0 ∷ []) $ fjoin ! $ move ! (2 ∷ 0 ∷ 3 ∷ 4 ∷ 5 ∷ []) $ closes ! tt Row (record d { numbers = new }) us rb ro $
    returns ! (look_at ! 0 refl) $ free_all ! refl $
    -- [two parts of self; its token; the token of 'a; self's place]
    move ! (4 ∷ 0 ∷ 1 ∷ []) $ fjoin3 ! $ nothing ! $ nothing ! $ fjoin ! $ nothing ! $ fjoin ! $ nothing ! $ fjoin ! $ move ! (1 ∷ 0 ∷ []) $ fjoin ! $
    nothing ! $ move ! (3 ∷ 0 ∷ []) $ join ! $ move ! (2 ∷ 0 ∷ []) $ join ! $
    -- [the tokens; what is left of the parameters]
    feq_i ! (List Val) (vunit ∷ []) (vunit ∷ []) refl $ use0 𝓛 (raw (fact 𝓤 (record d { numbers = new } ≡ record d { numbers = new }))) (fact_i 𝓤 _ (emp 𝓤) refl) $ keep ! (2 ∷ 3 ∷ 1 ∷ 0 ∷ []) $
    by ! (leaves 𝓛 ended hs c y vunit tt (record d { numbers = new }, (tt, (tt, (tt, tt)))) (tt, (tt, (tt, (tt, tt)))))))))))))
