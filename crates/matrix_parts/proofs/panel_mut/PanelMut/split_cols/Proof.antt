-- `split_cols` lends the region's numbers on in two regions. Assumes `Logic`.
use Rattle.std.proofs.Common.{ℕ, ◌+◌, ◌-◌, ◌*◌, ◌^◌, ◌<◌, ◌≤◌, List, [], ◌∷◌, refl, ◌∙◌, arith, w32}
use Rattle.std.proofs.alloc.Calls.{Goes-blank}
use Rattle.std.proofs.raw_atomic.Walks.{proved}
use mir.Syntax.{named}
use mir.Val.{Val, vint}
use base.Logic.{SProp, emp, id⊢}
use base.Fraction.{full_share}
use base.Fml.{fat, Lft, GName, Share, ftrue, flft}
use types.Kit.{‵, raw, ◌⊛◌, some, later, ◌$◌, ◌∵◌, !, qed, by, move, keep, drop, split, split3, join, fsplit, fjoin, fpick, pick, use0, use3, await, rewrite, flt_l}
use types.Part.{whole, sub, agg}
use types.Run.{stop, fld, bin, of_opd, no_more, and_then, returns, enter}
use types.ByLocal.{alloc_all, pass_all, free_all, look_at, take_at, give_at, get, get_in, sets}
use denote.RawPtr.{Ptr, in_a_block}
use contract.Running.{tables}
use contract.Monad.{fact, fact_i}
use denote.Exit.{yes, no}
use denote.RattleType.{RattleType, owns}
use denote.Signature.{types_at, plain, named_lft}
use denote.Steps.{nothing, heard}
use denote.Builtin.{u32}
use denote.Plain.{uint_vals, uint_Tells}
use denote.Follow.{both_by}
use denote.Triple.Walked.{Stays, stay_dropped, walk_of, Goes-dropped}
use Rattle.matrix_parts.specs.Rects.{IsBlockOf}
use Rattle.matrix_parts.specs.Regions.{is_in, held, lent_in}
use Rattle.matrix_parts.specs.Panels.{panel_grid, IsPanel, AreApart, AreColsOfPanel}
use Rattle.matrix_parts.specs.declared.panel_mut.PanelMut.{PanelMut}
use Rattle.matrix_parts.specs.declared.region.Region.{Region}
use Rattle.matrix_parts.specs.contracts.panel_mut.PanelMut as panel
use Rattle.matrix_parts.specs.contracts.panel_mut.PanelMut.split_cols.{ended, clauses}
use Rattle.matrix_parts.specs.contracts.panel_mut.PanelMut.split_cols.Key.{name as #self}
use Rattle.matrix_parts.proofs.Regions.{AreTwoOf, AreTwoOf-cols, left_of, right_of}
use Rattle.matrix_parts.proofs.Panels.{AreBlocksOf-panels, first_block, second_block}
use Rattle.matrix_parts.proofs.PanelSteps.{panel_val, panel_at, panel_tells, panel_good, AreFit, LentOn, lent_on, pair_out}
use Rattle.matrix_parts.proofs.Ends.{leaves}
use Rattle.matrix_parts.proofs.panel_mut.PanelMut.TheLaws as panel_laws
use Rattle.matrix_parts.proofs.panel_mut.PanelMut.split_cols.Statement.{statement}
use Rattle.matrix_parts.proofs.panel_mut.PanelMut.split_cols.Code as code

pub split_cols_spec : {M : Type 1} → statement M
unfolding both_by
split_cols_spec 𝓤 𝓛 𝓜 𝓡 wired =
    let H = 𝓛.H in let 𝓣 = tables 𝓤 H 𝓜 𝓡 𝓡.env in let c = clauses 𝓛 𝓜.mem 𝓡.returns in
    let self = plain (λ κs. panel.the_row (named_lft 1 0 tt κs)) in
    let hs : Stays ended.signature.params ended.kept = (stay_dropped self no, (stay_dropped (plain (λ _. u32)) yes, tt)) in
    proved 𝓛 ended hs c 𝓜 𝓡 (Goes-blank 𝓛 1 self no (λ κs x f. tt), (Goes-dropped 𝓛 1 (plain (λ _. u32)) yes (λ κs x f. refl), tt)) #self code.function (code.unfolded 𝓤 H 𝓜 𝓡 wired)
    (λ κs. ((λ p. panel_val p.base p.region ∷ []), (uint_vals w32, tt))) (λ κs. (panel_tells (named_lft 1 0 tt κs), (uint_Tells w32, tt))) (λ κs qs bounds a gh are.
    let κ : Lft = κs.0 in let q : Share = qs.0 in let p : PanelMut = a.0 in let n : ℕ = a.1.0 in
    let y : (walk_of 𝓛 ended hs c).Ghost = ((κs, qs, bounds, a, (panel_val p.base p.region ∷ [], (vint w32 n ∷ [], tt))), gh) in let Post : Val → SProp 𝓤 = (walk_of 𝓛 ended hs c).post y in
    let nl = named_lft 1 0 tt κs in let Row : RattleType = panel.the_row nl in let r : Region = p.region in let xs : List ℕ = p.lent.numbers in let γ : GName = p.lent.loan in
    qed 𝓛 (((‵ (flft κ q) ⊛ ‵ ftrue) ⊛ ‵ (owns (types_at ended.signature.params κs) a y.0.4)) ∷ raw (fact 𝓤 (IsPanel p)) ∷ raw (fact 𝓤 (n ≤ r.cols)) ∷ []) ∵
    move ! (1 ∷ 2 ∷ []) $ heard ! _ (λ is. heard ! _ (λ at_most. split ! $ split ! $ move ! (2 ∷ 0 ∷ []) $ fsplit ! $ fpick ! (λ vss. fsplit ! $ drop ! $ fsplit ! $ move ! (1 ∷ []) $ fsplit ! $ fsplit ! $ keep ! (1 ∷ 5 ∷ []) $
    rewrite ! 0 (λ (s : Region). ‵ (lent_in κ γ p.lent.at s xs)) is.region refl $ in_a_block ! p.lent.at (λ at. lent_in κ γ at r xs) (id⊢ 𝓤 _) (λ b o e. fsplit ! $ flt_l ! (λ bytes. fsplit ! $
    -- [obs; the borrow; the token of the lifetime]
    let had = are.0.1.1.1.1.0.1.1 in let f_at : n < 2 ^ 32 = are.1.0.1 in
    let f : AreFit r = record { first = had.0.1; stride = had.1.0.1; top = had.1.1.0.1; left = had.1.1.1.0.1; rows = had.1.1.1.1.0.1; cols = had.1.1.1.1.1.0.1 } in
    let f_left : r.left + n < 2 ^ 32 = omega (arith, is.narrow, at_most) in let f_cols : r.cols - n < 2 ^ 32 = omega (arith, f.cols) in
    let left : Region = left_of r n in let right : Region = right_of r n in
    let fit : AreFit left = record { first = f.first; stride = f.stride; top = f.top; left = f.left; rows = f.rows; cols = f_at } in
    let fit' : AreFit right = record { first = f.first; stride = f.stride; top = f.top; left = f_left; rows = f.rows; cols = f_cols } in
    enter ! 𝓣.C 𝓣.Λ code.function (panel_val p.base r ∷ vint w32 n ∷ []) Post $ alloc_all ! (λ l. pass_all ! refl (panel_good p.base.at r f, ((tt, record { fits = f_at }), tt)) $
    take_at ! 1 $ rewrite ! 0 (λ (at : Ptr). ‵ (fat full_share (panel_laws.mir (named 0)) (l 1) 0 (panel_val (record { at = at }) r))) (is.base ∙ e) refl $ give_at ! 1 $
    sets ! (of_opd ! (get_in ! (fld ! refl (stop !)) (sub ! 0 refl (whole !)))) refl (tt, (tt, tt)) $
    sets ! (of_opd ! (get_in ! (fld ! refl (stop !)) (sub ! 1 refl (whole !)))) refl (tt, (tt, tt)) $
    sets ! (of_opd ! (get_in ! (fld ! refl (stop !)) (sub ! 2 refl (whole !)))) refl (tt, (record { fits = f.first }, (record { fits = f.stride }, (record { fits = f.top }, (record { fits = f.left }, (record { fits = f.rows }, (record { fits = f.cols }, tt))))))) $
    sets ! (agg ! (and_then ! (get_in ! (fld ! refl (stop !)) (sub ! 0 refl (whole !))) (and_then ! (get_in ! (fld ! refl (stop !)) (sub ! 1 refl (whole !))) (and_then ! (get_in ! (fld ! refl (stop !)) (sub ! 2 refl (whole !))) (and_then ! (get_in ! (fld ! refl (stop !)) (sub ! 3 refl (whole !))) (and_then ! (get_in ! (fld ! refl (stop !)) (sub ! 4 refl (whole !))) (and_then ! (get ! refl) (no_more !)))))))) refl (tt, (record { fits = f.first }, (record { fits = f.stride }, (record { fits = f.top }, (record { fits = f.left }, (record { fits = f.rows }, (record { fits = f_at }, tt))))))) $
    sets ! (bin ! (get_in ! (fld ! refl (stop !)) (sub ! 3 refl (whole !))) (get ! refl) (record { fits = f_left })) refl (tt, record { fits = f_left }) $
    sets ! (bin ! (get_in ! (fld ! refl (stop !)) (sub ! 5 refl (whole !))) (get ! refl) at_most) refl (tt, record { fits = f_cols }) $
    sets ! (agg ! (and_then ! (get_in ! (fld ! refl (stop !)) (sub ! 0 refl (whole !))) (and_then ! (get_in ! (fld ! refl (stop !)) (sub ! 1 refl (whole !))) (and_then ! (get_in ! (fld ! refl (stop !)) (sub ! 2 refl (whole !))) (and_then ! (get ! refl) (and_then ! (get_in ! (fld ! refl (stop !)) (sub ! 4 refl (whole !))) (and_then ! (get ! refl) (no_more !)))))))) refl (tt, (record { fits = f.first }, (record { fits = f.stride }, (record { fits = f.top }, (record { fits = f_left }, (record { fits = f.rows }, (record { fits = f_cols }, tt))))))) $
    sets ! (agg ! (no_more !)) refl (tt, tt) $ sets ! (agg ! (and_then ! (get ! refl) (no_more !))) refl (tt, (tt, tt)) $
    sets ! (agg ! (and_then ! (get ! refl) (and_then ! (get ! refl) (and_then ! (get ! refl) (no_more !))))) refl (tt, ((tt, tt), ((tt, tt), ((record { fits = f.first }, (record { fits = f.stride }, (record { fits = f.top }, (record { fits = f.left }, (record { fits = f.rows }, (record { fits = f_at }, tt)))))), tt)))) $
    sets ! (agg ! (no_more !)) refl (tt, tt) $ sets ! (agg ! (and_then ! (get ! refl) (no_more !))) refl (tt, (tt, tt)) $
    sets ! (agg ! (and_then ! (get ! refl) (and_then ! (get ! refl) (and_then ! (get ! refl) (no_more !))))) refl (tt, ((tt, tt), ((tt, tt), ((record { fits = f.first }, (record { fits = f.stride }, (record { fits = f.top }, (record { fits = f_left }, (record { fits = f.rows }, (record { fits = f_cols }, tt)))))), tt)))) $
    sets ! (agg ! (and_then ! (get ! refl) (and_then ! (get ! refl) (no_more !)))) refl (tt, (((tt, tt), ((tt, tt), ((record { fits = f.first }, (record { fits = f.stride }, (record { fits = f.top }, (record { fits = f.left }, (record { fits = f.rows }, (record { fits = f_at }, tt)))))), tt))), (((tt, tt), ((tt, tt), ((record { fits = f.first }, (record { fits = f.stride }, (record { fits = f.top }, (record { fits = f_left }, (record { fits = f.rows }, (record { fits = f_cols }, tt)))))), tt))), tt))) $
    -- [obs; the borrow; the token of the lifetime]
    let two : (k : ℕ) → AreTwoOf (is_in r k) (is_in left k) (is_in right k) = λ k. AreTwoOf-cols r n k at_most in
    use3 𝓛 (later (some (LentOn 𝓛 nl q b o γ xs (λ zs. held (is_in r) b o zs) (is_in r) left right two (λ zs. id⊢ 𝓤 _) (λ zs. id⊢ 𝓤 _)))) (lent_on 𝓛 nl q b o γ xs (λ zs. held (is_in r) b o zs) (is_in r) left right two (λ zs. id⊢ 𝓤 _) (λ zs. id⊢ 𝓤 _) bytes fit fit') $ await ! tt $ pick ! (λ γs. split3 ! $ move ! (1 ∷ 2 ∷ []) $
    let one : PanelMut = panel_at b o γs.0 left xs in let other : PanelMut = panel_at b o γs.1 right xs in let out : Val = pair_out 𝓛 nl q b o γ xs (λ zs. held (is_in r) b o zs) (is_in r) left right two (λ zs. id⊢ 𝓤 _) (λ zs. id⊢ 𝓤 _) in
    -- [the token; what the loan follows; the two panels]
    let is_one : IsPanel one = record { base = refl; region = refl; reach = λ i row. omega (arith, is.reach i row, at_most); apart = omega (arith, is.apart, at_most); small = is.small; low = is.low; narrow = omega (arith, is.narrow, at_most) } in
    let is_other : IsPanel other = record { base = refl; region = refl; reach = λ i row. omega (arith, is.reach i row, at_most); apart = omega (arith, is.apart, at_most); small = is.small; low = is.low; narrow = omega (arith, is.narrow, at_most) } in
    let apart : AreApart (one, other) = λ k. (two k).apart in
    let joined : AreColsOfPanel p n (one, other) = AreBlocksOf-panels one other xs refl is_one is_other refl refl apart (r.first + r.top * r.stride + r.left) r.rows r.cols 0 n (omega arith) (omega arith) (omega arith) (omega (arith, at_most)) (omega arith) (omega (arith, at_most)) in
    use0 𝓛 (raw (fact 𝓤 (AreColsOfPanel p n (one, other)))) (fact_i 𝓤 _ (emp 𝓤) joined) $
    use0 𝓛 (raw (fact 𝓤 (IsBlockOf (panel_grid p) 0 n r.rows (r.cols - n) (panel_grid other)))) (fact_i 𝓤 _ (emp 𝓤) (second_block _ xs _ _ _ _ _ _ one other joined)) $ join ! $
    use0 𝓛 (raw (fact 𝓤 (IsBlockOf (panel_grid p) 0 0 r.rows n (panel_grid one)))) (fact_i 𝓤 _ (emp 𝓤) (first_block _ xs _ _ _ _ _ _ one other joined)) $ join ! $
    use0 𝓛 (raw (fact 𝓤 (AreApart (one, other)))) (fact_i 𝓤 _ (emp 𝓤) apart) $ join ! $
    use0 𝓛 (raw (fact 𝓤 (IsPanel one × IsPanel other))) (fact_i 𝓤 _ (emp 𝓤) (is_one, is_other)) $ join ! $
    move ! (2 ∷ 0 ∷ []) $ join ! $ move ! (1 ∷ []) $ nothing ! $ move ! (1 ∷ 0 ∷ []) $ join ! $ nothing ! $ nothing ! $ fjoin ! $ nothing ! $ fjoin ! $
    -- [what is left of the parameters; the tokens; the `ensures`; the two panels]
    returns ! (look_at ! 0 refl) $ free_all ! refl $ keep ! (1 ∷ 0 ∷ 3 ∷ 2 ∷ []) $ by ! (leaves 𝓛 ended hs c y out (one, other) ((tt, (tt, tt)), (tt, tt)) (tt, (tt, tt)))))))))))
