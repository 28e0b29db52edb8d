-- `split_cols` lends the numbers on in two regions. Assumes `Logic`.
use Rattle.std.proofs.Common.{ℕ, ◌-◌, ◌^◌, ◌<◌, ◌≤◌, List, [], ◌∷◌, length, true, refl, arith, lit<, w32}
use Rattle.std.proofs.alloc.Calls.{Goes-blank}
use Rattle.std.proofs.raw_atomic.Walks.{proved}
use mir.Val.{Val, vint}
use base.Logic.{SProp, emp}
use base.Fml.{Lft, GName, Share, ftrue, flft, fobs}
use types.Kit.{‵, raw, ◌⊛◌, some, later, ◌$◌, ◌∵◌, !, qed, by, move, keep, drop, split, split3, join, fsplit, fsplit3, fjoin, fpick, pick, use0, use3, await, rewrite}
use types.Part.{whole, sub, agg}
use types.Run.{stop, fld, hop, from, lit, bin, addr, of_opd, no_more, and_then, returns, enter}
use types.ByLocal.{alloc_all, pass_all, free_all, look_at, look_in_at, get, get_in, sets}
use types.SemTy.{cells}
use denote.FollowSlice.{heres_id}
use base.Stored.{coded_list}
use contract.Running.{tables}
use contract.Monad.{fact, fact_i}
use denote.Exit.{yes, no}
use denote.RattleType.{RattleType, owns}
use denote.Memory.{mem}
use denote.Signature.{types_at, plain, named_lft}
use denote.Steps.{nothing, heard}
use denote.Builtin.{u32, u64}
use denote.Plain.{uint_vals, uint_Tells}
use denote.Slice.{Room}
use denote.Follow.{both_by}
use denote.Triple.Walked.{Stays, stay_dropped, walk_of, Goes-dropped}
use Rattle.matrix_parts.specs.Rects.{IsBlockOf}
use Rattle.matrix_parts.specs.Lent.{grid_of, IsPart}
use Rattle.matrix_parts.specs.Regions.{is_in}
use Rattle.matrix_parts.specs.Panels.{panel_grid, IsPanel, AreApart, AreColsOfPart}
use Rattle.matrix_parts.specs.declared.panel_mut.PanelMut.{PanelMut}
use Rattle.matrix_parts.specs.declared.region.Region.{Region}
use Rattle.matrix_parts.specs.contracts.panel_mut.PanelMut as panel
use Rattle.matrix_parts.specs.declared.part_mut.PartMut.{PartMut}
use Rattle.matrix_parts.specs.contracts.part_mut.PartMut as part
use Rattle.matrix_parts.specs.contracts.part_mut.PartMut.split_cols.{ended, clauses}
use Rattle.matrix_parts.specs.contracts.part_mut.PartMut.split_cols.Key.{name as #self}
use Rattle.matrix_parts.proofs.part_mut.PartMut.TheLaws.{lowered, lowers}
use Rattle.matrix_parts.proofs.Regions.{AreTwoOf, AreTwoOf-whole, first_cols, last_cols}
use Rattle.matrix_parts.proofs.Panels.{AreBlocksOf-panels, first_block, second_block}
use Rattle.matrix_parts.proofs.RegionMemory.{all_out, all_in}
use Rattle.matrix_parts.proofs.PanelSteps.{panel_at, AreFit, LentOn, lent_on, pair_out}
use Rattle.matrix_parts.proofs.Ends.{leaves}
use Rattle.matrix_parts.proofs.part_mut.PartMut.split_cols.Statement.{statement}
use Rattle.matrix_parts.proofs.part_mut.PartMut.split_cols.Code as code

pub split_cols_spec : {M : Type 1} → statement M
unfolding both_by
split_cols_spec 𝓤 𝓛 𝓜 𝓡 wired =
    let H = 𝓛.H in let 𝓣 = tables 𝓤 H 𝓜 𝓡 𝓡.env in let c = clauses 𝓛 𝓜.mem 𝓡.returns in
    let self = plain (λ κs. part.the_row (named_lft 1 0 tt κs)) in
    let hs : Stays ended.signature.params ended.kept = (stay_dropped self no, (stay_dropped (plain (λ _. u32)) yes, tt)) in
    proved 𝓛 ended hs c 𝓜 𝓡 (Goes-blank 𝓛 1 self no (λ κs x f. tt), (Goes-dropped 𝓛 1 (plain (λ _. u32)) yes (λ κs x f. refl), tt)) #self code.function (code.unfolded 𝓤 H 𝓜 𝓡 wired)
    (λ κs. ((λ p. lowered p ∷ []), (uint_vals w32, tt))) (λ κs. ((lowers (named_lft 1 0 tt κs)).val_is, (uint_Tells w32, tt))) (λ κs qs bounds a gh are.
    let κ : Lft = κs.0 in let q : Share = qs.0 in let p : PartMut = a.0 in let n : ℕ = a.1.0 in
    let y : (walk_of 𝓛 ended hs c).Ghost = ((κs, qs, bounds, a, (lowered p ∷ [], (vint w32 n ∷ [], tt))), gh) in let Post : Val → SProp 𝓤 = (walk_of 𝓛 ended hs c).post y in
    let nl = named_lft 1 0 tt κs in let Row : RattleType = panel.the_row nl in let xs : List ℕ = p.entries.now in let b : ℕ = p.entries.ref_ptr.0 in let o : ℕ = p.entries.ref_ptr.1 in
    qed 𝓛 (((‵ (flft κ q) ⊛ ‵ ftrue) ⊛ ‵ (owns (types_at ended.signature.params κs) a y.0.4)) ∷ raw (fact 𝓤 (IsPart p)) ∷ raw (fact 𝓤 (n ≤ p.cols)) ∷ []) ∵
    move ! (1 ∷ 2 ∷ []) $ heard ! _ (λ within. heard ! _ (λ at_most. split ! $ split ! $ move ! (2 ∷ 0 ∷ []) $ fsplit ! $ fpick ! (λ vss. fsplit ! $ drop ! $ fsplit ! $ keep ! (0 ∷ 3 ∷ []) $
    -- [the loan; the token of the lifetime]
    let had = are.0.1.1 in let room : Room u64 (length xs) = had.0.0.1 in let f_first : p.first < 2 ^ 64 = had.1.0.1 in let f_stride : p.stride < 2 ^ 64 = had.1.1.0.1 in
    let f_rows : p.rows < 2 ^ 32 = had.1.1.1.0.1 in let f_cols : p.cols < 2 ^ 32 = had.1.1.1.1.0.1 in let f_at : n < 2 ^ 32 = are.1.0.1 in
    enter ! 𝓣.C 𝓣.Λ code.function (lowered p ∷ vint w32 n ∷ []) Post $ alloc_all ! (λ l. pass_all ! refl ((tt, ((tt, (record { fits = room.0 }, tt)), (record { fits = f_first }, (record { fits = f_stride }, (record { fits = f_rows }, (record { fits = f_cols }, tt)))))), ((tt, record { fits = f_at }), tt)) $
    sets ! (of_opd ! (get_in ! (fld ! refl (stop !)) (sub ! 0 refl (whole !)))) refl (tt, (tt, (record { fits = room.0 }, tt))) $
    sets ! (of_opd ! (get_in ! (fld ! refl (stop !)) (sub ! 1 refl (whole !)))) refl (tt, record { fits = f_first }) $
    sets ! (of_opd ! (get_in ! (fld ! refl (stop !)) (sub ! 2 refl (whole !)))) refl (tt, record { fits = f_stride }) $
    sets ! (of_opd ! (get_in ! (fld ! refl (stop !)) (sub ! 3 refl (whole !)))) refl (tt, record { fits = f_rows }) $
    sets ! (of_opd ! (get_in ! (fld ! refl (stop !)) (sub ! 4 refl (whole !)))) refl (tt, record { fits = f_cols }) $
    let γ : GName = p.entries.ghost_name in let f_right : p.cols - n < 2 ^ 32 = omega (arith, f_cols) in
    let left : Region = first_cols p.first p.stride p.rows n in let right : Region = last_cols p.first p.stride p.rows p.cols n in
    let fit : AreFit left = record { first = f_first; stride = f_stride; top = lit< tt; left = lit< tt; rows = f_rows; cols = f_at } in
    let fit' : AreFit right = record { first = f_first; stride = f_stride; top = lit< tt; left = f_at; rows = f_rows; cols = f_right } in
    sets ! (addr ! (from ! (fld ! refl (hop ! (look_in_at ! 3 (sub ! 0 refl (whole !))) (stop !))))) refl (tt, tt) $
    sets ! (agg ! (and_then ! (get ! refl) (no_more !))) refl (tt, (tt, tt)) $
    sets ! (agg ! (and_then ! (get ! refl) (and_then ! (get ! refl) (and_then ! (lit ! tt) (and_then ! (lit ! tt) (and_then ! (get ! refl) (and_then ! (get ! refl) (no_more !)))))))) refl
    (tt, (record { fits = f_first }, (record { fits = f_stride }, (record { fits = lit< tt }, (record { fits = lit< tt }, (record { fits = f_rows }, (record { fits = f_at }, tt))))))) $
    sets ! (bin ! (get ! refl) (get ! refl) at_most) refl (tt, record { fits = f_right }) $
    sets ! (agg ! (and_then ! (get ! refl) (and_then ! (get ! refl) (and_then ! (lit ! tt) (and_then ! (get ! refl) (and_then ! (get ! refl) (and_then ! (get ! refl) (no_more !)))))))) refl
    (tt, (record { fits = f_first }, (record { fits = f_stride }, (record { fits = lit< tt }, (record { fits = f_at }, (record { fits = f_rows }, (record { fits = f_right }, tt))))))) $
    sets ! (agg ! (no_more !)) refl (tt, tt) $ sets ! (agg ! (and_then ! (get ! refl) (no_more !))) refl (tt, (tt, tt)) $
    sets ! (agg ! (and_then ! (get ! refl) (and_then ! (get ! refl) (and_then ! (get ! refl) (no_more !))))) refl (tt, ((tt, tt), ((tt, tt), ((record { fits = f_first }, (record { fits = f_stride }, (record { fits = lit< tt }, (record { fits = lit< tt }, (record { fits = f_rows }, (record { fits = f_at }, tt)))))), tt)))) $
    sets ! (agg ! (no_more !)) refl (tt, tt) $ sets ! (agg ! (and_then ! (get ! refl) (no_more !))) refl (tt, (tt, tt)) $
    sets ! (agg ! (and_then ! (get ! refl) (and_then ! (get ! refl) (and_then ! (get ! refl) (no_more !))))) refl (tt, ((tt, tt), ((tt, tt), ((record { fits = f_first }, (record { fits = f_stride }, (record { fits = lit< tt }, (record { fits = f_at }, (record { fits = f_rows }, (record { fits = f_right }, tt)))))), tt)))) $
    sets ! (agg ! (and_then ! (get ! refl) (and_then ! (get ! refl) (no_more !)))) refl (
      tt,
      (
        ((tt, tt), ((tt, tt), ((record { fits = f_first }, (record { fits = f_stride }, (record { fits = lit< tt }, (record { fits = lit< tt }, (record { fits = f_rows }, (record { fits = f_at }, tt)))))), tt))),
        (((tt, tt), ((tt, tt), ((record { fits = f_first }, (record { fits = f_stride }, (record { fits = lit< tt }, (record { fits = f_at }, (record { fits = f_rows }, (record { fits = f_right }, tt)))))), tt))), tt),
      ),
    ) $
    -- [the loan; the token of the lifetime]
    let two : (k : ℕ) → AreTwoOf true (is_in left k) (is_in right k) = AreTwoOf-whole p.first p.stride p.rows p.cols n in
    fsplit3 ! $ drop ! $ rewrite ! 0 (λ (zs : List ℕ). ‵ (fobs γ ((coded_list u64.coded).code zs))) (heres_id u64 xs) refl $
    use3 𝓛 (later (some (LentOn 𝓛 nl q b o γ xs (λ zs. cells (mem u64) zs b o) (λ _. true) left right two (λ zs. all_out 𝓛 b zs o) (λ zs. all_in 𝓛 b zs o)))) (lent_on 𝓛 nl q b o γ xs (λ zs. cells (mem u64) zs b o) (λ _. true) left right two (λ zs. all_out 𝓛 b zs o) (λ zs. all_in 𝓛 b zs o) room.1 fit fit') $ await ! tt $ pick ! (λ γs. split3 ! $ move ! (1 ∷ 2 ∷ []) $
    let one : PanelMut = panel_at b o γs.0 left xs in let other : PanelMut = panel_at b o γs.1 right xs in let out : Val = pair_out 𝓛 nl q b o γ xs (λ zs. cells (mem u64) zs b o) (λ _. true) left right two (λ zs. all_out 𝓛 b zs o) (λ zs. all_in 𝓛 b zs o) in
    -- [the token; what the loan follows; the two panels]
    let small : length xs < 2 ^ 60 = omega (arith, room.1) in
    let is_one : IsPanel one = record { base = refl; region = refl; reach = λ i row. omega (arith, within.reach i row); apart = omega (arith, within.apart, at_most); small = small; low = omega (arith, f_rows); narrow = omega (arith, f_at) } in
    let is_other : IsPanel other = record { base = refl; region = refl; reach = λ i row. omega (arith, within.reach i row); apart = omega (arith, within.apart, at_most); small = small; low = omega (arith, f_rows); narrow = omega (arith, f_cols, at_most) } in
    let apart : AreApart (one, other) = λ k. (two k).apart in
    let joined : AreColsOfPart p n (one, other) = AreBlocksOf-panels one other xs refl is_one is_other refl refl apart p.first p.rows p.cols 0 n (omega arith) (omega arith) (omega arith) (omega (arith, at_most)) (omega arith) (omega (arith, at_most)) in
    use0 𝓛 (raw (fact 𝓤 (AreColsOfPart p n (one, other)))) (fact_i 𝓤 _ (emp 𝓤) joined) $
    use0 𝓛 (raw (fact 𝓤 (IsBlockOf (grid_of p) 0 n p.rows (p.cols - n) (panel_grid other)))) (fact_i 𝓤 _ (emp 𝓤) (second_block _ xs _ _ _ _ _ _ one other joined)) $ join ! $
    use0 𝓛 (raw (fact 𝓤 (IsBlockOf (grid_of p) 0 0 p.rows n (panel_grid one)))) (fact_i 𝓤 _ (emp 𝓤) (first_block _ xs _ _ _ _ _ _ one other joined)) $ join ! $
    use0 𝓛 (raw (fact 𝓤 (AreApart (one, other)))) (fact_i 𝓤 _ (emp 𝓤) apart) $ join ! $
    use0 𝓛 (raw (fact 𝓤 (IsPanel one × IsPanel other))) (fact_i 𝓤 _ (emp 𝓤) (is_one, is_other)) $ join ! $
    move ! (2 ∷ 0 ∷ []) $ join ! $ move ! (1 ∷ []) $ nothing ! $ move ! (1 ∷ 0 ∷ []) $ join ! $ nothing ! $ nothing ! $ fjoin ! $ nothing ! $ fjoin ! $
    -- [what is left of the parameters; the tokens; the `ensures`; the two panels]
    returns ! (look_at ! 0 refl) $ free_all ! refl $ keep ! (1 ∷ 0 ∷ 3 ∷ 2 ∷ []) $ by ! (leaves 𝓛 ended hs c y out (one, other) ((tt, tt), (tt, tt)) (tt, (tt, tt)))))))))
