-- `split_rows` cuts the lent numbers. Assumes `Logic`.
use Rattle.std.proofs.Common.{◌≡◌, ℕ, ◌+◌, ◌-◌, ◌*◌, ◌^◌, ◌<◌, ◌≤◌, List, [], ◌∷◌, ◌++◌, length, take, drop as drop_l, sym, refl, ap, ◌∙◌, subst, arith, lit<, w32, w64, take-append-drop, MutBor}
use Rattle.std.proofs.alloc.Calls.{Goes-blank}
use Rattle.std.proofs.raw_atomic.Walks.{proved}
use lib.ListN.{length-drop}
use mir.Syntax.{named}
use mir.Val.{Val, vint, vstruct, of_list}
use base.Logic.{SProp, emp, id⊢}
use base.Fml.{Lft, GName, Share, ftrue, fsep, feq, flft}
use types.Kit.{‵, raw, ◌⊛◌, some, later, at_ret, ◌$◌, ◌∵◌, !, qed, by, move, keep, drop, split, split3, join, fsplit, fjoin, fjoin3, fpick, fpack, pick, use0, use1, use2, await, rewrite, feq_i, feq_l, flt_l}
use types.Part.{whole, sub, agg}
use types.Run.{stop, fld, hop, from, lit, bin, addr, of_opd, no_more, and_then, first, blocks, exec, returns, enter}
use types.ByLocal.{alloc_all, pass_all, free_all, look_at, look_in_at, get, get_in, sets, sets_last, lands_as, env}
use types.Follow.{after₂}
use types.SemTy.{Arr}
use contract.Running.{tables}
use contract.Monad.{fact, fact_i}
use denote.Exit.{yes, no}
use denote.RattleType.{RattleType, Valss, owns}
use denote.Memory.{mem}
use denote.Signature.{types_at, plain, named_lft}
use denote.Steps.{nothing, only, heard, owned}
use denote.Builtin.{usize, u32, u64}
use denote.Plain.{uint_vals, uint_Tells, uint_Makes}
use denote.Slice.{MutSlice, slice_val, Room}
use denote.Follow.{both_by}
use denote.Triple.Call.{calls_at}
use denote.Triple.Clauses.{lasts}
use denote.Triple.Spec.{triple_of}
use denote.Triple.Table.{framed}
use denote.Triple.Walked.{Stays, stay_dropped, walk_of, Goes-dropped}
use borrow.Table.Elements.{at, at_mul, length-take-le}
use borrow.Rule.Slice.Followed.{splits}
use Rattle.matrix_parts.specs.Rects.{rect, IsWithin, IsBlockOf}
use Rattle.matrix_parts.specs.Lent.{grid_of, IsPart, AreRowsOf}
use Rattle.matrix_parts.specs.declared.part_mut.PartMut.{PartMut}
use Rattle.matrix_parts.specs.contracts.part_mut.PartMut as part
use Rattle.matrix_parts.specs.contracts.part_mut.PartMut.split_rows.{ended, clauses}
use Rattle.matrix_parts.specs.contracts.part_mut.PartMut.split_rows.Key.{name as #self}
use Rattle.matrix_parts.specs.contracts.part_mut.place_of_row as callee
use Rattle.matrix_parts.proofs.part_mut.place_of_row.Met as callee_met
use Rattle.matrix_parts.proofs.part_mut.PartMut.TheLaws.{lowered, lowers}
use Rattle.matrix_parts.proofs.RowSplits.{above_block, below_block, above_within, below_within}
use Rattle.matrix_parts.proofs.PartSteps.{part_made, part_val, pair_val}
use Rattle.matrix_parts.proofs.Ends.{leaves}
use Rattle.matrix_parts.proofs.part_mut.PartMut.split_rows.Statement.{statement}
use Rattle.matrix_parts.proofs.part_mut.PartMut.split_rows.Code as code

pub split_rows_spec : {M : Type 1} → statement M
unfolding both_by
split_rows_spec 𝓤 𝓛 𝓜 𝓡 wired =
    let H = 𝓛.H in let 𝓣 = tables 𝓤 H 𝓜 𝓡 𝓡.env in let c = clauses 𝓛 𝓜.mem 𝓡.returns in
    let self = plain (λ κs. part.the_row (named_lft 1 0 tt κs)) in
    let hs : Stays ended.signature.params ended.kept = (stay_dropped self no, (stay_dropped (plain (λ _. u32)) yes, tt)) in
    proved 𝓛 ended hs c 𝓜 𝓡 (Goes-blank 𝓛 1 self no (λ κs x f. tt), (Goes-dropped 𝓛 1 (plain (λ _. u32)) yes (λ κs x f. refl), tt)) #self code.function (code.unfolded 𝓤 H 𝓜 𝓡 wired)
    (λ κs. ((λ p. lowered p ∷ []), (uint_vals w32, tt))) (λ κs. ((lowers (named_lft 1 0 tt κs)).val_is, (uint_Tells w32, tt))) (λ κs qs bounds a gh are.
    let κ : Lft = κs.0 in let q : Share = qs.0 in let p : PartMut = a.0 in let n : ℕ = a.1.0 in
    let y : (walk_of 𝓛 ended hs c).Ghost = ((κs, qs, bounds, a, (lowered p ∷ [], (vint w32 n ∷ [], tt))), gh) in let Post : Val → SProp 𝓤 = (walk_of 𝓛 ended hs c).post y in
    let Row : RattleType = part.the_row (named_lft 1 0 tt κs) in let xs : List ℕ = p.entries.now in let b : ℕ = p.entries.ref_ptr.0 in let o : ℕ = p.entries.ref_ptr.1 in
    qed 𝓛 (((‵ (flft κ q) ⊛ ‵ ftrue) ⊛ ‵ (owns (types_at ended.signature.params κs) a y.0.4)) ∷ raw (fact 𝓤 (IsPart p)) ∷ raw (fact 𝓤 (n ≤ p.rows)) ∷ []) ∵
    move ! (1 ∷ 2 ∷ []) $ heard ! _ (λ within. heard ! _ (λ at_most. split ! $ split ! $ move ! (2 ∷ 0 ∷ []) $ fsplit ! $ fpick ! (λ vss. fsplit ! $ drop ! $ fsplit ! $ keep ! (0 ∷ 3 ∷ []) $
    -- [the loan; the token of the lifetime]
    let had = are.0.1.1 in let room : Room u64 (length xs) = had.0.0.1 in let f_first : p.first < 2 ^ 64 = had.1.0.1 in let f_stride : p.stride < 2 ^ 64 = had.1.1.0.1 in
    let f_rows : p.rows < 2 ^ 32 = had.1.1.1.0.1 in let f_cols : p.cols < 2 ^ 32 = had.1.1.1.1.0.1 in let f_at : n < 2 ^ 32 = are.1.0.1 in
    enter ! 𝓣.C 𝓣.Λ code.function (lowered p ∷ vint w32 n ∷ []) Post $ alloc_all ! (λ l. pass_all ! refl ((tt, ((tt, (record { fits = room.0 }, tt)), (record { fits = f_first }, (record { fits = f_stride }, (record { fits = f_rows }, (record { fits = f_cols }, tt)))))), ((tt, record { fits = f_at }), tt)) $
    sets ! (of_opd ! (get_in ! (fld ! refl (stop !)) (sub ! 0 refl (whole !)))) refl (tt, (tt, (record { fits = room.0 }, tt))) $
    sets ! (of_opd ! (get_in ! (fld ! refl (stop !)) (sub ! 1 refl (whole !)))) refl (tt, record { fits = f_first }) $
    sets ! (of_opd ! (get_in ! (fld ! refl (stop !)) (sub ! 2 refl (whole !)))) refl (tt, record { fits = f_stride }) $
    sets ! (of_opd ! (get_in ! (fld ! refl (stop !)) (sub ! 3 refl (whole !)))) refl (tt, record { fits = f_rows }) $
    sets ! (of_opd ! (get_in ! (fld ! refl (stop !)) (sub ! 4 refl (whole !)))) refl (tt, record { fits = f_cols }) $
    sets ! (of_opd ! (get_in ! (fld ! refl (stop !)) (sub ! 1 refl (whole !)))) refl (tt, record { fits = room.0 }) $
    let G = triple_of 𝓛 callee.signature (callee.spec 𝓛 𝓜.mem 𝓡.returns) in
    let z : G.Ghost = ((tt, tt, tt, (p.first, (p.stride, (p.rows, (n, (length xs, tt))))), (vint w64 p.first ∷ [], (vint w64 p.stride ∷ [], (vint w32 p.rows ∷ [], (vint w32 n ∷ [], (vint w64 (length xs) ∷ [], tt)))))), tt) in
    use0 𝓛 (raw (fact 𝓤 (n < p.rows → p.first + n * p.stride ≤ length xs))) (fact_i 𝓤 _ (emp 𝓤) (λ some. omega (arith, within.reach n some))) $
    nothing ! $ owned ! usize _ (uint_Makes 𝓛 w64) (length xs) _ (refl, room.0) $ fjoin ! $ owned ! u32 _ (uint_Makes 𝓛 w32) n _ (refl, f_at) $ fjoin ! $ owned ! u32 _ (uint_Makes 𝓛 w32) p.rows _ (refl, f_rows) $ fjoin ! $
    owned ! usize _ (uint_Makes 𝓛 w64) p.stride _ (refl, f_stride) $ fjoin ! $ owned ! usize _ (uint_Makes 𝓛 w64) p.first _ (refl, f_first) $ fjoin ! $ nothing ! $ join ! $ join ! $ use1 𝓛 (raw (G.pre z)) (id⊢ 𝓤 _) $
    calls_at ! (framed 𝓤 H 𝓜 𝓣) G (callee_met.met 𝓤 𝓛 𝓜 𝓡 (code.calls-matrix_parts::part_mut::place_of_row 𝓡.env wired)) z
    (and_then ! (get ! refl) (and_then ! (get ! refl) (and_then ! (get ! refl) (and_then ! (get ! refl) (and_then ! (get ! refl) (no_more !)))))) (λ v.
    use1 𝓛 (later (some (λ (r : ℕ). (‵ ftrue ⊛ ‵ (usize.own_val r (v ∷ []))) ⊛ some (λ (ws : Unit {0} × (Unit {0} × (Unit {0} × (Unit {0} × (Unit {0} × Unit {0}))))). ‵ (lasts callee.ended z.0.0 z.0.3 ws)
    ⊛ raw (fact 𝓤 (r ≤ length xs)) ⊛ raw (fact 𝓤 (n < p.rows → r ≡ p.first + n * p.stride)) ⊛ raw (fact 𝓤 (p.rows ≤ n → r ≡ length xs)))))) (id⊢ 𝓤 _) $
    await ! tt $ pick ! (λ cut. split ! $ split ! $ drop ! $ fsplit ! $ feq_l ! (λ v_is. flt_l ! (λ f_cut. pick ! (λ ws. split ! $ drop ! $ split3 ! $ heard ! _ (λ inside. heard ! _ (λ begins. heard ! _ (λ ends.
    lands_as ! (ap only v_is) refl (tt, record { fits = f_cut }) $
    let front : List ℕ = take cut xs in let back : List ℕ = drop_l cut xs in let γ : GName = p.entries.ghost_name in
    let lf : length front ≡ cut = length-take-le cut xs inside in let lb : length back ≡ length xs - cut = length-drop cut xs in
    let on : at o 8 (length front) ≡ cut * 8 + o = at_mul o 8 (length front) ∙ ap (λ (k : ℕ). k * 8 + o) lf in
    let small : length xs * 8 < 2 ^ 63 = room.1 in let f_bytes : cut * 8 < 2 ^ 64 = omega (arith, small, inside) in let f_rest : length xs - cut < 2 ^ 64 = omega (arith, room.0) in let f_below : p.rows - n < 2 ^ 32 = omega (arith, f_rows) in
    let r₁ : Room u64 (length front) = (omega (arith, room.0, inside, lf), omega (arith, small, inside, lf)) in let r₂ : Room u64 (length back) = (omega (arith, room.0, inside, lb), omega (arith, small, inside, lb)) in
    sets ! (addr ! (from ! (fld ! refl (hop ! (look_in_at ! 3 (sub ! 0 refl (whole !))) (stop !))))) refl (tt, tt) $
    first ! $ blocks ! $
    sets ! (agg ! (and_then ! (get ! refl) (and_then ! (get ! refl) (no_more !)))) refl (tt, (tt, (record { fits = f_cut }, tt))) $
    sets ! (agg ! (and_then ! (get ! refl) (and_then ! (get ! refl) (and_then ! (get ! refl) (and_then ! (get ! refl) (and_then ! (get ! refl) (no_more !))))))) refl
    (tt, ((tt, (record { fits = f_cut }, tt)), (record { fits = f_first }, (record { fits = f_stride }, (record { fits = f_at }, (record { fits = f_cols }, tt)))))) $
    sets ! (bin ! (get ! refl) (lit ! tt) (record { fits = f_bytes })) refl (tt, record { fits = f_bytes }) $
    sets ! (bin ! (get ! refl) (get ! refl) tt) refl (tt, tt) $
    sets ! (bin ! (get ! refl) (get ! refl) inside) refl (tt, record { fits = f_rest }) $
    sets ! (agg ! (and_then ! (get ! refl) (and_then ! (get ! refl) (no_more !)))) refl (tt, (tt, (record { fits = f_rest }, tt))) $
    sets ! (bin ! (get ! refl) (get ! refl) at_most) refl (tt, record { fits = f_below }) $
    sets ! (agg ! (and_then ! (get ! refl) (and_then ! (lit ! tt) (and_then ! (get ! refl) (and_then ! (get ! refl) (and_then ! (get ! refl) (no_more !))))))) refl
    (tt, ((tt, (record { fits = f_rest }, tt)), (record { fits = lit< tt }, (record { fits = f_stride }, (record { fits = f_below }, (record { fits = f_cols }, tt)))))) $
    sets_last ! (agg ! (and_then ! (get ! refl) (and_then ! (get ! refl) (no_more !)))) refl (
      tt,
      (
        ((tt, (record { fits = f_cut }, tt)), (record { fits = f_first }, (record { fits = f_stride }, (record { fits = f_at }, (record { fits = f_cols }, tt))))),
        (((tt, (record { fits = f_rest }, tt)), (record { fits = lit< tt }, (record { fits = f_stride }, (record { fits = f_below }, (record { fits = f_cols }, tt))))), tt),
      ),
    ) $
    exec ! 𝓣.C 𝓣.Λ (env code.Mir.locals l) code.Mir.t-10 (at_ret _ Post) $
    sets ! (of_opd ! (get ! refl)) refl (
      tt,
      (
        ((tt, (record { fits = f_cut }, tt)), (record { fits = f_first }, (record { fits = f_stride }, (record { fits = f_at }, (record { fits = f_cols }, tt))))),
        (((tt, (record { fits = f_rest }, tt)), (record { fits = lit< tt }, (record { fits = f_stride }, (record { fits = f_below }, (record { fits = f_cols }, tt))))), tt),
      ),
    ) $
    -- [the loan; the token of the lifetime]
    let nl = named_lft 1 0 tt κs in
    let one : GName × GName → MutBor (List ℕ) = λ γs. record { ref_ptr = (b, o); ghost_name = γs.0; now = front } in
    let two : GName × GName → MutBor (List ℕ) = λ γs. record { ref_ptr = (b, at o 8 (length front)); ghost_name = γs.1; now = back } in
    rewrite ! 0 (λ (zs : List ℕ). ‵ ((MutSlice (named 0) κ u64).own_val (record { ref_ptr = (b, o); ghost_name = γ; now = zs }) vss.0)) (sym (take-append-drop cut xs)) refl $
    use2 𝓛 (later (some (λ (γs : GName × GName). ‵ ((MutSlice (named 0) κ u64).own_val (one γs) (slice_val (b, o) (length front) ∷ [])) ⊛ ‵ ((MutSlice (named 0) κ u64).own_val (two γs) (slice_val (b, at o 8 (length front)) (length back) ∷ [])) ⊛ ‵ (flft κ q)
    ⊛ ‵ (after₂ (Arr (mem u64) 0) (Arr (mem u64) 0) (Arr (mem u64) 0) γ γs.0 γs.1 ◌++◌))))
    (splits 𝓛 u64 (named 0) κ q b o γ front back r₁ r₂ vss.0) $ await ! tt $ pick ! (λ γs. split3 ! $
    let p₀ : PartMut = record { entries = one γs; first = p.first; stride = p.stride; rows = n; cols = p.cols } in
    let p₁ : PartMut = record { entries = two γs; first = 0; stride = p.stride; rows = p.rows - n; cols = p.cols } in
    let out : Val = pair_val (part_val (slice_val (b, o) cut) p.first p.stride n p.cols) (part_val (slice_val (b, cut * 8 + o) (length xs - cut)) 0 p.stride (p.rows - n) p.cols) in
    use1 𝓛 (‵ (Row.own_val p₀ (lowered p₀ ∷ []))) (part_made 𝓛 nl p₀ f_first f_stride f_at f_cols) $ move ! (1 ∷ []) $
    use1 𝓛 (‵ (Row.own_val p₁ (lowered p₁ ∷ []))) (part_made 𝓛 nl p₁ (lit< tt) f_stride f_below f_cols) $
    nothing ! $ move ! (2 ∷ 1 ∷ 0 ∷ []) $ fjoin3 ! $
    feq_i ! (List Val) (out ∷ []) (pair_val (lowered p₀) (lowered p₁) ∷ [])
    (λ k. pair_val (part_val (slice_val (b, o) (sym lf k)) p.first p.stride n p.cols) (part_val (slice_val (b, sym on k) (sym lb k)) 0 p.stride (p.rows - n) p.cols) ∷ []) $ fjoin ! $
    fpack ! (Valss (Row ∷ Row ∷ [])) (λ uss. fsep (feq (List Val) (out ∷ []) (vstruct (of_list (uss.0 ++ (uss.1.0 ++ []))) ∷ [])) (owns (Row ∷ Row ∷ []) (p₀, (p₁, tt)) uss)) (lowered p₀ ∷ [], (lowered p₁ ∷ [], tt)) $
    move ! (1 ∷ []) $ split ! $
    -- [the token; what the loan follows; the two parts]
    let whole_is = take-append-drop cut xs in
    use0 𝓛 (raw (fact 𝓤 (AreRowsOf p n (p₀, p₁)))) (fact_i 𝓤 _ (emp 𝓤) (record { now = sym whole_is; above = λ us vs long. above_block (length xs) p.first p.stride p.rows p.cols n cut within at_most inside begins ends us vs (long ∙ lf); below = λ us vs long. below_block (length xs) p.first p.stride p.rows p.cols n cut within at_most inside begins ends us vs (long ∙ lf) })) $
    use0 𝓛 (raw (fact 𝓤 (IsBlockOf (grid_of p) n 0 (p.rows - n) p.cols (grid_of p₁)))) (fact_i 𝓤 _ (emp 𝓤) (subst (λ (zs : List ℕ). IsBlockOf (rect zs p.first p.stride p.rows p.cols) n 0 (p.rows - n) p.cols (grid_of p₁)) whole_is
    (below_block (length xs) p.first p.stride p.rows p.cols n cut within at_most inside begins ends front back lf))) $ join ! $
    use0 𝓛 (raw (fact 𝓤 (IsBlockOf (grid_of p) 0 0 n p.cols (grid_of p₀)))) (fact_i 𝓤 _ (emp 𝓤) (subst (λ (zs : List ℕ). IsBlockOf (rect zs p.first p.stride p.rows p.cols) 0 0 n p.cols (grid_of p₀)) whole_is
    (above_block (length xs) p.first p.stride p.rows p.cols n cut within at_most inside begins ends front back lf))) $ join ! $
    use0 𝓛 (raw (fact 𝓤 (IsPart p₀ × IsPart p₁))) (fact_i 𝓤 _ (emp 𝓤) (
      subst (λ (k : ℕ). IsWithin k p.first p.stride n p.cols) (sym lf) (above_within (length xs) p.first p.stride p.rows p.cols n cut within at_most inside begins ends),
      subst (λ (k : ℕ). IsWithin k 0 p.stride (p.rows - n) p.cols) (sym lb) (below_within (length xs) p.first p.stride p.rows p.cols n cut within at_most inside begins ends),
    )) $ join ! $
    move ! (2 ∷ 0 ∷ []) $ join ! $ move ! (1 ∷ []) $ nothing ! $ move ! (1 ∷ 0 ∷ []) $ join ! $ nothing ! $ nothing ! $ fjoin ! $ nothing ! $ fjoin ! $
    -- [what is left of the parameters; the tokens; the `ensures`; the two parts]
    returns ! (look_at ! 0 refl) $ free_all ! refl $ keep ! (1 ∷ 0 ∷ 3 ∷ 2 ∷ []) $ by ! (leaves 𝓛 ended hs c y out (p₀, p₁) ((tt, tt), (tt, tt)) (tt, (tt, tt)))))))))))))))))
