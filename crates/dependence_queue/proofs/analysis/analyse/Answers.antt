use Rattle.std.proofs.Common.{arith, ◌≡◌, ◌≤◌, List, length, map, sym, ◌∙◌, ap, subst}
use Rattle.std.specs.Prelude.{IfOk}
use Rattle.std.specs.List.{flat_map, range_with_len}
use Rattle.dependence_queue.specs.declared.edge.Edge.{Edge}
use Rattle.dependence_queue.specs.Edges.{access_at, edges_from, edges_of}
use Rattle.dependence_queue.specs.Indexes.{AreRowsFrom}
use Rattle.dependence_queue.proofs.FoundRows.{rows-from, laid-edges_of}
use Rattle.dependence_queue.proofs.ListedEdges.{few_into}
use Rattle.dependence_queue.proofs.analysis.analyse.Goals as goal

-- the rows that were found
pub from_rows-requires-clause-rows : goal.from_rows-requires-clause-rows
from_rows-requires-clause-rows c =
    let rows : List (List Edge) = map (edges_from (access_at c.as_slice-accesses.result.now) (length c.as_slice-accesses.result.now)) (range_with_len 1 (length c.as_slice-accesses.result.now)) in
    let e : rows ≡ c.as_slice.result.now = sym (c.as_slice.ensures.value ∙ c.in_ok-rows.ensures) in
    subst (λ (rs : List (List Edge)). AreRowsFrom 1 (length rs) rs) e (rows-from (access_at c.as_slice-accesses.result.now) (length c.as_slice-accesses.result.now))

pub from_rows-requires-clause-few : goal.from_rows-requires-clause-few
from_rows-requires-clause-few c t =
    let e : flat_map (λ (row : List Edge). row) c.as_slice.result.now ≡ edges_of c.as_slice-accesses.result.now =
    ap (flat_map (λ (row : List Edge). row)) (c.as_slice.ensures.value ∙ c.in_ok-rows.ensures) ∙ laid-edges_of c.as_slice-accesses.result.now in
    let few : length c.as_slice-accesses.result.now ≤ 262144 = omega (arith, ap length c.as_slice-accesses.ensures) in
    rw e (omega (arith, few_into c.as_slice-accesses.result.now t, few))

pub returns : goal.returns
returns c =
    let e : flat_map (λ (row : List Edge). row) c.as_slice.result.now ≡ edges_of c.args.accesses.now =
    ap (flat_map (λ (row : List Edge). row)) (c.as_slice.ensures.value ∙ c.in_ok-rows.ensures) ∙ (laid-edges_of c.as_slice-accesses.result.now ∙ ap edges_of c.as_slice-accesses.ensures) in
    record { exact = subst (λ (es : List Edge). IfOk c.from_rows.result (λ edges. edges ≡ es)) e c.from_rows.ensures }
