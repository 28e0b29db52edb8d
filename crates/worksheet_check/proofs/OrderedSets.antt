-- A set of tasks is a part of a list in canonical order where each of its tasks is one of the list and comes after the
-- one before it.
use Rattle.std.proofs.Common.{◌≡◌, inl, inr, List, [], ◌∷◌, Bool, true, false, cond, Option, Some, None, refl, sym, ap, subst}
use Rattle.std.specs.Prelude.{AllPairs, All, ◌&&◌}
use Rattle.std.proofs.lemmas.Bool.{and_parts, and_from}
use Rattle.std.proofs.lemmas.List.Elements.{All-head, All-tail, All-nil, All-cons, All-contains}
use Rattle.operation_spec.specs.declared.operation.Operation.{Operation}
use Rattle.operation_spec.specs.declared.task.Task.{Task}
use Rattle.task_graph.specs.Order.{is_earlier}
use Rattle.task_graph.proofs.EarlierTasks.{is_earlier-same, is_earlier-trans}
use Rattle.invariant_family.specs.Feasible.{holds}
use Rattle.invariant_family.specs.Sublists.{IsSublist}
use Rattle.invariant_family.proofs.FlatMaps.{AllPairs-parts}
use Rattle.worksheet_check.specs.InvariantFindings.{comes_after, out_of_order}
use Rattle.worksheet_check.proofs.Held.{contains-from_held, held-cons, held-head, held-tail}

-- each is one of a list
abbrev pub AreHeld : List Task → List Task → Type 0
AreHeld ts s = All (λ a. holds ts a ≡ true) s

-- one after the other, behind an earlier one
abbrev pub IsChain : Operation → Option Task → List Task → Type 0
IsChain op before [] = Unit {0}
IsChain op before (a ∷ s) = (comes_after op before a ≡ true) × IsChain op (Some a) s

-- a list in canonical order
abbrev pub IsInOrder : Operation → List Task → Type 0
IsInOrder op ts = AllPairs (λ a b. is_earlier op a b ≡ true) ts

module _ (op : Operation) where
  -- ---- the search

  pub chain-from_none : (ts : List Task) (before : Option Task) (s : List Task) → out_of_order op ts before s ≡ None → AreHeld ts s × IsChain op before s
  chain-from_none ts before [] h = (All-nil (λ a. holds ts a ≡ true), tt)
  chain-from_none ts before (a ∷ s) h = step (chain-from_none ts (Some a) s) (holds ts a && comes_after op before a) refl h
    where
      step : (out_of_order op ts (Some a) s ≡ None → AreHeld ts s × IsChain op (Some a) s) → (b : Bool) → (holds ts a && comes_after op before a) ≡ b → cond b (out_of_order op ts (Some a) s) (Some a) ≡ None
          → AreHeld ts (a ∷ s) × IsChain op before (a ∷ s)
      step behind true e none =
          let both = and_parts (holds ts a) (comes_after op before a) e in
          let others = behind none in
          (All-cons (λ a. holds ts a ≡ true) a s both.0 others.0, (both.1, others.1))
      step behind false e none = cc

  pub none-from_chain : (ts : List Task) (before : Option Task) (s : List Task) → AreHeld ts s → IsChain op before s → out_of_order op ts before s ≡ None
  none-from_chain ts before [] held chain = refl
  none-from_chain ts before (a ∷ s) held chain =
      let both = and_from (holds ts a) (comes_after op before a) (All-head (λ a. holds ts a ≡ true) a s held) chain.0 in
      rw both (none-from_chain ts (Some a) s (All-tail (λ a. holds ts a ≡ true) a s held) chain.1)

  -- ---- a chain of tasks of the list is a part of it

  -- a before each task
  abbrev AreLater : Task → List Task → Type 0
  AreLater a s = All (λ b. is_earlier op a b ≡ true) s

  later-than_first : (a b : Task) (s : List Task) → is_earlier op a b ≡ true → IsChain op (Some b) s → AreLater a s
  later-than_first a b [] h chain = All-nil (λ c. is_earlier op a c ≡ true)
  later-than_first a b (c ∷ s) h chain =
      let next : is_earlier op a c ≡ true = is_earlier-trans op a b c h chain.0 in
      All-cons (λ d. is_earlier op a d ≡ true) c s next (later-than_first a c s next chain.1)

  later-in_chain : (a : Task) (s : List Task) → IsChain op (Some a) s → AreLater a s
  later-in_chain a [] chain = All-nil (λ c. is_earlier op a c ≡ true)
  later-in_chain a (c ∷ s) chain = All-cons (λ d. is_earlier op a d ≡ true) c s chain.0 (later-than_first a c s chain.0 chain.1)

  -- tasks behind the first of a list are held by the others
  held-behind : (t : Task) (ts s : List Task) → AreHeld (t ∷ ts) s → AreLater t s → AreHeld ts s
  held-behind t ts s held later k d below = elim (held-cons t ts _ (held k d below)) [
    | inl same ↦ (let sooner : is_earlier op t t ≡ true = subst (λ b. is_earlier op t b ≡ true) same (later k d below) in
        let never : is_earlier op t t ≡ false = is_earlier-same op t in cc)
    | inr others ↦ others
  ]

  empty-sublist : (ts : List Task) → IsSublist [] ts
  empty-sublist [] = refl
  empty-sublist (t ∷ ts) = inl (empty-sublist ts)

  pub sublist-from_chain : (ts : List Task) → IsInOrder op ts → (before : Option Task) (s : List Task) → AreHeld ts s → IsChain op before s → IsSublist s ts
  sublist-from_chain ts sorted before [] held chain = empty-sublist ts
  sublist-from_chain [] sorted before (a ∷ s) held chain = let never : false ≡ true = All-head (λ b. holds [] b ≡ true) a s held in cc
  sublist-from_chain (t ∷ ts) sorted before (a ∷ s) held chain = elim (held-cons t ts a (All-head (λ b. holds (t ∷ ts) b ≡ true) a s held)) [
    | inl same ↦ (let later : AreLater t s = subst (λ b. AreLater b s) same (later-in_chain a s chain.1) in
        inr (
          s,
          ap (λ b. b ∷ s) same,
          sublist-from_chain ts (AllPairs-parts (λ a b. is_earlier op a b ≡ true) t ts sorted).1 (Some a) s
              (held-behind t ts s (All-tail (λ b. holds (t ∷ ts) b ≡ true) a s held) later) chain.1,
        ))
    | inr others ↦ (let parts = AllPairs-parts (λ a b. is_earlier op a b ≡ true) t ts sorted in
        let first : is_earlier op t a ≡ true = All-contains (λ b. is_earlier op t b ≡ true) ts a parts.0 (contains-from_held ts a others) in
        let later : AreLater t (a ∷ s) = All-cons (λ b. is_earlier op t b ≡ true) a s first (later-than_first t a s first chain.1) in
        inl (sublist-from_chain ts parts.1 before (a ∷ s) (held-behind t ts (a ∷ s) held later) chain))
  ]

  -- ---- and back

  held-more : (t : Task) (ts s : List Task) → AreHeld ts s → AreHeld (t ∷ ts) s
  held-more t ts s held k d below = held-tail t ts _ (held k d below)

  pub held-sublist : (ts s : List Task) → IsSublist s ts → AreHeld ts s
  held-sublist [] s h = subst (λ r. AreHeld [] r) (sym h) (All-nil (λ a. holds [] a ≡ true))
  held-sublist (t ∷ ts) s (inl h) = held-more t ts s (held-sublist ts s h)
  held-sublist (t ∷ ts) s (inr (rest, e, h)) =
      subst (λ r. AreHeld (t ∷ ts) r) (sym e) (All-cons (λ a. holds (t ∷ ts) a ≡ true) t rest (held-head t ts) (held-more t ts rest (held-sublist ts rest h)))

  pub chain-sublist : (ts s : List Task) (before : Option Task) → IsInOrder op ts → All (λ b. comes_after op before b ≡ true) ts → IsSublist s ts → IsChain op before s
  chain-sublist [] s before sorted after h = subst (λ r. IsChain op before r) (sym h) tt
  chain-sublist (t ∷ ts) s before sorted after (inl h) =
      chain-sublist ts s before (AllPairs-parts (λ a b. is_earlier op a b ≡ true) t ts sorted).1 (All-tail (λ b. comes_after op before b ≡ true) t ts after) h
  chain-sublist (t ∷ ts) s before sorted after (inr (rest, e, h)) =
      let parts = AllPairs-parts (λ a b. is_earlier op a b ≡ true) t ts sorted in
      subst (λ r. IsChain op before r) (sym e) (All-head (λ b. comes_after op before b ≡ true) t ts after, chain-sublist ts rest (Some t) parts.1 parts.0 h)
