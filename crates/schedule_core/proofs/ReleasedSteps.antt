-- Steps that wait for one edge less, one after another. Cited where the edges from a step are counted off.
use Rattle.std.proofs.Common.{◌≡◌, ℕ, ◌+◌, ◌-◌, ◌<◌, ◌≤◌, inl, inr, true, false, cond, List, [], length, get_or, drop, set, All, sym, ◌∙◌, ap, arith, get_or-set_same, get_or-set_other}
use Rattle.std.specs.Prelude.{◌==◌, None, Some, slice_get}
use Rattle.std.proofs.lemmas.Bool.{cases_eq, cases_lt, eq-eqb, ne_eqb}
use Rattle.std.proofs.lemmas.List.{drop_all}
use Rattle.std.proofs.lemmas.List.Sums.{sum_by-drop_more}
use Rattle.std.proofs.lemmas.Option.{get_or_from_slice_get, none-some, slice_get-get_or, slice_get_within}
use Rattle.schedule_core.specs.Turns.{times_in}

-- where a list has no item, nothing is left of it
pub drop_past : (xs : List ℕ) (p : ℕ) → slice_get xs p ≡ None → drop p xs ≡ []
drop_past xs p none = elim (cases_lt p (length xs)) [
  | inl below ↦ absurd (none-some (get_or xs p 0) (sym none ∙ slice_get-get_or xs p 0 below))
  | inr past ↦ drop_all p xs past
]

module _ (steps waits old : List ℕ) (p next : ℕ) (at : slice_get steps p ≡ Some next) (within : All (λ (n : ℕ). (0 < n) × (n ≤ length old)) steps)
    (enough : (s : ℕ) → times_in steps (s + 1) ≤ get_or old s 0) (count : length waits ≡ length old)
    (so_far : (s : ℕ) → get_or waits s 0 + times_in steps (s + 1) ≡ get_or old s 0 + times_in (drop p steps) (s + 1)) where
  below : p < length steps
  below = slice_get_within steps p next at

  is : get_or steps p 0 ≡ next
  is = get_or_from_slice_get steps p next 0 at

  pub next-below : p + 1 ≤ length steps
  next-below = omega (arith, below)

  pub next-from : 1 ≤ next
  next-from = omega (arith, (within p 0 below).0, is)

  pub next-within : next - 1 < length waits
  next-within = omega (arith, (within p 0 below).0, (within p 0 below).1, is, count)

  times-next : (x : ℕ) → times_in (drop p steps) x ≡ cond (next == x) 1 0 + times_in (drop (p + 1) steps) x
  times-next x =
      sum_by-drop_more (λ (y : ℕ). cond (y == x) 1 0) steps p 0 below ∙ ap (λ (y : ℕ). cond (y == x) 1 0 + times_in (drop (p + 1) steps) x) is

  -- it does wait for one
  pub next-waits : 1 ≤ get_or waits (next - 1) 0
  next-waits =
      let e : (next == (next - 1) + 1) ≡ true = eq-eqb next ((next - 1) + 1) (omega (arith, next-from)) in
      let t : times_in (drop p steps) ((next - 1) + 1) ≡ 1 + times_in (drop (p + 1) steps) ((next - 1) + 1) = times-next ((next - 1) + 1) ∙ rw e (omega arith) in
      omega (arith, so_far (next - 1), enough (next - 1), t)

  pub next-counted : (s : ℕ) → get_or (set waits (next - 1) (get_or waits (next - 1) 0 - 1)) s 0 + times_in steps (s + 1)
      ≡ get_or old s 0 + times_in (drop (p + 1) steps) (s + 1)
  next-counted s = elim (cases_eq s (next - 1)) [
    | inl same ↦ (let e : (next == s + 1) ≡ true = eq-eqb next (s + 1) (omega (arith, next-from, same)) in
        let t : times_in (drop p steps) (s + 1) ≡ 1 + times_in (drop (p + 1) steps) (s + 1) = times-next (s + 1) ∙ rw e (omega arith) in
        let own : get_or (set waits (next - 1) (get_or waits (next - 1) 0 - 1)) s 0 ≡ get_or waits s 0 - 1
        = rw (← same) (get_or-set_same waits s (get_or waits s 0 - 1) 0 (omega (arith, next-within, same))) in
        let some : 1 ≤ get_or waits s 0 = rw (← same) at next-waits in
        omega (arith, own, so_far s, t, some))
    | inr apart ↦ (let e : (next == s + 1) ≡ false = ne_eqb next (s + 1) (λ same. apart (omega (arith, same))) in
        let t : times_in (drop p steps) (s + 1) ≡ times_in (drop (p + 1) steps) (s + 1) = times-next (s + 1) ∙ rw e (omega arith) in
        let other : get_or (set waits (next - 1) (get_or waits (next - 1) 0 - 1)) s 0 ≡ get_or waits s 0
        = get_or-set_other waits (next - 1) s (get_or waits (next - 1) 0 - 1) 0 apart in
        omega (arith, other, so_far s, t))
  ]
