-- The events of one log are taken over into another one. Cited where workers are joined.
use Rattle.std.proofs.Common.{◌≡◌, ◌≢◌, ℕ, zero, suc, ◌+◌, ◌<◌, ◌≤◌, ◌⊎◌, inl, inr, List, [], ◌∷◌, ◌++◌, set, length, get_or, slice_get, Option, Some, None, refl, sym, ap, ◌∙◌, subst, arith}
use Rattle.std.proofs.lemmas.Bool.{cases_eq, cases_lt}
use Rattle.std.specs.Option.{is_some}
use Rattle.std.specs.Prelude.{true, false}
use Rattle.std.proofs.lemmas.List.{get_or-set_same, get_or-set_other, get_or_past, length-set}
use Rattle.schedule_core.specs.declared.event.Event.{Event}
use Rattle.block_store.specs.declared.view.Fact.{Fact}
use Rattle.block_store.specs.Stamps.{HasStamp}
use Rattle.dispatcher.specs.Joining.{or_event, IsJoinedLog}
use Rattle.dispatcher.specs.Workers.{IsCovered}
use Rattle.dispatcher.proofs.Logs.{set-else, set-here}
use Rattle.dispatcher.proofs.JoinedFacts.{stamp-left, stamp-right, stamp-either}

-- ---- what stands in a list of options

pub some-at : (xs : List (Option Event)) (n : ℕ) (e : Event) → slice_get xs n ≡ Some (Some e) → get_or xs n None ≡ Some e
some-at [] n e at = absurd (let none : None ≡ Some (Some e) = at in cc)
some-at (x ∷ xs) zero e at = cc
some-at (x ∷ xs) (suc n) e at = some-at xs n e at

pub at-some : (xs : List (Option Event)) (n : ℕ) (e : Event) → get_or xs n None ≡ Some e → slice_get xs n ≡ Some (Some e)
at-some [] n e is = absurd (let none : None ≡ Some e = is in cc)
at-some (x ∷ xs) zero e is = ap Some is
at-some (x ∷ xs) (suc n) e is = at-some xs n e is

-- what the test for none says
pub none-by : (o : Option Event) → is_some o ≡ false → o ≡ None
none-by None is = refl
none-by (Some e) is = absurd (cc)

pub some-by : (o : Option Event) → is_some o ≡ true → o ≢ None
some-by None is = absurd (cc)
some-by (Some e) is = λ none. cc

-- ---- on the way

-- the first k places are joined, and the others as they were
pub record IsJoinedLogTo (old from new : List (Option Event)) (k : ℕ) : Type 0 where
  pub long : length new ≡ length old
  pub mixed : (n : ℕ) → n < k → get_or new n None ≡ or_event (get_or old n None) (get_or from n None)
  pub rest : (n : ℕ) → k ≤ n → get_or new n None ≡ get_or old n None

pub joined_log-none : (old from : List (Option Event)) → IsJoinedLogTo old from old 0
joined_log-none old from = record { long = refl; mixed = λ n low. absurd (omega arith); rest = λ n high. refl }

-- a place that has an event stays
pub joined_log-kept : (old from new : List (Option Event)) (k : ℕ) → IsJoinedLogTo old from new k → (get_or new k None ≢ None) → IsJoinedLogTo old from new (k + 1)
joined_log-kept old from new k so_far some = record {
  long = so_far.long;
  mixed = λ n low. go n (cases_eq n k) low;
  rest = λ n high. so_far.rest n (omega arith);
}
  where
    same : (o : Option Event) → o ≢ None → o ≡ or_event o (get_or from k None)
    same None h = absurd (h refl)
    same (Some e) h = refl

    go : (n : ℕ) → (n ≡ k) ⊎ (n ≢ k) → n < k + 1 → get_or new n None ≡ or_event (get_or old n None) (get_or from n None)
    go n (inl is) low = subst (λ i. get_or new i None ≡ or_event (get_or old i None) (get_or from i None)) (sym is)
        (same (get_or new k None) some ∙ ap (λ o. or_event o (get_or from k None)) (so_far.rest k (omega arith)))
    go n (inr ne) low = so_far.mixed n (omega arith)

-- one that has none takes the other's
pub joined_log-taken : (old from new : List (Option Event)) (k : ℕ) (o : Option Event) → k < length new → IsJoinedLogTo old from new k → get_or new k None ≡ None
    → o ≡ get_or from k None → IsJoinedLogTo old from (set new k o) (k + 1)
joined_log-taken old from new k o within so_far none is = record {
  long = length-set new k o ∙ so_far.long;
  mixed = λ n low. go n (cases_eq n k) low;
  rest = λ n high. get_or-set_other new k n o None (λ h. omega arith) ∙ so_far.rest n (omega arith);
}
  where
    go : (n : ℕ) → (n ≡ k) ⊎ (n ≢ k) → n < k + 1 → get_or (set new k o) n None ≡ or_event (get_or old n None) (get_or from n None)
    go n (inl same) low = subst (λ i. get_or (set new k o) i None ≡ or_event (get_or old i None) (get_or from i None)) (sym same)
        (get_or-set_same new k o None within ∙ is ∙ ap (λ x. or_event x (get_or from k None)) (sym (sym (so_far.rest k (omega arith)) ∙ none)))
    go n (inr ne) low = get_or-set_other new k n o None ne ∙ so_far.mixed n (omega arith)

pub joined_log-all : (old from new : List (Option Event)) (k : ℕ) → length old ≤ k → IsJoinedLogTo old from new k → IsJoinedLog old from new
joined_log-all old from new k all so_far = record { long = so_far.long; mixed = λ n low. so_far.mixed n (omega arith) }

-- ---- events in a list

-- the first k places of a schedule have what the log has there
abbrev pub IsOrderedTo : List (Option Event) → List Event → ℕ → Type 0
IsOrderedTo log schedule k = (n : ℕ) (e : Event) → n < k → slice_get schedule n ≡ Some e → slice_get log n ≡ Some (Some e)

pub ordered-more : (log : List (Option Event)) (schedule : List Event) (k : ℕ) (e : Event) → k < length schedule → IsOrderedTo log schedule k → get_or log k None ≡ Some e
    → IsOrderedTo log (set schedule k e) (k + 1)
ordered-more log schedule k e within so_far is n d low at = go (cases_eq n k)
  where
    go : (n ≡ k) ⊎ (n ≢ k) → slice_get log n ≡ Some (Some d)
    go (inl same) =
        let here : Some e ≡ Some d = sym (set-here schedule k e within) ∙ ap (λ i. slice_get (set schedule k e) i) (sym same) ∙ at in
        let one : e ≡ d = cc in
        at-some log n d (ap (λ i. get_or log i None) same ∙ is ∙ ap Some one)
    go (inr ne) = so_far n d (omega arith) (sym (set-else schedule k n e ne) ∙ at)

-- ---- a log of two workers

module _ (a b c : List (Option Event)) (facts more : List Fact) (long : length a ≡ length b) (log_is : IsJoinedLog a b c) (own : IsCovered a facts) (other : IsCovered b more) where
  mixed : (n : ℕ) → get_or c n None ≡ or_event (get_or a n None) (get_or b n None)
  mixed n = elim (cases_lt n (length a)) [
    | inl low ↦ log_is.mixed n low
    | inr high ↦ get_or_past c n None (omega (arith, log_is.long))
        ∙ sym (ap (λ o. or_event o (get_or b n None)) (get_or_past a n None high) ∙ get_or_past b n None (omega arith))
  ]

  sound : (n : ℕ) (e : Event) (o : Option Event) → get_or a n None ≡ o → or_event o (get_or b n None) ≡ Some e → HasStamp (facts ++ more) n e
  sound n e (Some d) is at = stamp-left facts more n e (own.sound n e (at-some a n e (is ∙ at)))
  sound n e None is at = stamp-right facts more n e (other.sound n e (at-some b n e at))

  covers : (n : ℕ) (d : Event) (o : Option Event) → get_or a n None ≡ o → get_or b n None ≡ Some d → (x : Event) × (slice_get c n ≡ Some (Some x))
  covers n d (Some e) is at = (e, at-some c n e (mixed n ∙ ap (λ o. or_event o (get_or b n None)) is))
  covers n d None is at = (d, at-some c n d (mixed n ∙ ap (λ o. or_event o (get_or b n None)) is ∙ at))

  pub covered-both : IsCovered c (facts ++ more)
  covered-both = record {
    sound = λ n e at. sound n e (get_or a n None) refl (sym (mixed n) ∙ some-at c n e at);
    covers = λ n e h. elim (stamp-either facts more n e h) [
      | inl l ↦ let d = own.covers n e l in (d.0, at-some c n d.0 (mixed n ∙ ap (λ o. or_event o (get_or b n None)) (some-at a n d.0 d.1)))
      | inr r ↦ let d = other.covers n e r in covers n d.0 (get_or a n None) refl (some-at b n d.0 d.1)
    ];
  }
