-- The first of some updates in which something is found: those before it are right, and it isn't.
use Rattle.std.proofs.Common.{◌≡◌, ℕ, zero, suc, ◌+◌, ◌<◌, List, [], ◌∷◌, ◌++◌, take, Bool, true, false, cond, Option, Some, None, refl, sym, ap, ◌∙◌, subst, arith, append_assoc, append-nil}
use Rattle.std.specs.Prelude.{slice_get, Contains, not}
use Rattle.std.specs.List.{find}
use Rattle.std.specs.Option.{option_map}
use Rattle.std.proofs.lemmas.Bool.{false_from_ne_true}
use Rattle.std.proofs.lemmas.List.Elements.{Contains-get_or}
use Rattle.std.proofs.lemmas.List.Sums.{list_all-from_AllPass}
use Rattle.operation_spec.specs.declared.operation.Operation.{Operation}
use Rattle.operation_spec.specs.declared.task.Task.{Task}
use Rattle.invariant_family.specs.Feasible.{holds}
use Rattle.worksheet.specs.declared.verdict.Shown.TheVariants as shown
use Rattle.worksheet.specs.declared.verdict.WsPlace.TheVariants as places
use Rattle.worksheet_check.specs.declared.findings.Finding.{Finding}
use Rattle.worksheet_check.specs.Findings.{finding}
use Rattle.worksheet_check.specs.Places.{IsNextUpdate, IsRightUpdate}
use Rattle.worksheet_check.specs.RoundFindings.{is_stray, misses, update_wrong, missing, or_else, update_finding}
use Rattle.worksheet_check.proofs.FirstLines.{found_here, never_found, same_place, mapped_place}
use Rattle.worksheet_check.proofs.Held.{contains-from_held, held-from_contains}
use Rattle.worksheet_check.proofs.NoFindings.{none_mapped, none_wrong}
use Rattle.worksheet_check.proofs.RightUpdates.{IsRight, update_right, none_for_right, never_both, not_twice, or_parts_none, right_by_none}

-- a finding of a wrong update is at its place
wrong_place : (p : ℕ) (a : Task) (stray : Bool) (o : Option Task) (f : Finding)
    → cond stray (Some (finding (places.Update p) (shown.One a) shown.Nothing)) (option_map (λ b. finding (places.Update p) (shown.One a) (shown.One b)) o) ≡ Some f
    → f.place ≡ places.Update p
wrong_place p a true o f h = same_place _ f h
wrong_place p a false o f h = mapped_place (λ b. finding (places.Update p) (shown.One a) (shown.One b)) (places.Update p) o f h (λ x. refl)

module _ (op : Operation) (due : List Task) where
  next-from_right : (seen : List Task) (a : Task) → IsRight op due seen a → IsNextUpdate op due seen a
  next-from_right seen a r = record {
    is_due = contains-from_held due a r.is_due;
    new = λ stood. never_both (holds seen a) (held-from_contains seen a stood) r.new;
    after_needs = λ b listed need. contains-from_held seen b (r.needs b (held-from_contains due b listed) need);
  }

  right-from_next : (seen : List Task) (a : Task) → IsNextUpdate op due seen a → IsRight op due seen a
  right-from_next seen a n = record {
    is_due = held-from_contains due a n.is_due;
    new = false_from_ne_true (holds seen a) (λ held. n.new (contains-from_held seen a held));
    needs = λ b held need. held-from_contains seen b (n.after_needs b (contains-from_held due b held) need);
  }

  -- nothing is missing where all due tasks stood before
  none_missing : (seen : List Task) (p : ℕ) → ((b : Task) → Contains due b → Contains seen b) → missing due seen p ≡ None
  none_missing seen p full = none_mapped _ (find (λ b. not (holds seen b)) due) (none_wrong (λ b. not (holds seen b)) (holds seen) (λ b. not_twice (holds seen b)) due
      (list_all-from_AllPass (holds seen) due (λ k d below. held-from_contains seen _ (full _ (Contains-get_or due k d below)))))

  -- ---- where nothing is found

  pub each_right : (seen : List Task) (p : ℕ) (updates : List Task) → update_finding op due seen p updates ≡ None → (k : ℕ)
      → IsRightUpdate op due (seen ++ take k updates) (slice_get updates k)
  each_right seen p [] h zero = λ b listed. contains-from_held (seen ++ []) b ((right_by_none op due seen p [] h).full b (held-from_contains due b listed))
  each_right seen p [] h (suc k) = λ b listed. contains-from_held (seen ++ []) b ((right_by_none op due seen p [] h).full b (held-from_contains due b listed))
  each_right seen p (a ∷ updates) h zero =
      let parts = or_parts_none (update_wrong op due seen p a) (update_finding op due (seen ++ a ∷ []) (p + 1) updates) h in
      subst (λ xs. IsNextUpdate op due xs a) (sym (append-nil seen)) (next-from_right seen a (update_right op due seen p a parts.0))
  each_right seen p (a ∷ updates) h (suc k) =
      let parts = or_parts_none (update_wrong op due seen p a) (update_finding op due (seen ++ a ∷ []) (p + 1) updates) h in
      subst (λ xs. IsRightUpdate op due xs (slice_get updates k)) (append_assoc seen (a ∷ []) (take k updates)) (each_right (seen ++ a ∷ []) (p + 1) updates parts.1 k)

  -- ---- where something is

  -- update k, from 0, is the first of these that isn't right
  pub record IsFirstWrong (seen updates : List Task) (k : ℕ) : Type 0 where
    pub before : (j : ℕ) → j < k → IsRightUpdate op due (seen ++ take j updates) (slice_get updates j)
    pub here : ¬ IsRightUpdate op due (seen ++ take k updates) (slice_get updates k)

  behind : (seen : List Task) (a : Task) (updates : List Task) (k : ℕ) → IsNextUpdate op due seen a → IsFirstWrong (seen ++ a ∷ []) updates k → IsFirstWrong seen (a ∷ updates) (suc k)
  behind seen a updates k next first = record {
    before = before;
    here = λ right. first.here (subst (λ xs. IsRightUpdate op due xs (slice_get updates k)) (sym (append_assoc seen (a ∷ []) (take k updates))) right);
  }
    where
      before : (j : ℕ) → j < suc k → IsRightUpdate op due (seen ++ take j (a ∷ updates)) (slice_get (a ∷ updates) j)
      before zero below = subst (λ xs. IsNextUpdate op due xs a) (sym (append-nil seen)) next
      before (suc j) below = subst (λ xs. IsRightUpdate op due xs (slice_get updates j)) (append_assoc seen (a ∷ []) (take j updates)) (first.before j (omega arith))

  pub first_wrong : (seen : List Task) (p : ℕ) (updates : List Task) (f : Finding) → update_finding op due seen p updates ≡ Some f
      → (k : ℕ) × (f.place ≡ places.Update (k + p)) × IsFirstWrong seen updates k
  first_wrong seen p [] f h = (
    zero,
    mapped_place _ (places.Update p) (find (λ b. not (holds seen b)) due) f h (λ x. refl) ∙ ap places.Update (omega arith),
    record {
      before = λ j below. absurd (omega arith);
      here = λ full. never_found (missing due seen p) f (none_missing seen p (subst (λ xs. (b : Task) → Contains due b → Contains xs b) (append-nil seen) full)) h;
    },
  )
  first_wrong seen p (a ∷ updates) f h = step (first_wrong (seen ++ a ∷ []) (p + 1) updates f) (update_wrong op due seen p a) refl h
    where
      step : (update_finding op due (seen ++ a ∷ []) (p + 1) updates ≡ Some f → (k : ℕ) × (f.place ≡ places.Update (k + (p + 1))) × IsFirstWrong (seen ++ a ∷ []) updates k)
          → (o : Option Finding) → update_wrong op due seen p a ≡ o → or_else o (update_finding op due (seen ++ a ∷ []) (p + 1) updates) ≡ Some f
          → (k : ℕ) × (f.place ≡ places.Update (k + p)) × IsFirstWrong seen (a ∷ updates) k
      step others None none found =
          let (k, at, first) = others found in
          (suc k, at ∙ ap places.Update (omega arith), behind seen a updates k (next-from_right seen a (update_right op due seen p a none)) first)
      step others (Some g) wrong found = (
        zero,
        found_here places.Update p g f (wrong_place p a (is_stray due seen a) (find (misses op seen a) due) g wrong) found,
        record {
          before = λ j below. absurd (omega arith);
          here = λ next. never_found (update_wrong op due seen p a) g
              (none_for_right op due seen p a (right-from_next seen a (subst (λ xs. IsNextUpdate op due xs a) (append-nil seen) next))) wrong;
        },
      )
