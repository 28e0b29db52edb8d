-- Where a worksheet is wrong at a place, it is right at all places before it.
use Rattle.std.proofs.Common.{◌≡◌, inl, inr, ℕ, zero, suc, ◌<◌, ◌≤◌, List, [], ◌∷◌, get_or, true, Option, Some, None, refl, sym, ap, ◌∙◌, subst, arith}
use Rattle.std.proofs.Math.Nat.{eq-or-lt_of_le}
use Rattle.std.specs.Prelude.{◌&&◌, ◌==◌, nat_lt, ⊤}
use Rattle.std.proofs.lemmas.Bool.{or_cases, and_parts, ltb-true, eqb-true}
use Rattle.operation_spec.specs.declared.operation.Operation.{Operation}
use Rattle.worksheet.specs.declared.sheet.Worksheet.{Worksheet}
use Rattle.worksheet.specs.declared.verdict.WsPlace.{WsPlace}
use Rattle.worksheet.specs.declared.verdict.WsPlace.TheVariants.{Order, F1, F2, F3, F4, Guard, Start, Take, Before, Update, Give, After}
use Rattle.worksheet_check.specs.declared.findings.Finding.{Finding}
use Rattle.worksheet_check.specs.Findings.{first_finding}
use Rattle.worksheet_check.specs.Places.{place_rank, line_number, is_before, IsRightAt}
use Rattle.worksheet_check.proofs.FirstLines.{never_found}

-- ---- a place by its rank and number

abbrev pub place_of : ℕ → ℕ → WsPlace
place_of r p = get_or (Order ∷ F1 ∷ F2 ∷ F3 ∷ F4 ∷ Guard ∷ Start ∷ Take ∷ Before p ∷ Update p ∷ Give ∷ After p ∷ []) r Order

place_is : (e : WsPlace) → place_of (place_rank e) (line_number e) ≡ e
place_is Order = refl
place_is F1 = refl
place_is F2 = refl
place_is F3 = refl
place_is F4 = refl
place_is Guard = refl
place_is Start = refl
place_is Take = refl
place_is (Before p) = refl
place_is (Update p) = refl
place_is Give = refl
place_is (After p) = refl

module _ (op : Operation) (w : Worksheet) where
  -- what is right at a rank and a number is right at the place
  right_there : (e : WsPlace) (r : ℕ) → place_rank e ≡ r → IsRightAt op w (place_of r (line_number e)) → IsRightAt op w e
  right_there e r rank right = subst (IsRightAt op w) (place_is e) (subst (λ q. IsRightAt op w (place_of q (line_number e))) (sym rank) right)

  -- what one finding says of the places of a rank
  pub record Stage (r : ℕ) (found : Option Finding) : Type 0 where
    pub placed : (f : Finding) → found ≡ Some f → place_rank f.place ≡ r
    pub clear : found ≡ None → (n : ℕ) → IsRightAt op w (place_of r n)
    pub before : (f : Finding) → found ≡ Some f → (n : ℕ) → n < line_number f.place → IsRightAt op w (place_of r n)
    pub wrong : (f : Finding) → found ≡ Some f → ¬ IsRightAt op w f.place

  -- of findings at the ranks from r on
  abbrev pub AreStages : ℕ → List (Option Finding) → Type 0
  AreStages r [] = ⊤
  AreStages r (found ∷ others) = Stage r found × AreStages (suc r) others

  -- a finding at the first place that is wrong, of those at the ranks from r on
  pub record IsFirst (r : ℕ) (f : Finding) : Type 0 where
    pub low : r ≤ place_rank f.place
    pub earlier : (e : WsPlace) → r ≤ place_rank e → is_before e f.place ≡ true → IsRightAt op w e
    pub wrong : ¬ IsRightAt op w f.place

  -- a place before the one where this stage finds something
  before_found : (r : ℕ) (found : Option Finding) (f : Finding) → Stage r found → found ≡ Some f → (e : WsPlace) → r ≤ place_rank e → is_before e f.place ≡ true → IsRightAt op w e
  before_found r found f stage h e low before =
      let at : place_rank f.place ≡ r = stage.placed f h in
      elim (or_cases (nat_lt (place_rank e) (place_rank f.place)) (place_rank e == place_rank f.place && nat_lt (line_number e) (line_number f.place)) before) [
        | inl lower ↦ (let below : place_rank e < place_rank f.place = ltb-true (place_rank e) (place_rank f.place) lower in absurd (omega arith))
        | inr same ↦ (let both = and_parts (place_rank e == place_rank f.place) (nat_lt (line_number e) (line_number f.place)) same in
            right_there e r (eqb-true (place_rank e) (place_rank f.place) both.0 ∙ at)
            (stage.before f h (line_number e) (ltb-true (line_number e) (line_number f.place) both.1)))
      ]

  pub first : (r : ℕ) (findings : List (Option Finding)) → AreStages r findings → (f : Finding) → first_finding findings ≡ Some f → IsFirst r f
  first r [] stages f h = cc
  first r (None ∷ others) stages f h = behind (first (suc r) others stages.1 f h)
    where
      behind : IsFirst (suc r) f → IsFirst r f
      behind next = record {
        low = (let above : suc r ≤ place_rank f.place = next.low in omega arith);
        earlier = λ e low before. elim (eq-or-lt_of_le low) [
          | inl same ↦ right_there e r (sym same) (stages.0.clear refl (line_number e))
          | inr above ↦ next.earlier e (omega arith) before
        ];
        wrong = next.wrong;
      }
  first r (Some g ∷ others) stages f h = record {
    low = (let at : place_rank f.place ≡ r = stages.0.placed f h in omega arith);
    earlier = before_found r (Some g) f stages.0 h;
    wrong = stages.0.wrong f h;
  }

  -- ---- the places of one rank

  -- a place without a number, which is right where nothing is found, and back
  pub alone : (place : WsPlace) (found : Option Finding) → line_number place ≡ 0 → ((n : ℕ) → place_of (place_rank place) n ≡ place)
      → (found ≡ None → IsRightAt op w place) → (IsRightAt op w place → found ≡ None) → ((f : Finding) → found ≡ Some f → f.place ≡ place)
      → Stage (place_rank place) found
  alone place found number only right back at = record {
    placed = λ f h. ap place_rank (at f h);
    clear = λ none n. subst (IsRightAt op w) (sym (only n)) (right none);
    before = λ f h n below. (let zeroth : line_number f.place ≡ 0 = ap line_number (at f h) ∙ number in absurd (omega arith));
    wrong = λ f h there. never_found found f (back (subst (IsRightAt op w) (at f h) there)) h;
  }

  -- places with numbers from 1 on
  pub numbered : (place : ℕ → WsPlace) (r : ℕ) (found : Option Finding) → ((n : ℕ) → place_rank (place n) ≡ r) → ((n : ℕ) → line_number (place n) ≡ n) → IsRightAt op w (place_of r zero)
      → ((n : ℕ) → place_of r n ≡ place n)
      → (found ≡ None → (k : ℕ) → IsRightAt op w (place (suc k)))
      → ((f : Finding) → found ≡ Some f → (k : ℕ) × (f.place ≡ place (suc k)) × ((j : ℕ) → j < k → IsRightAt op w (place (suc j))) × ¬ IsRightAt op w (place (suc k)))
      → Stage r found
  numbered place r found rank number none_zeroth at clear first_one = record {
    placed = λ f h. (let (k, here, earlier, wrong) = first_one f h in ap place_rank here ∙ rank (suc k));
    clear = all_clear;
    before = λ f h n below. (let (k, here, earlier, wrong) = first_one f h in up_to k earlier n (let same : line_number f.place ≡ suc k = ap line_number here ∙ number (suc k) in omega arith));
    wrong = λ f h there. (let (k, here, earlier, wrong) = first_one f h in wrong (subst (IsRightAt op w) here there));
  }
    where
      all_clear : found ≡ None → (n : ℕ) → IsRightAt op w (place_of r n)
      all_clear none zero = none_zeroth
      all_clear none (suc k) = subst (IsRightAt op w) (sym (at (suc k))) (clear none k)

      up_to : (k : ℕ) → ((j : ℕ) → j < k → IsRightAt op w (place (suc j))) → (n : ℕ) → n < suc k → IsRightAt op w (place_of r n)
      up_to k earlier zero below = none_zeroth
      up_to k earlier (suc j) below = subst (IsRightAt op w) (sym (at (suc j))) (earlier j (omega arith))
