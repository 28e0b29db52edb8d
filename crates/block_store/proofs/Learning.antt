-- The views after one seat has learned a fact, and what of the rule then holds without more ado.
use Rattle.std.proofs.Common.{◌≡◌, ◌≢◌, ℕ, ◌+◌, ◌≤◌, inl, inr, List, ◌∷◌, get_or, set, refl, arith}
use mathlib.Core.Option.{some}
use lib.ListN.{get_elem?}
use Rattle.residue_sums.proofs.Sums.{sum_below-same}
use Rattle.block_store.specs.declared.key.BoardKey.{BoardKey}
use Rattle.block_store.specs.declared.outcome.StepOutcome.{StepOutcome}
use Rattle.block_store.specs.declared.view.Fact.{Fact}
use Rattle.block_store.specs.declared.view.Fact.TheVariants.{Claimed, Refused, Began, Ended, Marked, Noticed, Took, Away, Gave, Put}
use Rattle.block_store.specs.declared.view.View.{View}
use Rattle.block_store.specs.Keys.{step_count, IsOutcome}
use Rattle.block_store.specs.Tallies.{In, amount, claim_of, begin_of, end_of, mark_of, notice_of, last_of, stamp_of, start_of, finish_of, begins, ends, noticed_into, marked_into}
use Rattle.block_store.specs.Rule.{AreWords, AreClaims, AreStamps, IsView, IsKept}
use Rattle.block_store.specs.Views.{learned}
use Rattle.block_store.proofs.Sums.{when_same-zero}
use Rattle.block_store.proofs.Tallies.{amount-more, amount-still}
use Rattle.block_store.proofs.Kept.{each_after, workers_after, found_marks-after, claims-same, stamps-same}

-- ---- what is no start or finish of t has no such stamp of t

pub start-zero : (t : ℕ) (f : Fact) → begin_of t f ≡ 0 → start_of t f ≡ 0
start-zero t (Began u n) z = when_same-zero u t n z
start-zero t (Claimed u) z = refl
start-zero t (Refused u n) z = refl
start-zero t (Ended u m o) z = refl
start-zero t (Marked from to) z = refl
start-zero t (Noticed from to left) z = refl
start-zero t (Took x) z = refl
start-zero t (Away x) z = refl
start-zero t (Gave x) z = refl
start-zero t (Put u x) z = refl

pub finish-zero : (t : ℕ) (f : Fact) → end_of t f ≡ 0 → finish_of t f ≡ 0
finish-zero t (Ended u n o) z = when_same-zero u t n z
finish-zero t (Claimed u) z = refl
finish-zero t (Refused u n) z = refl
finish-zero t (Began u m) z = refl
finish-zero t (Marked from to) z = refl
finish-zero t (Noticed from to left) z = refl
finish-zero t (Took x) z = refl
finish-zero t (Away x) z = refl
finish-zero t (Gave x) z = refl
finish-zero t (Put u x) z = refl

-- ---- one more fact

module _ (views : List View) (id : ℕ) (v : View) (e : Fact) where
  -- the views after the seat learned it
  abbrev pub after : List View
  after = set views id (learned e v)

  module _ (at : get_elem? views id ≡ some v) where
    pub more : (h : Fact → ℕ) → amount h after ≡ amount h views + h e
    more h = amount-more h e views id v (learned e v) at refl

    pub still : (h : Fact → ℕ) → h e ≡ 0 → amount h after ≡ amount h views
    still h z = amount-still h e views id v (learned e v) at refl z

    pub into-still : (key : BoardKey) (t : ℕ) → ((s : ℕ) → notice_of s t e ≡ 0) → noticed_into after key t ≡ noticed_into views key t
    into-still key t none = sum_below-same _ _ (step_count key + 1) (λ s q. still (notice_of s t) (none s))

    pub marked-still : (key : BoardKey) (t : ℕ) → ((s : ℕ) → mark_of s t e ≡ 0) → marked_into after key t ≡ marked_into views key t
    marked-still key t none = sum_below-same _ _ (step_count key + 1) (λ s q. still (mark_of s t) (none s))

    -- a fact that is no claim, mark or notice leaves the claims and pairs; one that is no start or finish leaves the stamps
    pub claims-still : (key : BoardKey) → ((t : ℕ) → claim_of t e ≡ 0) → ((s t : ℕ) → notice_of s t e ≡ 0) → ((s t : ℕ) → mark_of s t e ≡ 0)
        → ((t : ℕ) → last_of t e ≡ 0) → AreClaims key views → AreClaims key after
    claims-still key c n m l are = claims-same key views after (λ t. still (claim_of t) (c t)) (λ s t. still (notice_of s t) (n s t))
        (λ s t. still (mark_of s t) (m s t)) (λ t. still (last_of t) (l t)) are

    pub stamps-still : (key : BoardKey) (clock clock' : ℕ) → clock' ≡ clock → ((n : ℕ) → stamp_of n e ≡ 0) → ((t : ℕ) → begin_of t e ≡ 0)
        → ((t : ℕ) → end_of t e ≡ 0) → AreStamps key clock views → AreStamps key clock' after
    stamps-still key clock clock' same n b f are = stamps-same key clock clock' views after same (λ m. still (stamp_of m) (n m))
        (λ t. still (begin_of t) (b t)) (λ t. still (end_of t) (f t)) (λ t. still (start_of t) (start-zero t e (b t)))
        (λ t. still (finish_of t) (finish-zero t e (f t))) are

    pub drawn-still : (key : BoardKey) (t : ℕ) → begin_of t e ≡ 0 → end_of t e ≡ 0 → begins after t + ends after t ≡ begins views t + ends views t
    drawn-still key t b f = omega (arith, still (begin_of t) b, still (end_of t) f)

  -- a fact that is no finish leaves the outcomes
  pub outcomes-still : (key : BoardKey) → ((t n : ℕ) (o : StepOutcome) → e ≢ Ended t n o)
      → ((t n : ℕ) (o : StepOutcome) → In (Ended t n o) v.facts → IsOutcome key t o) → (t n : ℕ) (o : StepOutcome) → In (Ended t n o) (e ∷ v.facts) → IsOutcome key t o
  outcomes-still key other are t n o (inl is) = absurd (other t n o is)
  outcomes-still key other are t n o (inr h) = are t n o h

-- the rule after a seat learned a fact, from what the fact changes
pub kept-learned : (key : BoardKey) (words words' : List ℕ) (views : List View) → (kept : IsKept key words views) → (id : ℕ) (v : View) → (at : get_elem? views id ≡ some v) → (e : Fact)
    → AreWords key words' (after views id v e) → AreClaims key (after views id v e) → AreStamps key (get_or words' 0 0) (after views id v e)
    → get_or words 0 0 ≤ get_or words' 0 0 → IsView key (get_or words' 0 0) (learned e v)
    → ((t : ℕ) → marked_into views key t ≤ marked_into (after views id v e) key t) → IsKept key words' (after views id v e)
kept-learned key words words' views kept id v at e w c s le own grow = record {
  words_are = w;
  claims_are = c;
  stamps_are = s;
  each_view = each_after key words views kept id v at (get_or words' 0 0) le (learned e v) own;
  found_marks = found_marks-after key words views kept id v at (learned e v) grow (λ t found. omega (arith, grow t, kept.found_marks id v at t found));
  workers_are = workers_after key words views kept id v at (learned e v) refl;
  small = kept.small;
}
