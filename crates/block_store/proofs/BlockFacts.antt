-- What a seat learns of blocks, and what changes in the words of their turns, leaves the rule of the steps.
use Rattle.std.proofs.Common.{◌≡◌, ◌≢◌, ℕ, List, [], get_or, set, refl, sym, ◌∙◌, subst, arith}
use Rattle.std.proofs.Math.ListN.{length-set}
use Rattle.std.proofs.lemmas.List.{get_or-set_other}
use mathlib.Core.Option.{some}
use lib.ListN.{get_elem?}
use Rattle.block_store.specs.declared.key.BoardKey.{BoardKey}
use Rattle.block_store.specs.declared.outcome.StepOutcome.{StepOutcome}
use Rattle.block_store.specs.declared.view.Fact.{Fact}
use Rattle.block_store.specs.declared.view.Fact.TheVariants.{Ended, Took, Away, Gave, Put}
use Rattle.block_store.specs.declared.view.View.{View}
use Rattle.block_store.specs.Holding.{turn_word}
use Rattle.block_store.specs.Rule.{AreStamps, IsView, IsKept}
use Rattle.block_store.specs.Tallies.{claim_of, begin_of, end_of, good_of, bad_of, mark_of, notice_of, last_of, stamp_of}
use Rattle.block_store.proofs.Kept.{words-same}
use Rattle.block_store.proofs.Learning.{after, still, marked-still, claims-still, stamps-still, drawn-still, outcomes-still, kept-learned}

-- a fact that says nothing of steps
pub record IsOfBlock (e : Fact) : Type 0 where
  pub claims : (t : ℕ) → claim_of t e ≡ 0
  pub begins : (t : ℕ) → begin_of t e ≡ 0
  pub ends : (t : ℕ) → end_of t e ≡ 0
  pub goods : (t : ℕ) → good_of t e ≡ 0
  pub bads : (t : ℕ) → bad_of t e ≡ 0
  pub marks : (s t : ℕ) → mark_of s t e ≡ 0
  pub notices : (s t : ℕ) → notice_of s t e ≡ 0
  pub lasts : (t : ℕ) → last_of t e ≡ 0
  pub stamps : (n : ℕ) → stamp_of n e ≡ 0
  pub no_end : (t n : ℕ) (o : StepOutcome) → e ≢ Ended t n o

pub took-block : (x : ℕ) → IsOfBlock (Took x)
took-block x = record { claims = λ t. refl; begins = λ t. refl; ends = λ t. refl; goods = λ t. refl; bads = λ t. refl; marks = λ s t. refl; notices = λ s t. refl; lasts = λ t. refl; stamps = λ n. refl; no_end = λ t n o e. cc }

pub away-block : (x : ℕ) → IsOfBlock (Away x)
away-block x = record { claims = λ t. refl; begins = λ t. refl; ends = λ t. refl; goods = λ t. refl; bads = λ t. refl; marks = λ s t. refl; notices = λ s t. refl; lasts = λ t. refl; stamps = λ n. refl; no_end = λ t n o e. cc }

pub gave-block : (x : ℕ) → IsOfBlock (Gave x)
gave-block x = record { claims = λ t. refl; begins = λ t. refl; ends = λ t. refl; goods = λ t. refl; bads = λ t. refl; marks = λ s t. refl; notices = λ s t. refl; lasts = λ t. refl; stamps = λ n. refl; no_end = λ t n o e. cc }

pub put-block : (u x : ℕ) → IsOfBlock (Put u x)
put-block u x = record { claims = λ t. refl; begins = λ t. refl; ends = λ t. refl; goods = λ t. refl; bads = λ t. refl; marks = λ s t. refl; notices = λ s t. refl; lasts = λ t. refl; stamps = λ n. refl; no_end = λ t n o e. cc }

module _ (key : BoardKey) (words : List ℕ) (views : List View) (kept : IsKept key words views) (id : ℕ) (v : View) (at : get_elem? views id ≡ some v) (alive : v.workers ≢ []) where
  pub kept-block : (e : Fact) → IsOfBlock e → IsKept key words (after views id v e)
  kept-block e of = let own = kept.each_view id v at in kept-learned key words words views kept id v at e
      (words-same key words views (after views id v e) (λ t. still views id v e at (claim_of t) (of.claims t)) (λ s t. still views id v e at (notice_of s t) (of.notices s t))
      (λ s t. still views id v e at (mark_of s t) (of.marks s t)) (λ t. drawn-still views id v e at key t (of.begins t) (of.ends t)) kept.words_are)
      (claims-still views id v e at key of.claims of.notices of.marks of.lasts kept.claims_are)
      (stamps-still views id v e at key (get_or words 0 0) (get_or words 0 0) refl of.stamps of.begins of.ends kept.stamps_are)
      (omega arith)
      (record {
        begun = λ t. omega (arith, own.begun t, of.begins t);
        ended = λ t. omega (arith, own.ended t, of.ends t);
        marked = λ s t. omega (arith, own.marked s t, of.marks s t);
        noticed = λ s t. omega (arith, own.noticed s t, of.notices s t);
        outcomes = outcomes-still views id v e key of.no_end own.outcomes;
        loaded = own.loaded;
        spent = λ z. absurd (alive z);
        knows = own.knows;
      })
      (λ t. omega (arith, marked-still views id v e at key t (λ s. of.marks s t)))

-- a turn word is none of the clock's and the steps' words
pub kept-turned : (key : BoardKey) (words : List ℕ) (views : List View) (x n : ℕ) → IsKept key words views → IsKept key (set words (turn_word key x) n) views
kept-turned key words views x n kept =
    let clock : get_or (set words (turn_word key x) n) 0 0 ≡ get_or words 0 0 = get_or-set_other words (turn_word key x) 0 n 0 (λ h. omega arith) in
    record {
      words_are = record {
        long = omega (arith, length-set words (turn_word key x) n, kept.words_are.long);
        word = λ t step. omega (arith, kept.words_are.word t step, get_or-set_other words (turn_word key x) t n 0 (λ h. omega (arith, step)));
        clock = clock ∙ kept.words_are.clock;
      };
      claims_are = kept.claims_are;
      stamps_are = subst (λ c. AreStamps key c views) (sym clock) kept.stamps_are;
      each_view = λ j v at. subst (λ c. IsView key c v) (sym clock) (kept.each_view j v at);
      found_marks = kept.found_marks;
      workers_are = kept.workers_are;
      small = kept.small;
    }
