-- Facts that are no events of a kind, in front of others: what is weighed, stamped or failed stays.
use Rattle.std.proofs.Common.{◌≡◌, ℕ, inl, inr, List, [], ◌∷◌, ◌++◌, refl, subst, arith}
use Rattle.std.specs.Prelude.{All}
use Rattle.std.proofs.lemmas.List.Elements.{All-head, All-tail}
use Rattle.schedule_core.specs.declared.event.Event.{Event}
use Rattle.schedule_core.specs.declared.event.Event.TheVariants.{Start, Finish}
use Rattle.block_store.specs.declared.outcome.StepOutcome.{StepOutcome}
use Rattle.block_store.specs.declared.view.Fact.{Fact}
use Rattle.block_store.specs.declared.view.Fact.TheVariants.{Began, Ended}
use Rattle.block_store.specs.Stamps.{HasStamp}
use Rattle.block_store.specs.Tallies.{In, weigh}

-- facts that weigh nothing add nothing
pub more-weigh : (h : Fact → ℕ) (P : Fact → Type 0) → ((f : Fact) → P f → h f ≡ 0) → (more facts : List Fact) → All P more
    → weigh h (more ++ facts) ≡ weigh h facts
more-weigh h P none [] facts all = refl
more-weigh h P none (f ∷ more) facts all = omega (arith, none f (All-head P f more all), more-weigh h P none more facts (All-tail P f more all))

-- ---- no beginning and no end of a step

abbrev pub IsNoEvent : Fact → Type 0
IsNoEvent (Began t n) = ⊥
IsNoEvent (Ended t n o) = ⊥
IsNoEvent _ = Unit {0}

-- a fact stands among facts with quiet ones in front exactly where it does without
pub quiet-in : (f : Fact) → (IsNoEvent f → ⊥) → (P : Fact → Type 0) → ((g : Fact) → P g → IsNoEvent g) → (more facts : List Fact) → All P more
    → In f (more ++ facts) → In f facts
quiet-in f event P quiet [] facts all i = i
quiet-in f event P quiet (g ∷ more) facts all (inl e) = absurd (event (subst IsNoEvent e (quiet g (All-head P g more all))))
quiet-in f event P quiet (g ∷ more) facts all (inr i) = quiet-in f event P quiet more facts (All-tail P g more all) i

pub later-in : (f : Fact) (more facts : List Fact) → In f facts → In f (more ++ facts)
later-in f [] facts i = i
later-in f (g ∷ more) facts i = inr (later-in f more facts i)

-- the two lists of facts have the same events, with the same stamps and outcomes
pub record HaveSameEvents (before after : List Fact) : Type 0 where
  pub began : (t n : ℕ) → In (Began t n) after → In (Began t n) before
  pub ended : (t n : ℕ) (o : StepOutcome) → In (Ended t n o) after → In (Ended t n o) before
  pub began_stay : (t n : ℕ) → In (Began t n) before → In (Began t n) after
  pub ended_stay : (t n : ℕ) (o : StepOutcome) → In (Ended t n o) before → In (Ended t n o) after

pub quiet-events : (P : Fact → Type 0) → ((g : Fact) → P g → IsNoEvent g) → (more facts : List Fact) → All P more → HaveSameEvents facts (more ++ facts)
quiet-events P quiet more facts all = record {
  began = λ t n. quiet-in (Began t n) (λ e. e) P quiet more facts all;
  ended = λ t n o. quiet-in (Ended t n o) (λ e. e) P quiet more facts all;
  began_stay = λ t n. later-in (Began t n) more facts;
  ended_stay = λ t n o. later-in (Ended t n o) more facts;
}

-- one quiet fact
pub quiet-fact : (f : Fact) (facts : List Fact) → IsNoEvent f → HaveSameEvents facts (f ∷ facts)
quiet-fact f facts quiet = record {
  began = λ t n i. elim i [ inl e ↦ absurd (subst IsNoEvent e quiet) | inr j ↦ j ];
  ended = λ t n o i. elim i [ inl e ↦ absurd (subst IsNoEvent e quiet) | inr j ↦ j ];
  began_stay = λ t n i. inr i;
  ended_stay = λ t n o i. inr i;
}

pub same-events : (facts : List Fact) → HaveSameEvents facts facts
same-events facts = record { began = λ t n i. i; ended = λ t n o i. i; began_stay = λ t n i. i; ended_stay = λ t n o i. i }

pub events-twice : (a b c : List Fact) → HaveSameEvents a b → HaveSameEvents b c → HaveSameEvents a c
events-twice a b c first second = record {
  began = λ t n i. first.began t n (second.began t n i);
  ended = λ t n o i. first.ended t n o (second.ended t n o i);
  began_stay = λ t n i. second.began_stay t n (first.began_stay t n i);
  ended_stay = λ t n o i. second.ended_stay t n o (first.ended_stay t n o i);
}

-- what has a stamp has it before and after
pub stamp-before : (before after : List Fact) → HaveSameEvents before after → (n : ℕ) (e : Event) → HasStamp after n e → HasStamp before n e
stamp-before before after same n (Start t) i = same.began t n i
stamp-before before after same n (Finish t) i = (i.0, same.ended t n i.0 i.1)

pub stamp-after : (before after : List Fact) → HaveSameEvents before after → (n : ℕ) (e : Event) → HasStamp before n e → HasStamp after n e
stamp-after before after same n (Start t) i = same.began_stay t n i
stamp-after before after same n (Finish t) i = (i.0, same.ended_stay t n i.0 i.1)
