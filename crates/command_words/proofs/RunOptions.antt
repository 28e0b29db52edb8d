-- What may stand behind the sizes of a run.
use Rattle.std.proofs.Common.{◌≡◌, ◌≢◌, inl, inr, ◌⊎◌, ℕ, Bool, true, false, List, [], ◌∷◌, ◌++◌, refl, sym, ap, subst}
use Rattle.std.specs.Prelude.{codes}
use Rattle.issue_list.specs.declared.choice.Choice.{Choice}
use Rattle.issue_list.specs.declared.choice.Choice.TheVariants.{First, Each}
use Rattle.command_words.specs.Words.{AreVariants, IsChoice, choice_words, trace_words, variants_word}
use Rattle.command_words.proofs.VariantWords.{VariantsOrNone, same_variants, variants_or_none}
use Rattle.command_words.proofs.WordFronts.{WordOrNone, same_or_other, word_or_none}

-- ---- the trace

abbrev TraceOrNone : List (List ℕ) → Type 0
TraceOrNone words = ((trace : Bool) × (words ≡ trace_words trace)) ⊎ ((trace : Bool) → words ≢ trace_words trace)

no_trace : (first : List ℕ) → first ≢ codes "--trace" → (trace : Bool) → first ∷ [] ≢ trace_words trace
no_trace first other true named = other (cc)
no_trace first other false named = absurd cc

-- two words or more are more than those of a trace
more_than_trace : (first second : List ℕ) (rest : List (List ℕ)) (trace : Bool) → first ∷ second ∷ rest ≢ trace_words trace
more_than_trace first second rest true named = absurd cc
more_than_trace first second rest false named = absurd cc

trace_or_none : (words : List (List ℕ)) → TraceOrNone words
trace_or_none [] = inl (false, refl)
trace_or_none (first ∷ second ∷ rest) = inr (more_than_trace first second rest)
trace_or_none (first ∷ []) = go (same_or_other first (codes "--trace"))
  where
    go : (first ≡ codes "--trace") ⊎ (first ≢ codes "--trace") → TraceOrNone (first ∷ [])
    go (inl same) = inl (true, ap (λ (w : List ℕ). w ∷ []) same)
    go (inr other) = inr (no_trace first other)

same_trace : (a b : Bool) → trace_words a ≡ trace_words b → a ≡ b
same_trace true true e = refl
same_trace false false e = refl
same_trace true false e = absurd cc
same_trace false true e = absurd cc

-- ---- the variants and the trace

abbrev pub NoOptions : List (List ℕ) → Type 0
NoOptions words = (choice : Choice) (trace : Bool) → IsChoice choice → words ≢ choice_words choice ++ trace_words trace

abbrev pub OptionsOrNone : List (List ℕ) → Type 0
OptionsOrNone words =
    ((choice : Choice) × (trace : Bool) × IsChoice choice × (words ≡ choice_words choice ++ trace_words trace)) ⊎ NoOptions words

-- words that don't begin by variants
pub no_variants : (words : List (List ℕ)) → ((rest : List (List ℕ)) → words ≢ codes "--variants" ∷ rest)
    → ((trace : Bool) → words ≢ trace_words trace) → NoOptions words
no_variants words none no_trace First trace are named = no_trace trace named
no_variants words none no_trace (Each numbers) trace are named = none (variants_word numbers ∷ trace_words trace) named

-- variants without numbers
no_list : NoOptions (codes "--variants" ∷ [])
no_list First true are named = absurd cc
no_list First false are named = absurd cc
no_list (Each numbers) trace are named = absurd cc

-- behind them is no trace, or they are no numbers
bad_behind : (list : List ℕ) (rest : List (List ℕ)) → ((trace : Bool) → rest ≢ trace_words trace) → NoOptions (codes "--variants" ∷ list ∷ rest)
bad_behind list rest none First trace are named = more_than_trace (codes "--variants") list rest trace named
bad_behind list rest none (Each numbers) trace are named = none trace (cc)

bad_list : (list : List ℕ) (rest : List (List ℕ)) → ((numbers : List ℕ) → AreVariants numbers → list ≢ variants_word numbers)
    → NoOptions (codes "--variants" ∷ list ∷ rest)
bad_list list rest none First trace are named = more_than_trace (codes "--variants") list rest trace named
bad_list list rest none (Each numbers) trace are named = none numbers are (cc)

varied_or_none : (rest : List (List ℕ)) → OptionsOrNone (codes "--variants" ∷ rest)
varied_or_none [] = inr no_list
varied_or_none (list ∷ rest) = go (variants_or_none list) (trace_or_none rest)
  where
    go : VariantsOrNone list → TraceOrNone rest → OptionsOrNone (codes "--variants" ∷ list ∷ rest)
    go (inr none) trace = inr (bad_list list rest none)
    go (inl numbers) (inr none) = inr (bad_behind list rest none)
    go (inl (numbers, are, is)) (inl (trace, behind)) = inl (Each numbers, trace, are, λ i. codes "--variants" ∷ is i ∷ behind i)

pub options_or_none : (words : List (List ℕ)) → OptionsOrNone words
options_or_none words = go (word_or_none (codes "--variants") words) (trace_or_none words)
  where
    go : WordOrNone (codes "--variants") words → TraceOrNone words → OptionsOrNone words
    go (inl (rest, is)) trace = subst (λ (l : List (List ℕ)). OptionsOrNone l) (sym is) (varied_or_none rest)
    go (inr none) (inr no_trace) = inr (no_variants words none no_trace)
    go (inr none) (inl (trace, is)) = inl (First, trace, tt, is)

-- ---- the same words say the same

pub same_options : (a b : Choice) (t u : Bool) → IsChoice a → IsChoice b
    → choice_words a ++ trace_words t ≡ choice_words b ++ trace_words u → (a ≡ b) × (t ≡ u)
same_options First First t u are also e = (refl, same_trace t u e)
same_options First (Each ys) t u are also e = absurd (more_than_trace (codes "--variants") (variants_word ys) (trace_words u) t (sym e))
same_options (Each xs) First t u are also e = absurd (more_than_trace (codes "--variants") (variants_word xs) (trace_words t) u e)
same_options (Each xs) (Each ys) t u are also e = (ap (λ (l : List ℕ). Each l) (same_variants xs ys are also (cc)), same_trace t u (cc))
