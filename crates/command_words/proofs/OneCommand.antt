-- Words name at most one command.
use Rattle.std.proofs.Common.{◌≡◌, ℕ, ◌<◌, ◌^◌, List, [], ◌∷◌, ◌++◌, refl, sym, ap, ◌∙◌, arith}
use Rattle.std.specs.Prelude.{codes}
use Rattle.std.specs.Fmt.{decimal}
use Rattle.std.proofs.lemmas.Fmt.{decimal_injective}
use Rattle.variant_report.specs.declared.self_words.SelfWords.{SelfWords}
use Rattle.command_words.specs.declared.command.Command.{Command}
use Rattle.command_words.specs.declared.command.Command.TheVariants.{Derive, Pme, Worksheet, Check, Verify, Make, Run, SelfRun}
use Rattle.command_words.specs.declared.command.RunWords.{RunWords}
use Rattle.command_words.specs.Words.{AreMakeNumbers, AreRunWords, AreSelfWords, AreSheetWords, AreSizes, AreWordsOf, choice_words, make_words, size_words, trace_words, words_of}
use Rattle.command_words.proofs.RunOptions.{same_options}
use Rattle.command_words.proofs.WordFronts.{other_name}

-- ---- words with the same numbers in front have the same words behind them

same_number : (a b : ℕ) → a < 2 ^ 32 → b < 2 ^ 32 → decimal a ≡ decimal b → a ≡ b
same_number a b a_below b_below = decimal_injective a b (omega arith) (omega arith)

same_make_numbers : (n m seed n' m' seed' : ℕ) (xs ys : List (List ℕ)) → AreMakeNumbers n m seed → AreMakeNumbers n' m' seed'
    → make_words n m seed ++ xs ≡ make_words n' m' seed' ++ ys → (n ≡ n') × (m ≡ m') × (seed ≡ seed') × (xs ≡ ys)
same_make_numbers n m seed n' m' seed' xs ys are also e = (
  same_number n n' (omega (arith, are.n_high)) (omega (arith, also.n_high)) (cc),
  same_number m m' are.m_high also.m_high (cc),
  same_number seed seed' are.seed_high also.seed_high (cc),
  cc,
)

same_sizes : (b k b' k' : ℕ) (xs ys : List (List ℕ)) → AreSizes b k → AreSizes b' k'
    → size_words b k ++ xs ≡ size_words b' k' ++ ys → (b ≡ b') × (k ≡ k') × (xs ≡ ys)
same_sizes b k b' k' xs ys are also e =
    (same_number b b' (omega (arith, are.block_high)) (omega (arith, also.block_high)) (cc), same_number k k' (omega (arith, are.few_workers)) (omega (arith, also.few_workers)) (cc), cc)

-- ---- runs

same_run_words : (a b : RunWords) → AreRunWords a → AreRunWords b
    → size_words a.block a.workers ++ (choice_words a.choice ++ trace_words a.trace) ≡ size_words b.block b.workers ++ (choice_words b.choice ++ trace_words b.trace)
    → a ≡ b
same_run_words a b are also e =
    let sizes = same_sizes a.block a.workers b.block b.workers (choice_words a.choice ++ trace_words a.trace) (choice_words b.choice ++ trace_words b.trace) are.sizes also.sizes e in
    let options = same_options a.choice b.choice a.trace b.trace are.choice also.choice sizes.2 in
    λ i. record { block = sizes.0 i; workers = sizes.1 i; choice = options.0 i; trace = options.1 i }

same_self_words : (a b : SelfWords) → AreSelfWords a → AreSelfWords b
    → make_words a.n a.m a.seed ++ size_words a.block a.workers ≡ make_words b.n b.m b.seed ++ size_words b.block b.workers → a ≡ b
same_self_words a b are also e =
    let numbers = same_make_numbers a.n a.m a.seed b.n b.m b.seed (size_words a.block a.workers) (size_words b.block b.workers) are.numbers also.numbers e in
    let sizes = same_sizes a.block a.workers b.block b.workers [] [] are.sizes also.sizes numbers.3 in
    λ i. record { n = numbers.0 i; m = numbers.1 i; seed = numbers.2 i; block = sizes.0 i; workers = sizes.1 i }

-- ---- names

same_names : (op op' : List ℕ) (dims dims' : List (List ℕ)) → codes "pme" ∷ op ∷ dims ≡ codes "pme" ∷ op' ∷ dims' → (op ≡ op') × (dims ≡ dims')
same_names op op' dims dims' e = (cc, cc)

same_sheet : (op op' : List ℕ) (n n' : ℕ) → AreSheetWords op n → AreSheetWords op' n' → codes "worksheet" ∷ op ∷ decimal n ∷ [] ≡ codes "worksheet" ∷ op' ∷ decimal n' ∷ []
    → (op ≡ op') × (n ≡ n')
same_sheet op op' n n' are also e = (cc, same_number n n' are.number_high also.number_high (cc))

-- ---- commands

-- commands in range that are spelled the same
same_spelling : (a b : Command) → AreWordsOf (words_of a) b → AreWordsOf (words_of a) a → a ≡ b
same_spelling Derive Derive named self = refl
same_spelling Derive _ named self = absurd (other_name named.1 refl)
same_spelling (Pme op dims) (Pme op' dims') named self = let same = same_names op op' dims dims' named.1 in λ i. Pme (same.0 i) (same.1 i)
same_spelling (Pme op dims) _ named self = absurd (other_name named.1 refl)
same_spelling (Worksheet op n) (Worksheet op' n') named self = let same = same_sheet op op' n n' self.0 named.0 named.1 in λ i. Worksheet (same.0 i) (same.1 i)
same_spelling (Worksheet op n) _ named self = absurd (other_name named.1 refl)
same_spelling Check Check named self = refl
same_spelling Check _ named self = absurd (other_name named.1 refl)
same_spelling Verify Verify named self = refl
same_spelling Verify _ named self = absurd (other_name named.1 refl)
same_spelling (Make n m seed) (Make n' m' seed') named self =
    let same = same_make_numbers n m seed n' m' seed' [] [] self.0 named.0 (cc) in
    λ i. Make (same.0 i) (same.1 i) (same.2 i)
same_spelling (Make n m seed) _ named self = absurd (other_name named.1 refl)
same_spelling (Run words) (Run others) named self = ap (λ (w : RunWords). Run w) (same_run_words words others self.0 named.0 (cc))
same_spelling (Run words) _ named self = absurd (other_name named.1 refl)
same_spelling (SelfRun words) (SelfRun others) named self = ap (λ (w : SelfWords). SelfRun w) (same_self_words words others self.0 named.0 (cc))
same_spelling (SelfRun words) _ named self = absurd (other_name named.1 refl)

pub one_command : (words : List (List ℕ)) (a b : Command) → AreWordsOf words a → AreWordsOf words b → a ≡ b
one_command words a b first second = same_spelling a b (second.0, sym first.1 ∙ second.1) (first.0, refl)
