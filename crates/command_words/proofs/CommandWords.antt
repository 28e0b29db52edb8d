-- Words are those of a command, or of none: for each command what makes words behind its name bad, and the decision.
use Rattle.std.proofs.Common.{◌≡◌, ◌≢◌, inl, inr, ◌⊎◌, ℕ, List, [], ◌∷◌, ◌++◌, refl, sym, subst, ap, ◌∙◌}
use Rattle.std.specs.Prelude.{codes}
use Rattle.std.specs.Fmt.{decimal}
use Rattle.variant_report.specs.declared.self_words.SelfWords.{SelfWords}
use Rattle.command_words.specs.declared.command.Command.{Command}
use Rattle.command_words.specs.declared.command.Command.TheVariants.{Derive, Pme, Worksheet, Check, Verify, Make, Run, SelfRun}
use Rattle.command_words.specs.declared.command.RunWords.{RunWords}
use Rattle.command_words.specs.Words.{AreBad, AreMakeNumbers, ArePmeWords, AreRunWords, AreSelfWords, AreSheetWords, AreSizes, AreWordsOf, choice_words, make_words, size_words, trace_words}
use Rattle.command_words.proofs.PmeWords.{pme_words_or_not}
use Rattle.command_words.proofs.SheetWords.{SheetWordsOrNone, sheet_words_or_none}
use Rattle.command_words.proofs.RunOptions.{NoOptions, OptionsOrNone, options_or_none}
use Rattle.command_words.proofs.WordFronts.{MakeNumbersOrNone, NoMakeNumbers, NoSizes, SameOrOther, SizesOrNone, make_numbers_or_none, other_name, same_or_other, sizes_or_none}

-- ---- no command

-- a first word that is none of theirs
bad_name : (first : List ℕ) (rest : List (List ℕ)) → first ≢ codes "derive" → first ≢ codes "pme" → first ≢ codes "worksheet" → first ≢ codes "check"
    → first ≢ codes "verify" → first ≢ codes "make" → first ≢ codes "run" → first ≢ codes "selfrun" → AreBad (first ∷ rest)
bad_name first rest a b c d e f g h Derive named = a (cc)
bad_name first rest a b c d e f g h (Pme op dims) named = b (cc)
bad_name first rest a b c d e f g h (Worksheet op number) named = c (cc)
bad_name first rest a b c d e f g h Check named = d (cc)
bad_name first rest a b c d e f g h Verify named = e (cc)
bad_name first rest a b c d e f g h (Make n m seed) named = f (cc)
bad_name first rest a b c d e f g h (Run words) named = g (cc)
bad_name first rest a b c d e f g h (SelfRun words) named = h (cc)

-- words behind `derive`, `check` or `verify`
bad_derive : (first : List ℕ) (rest : List (List ℕ)) → AreBad (codes "derive" ∷ first ∷ rest)
bad_derive first rest Derive named = absurd cc
bad_derive first rest _ named = absurd (other_name named.1 refl)

bad_check : (first : List ℕ) (rest : List (List ℕ)) → AreBad (codes "check" ∷ first ∷ rest)
bad_check first rest Check named = absurd cc
bad_check first rest _ named = absurd (other_name named.1 refl)

bad_verify : (first : List ℕ) (rest : List (List ℕ)) → AreBad (codes "verify" ∷ first ∷ rest)
bad_verify first rest Verify named = absurd cc
bad_verify first rest _ named = absurd (other_name named.1 refl)

-- words behind `pme` that are no names of an operation and its dimensions
pub bad_pme : (rest : List (List ℕ)) → ((op : List ℕ) (dims : List (List ℕ)) → ArePmeWords op dims → rest ≢ op ∷ dims) → AreBad (codes "pme" ∷ rest)
bad_pme rest none (Pme op dims) named = none op dims named.0 (cc)
bad_pme rest none _ named = absurd (other_name named.1 refl)

-- no words, and words of which the first and the others are no such names
pub bad_pme_none : AreBad (codes "pme" ∷ [])
bad_pme_none = bad_pme [] (λ op dims are named. absurd cc)

pub bad_pme_names : (op : List ℕ) (dims : List (List ℕ)) → ¬ (ArePmeWords op dims) → AreBad (codes "pme" ∷ op ∷ dims)
bad_pme_names op dims none = bad_pme (op ∷ dims) (λ op' dims' are named.
    none (subst (λ (w : List ℕ × List (List ℕ)). ArePmeWords w.0 w.1) (pair_of op' op dims' dims (sym named)) are))
  where
    pair_of : (a b : List ℕ) (xs ys : List (List ℕ)) → a ∷ xs ≡ b ∷ ys → ◌≡◌ {A = List ℕ × List (List ℕ)} (a, xs) (b, ys)
    pair_of a b xs ys e = cc

-- words behind `worksheet` that are no name of an operation and number of a variant
pub bad_worksheet : (rest : List (List ℕ)) → ((op : List ℕ) (number : ℕ) → AreSheetWords op number → rest ≢ op ∷ decimal number ∷ [])
    → AreBad (codes "worksheet" ∷ rest)
bad_worksheet rest none (Worksheet op number) named = none op number named.0 (cc)
bad_worksheet rest none _ named = absurd (other_name named.1 refl)

-- words behind `make` that are no numbers of a job alone
pub bad_make : (rest : List (List ℕ)) → ((n m seed : ℕ) → AreMakeNumbers n m seed → rest ≢ make_words n m seed) → AreBad (codes "make" ∷ rest)
bad_make rest none (Make n m seed) named = none n m seed named.0 (cc)
bad_make rest none _ named = absurd (other_name named.1 refl)

-- words behind `run` that are no sizes and options
pub bad_run : (rest : List (List ℕ)) → ((words : RunWords) → AreRunWords words
    → rest ≢ size_words words.block words.workers ++ (choice_words words.choice ++ trace_words words.trace)) → AreBad (codes "run" ∷ rest)
bad_run rest none (Run words) named = none words named.0 (cc)
bad_run rest none _ named = absurd (other_name named.1 refl)

-- words behind `selfrun` that are no numbers of a job and sizes alone
pub bad_selfrun : (rest : List (List ℕ)) → ((words : SelfWords) → AreSelfWords words
    → rest ≢ make_words words.n words.m words.seed ++ size_words words.block words.workers) → AreBad (codes "selfrun" ∷ rest)
bad_selfrun rest none (SelfRun words) named = none words named.0 (cc)
bad_selfrun rest none _ named = absurd (other_name named.1 refl)

-- words behind `make`, `run` and `selfrun` that don't begin by the numbers that are due
pub bad_make_numbers : (rest : List (List ℕ)) → NoMakeNumbers rest → AreBad (codes "make" ∷ rest)
bad_make_numbers rest none = bad_make rest (λ n m seed are. none n m seed [] are)

pub bad_run_sizes : (rest : List (List ℕ)) → NoSizes rest → AreBad (codes "run" ∷ rest)
bad_run_sizes rest none =
    bad_run rest (λ words are. none words.block words.workers (choice_words words.choice ++ trace_words words.trace) are.sizes)

pub bad_selfrun_numbers : (rest : List (List ℕ)) → NoMakeNumbers rest → AreBad (codes "selfrun" ∷ rest)
bad_selfrun_numbers rest none =
    bad_selfrun rest (λ words are. none words.n words.m words.seed (size_words words.block words.workers) are.numbers)

-- sizes that no options follow
pub bad_options : (rest behind : List (List ℕ)) (b k : ℕ) → rest ≡ size_words b k ++ behind → NoOptions behind → AreBad (codes "run" ∷ rest)
bad_options rest behind b k is none =
    bad_run rest (λ words are named. none words.choice words.trace are.choice
    (behind_sizes b k words.block words.workers behind (choice_words words.choice ++ trace_words words.trace) (sym is ∙ named)))
  where
    behind_sizes : (b k b' k' : ℕ) (xs ys : List (List ℕ)) → size_words b k ++ xs ≡ size_words b' k' ++ ys → xs ≡ ys
    behind_sizes b k b' k' xs ys e = cc

-- numbers of a job that no sizes follow, and words behind the sizes
pub bad_sizes : (rest behind : List (List ℕ)) (n m seed : ℕ) → rest ≡ make_words n m seed ++ behind
    → ((words : SelfWords) → AreSelfWords words → behind ≢ size_words words.block words.workers) → AreBad (codes "selfrun" ∷ rest)
bad_sizes rest behind n m seed is none =
    bad_selfrun rest (λ words are named. none words are
    (behind_numbers n m seed words.n words.m words.seed behind (size_words words.block words.workers) (sym is ∙ named)))
  where
    behind_numbers : (n m seed n' m' seed' : ℕ) (xs ys : List (List ℕ)) → make_words n m seed ++ xs ≡ make_words n' m' seed' ++ ys → xs ≡ ys
    behind_numbers n m seed n' m' seed' xs ys e = cc

-- ---- the words name a command, or none

abbrev pub BadOrNamed : List (List ℕ) → Type 0
BadOrNamed words = AreBad words ⊎ ((command : Command) × AreWordsOf words command)

derive_or_bad : (rest : List (List ℕ)) → BadOrNamed (codes "derive" ∷ rest)
derive_or_bad [] = inr (Derive, (tt, refl))
derive_or_bad (first ∷ rest) = inl (bad_derive first rest)

pme_or_bad : (rest : List (List ℕ)) → BadOrNamed (codes "pme" ∷ rest)
pme_or_bad [] = inl bad_pme_none
pme_or_bad (op ∷ dims) = go (pme_words_or_not op dims)
  where
    go : ArePmeWords op dims ⊎ ¬ (ArePmeWords op dims) → BadOrNamed (codes "pme" ∷ op ∷ dims)
    go (inl are) = inr (Pme op dims, (are, refl))
    go (inr none) = inl (bad_pme_names op dims none)

worksheet_or_bad : (rest : List (List ℕ)) → BadOrNamed (codes "worksheet" ∷ rest)
worksheet_or_bad rest = go (sheet_words_or_none rest)
  where
    go : SheetWordsOrNone rest → BadOrNamed (codes "worksheet" ∷ rest)
    go (inl (op, number, are, is)) = inr (Worksheet op number, (are, ap (λ (l : List (List ℕ)). codes "worksheet" ∷ l) is))
    go (inr none) = inl (bad_worksheet rest none)

check_or_bad : (rest : List (List ℕ)) → BadOrNamed (codes "check" ∷ rest)
check_or_bad [] = inr (Check, (tt, refl))
check_or_bad (first ∷ rest) = inl (bad_check first rest)

verify_or_bad : (rest : List (List ℕ)) → BadOrNamed (codes "verify" ∷ rest)
verify_or_bad [] = inr (Verify, (tt, refl))
verify_or_bad (first ∷ rest) = inl (bad_verify first rest)

make_or_bad : (rest : List (List ℕ)) → BadOrNamed (codes "make" ∷ rest)
make_or_bad rest = go (make_numbers_or_none rest)
  where
    go : MakeNumbersOrNone rest → BadOrNamed (codes "make" ∷ rest)
    go (inr none) = inl (bad_make_numbers rest none)
    go (inl (n, m, seed, [], are, is)) = inr (Make n m seed, (are, ap (λ (l : List (List ℕ)). codes "make" ∷ l) is))
    go (inl (n, m, seed, more ∷ behind, are, is)) = inl (bad_make rest (λ n' m' seed' also named. absurd cc))

run_or_bad : (rest : List (List ℕ)) → BadOrNamed (codes "run" ∷ rest)
run_or_bad rest = at_sizes (sizes_or_none rest)
  where
    at_options : (b k : ℕ) (behind : List (List ℕ)) → AreSizes b k → rest ≡ size_words b k ++ behind → OptionsOrNone behind → BadOrNamed (codes "run" ∷ rest)
    at_options b k behind are is (inr none) = inl (bad_options rest behind b k is none)
    at_options b k behind are is (inl (choice, trace, is_choice, options)) =
        inr (
          Run (record { block = b; workers = k; choice = choice; trace = trace }),
          (
            record { sizes = are; choice = is_choice },
            ap (λ (l : List (List ℕ)). codes "run" ∷ l) (is ∙ ap (λ (l : List (List ℕ)). size_words b k ++ l) options),
          ),
        )

    at_sizes : SizesOrNone rest → BadOrNamed (codes "run" ∷ rest)
    at_sizes (inr none) = inl (bad_run_sizes rest none)
    at_sizes (inl (b, k, behind, are, is)) = at_options b k behind are is (options_or_none behind)

selfrun_or_bad : (rest : List (List ℕ)) → BadOrNamed (codes "selfrun" ∷ rest)
selfrun_or_bad rest = at_numbers (make_numbers_or_none rest)
  where
    at_sizes : (n m seed : ℕ) (behind : List (List ℕ)) → AreMakeNumbers n m seed → rest ≡ make_words n m seed ++ behind → SizesOrNone behind
        → BadOrNamed (codes "selfrun" ∷ rest)
    at_sizes n m seed behind are is (inr none) =
        inl (bad_sizes rest behind n m seed is (λ words given. none words.block words.workers [] given.sizes))
    at_sizes n m seed behind are is (inl (b, k, [], sizes, rest_is)) =
        inr (
          SelfRun (record { n = n; m = m; seed = seed; block = b; workers = k }),
          (
            record { numbers = are; sizes = sizes },
            ap (λ (l : List (List ℕ)). codes "selfrun" ∷ l) (is ∙ ap (λ (l : List (List ℕ)). make_words n m seed ++ l) rest_is),
          ),
        )
    at_sizes n m seed behind are is (inl (b, k, more ∷ last, sizes, rest_is)) =
        inl (bad_sizes rest behind n m seed is (λ words given named. absurd cc))

    at_numbers : MakeNumbersOrNone rest → BadOrNamed (codes "selfrun" ∷ rest)
    at_numbers (inr none) = inl (bad_selfrun_numbers rest none)
    at_numbers (inl (n, m, seed, behind, are, is)) = at_sizes n m seed behind are is (sizes_or_none behind)

-- words that begin by the name of a command
begun_by : (name first : List ℕ) (rest : List (List ℕ)) → first ≡ name → BadOrNamed (name ∷ rest) → BadOrNamed (first ∷ rest)
begun_by name first rest same = subst (λ (w : List ℕ). BadOrNamed (w ∷ rest)) (sym same)

pub bad_or_named : (words : List (List ℕ)) → BadOrNamed words
bad_or_named [] = inl bad_none
  where
    bad_none : AreBad []
    bad_none Derive named = absurd cc
    bad_none _ named = absurd cc
bad_or_named (first ∷ rest) =
    go (same_or_other first (codes "derive")) (same_or_other first (codes "pme")) (same_or_other first (codes "worksheet"))
    (same_or_other first (codes "check")) (same_or_other first (codes "verify")) (same_or_other first (codes "make"))
    (same_or_other first (codes "run")) (same_or_other first (codes "selfrun"))
  where
    go : SameOrOther first (codes "derive") → SameOrOther first (codes "pme") → SameOrOther first (codes "worksheet")
        → SameOrOther first (codes "check") → SameOrOther first (codes "verify") → SameOrOther first (codes "make")
        → SameOrOther first (codes "run") → SameOrOther first (codes "selfrun") → BadOrNamed (first ∷ rest)
    go (inl a) b c d e f g h = begun_by (codes "derive") first rest a (derive_or_bad rest)
    go (inr a) (inl b) c d e f g h = begun_by (codes "pme") first rest b (pme_or_bad rest)
    go (inr a) (inr b) (inl c) d e f g h = begun_by (codes "worksheet") first rest c (worksheet_or_bad rest)
    go (inr a) (inr b) (inr c) (inl d) e f g h = begun_by (codes "check") first rest d (check_or_bad rest)
    go (inr a) (inr b) (inr c) (inr d) (inl e) f g h = begun_by (codes "verify") first rest e (verify_or_bad rest)
    go (inr a) (inr b) (inr c) (inr d) (inr e) (inl f) g h = begun_by (codes "make") first rest f (make_or_bad rest)
    go (inr a) (inr b) (inr c) (inr d) (inr e) (inr f) (inl g) h = begun_by (codes "run") first rest g (run_or_bad rest)
    go (inr a) (inr b) (inr c) (inr d) (inr e) (inr f) (inr g) (inl h) = begun_by (codes "selfrun") first rest h (selfrun_or_bad rest)
    go (inr a) (inr b) (inr c) (inr d) (inr e) (inr f) (inr g) (inr h) = inl (bad_name first rest a b c d e f g h)
