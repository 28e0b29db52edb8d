-- The texts of lines, one after another. Cited by what prints a job.
use Rattle.std.proofs.Common.{◌≡◌, ℕ, ◌+◌, ◌<◌, ◌≤◌, false, List, [], ◌∷◌, ◌++◌, length, drop, get_or, map, codes, All, IsTrue, bytes_eq, refl, sym, ap, ◌∙◌, append_assoc, append-nil}
use Rattle.std.specs.Fmt.{decimal}
use Rattle.std.specs.List.{flat_map}
use Rattle.std.proofs.lemmas.Grind.{flat_map-append}
use Rattle.std.proofs.lemmas.List.{at_drop_all, at_drop_more}
use Rattle.std.proofs.lemmas.List.Elements.{All-head, All-tail}
use Rattle.residue_sums.specs.Grids.{Grid}
use Rattle.matrix_text.specs.MatrixTexts.{matrix_text}
use Rattle.text_scan.specs.declared.token.TokenKind.{TokenKind}
use Rattle.text_scan.specs.declared.token.TokenKind.TheVariants.{Number, Sign}
use Rattle.text_scan.specs.NormalTexts.{line_text, lines_text}
use Rattle.text_scan.specs.Words.{is_name}
use Rattle.text_scan.proofs.NumberTexts.{bytes_eq-kinds, decimal_word}
use Rattle.operation_spec.specs.declared.operation.Operation.{Operation}
use Rattle.operation_spec.specs.OperationLines.{operation_lines}
use Rattle.matrix_text.specs.MatrixLines.{matrix_lines}
use Rattle.matrix_text.proofs.PrintedLines.{matrix_text-lines}
use Rattle.equation.specs.declared.job.Job.{Job}
use Rattle.job_text.specs.JobLines.{job_lines, matrix_blocks, print_line, statement_line}
use Rattle.job_text.specs.JobTexts.{job_text, matrix_texts}

-- three texts that were appended
pub appended_thrice : (old one two all a b c : List ℕ) → one ≡ old ++ a → two ≡ one ++ b → all ≡ two ++ c → all ≡ old ++ (a ++ (b ++ c))
appended_thrice old one two all a b c first second third = rw (third, second, first) (regrouped old a b c)
  where
    regrouped : (x y z w : List ℕ) → ((x ++ y) ++ z) ++ w ≡ x ++ (y ++ (z ++ w))
    regrouped x y z w = simp append_assoc

-- ---- matrices

-- a matrix and those behind it
blocks_step : (names : List (List ℕ)) (grids : List Grid) (at : ℕ) (d : List ℕ) (e : Grid) → at < length names → at < length grids
    → matrix_texts (drop at names) (drop at grids) ≡ matrix_text (get_or names at d) (get_or grids at e) ++ matrix_texts (drop (at + 1) names) (drop (at + 1) grids)
blocks_step names grids at d e within inside =
    at_drop_more (λ (ns : List (List ℕ)). matrix_texts ns (drop at grids)) names at d within
    ∙ at_drop_more (λ (gs : List Grid). matrix_texts (get_or names at d ∷ drop (at + 1) names) gs) grids at e inside

pub blocks_none : (names : List (List ℕ)) (grids : List Grid) (at : ℕ) → length grids ≤ at → matrix_texts (drop at names) (drop at grids) ≡ []
blocks_none names grids at past = at_drop_all (λ (gs : List Grid). matrix_texts (drop at names) gs) grids at past ∙ ended (drop at names)
  where
    ended : (ns : List (List ℕ)) → matrix_texts ns [] ≡ []
    ended [] = refl
    ended (n ∷ ns) = refl

-- a block more was appended
pub blocks_put : (names : List (List ℕ)) (grids : List Grid) (at : ℕ) (d : List ℕ) (e : Grid) (old new all : List ℕ) → at < length names → at < length grids
    → new ≡ old ++ matrix_text (get_or names at d) (get_or grids at e) → old ++ matrix_texts (drop at names) (drop at grids) ≡ all → new ++ matrix_texts (drop (at + 1) names) (drop (at + 1) grids) ≡ all
blocks_put names grids at d e old new all within inside put so_far =
    let rest = matrix_texts (drop (at + 1) names) (drop (at + 1) grids) in
    ap (λ (text : List ℕ). text ++ rest) put ∙ append_assoc old (matrix_text (get_or names at d) (get_or grids at e)) rest
    ∙ ap (λ (text : List ℕ). old ++ text) (sym (blocks_step names grids at d e within inside)) ∙ so_far

-- where the names are names, they are the normal text of their lines
blocks_text : (names : List (List ℕ)) (grids : List Grid) → All (λ name. IsTrue (is_name name)) names → matrix_texts names grids ≡ lines_text (matrix_blocks names grids)
blocks_text (name ∷ names) (g ∷ grids) are =
    let named : List ℕ → Type 0 = λ n. IsTrue (is_name n) in
    ap (λ (text : List ℕ). text ++ matrix_texts names grids) (matrix_text-lines name g (All-head named name names are))
    ∙ ap (λ (text : List ℕ). lines_text (matrix_lines name g) ++ text) (blocks_text names grids (All-tail named name names are))
    ∙ sym (flat_map-append line_text (matrix_lines name g) (matrix_blocks names grids))
blocks_text [] grids are = refl
blocks_text (name ∷ names) [] are = refl

-- the first two lines were appended
pub header_appended : (old a d n all : List ℕ) → all ≡ ((old ++ a) ++ d) ++ n → all ≡ old ++ ((a ++ d) ++ n)
header_appended old a d n all put = put ∙ (simp append_assoc)

-- ---- the whole text

no_sign : (kind : TokenKind) → kind ≡ Number → kind ≡ Sign → ⊥
no_sign kind number sign = cc

modulus_text : (m : ℕ) → line_text (codes "modulus" ∷ decimal m ∷ []) ≡ codes "modulus " ++ decimal m ++ codes "\n"
modulus_text m =
    let apart : bytes_eq (decimal m) (codes "'") ≡ false = bytes_eq-kinds (decimal m) (codes "'") (no_sign _ (decimal_word m).1) in
    rw apart (sym (append_assoc (codes "modulus ") (decimal m) (codes "\n")))

operations_text : (ops : List Operation) → lines_text (flat_map operation_lines ops) ≡ flat_map (λ (op : Operation). lines_text (operation_lines op)) ops
operations_text [] = refl
operations_text (op ∷ ops) = flat_map-append line_text (operation_lines op) (flat_map operation_lines ops) ∙ ap (λ (text : List ℕ). lines_text (operation_lines op) ++ text) (operations_text ops)

-- the first two lines
abbrev first_two : Job → List (List (List ℕ))
first_two job = (codes "flame" ∷ codes "1" ∷ []) ∷ (codes "modulus" ∷ decimal job.modulus ∷ []) ∷ []

head_text : (job : Job) → lines_text (first_two job) ≡ codes "flame 1\nmodulus " ++ decimal job.modulus ++ codes "\n"
head_text job = ap (λ (text : List ℕ). codes "flame 1\n" ++ (text ++ [])) (modulus_text job.modulus) ∙ ap (λ (text : List ℕ). codes "flame 1\n" ++ text) (append-nil _)

-- the sections, which were appended one after another
pub job_appended : (job : Job) (old a b c d all : List ℕ) → a ≡ old ++ (codes "flame 1\nmodulus " ++ decimal job.modulus ++ codes "\n") → b ≡ a ++ flat_map (λ (op : Operation). lines_text (operation_lines op)) job.operations
    → c ≡ b ++ matrix_texts job.names job.matrices → d ≡ c ++ lines_text (map (statement_line job) job.statements) → all ≡ d ++ lines_text (map (print_line job) job.prints) → all ≡ old ++ job_text job
job_appended job old a b c d all first second third fourth fifth =
    rw (fifth, fourth, third, second, first ∙ ap (λ (text : List ℕ). old ++ text) (sym (head_text job))) (regrouped old (lines_text (first_two job)) _ _ _ _)
  where
    regrouped : (v w x y z u : List ℕ) → ((((v ++ w) ++ x) ++ y) ++ z) ++ u ≡ v ++ ((((w ++ x) ++ y) ++ z) ++ u)
    regrouped v w x y z u = simp append_assoc

-- they are the normal text of the job's lines
pub job_text-lines : (job : Job) → All (λ name. IsTrue (is_name name)) job.names → job_text job ≡ lines_text (job_lines job)
job_text-lines job named =
    let two = first_two job in
    let ops = flat_map operation_lines job.operations in
    let blocks = matrix_blocks job.names job.matrices in
    let ss = map (statement_line job) job.statements in
    let ps = map (print_line job) job.prints in
    let parts = flat_map-append line_text (((two ++ ops) ++ blocks) ++ ss) ps ∙ ap (λ (text : List ℕ). text ++ lines_text ps) (flat_map-append line_text ((two ++ ops) ++ blocks) ss
    ∙ ap (λ (text : List ℕ). text ++ lines_text ss) (flat_map-append line_text (two ++ ops) blocks ∙ ap (λ (text : List ℕ). text ++ lines_text blocks) (flat_map-append line_text two ops))) in
    ap (λ (text : List ℕ). (((lines_text two ++ text) ++ matrix_texts job.names job.matrices) ++ lines_text ss) ++ lines_text ps) (sym (operations_text job.operations))
    ∙ ap (λ (text : List ℕ). (((lines_text two ++ lines_text ops) ++ text) ++ lines_text ss) ++ lines_text ps) (blocks_text job.names job.matrices named) ∙ sym parts
