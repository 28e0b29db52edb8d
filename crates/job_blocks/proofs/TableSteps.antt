-- The tables, item by item: how they grow, and what is read in them. Cited by the loops that make them and by what reads them.
use Rattle.std.proofs.Common.{◌≡◌, ◌≢◌, ℕ, suc, ◌+◌, ◌*◌, ◌<◌, ◌≤◌, true, false, List, [], ◌∷◌, ◌++◌, length, take, map, get_or, append_assoc, if◌then◌else◌, refl, sym, ◌∙◌, ap, ap₂, drop, arith}
use Rattle.std.specs.Prelude.{◌==◌}
use Rattle.std.specs.List.{range_with_len}
use Rattle.std.proofs.lemmas.Bool.Decides.{nat_tests}
use Rattle.std.proofs.lemmas.List.{get_or-map, get_or_read, length-map, drop_more, map_push, take_all, take_more}
use Rattle.std.proofs.lemmas.List.FromFn.{get_or-map-range_with_len, length-map-range_with_len, map-range_with_len_more}
use Rattle.residue_sums.specs.Sums.{part_count}
use Rattle.residue_sums.specs.Grids.{Grid}
use Rattle.operation_spec.specs.declared.operation.Operation.{Operation}
use Rattle.operation_spec.specs.declared.operation.Binding.{Binding}
use Rattle.operation_spec.specs.declared.operation.Operand.{Operand}
use Rattle.task_graph.specs.Order.{numbers_below}
use Rattle.equation.specs.declared.job.Job.{Job}
use Rattle.equation.specs.declared.job.Statement.{Statement}
use Rattle.equation.specs.Jobs.{nth_grid, no_grid}
use Rattle.step_replays.specs.Accesses.{blocks_in, has_pivots, lists_of, no_statement, operation_of}
use Rattle.step_replays.specs.Fits.{length_among, length_of}
use Rattle.job_blocks.specs.Tables.{block_cols, list_numbers, starts_of}
use Rattle.job_blocks.proofs.BlockCounts.{blocks_in-more, lists_of-more}

-- the number of the first block of matrix k
abbrev pub start : ℕ → List Grid → ℕ → ℕ
start b grids k = blocks_in b (take k grids)

-- the number of the list of the statement that s statements precede
abbrev pub list_start : Job → ℕ → ℕ → ℕ
list_start job first s = first + lists_of job (take s job.statements)

-- the first n items of a function
abbrev pub first_items : {X : Type 0} → (ℕ → X) → ℕ → List X
first_items f n = map f (range_with_len 0 n)

-- one more item behind them
pub items-more : {X : Type 0} (f : ℕ → X) (items : List X) (n : ℕ) (y : X) → items ≡ first_items f n → y ≡ f n → items ++ y ∷ [] ≡ first_items f (n + 1)
items-more {X} f items n y so_far last =
    ap (λ (all : List X). all ++ y ∷ []) so_far ∙ ap (λ (z : X). first_items f n ++ z ∷ []) last ∙ sym (map-range_with_len_more f 0 n n (omega arith))

-- ---- what is read

pub start-read : (b : ℕ) (grids : List Grid) (k : ℕ) → k ≤ length grids → get_or (starts_of b grids) k 0 ≡ start b grids k
start-read b grids k within = get_or-map-range_with_len (start b grids) 0 (length grids + 1) k k 0 (omega arith) (omega arith)

pub cols-read : (b : ℕ) (grids : List Grid) (k : ℕ) → k < length grids → get_or (block_cols b grids) k 0 ≡ part_count (nth_grid grids k).cols b
cols-read b grids k below = get_or-map (λ (g : Grid). part_count g.cols b) grids k no_grid 0 below

pub list-read : (job : Job) (first s : ℕ) → s ≤ length job.statements → get_or (list_numbers job first) s 0 ≡ list_start job first s
list-read job first s within = get_or-map-range_with_len (list_start job first) 0 (length job.statements + 1) s s 0 (omega arith) (omega arith)

-- the tables are long enough
pub length-starts : (b : ℕ) (grids : List Grid) → length (starts_of b grids) ≡ length grids + 1
length-starts b grids = length-map-range_with_len (start b grids) 0 (length grids + 1)

pub length-cols : (b : ℕ) (grids : List Grid) → length (block_cols b grids) ≡ length grids
length-cols b grids = length-map grids (λ (g : Grid). part_count g.cols b)

pub length-lists : (job : Job) (first : ℕ) → length (list_numbers job first) ≡ length job.statements + 1
length-lists job first = length-map-range_with_len (list_start job first) 0 (length job.statements + 1)

-- the number that code has read there
pub start-value : (b : ℕ) (grids : List Grid) (starts : List ℕ) (k v : ℕ) → starts ≡ starts_of b grids → k ≤ length grids → v ≡ get_or starts k v → v ≡ start b grids k
start-value b grids starts k v e within read =
    get_or_read (starts_of b grids) k v (omega (arith, length-starts b grids)) (rw e at read) 0 ∙ start-read b grids k within

pub cols-value : (b : ℕ) (grids : List Grid) (cols : List ℕ) (k v : ℕ) → cols ≡ block_cols b grids → k < length grids → v ≡ get_or cols k v → v ≡ part_count (nth_grid grids k).cols b
cols-value b grids cols k v e below read =
    get_or_read (block_cols b grids) k v (omega (arith, length-cols b grids)) (rw e at read) 0 ∙ cols-read b grids k below

pub list-value : (job : Job) (first : ℕ) (lists : List ℕ) (s v : ℕ) → lists ≡ list_numbers job first → s ≤ length job.statements → v ≡ get_or lists s v → v ≡ list_start job first s
list-value job first lists s v e within read =
    get_or_read (list_numbers job first) s v (omega (arith, length-lists job first)) (rw e at read) 0 ∙ list-read job first s within

-- behind the last matrix, and the last statement
pub start-all : (b : ℕ) (grids : List Grid) → start b grids (length grids) ≡ blocks_in b grids
start-all b grids = ap (blocks_in b) (take_all (length grids) grids (omega arith))

pub list-all : (job : Job) (first : ℕ) → list_start job first (length job.statements) ≡ first + lists_of job job.statements
list-all job first = ap (λ (all : List Statement). first + lists_of job all) (take_all (length job.statements) job.statements (omega arith))

-- ---- the steps of loops

-- one more matrix, as code has read it
pub start-more : (b : ℕ) (grids : List Grid) (n : ℕ) (g : Grid) → n < length grids → g ≡ get_or grids n g
    → start b grids (n + 1) ≡ start b grids n + part_count g.rows b * part_count g.cols b
start-more b grids n g below read =
    let own : g ≡ nth_grid grids n = get_or_read grids n g below read no_grid in
    blocks_in-more b grids n below ∙ ap (λ (h : Grid). start b grids n + part_count h.rows b * part_count h.cols b) (sym own)

pub cols-more : (b : ℕ) (grids : List Grid) (cols : List ℕ) (n y : ℕ) (g : Grid) → n < length grids → g ≡ get_or grids n g → cols ≡ block_cols b (take n grids)
    → y ≡ part_count g.cols b → cols ++ y ∷ [] ≡ block_cols b (take (n + 1) grids)
cols-more b grids cols n y g below read so_far last =
    let own : g ≡ nth_grid grids n = get_or_read grids n g below read no_grid in
    ap (λ (xs : List ℕ). xs ++ y ∷ []) so_far
    ∙ ap (λ (z : ℕ). block_cols b (take n grids) ++ z ∷ []) (last ∙ ap (λ (h : Grid). part_count h.cols b) own)
    ∙ sym (map_push (λ (h : Grid). part_count h.cols b) (take n grids) (nth_grid grids n))
    ∙ ap (block_cols b) (sym (take_more grids n no_grid below))

-- one more statement, as code has read it
pub statement-own : (job : Job) (all : List Statement) (n : ℕ) (s : Statement) → all ≡ job.statements → n < length all → s ≡ get_or all n s → s ≡ get_or job.statements n no_statement
statement-own job all n s e below read = get_or_read all n s below read no_statement ∙ ap (λ (xs : List Statement). get_or xs n no_statement) e

pub list-more : (job : Job) (first n y : ℕ) (s : Statement) → n < length job.statements → s ≡ get_or job.statements n no_statement
    → y ≡ (if has_pivots (operation_of job s) then 1 else 0) → list_start job first (n + 1) ≡ list_start job first n + y
list-more job first n y s below own counted =
    let count : y ≡ (if has_pivots (operation_of job (get_or job.statements n no_statement)) then 1 else 0) =
    counted ∙ ap (λ (t : Statement). if has_pivots (operation_of job t) then 1 else 0) own in
    omega (arith, count, lists_of-more job job.statements n below)

-- the number of a function's next value, behind those of the first n
pub listed-more : (f : ℕ → ℕ) (front so_far more : List ℕ) (n y : ℕ) → so_far ≡ front ++ map f (numbers_below n) → y ≡ f n → more ≡ so_far ++ y ∷ []
    → more ≡ front ++ map f (numbers_below (n + 1))
listed-more f front so_far more n y listed last e =
    let next : n + 1 ≡ suc n = omega arith in
    e ∙ ap (λ (xs : List ℕ). xs ++ y ∷ []) listed
    ∙ append_assoc front (map f (numbers_below n)) (y ∷ [])
    ∙ ap (λ (z : ℕ). front ++ (map f (numbers_below n) ++ z ∷ [])) last
    ∙ ap (λ (xs : List ℕ). front ++ xs) (sym (map_push f (numbers_below n) n))
    ∙ ap (λ (m : ℕ). front ++ map f (numbers_below m)) (sym next)

-- the length of a dimension, where the first of these operands is on it by its rows, by its columns, or isn't
pub length-on_rows : (grids : List Grid) (operands : List Operand) (numbers : List ℕ) (n d : ℕ) (o : Operand) (g : Grid) → n < length operands → length numbers ≡ length operands
    → o ≡ get_or operands n o → g ≡ nth_grid grids (get_or numbers n 0) → o.rows ≡ d
    → length_among (drop n operands) (map (nth_grid grids) (drop n numbers)) d ≡ g.rows
length-on_rows grids operands numbers n d o g below count read at here =
    let e : (o.rows == d) ≡ true = grind (arith, nat_tests) in
    let more : n < length numbers = omega arith in
    ap₂ (λ (os : List Operand) (ns : List ℕ). length_among os (map (nth_grid grids) ns) d) (drop_more operands n o below ∙ ap (λ (p : Operand). p ∷ drop (n + 1) operands) (sym read)) (drop_more numbers n 0 more)
    ∙ rw e (ap (λ (h : Grid). h.rows) (sym at))

pub length-on_cols : (grids : List Grid) (operands : List Operand) (numbers : List ℕ) (n d : ℕ) (o : Operand) (g : Grid) → n < length operands → length numbers ≡ length operands
    → o ≡ get_or operands n o → g ≡ nth_grid grids (get_or numbers n 0) → o.rows ≢ d → o.cols ≡ d
    → length_among (drop n operands) (map (nth_grid grids) (drop n numbers)) d ≡ g.cols
length-on_cols grids operands numbers n d o g below count read at apart here =
    let e : (o.rows == d) ≡ false = grind (arith, nat_tests) in
    let f : (o.cols == d) ≡ true = grind (arith, nat_tests) in
    let more : n < length numbers = omega arith in
    ap₂ (λ (os : List Operand) (ns : List ℕ). length_among os (map (nth_grid grids) ns) d) (drop_more operands n o below ∙ ap (λ (p : Operand). p ∷ drop (n + 1) operands) (sym read)) (drop_more numbers n 0 more)
    ∙ rw (e, f) (ap (λ (h : Grid). h.cols) (sym at))

pub length-behind : (grids : List Grid) (operands : List Operand) (numbers : List ℕ) (n d : ℕ) (o : Operand) → n < length operands → length numbers ≡ length operands
    → o ≡ get_or operands n o → o.rows ≢ d → o.cols ≢ d
    → length_among (drop n operands) (map (nth_grid grids) (drop n numbers)) d ≡ length_among (drop (n + 1) operands) (map (nth_grid grids) (drop (n + 1) numbers)) d
length-behind grids operands numbers n d o below count read apart other =
    let e : (o.rows == d) ≡ false = grind (arith, nat_tests) in
    let f : (o.cols == d) ≡ false = grind (arith, nat_tests) in
    let more : n < length numbers = omega arith in
    ap₂ (λ (os : List Operand) (ns : List ℕ). length_among os (map (nth_grid grids) ns) d) (drop_more operands n o below ∙ ap (λ (p : Operand). p ∷ drop (n + 1) operands) (sym read)) (drop_more numbers n 0 more)
    ∙ rw (e, f) refl

-- of an operation
pub length_of-rows : (op : Operation) (grids : List Grid) (bind : Binding) (d : ℕ) → op.work.rows ≡ d → (nth_grid grids bind.work).rows ≡ length_of op grids bind d
length_of-rows op grids bind d here = let e : (op.work.rows == d) ≡ true = grind (arith, nat_tests) in rw e refl

pub length_of-cols : (op : Operation) (grids : List Grid) (bind : Binding) (d : ℕ) → op.work.rows ≢ d → op.work.cols ≡ d → (nth_grid grids bind.work).cols ≡ length_of op grids bind d
length_of-cols op grids bind d apart here =
    let e : (op.work.rows == d) ≡ false = grind (arith, nat_tests) in
    let f : (op.work.cols == d) ≡ true = grind (arith, nat_tests) in
    rw (e, f) refl

pub length_of-knowns : (op : Operation) (grids : List Grid) (bind : Binding) (d : ℕ) → op.work.rows ≢ d → op.work.cols ≢ d
    → length_among op.knowns (map (nth_grid grids) bind.knowns) d ≡ length_of op grids bind d
length_of-knowns op grids bind d apart other =
    let e : (op.work.rows == d) ≡ false = grind (arith, nat_tests) in
    let f : (op.work.cols == d) ≡ false = grind (arith, nat_tests) in
    rw (e, f) refl
