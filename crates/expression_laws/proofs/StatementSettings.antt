-- The matrices of a statement are a setting, for cuts by a size and in two.
use Rattle.std.proofs.Common.{◌≡◌, ℕ, suc, ◌*◌, ◌<◌, ◌≤◌, min, Bool, true, false, if◌then◌else◌, List, length, get_or, refl, sym, ◌∙◌, subst, All, arith}
use Rattle.std.specs.Prelude.{◌==◌, nat_lt, map}
use Rattle.std.proofs.lemmas.Bool.Decides.{nat_tests}
use Rattle.std.proofs.lemmas.List.{length-map}
use Rattle.std.proofs.lemmas.List.Elements.{All-map, All-weaker}
use Rattle.residue_sums.specs.Residues.{IsModulus}
use Rattle.residue_sums.specs.Sums.{part_count}
use Rattle.residue_sums.specs.Grids.{Grid, AreResidues}
use Rattle.residue_sums.proofs.Parts.{part_count_covers}
use Rattle.operation_spec.specs.declared.operation.Operation.{Operation}
use Rattle.operation_spec.specs.declared.operation.Binding.{Binding}
use Rattle.operation_spec.specs.declared.split.Split.{Split}
use Rattle.operation_spec.specs.ValidOperations.{IsValid}
use Rattle.equation.specs.Jobs.{Fits, nth_grid, no_grid}
use Rattle.task_graph.specs.Order.{numbers_below}
use Rattle.task_graph.specs.Tasks.{parts_of}
use Rattle.invariant_family.specs.Splits.{two_parts, is_split}
use Rattle.invariant_family.proofs.AllSplits.{length-numbers_below}
use Rattle.block_values.specs.Cuts.{IsCut, Starts}
use Rattle.block_values.specs.Settings.{IsSetting}
use Rattle.expression_laws.specs.StatementSettings.{MayFollow, setting_of, starts_by_size, starts_by_edge}

-- ---- the matrices

pub is_setting : (m : ℕ) (op : Operation) (grids : List Grid) (bind : Binding) (after : Grid) (counts : List ℕ) (starts : Starts)
    → IsModulus m → IsValid op → All (AreResidues m) grids → (fits : Fits op grids bind) → MayFollow m (nth_grid grids bind.work) after
    → IsCut (length op.dims) fits.lengths counts starts → IsSetting (setting_of m op grids bind after starts) counts
is_setting m op grids bind after counts starts modulus valid residues fits follows cut = record {
  modulus = modulus;
  valid = valid;
  lengths = fits.lengths;
  work = fits.work;
  solution = record { rows = follows.rows ∙ fits.work.rows; cols = follows.cols ∙ fits.work.cols };
  knowns = fits.knowns;
  work_residues = residues bind.work no_grid fits.work_in;
  solution_residues = follows.residues;
  known_residues = All-map (AreResidues m) (nth_grid grids) bind.knowns
      (All-weaker (λ k. k < length grids) (λ k. AreResidues m (nth_grid grids k)) (λ k below. residues k no_grid below) bind.knowns fits.knowns_in);
  solution_full = follows.full;
  cut = cut;
}

-- ---- parts of one size

pub cut_by_size : (dims b : ℕ) (lengths : ℕ → ℕ) (counts : List ℕ) → 0 < b → ((d : ℕ) → d < dims → parts_of counts d ≡ part_count (lengths d) b)
    → IsCut dims lengths counts (starts_by_size b lengths)
cut_by_size dims b lengths counts pos count = record {
  from_zero = λ d. omega arith;
  ascending = λ d p. omega arith;
  to_length = λ d below. subst (λ (p : ℕ). min (p * b) (lengths d) ≡ lengths d) (sym (count d below)) (let covers = part_count_covers (lengths d) b pos in omega (arith, covers));
}

-- ---- two parts

edge_up : (n p edge end : ℕ) → edge ≤ end
    → (if p == 0 then 0 else (if nat_lt p n then edge else end)) ≤ (if suc p == 0 then 0 else (if nat_lt (suc p) n then edge else end))
edge_up n p edge end within = grind (arith, nat_tests)

edge_last : (n edge end : ℕ) → 0 < n → (if n == 0 then 0 else (if nat_lt n n then edge else end)) ≡ end
edge_last n edge end some = grind (arith, nat_tests)

abbrev parts_in : Split → ℕ → ℕ
parts_in split d = if is_split split d then 2 else 1

abbrev dim_numbers : Operation → List ℕ
dim_numbers op = numbers_below (length op.dims)

one_part : (b : Bool) → 0 < (if b then 2 else 1)
one_part true = omega arith
one_part false = omega arith

each_has_a_part : (op : Operation) (split : Split) → All (λ n. 0 < n) (map (parts_in split) (dim_numbers op))
each_has_a_part op split = All-map (λ n. 0 < n) (parts_in split) (dim_numbers op) (λ k d lt. one_part (is_split split (get_or (dim_numbers op) k d)))

some_part : (op : Operation) (split : Split) (d : ℕ) → d < length op.dims → 0 < parts_of (two_parts op split) d
some_part op split d below =
    each_has_a_part op split d 0 (omega (arith, length-map (dim_numbers op) (parts_in split), length-numbers_below (length op.dims)))

pub cut_by_edge : (op : Operation) (split : Split) (lengths edges : ℕ → ℕ) → ((d : ℕ) → edges d ≤ lengths d)
    → IsCut (length op.dims) lengths (two_parts op split) (starts_by_edge (two_parts op split) edges lengths)
cut_by_edge op split lengths edges within = record {
  from_zero = λ d. refl;
  ascending = λ d p. edge_up (parts_of (two_parts op split) d) p (edges d) (lengths d) (within d);
  to_length = λ d below. edge_last (parts_of (two_parts op split) d) (edges d) (lengths d) (some_part op split d below);
}
