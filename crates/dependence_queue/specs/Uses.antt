-- What is kept of each block while steps are gone through: the last step that writes it, and those that read it and come no
-- earlier. From it come the marks of the edges into the next step.
use Rattle.std.specs.Prelude.{◌≡◌, ℕ, suc, ◌<◌, List, [], ◌∷◌, ◌++◌, length, map, slice_index_or, slice_set, All, Bool, not, ◌==◌, ◌&&◌, nat_lt, nat_le, Some, None}
use Rattle.std.specs.List.{flat_map}
use Rattle.std.specs.Option.{option_to_list}
use Rattle.dependence_queue.specs.declared.access.Access.{Access}
use Rattle.dependence_queue.specs.declared.edge.Edge.{Edge}
use Rattle.dependence_queue.specs.declared.edge.EdgeKind.TheVariants as kinds
use Rattle.dependence_queue.specs.declared.block_use.BlockUse.{BlockUse}
use Rattle.dependence_queue.specs.Conflicts.{has_number}
use Rattle.dependence_queue.specs.Edges.{is_written_between, edges_from}
use Rattle.dependence_queue.specs.Marks.{found_edge, IsStepOf}

abbrev pub no_use : BlockUse
no_use = record { writer = None; readers = [] }

abbrev pub written_by : ℕ → BlockUse
written_by t = record { writer = Some t; readers = [] }

abbrev pub with_reader : ℕ → BlockUse → BlockUse
with_reader t u = record { writer = u.writer; readers = u.readers ++ t ∷ [] }

abbrev pub use_of : List BlockUse → ℕ → BlockUse
use_of uses x = slice_index_or uses x no_use

-- after step t reads these blocks, and after it writes its block and reads
abbrev pub read_by : ℕ → List ℕ → List BlockUse → List BlockUse
read_by t [] uses = uses
read_by t (x ∷ xs) uses = read_by t xs (slice_set uses x (with_reader t (use_of uses x)))

abbrev pub used_by : ℕ → Access → List BlockUse → List BlockUse
used_by t access uses = read_by t access.reads (slice_set uses access.write (written_by t))

-- ---- the edges into step t

-- from the last writers of these blocks
abbrev pub flows_into : ℕ → List BlockUse → List ℕ → List Edge
flows_into t uses reads = flat_map (λ x. map (found_edge kinds.Flow t) (option_to_list (use_of uses x).writer)) reads

unfoldable pub marks_into : ℕ → Access → List BlockUse → List Edge
marks_into t access uses = flows_into t uses access.reads
    ++ (map (found_edge kinds.Anti t) (use_of uses access.write).readers
    ++ map (found_edge kinds.Output t) (option_to_list (use_of uses access.write).writer))

-- ---- what is kept, and found, after k steps

-- s is the last of them that writes x; s reads x, and no later one writes it
abbrev pub is_last_writer : (ℕ → Access) → ℕ → ℕ → ℕ → Bool
is_last_writer accesses k x s = nat_lt 0 s && (nat_le s k && (((accesses s).write == x) && not (is_written_between accesses x s (suc k))))

abbrev pub is_reader_since : (ℕ → Access) → ℕ → ℕ → ℕ → Bool
is_reader_since accesses k x s = nat_lt 0 s && (nat_le s k && (has_number (accesses s).reads x && not (is_written_between accesses x s (suc k))))

pub record IsUse (accesses : ℕ → Access) (k x : ℕ) (u : BlockUse) : Type 0 where
  pub writer : (s : ℕ) → has_number (option_to_list u.writer) s ≡ is_last_writer accesses k x s
  pub readers : (s : ℕ) → has_number u.readers s ≡ is_reader_since accesses k x s

-- each block of the list
pub record AreUses (accesses : ℕ → Access) (k : ℕ) (uses : List BlockUse) : Type 0 where
  pub each : (x : ℕ) → x < length uses → IsUse accesses k x (use_of uses x)

-- each row has the edges from its step up to step k
pub record AreRows (accesses : ℕ → Access) (k : ℕ) (rows : List (List Edge)) : Type 0 where
  pub each : (j : ℕ) → j < length rows → slice_index_or rows j [] ≡ edges_from accesses k (suc j)

-- the steps that are kept are among the first n
pub record HasSteps (n : ℕ) (u : BlockUse) : Type 0 where
  pub writer : (s : ℕ) → u.writer ≡ Some s → IsStepOf n s
  pub readers : All (IsStepOf n) u.readers

-- an access uses blocks below n
pub record UsesBelow (n : ℕ) (access : Access) : Type 0 where
  pub write : access.write < n
  pub reads : All (λ x. x < n) access.reads
