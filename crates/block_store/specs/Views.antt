-- What becomes of a view: when a board opens, when its seat learns something, and when seats are split and joined.
use Rattle.std.specs.Prelude.{ℕ, zero, suc, max, List, [], ◌∷◌, ◌++◌, None}
use Rattle.block_store.specs.declared.key.BoardKey.{BoardKey}
use Rattle.block_store.specs.declared.view.Fact.{Fact}
use Rattle.block_store.specs.declared.view.View.{View}

-- the numbers below n, the greatest first
abbrev pub numbers : ℕ → List ℕ
numbers zero = []
numbers (suc n) = n ∷ numbers n

-- what the first seat knows, which stands for all workers
abbrev pub opening_view : BoardKey → View
opening_view key = record { facts = []; clock = 0; found_mark = None; workers = numbers key.workers; key = key }

-- one more fact
abbrev pub learned : Fact → View → View
learned f v = record v { facts = f ∷ v.facts }

-- a clock value was loaded
abbrev pub timed : ℕ → View → View
timed n v = record v { clock = n }

-- ---- seats are split and joined

abbrev pub first_of : List ℕ → List ℕ
first_of [] = []
first_of (worker ∷ workers) = worker ∷ []

abbrev pub rest_of : List ℕ → List ℕ
rest_of [] = []
rest_of (worker ∷ workers) = workers

-- the view without its first worker, and that of a new seat for this worker
abbrev pub kept_view : View → View
kept_view v = record v { workers = rest_of v.workers }

abbrev pub new_view : View → View
new_view v = record { facts = []; clock = v.clock; found_mark = None; workers = first_of v.workers; key = v.key }

-- two views in one
abbrev pub both_views : View → View → View
both_views v w = record {
  facts = v.facts ++ w.facts;
  clock = max v.clock w.clock;
  found_mark = None;
  workers = v.workers ++ w.workers;
  key = v.key;
}

-- a key of no run, and what a seat knows that was joined and stands for no worker any more
abbrev pub no_key : BoardKey
no_key = record {
  job = record { marker = record {}; value = record { modulus = 2; operations = []; names = []; matrices = []; statements = []; prints = [] } };
  b = 1;
  steps = record { marker = record {}; value = [] };
  workers = 0;
}

abbrev pub spent_view : View
spent_view = record { facts = []; clock = 0; found_mark = None; workers = []; key = no_key }
