-- The words that the program is given.
use Rattle.std.specs.Prelude.{List, [], drop, Result, Ok, Err}
use Rattle.std_alloc.specs.declared.vec.into_iter.IntoIter.{IntoIter}
use Rattle.std_alloc.specs.Vec.Iter.{into_iter_items}

-- those behind the first one, which is the program's name; none where one of all can't be read
abbrev pub words_behind : {W A E : Type 0} → Result (IntoIter W A) E → List W
words_behind (Ok all) = drop 1 (into_iter_items all)
words_behind (Err e) = []
