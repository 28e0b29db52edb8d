use Rattle.std.proofs.Common.{◌≡◌, length}
use Rattle.std.specs.List.{list_all}
use Rattle.text_scan.specs.Names.{is_among}
use Rattle.job_text.proofs.names.are_among.Given as goal

-- all are among the names where those that are left are
abbrev pub invariant-loop-word : goal.invariant-loop-word
invariant-loop-word l = list_all (is_among l.names) l.rest ≡ list_all (is_among l.names) l.fn.words

abbrev pub decreases-loop-word : goal.decreases-loop-word
decreases-loop-word l = length l.rest
