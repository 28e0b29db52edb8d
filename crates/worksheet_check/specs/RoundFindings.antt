-- What can be wrong with the other lines of a worksheet: its guard and ends, its states, and its updates.
use Rattle.std.specs.Prelude.{ℕ, ◌+◌, List, [], ◌∷◌, ◌++◌, Bool, true, false, ◌&&◌, ◌||◌, not, ◌==◌, if◌then◌else◌, Option, Some, None}
use Rattle.std.specs.List.{find}
use Rattle.std.specs.Option.{option_map}
use Rattle.std.specs.Cmp.Lexicographic.{pointwise}
use Rattle.std.specs.Str.{bytes_eq}
use Rattle.operation_spec.specs.declared.operation.Operation.{Operation}
use Rattle.operation_spec.specs.declared.task.Task.{Task}
use Rattle.task_graph.specs.Needs.{does_need}
use Rattle.invariant_family.specs.Feasible.{same_task, holds}
use Rattle.worksheet.specs.declared.sheet.End.{End}
use Rattle.worksheet.specs.declared.sheet.State.{State}
use Rattle.worksheet.specs.declared.verdict.Shown.{Shown}
use Rattle.worksheet.specs.declared.verdict.Shown.TheVariants as shown
use Rattle.worksheet.specs.declared.verdict.WsPlace.{WsPlace}
use Rattle.worksheet.specs.declared.verdict.WsPlace.TheVariants as places
use Rattle.worksheet_check.specs.declared.findings.Finding.{Finding}
use Rattle.worksheet_check.specs.declared.lines.Time.{Time}
use Rattle.worksheet_check.specs.declared.lines.Time.TheVariants.{Before, After}
use Rattle.worksheet_check.specs.Findings.{finding}

-- ---- guard and ends

abbrev pub guard_finding : List ℕ → List ℕ → Option Finding
guard_finding guard due = if bytes_eq guard due then None else Some (finding places.Guard (shown.Dims guard) (shown.Dims due))

abbrev pub same_bool : Bool → Bool → Bool
same_bool true b = b
same_bool false b = not b

abbrev pub same_end : End → End → Bool
same_end a b = a.dim == b.dim && same_bool a.last b.last

abbrev pub ends_finding : WsPlace → List End → List End → Option Finding
ends_finding place ends due = if pointwise same_end ends due then None else Some (finding place (shown.Ends ends) (shown.Ends due))

-- ---- states

abbrev pub same_state : State → State → Bool
same_state a b = a.row == b.row && a.col == b.col && pointwise same_task a.done b.done

-- a line, where there is one
abbrev pub line_shown : Option State → Shown
line_shown None = shown.Nothing
line_shown (Some l) = shown.Line l

-- a line at a place, or none, against the one due there, or none
abbrev pub differing : WsPlace → Option State → Option State → Option Finding
differing place None None = None
differing place line due = Some (finding place (line_shown line) (line_shown due))

-- the first line, numbered from p on, that isn't the one due
abbrev pub line_finding : (ℕ → WsPlace) → ℕ → List State → List State → Option Finding
line_finding place p [] [] = None
line_finding place p [] (d ∷ due) = differing (place p) None (Some d)
line_finding place p (l ∷ lines) [] = differing (place p) (Some l) None
line_finding place p (l ∷ lines) (d ∷ due) = if same_state l d then line_finding place (p + 1) lines due else differing (place p) (Some l) (Some d)

-- the place of a line, from 1
abbrev pub place_at : Time → ℕ → WsPlace
place_at Before p = places.Before p
place_at After p = places.After p

-- ---- updates

-- a isn't due, or stood before
abbrev pub is_stray : List Task → List Task → Task → Bool
is_stray due seen a = not (holds due a) || holds seen a

-- a needs b, which didn't stand before
abbrev pub misses : Operation → List Task → Task → Task → Bool
misses op seen a b = does_need op a b && not (holds seen b)

-- what is wrong with update p, behind those that were seen: it is stray, or needs a due task that didn't stand before
abbrev pub update_wrong : Operation → List Task → List Task → ℕ → Task → Option Finding
update_wrong op due seen p a =
    if is_stray due seen a then Some (finding (places.Update p) (shown.One a) shown.Nothing)
    else option_map (λ b. finding (places.Update p) (shown.One a) (shown.One b)) (find (misses op seen a) due)

abbrev pub or_else : Option Finding → Option Finding → Option Finding
or_else None other = other
or_else (Some f) other = Some f

-- the first due task that wasn't seen, at place p
abbrev pub missing : List Task → List Task → ℕ → Option Finding
missing due seen p = option_map (λ b. finding (places.Update p) shown.Nothing (shown.One b)) (find (λ b. not (holds seen b)) due)

-- the first update, numbered from p on, that is wrong, or the first due task that is missing
abbrev pub update_finding : Operation → List Task → List Task → ℕ → List Task → Option Finding
update_finding op due seen p [] = missing due seen p
update_finding op due seen p (a ∷ updates) = or_else (update_wrong op due seen p a) (update_finding op due (seen ++ a ∷ []) (p + 1) updates)
