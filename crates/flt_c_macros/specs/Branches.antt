-- Groups of lines, from `#if` to `#endif`. A branch whose condition is known is read or passed over. One whose condition isn't is read and
-- marked.
use Rattle.std.specs.Prelude.{ℕ, Bool, true, false, not, ◌&&◌, ◌==◌, if◌then◌else◌, List, [], ◌∷◌, Option, Some, None, Result, Ok, Err}
use Rattle.flt_c_macros.specs.Texts.{Texts}
use Rattle.flt_c_tokens.specs.declared.token.Kind.{Kind}
use Rattle.flt_c_tokens.specs.declared.token.Kind.TheVariants as k
use Rattle.flt_c_tokens.specs.declared.token.Token.{Token}
use Rattle.flt_c_macros.specs.declared.form.Form.{Form}
use Rattle.flt_c_macros.specs.declared.groups.Group.{Group}
use Rattle.flt_c_macros.specs.declared.note.NoteKind.TheVariants.{OpenGroup, NoGroup}
use Rattle.flt_c_macros.specs.declared.state.State.{State}
use Rattle.flt_c_macros.specs.Forms.{value_of, spelled}
use Rattle.flt_c_macros.specs.Groups.{top, with_top, is_read, is_certain}
use Rattle.flt_c_macros.specs.Guards.{opening}
use Rattle.flt_c_macros.specs.States.{World, Outcome, and_then, pushed, noted, with_groups, mark, numbered}
use Rattle.flt_c_macros.specs.Values.{Value}

-- a branch whose condition is unknown is marked by the number of the condition's spelling
unfoldable pub marked : Kind → Token → Form → List Token → World → Outcome World
marked kind at form line w = and_then (numbered (spelled w.0 form line) at w.0) (λ n. Ok (n.0, pushed (mark kind n.1 at) w.1))

-- ---- #if, #ifdef, #ifndef

abbrev pub with_group : Group → World → World
with_group g w = (w.0, with_groups (g ∷ w.1.groups) w.1)

-- a group that is decided so far: its first branch is read or not
abbrev pub decided : Token → Bool → Bool → Group
decided at certain read = record { at = at; is_marked = false; is_read = read; is_over = read; is_certain = certain }

-- a group whose first branch is marked
abbrev pub undecided : Token → Group
undecided at = record { at = at; is_marked = true; is_read = true; is_over = false; is_certain = false }

-- a group within text that isn't read: none of its branches is
abbrev pub passed_over : Token → Group
passed_over at = record { at = at; is_marked = false; is_read = false; is_over = true; is_certain = false }

abbrev pub opened_by : Value → Token → Form → List Token → World → Outcome World
opened_by None at form line w = and_then (marked k.GroupIf at form line w) (λ v. Ok (with_group (undecided at) v))
opened_by (Some n) at form line w = Ok (with_group (decided at (is_certain w.1.groups) (not (n == 0))) w)

unfoldable pub opened : Token → Form → List Token → List Token → World → Outcome World
opened at form line after w =
    if is_read w.1.groups then opened_by (opening w.0 w.1.macros form line after) at form line w else Ok (with_group (passed_over at) w)

-- ---- #elif, #elifdef, #elifndef, #else

abbrev pub with_change : Group → World → World
with_change g w = (w.0, with_groups (with_top g w.1.groups) w.1)

-- a branch whose condition is true is the last; it is marked if one before it is
abbrev pub last_marked : Group → Bool → Token → State → State
last_marked g read at s = if read && g.is_marked then pushed (mark k.GroupElse 0 at) s else s

abbrev pub parted_by : Value → Group → Token → Form → List Token → World → Outcome World
parted_by None g at form line w =
    and_then (marked (if g.is_marked then k.GroupElse else k.GroupIf) at form line w)
    (λ v. Ok (with_change (record g { is_marked = true; is_read = true; is_certain = false }) v))
parted_by (Some n) g at form line w =
    let read = not (n == 0) in Ok (with_change (record g { is_read = read; is_over = read }) (w.0, last_marked g read at w.1))

abbrev pub parted_at : Option Group → Token → Form → List Token → World → Outcome World
parted_at None at form line w = Ok (w.0, noted NoGroup at w.1)
parted_at (Some g) at form line w =
    if g.is_over then Ok (with_change (record g { is_read = false }) w)
    else parted_by (value_of w.0 w.1.macros form line) g at form line w

unfoldable pub parted : Token → Form → List Token → World → Outcome World
parted at form line w = parted_at (top w.1.groups) at form line w

-- ---- #endif

-- the end of a group is marked if its beginning was
abbrev pub end_marked : Group → Token → State → State
end_marked g at s = if g.is_marked then pushed (mark k.GroupEnd 0 at) s else s

abbrev pub ended_at : List Group → Token → State → State
ended_at [] at s = noted NoGroup at s
ended_at (g ∷ gs) at s = end_marked g at (with_groups gs s)

abbrev pub ended : Token → State → State
ended at s = ended_at s.groups at s

-- the groups that are open at the end are closed, and noted, the innermost one first
abbrev pub closed_all : List Group → State → State
closed_all [] s = s
closed_all (g ∷ gs) s = closed_all gs (end_marked g g.at (noted OpenGroup g.at (with_groups gs s)))

abbrev pub closed : State → State
closed s = closed_all s.groups s
