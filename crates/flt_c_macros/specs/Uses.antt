-- Uses of macros in text, and what they are expanded to.
--
-- Each token of text that names a macro begins a use. A machine reads it, and puts the macro's body in its place, which is read again. It
-- goes on in the text where a body ends with the name of a macro with parameters, whose brackets follow in the text.
use Rattle.std.specs.Prelude.{ℕ, zero, suc, ◌+◌, ◌-◌, ◌==◌, nat_lt, nat_le, Bool, false, not, ◌&&◌, ◌||◌, if◌then◌else◌}
use Rattle.std.specs.Prelude.{List, [], ◌∷◌, length, slice_index_or, take, Option, Some, None}
use Rattle.std.specs.Option.{is_some}
use Rattle.flt_c_tokens.specs.declared.token.Kind.TheVariants as k
use Rattle.flt_c_tokens.specs.declared.token.Token.{Token}
use Rattle.flt_c_macros.specs.declared.arguments.Search.{Search}
use Rattle.flt_c_macros.specs.declared.arguments.Stage.{Stage}
use Rattle.flt_c_macros.specs.declared.arguments.Stage.TheVariants.{Before, Within, Absent, Closed}
use Rattle.flt_c_macros.specs.declared.item.Item.{Item}
use Rattle.flt_c_macros.specs.declared.item.Item.TheVariants.{Read, End}
use Rattle.flt_c_macros.specs.declared.item.Word.{Word}
use Rattle.flt_c_macros.specs.declared.machine.Machine.{Machine}
use Rattle.flt_c_macros.specs.declared.machine.Prepared.{Prepared}
use Rattle.flt_c_macros.specs.declared.macros.Macro.{Macro}
use Rattle.flt_c_macros.specs.declared.macros.Macro.TheVariants.{Undefined, Plain, WithParameters, Undecided}
use Rattle.flt_c_macros.specs.declared.note.Note.{Note}
use Rattle.flt_c_macros.specs.declared.note.NoteKind.{NoteKind}
use Rattle.flt_c_macros.specs.declared.note.NoteKind.TheVariants as note
use Rattle.flt_c_macros.specs.declared.state.State.{State}
use Rattle.flt_c_macros.specs.declared.text.Place.{Place}
use Rattle.flt_c_macros.specs.Arguments.{are_given, commas_of, unclosed}
use Rattle.flt_c_macros.specs.Bodies.{apart, filled, has_name, has_sign}
use Rattle.flt_c_macros.specs.Items.{colored, is_busy, plain}
use Rattle.flt_c_macros.specs.Kinds.{same_kind}
use Rattle.flt_c_macros.specs.Machines.{alone, ended, entered, failed, fresh, is_large, left_alone, opened, paid, passed_by, searched}
use Rattle.flt_c_macros.specs.Machines.{size, unprepared, with_argument, with_unread, wrote}
use Rattle.flt_c_macros.specs.Macros.{Known, macro_of}
use Rattle.flt_c_macros.specs.Notes.{is_told}
use Rattle.flt_c_macros.specs.States as states

-- ---- which names are expanded

-- the names that are never expanded, by number
abbrev pub is_kept : List Bool → ℕ → Bool
is_kept kept name = slice_index_or kept name false

-- what a word is, if it is a name that is neither painted nor kept nor in work
abbrev pub found : List Bool → Known → List ℕ → Word → Option Macro
found kept macros busy w =
    if same_kind w.token.kind k.Name && not w.is_painted && not (is_kept kept w.token.word) && not (is_busy busy w.token)
    then macro_of macros w.token.word else None

-- ---- macros with parameters

-- why no arguments are put in a body
abbrev pub refusal : ℕ → List ℕ → Option ℕ → List Token → Search → ℕ → Option NoteKind
refusal depth names rest body s left =
    if not (are_given names rest s.arguments) then Some note.Arguments
    else (if depth == 0 || is_large (length body) s.names left then Some note.Large else None)

-- each argument is read, if the tokens of a body have its parameter
abbrev pub prepared : (Machine → Machine) → List ℕ → List Token → List ℕ → List (List Word) → Prepared → Prepared
prepared read busy tokens [] arguments p = p
prepared read busy tokens (name ∷ names) [] p = prepared read busy tokens names [] (with_unread name [] p)
prepared read busy tokens (name ∷ names) (a ∷ arguments) p =
    prepared read busy tokens names arguments
    (if has_name name tokens then with_argument name a (read (alone busy a p.left)) p else with_unread name a p)

-- The body with its arguments is to be read. So many words and the end are paid. Where the others are too many, what it took to read the
-- arguments is paid all the same.
abbrev pub put_in : Token → Search → Prepared → ℕ → List Word → Machine → Machine
put_in t s p count words m =
    if nat_lt (p.left + count) (length words) then failed note.Large t s (record m { left = p.left })
    else entered t.word words (passed_by s (p.left - (length words - count)) p.notes m)

-- a use whose arguments are given; these tokens of the body are in no joint
unfoldable pub given_called : (Machine → Machine) → Token → List ℕ → Option ℕ → List Token → List Token → Search → Machine → Machine
given_called read t names rest body tokens s m =
    if has_sign tokens then failed note.Parameters t s m
    else (let p = prepared read (take s.names m.busy) tokens names s.arguments (unprepared m.left) in
    put_in t s p (length body) (filled p.given rest t 0 body) m)

-- a body is paid before anything is done with it
abbrev pub called_by : (Machine → Machine) → Token → List ℕ → Option ℕ → List Token → Search → Option NoteKind → Machine → Machine
called_by read t names rest body s (Some kind) m = failed kind t s m
called_by read t names rest body s None m = given_called read t names rest body (apart rest 0 body) s (paid (length body) m)

-- a name without brackets is no use
abbrev pub called_at : ℕ → (Machine → Machine) → Token → List ℕ → Option ℕ → List Token → Search → Stage → Machine → Machine
called_at depth read t names rest body s Before m = wrote (plain t) m
called_at depth read t names rest body s Absent m = wrote (plain t) m
called_at depth read t names rest body s (Within depth_open) m = failed (unclosed s) t s m
called_at depth read t names rest body s Closed m = called_by read t names rest body s (refusal depth names rest body s m.left) m

-- a name of a macro with parameters
unfoldable pub called : ℕ → (Machine → Machine) → List Token → Token → List ℕ → Option ℕ → List Token → Machine → Machine
called depth read source t names rest body m =
    if nat_lt m.after m.quiet
    then (let s = searched source (commas_of names rest) m in called_at depth read t names rest body s s.stage m) else wrote (plain t) m

-- ---- turns

-- a word, by what it is
abbrev pub expanded : ℕ → (Machine → Machine) → List Token → Word → Option Macro → Machine → Machine
expanded depth read source w (Some (Plain body)) m = opened w.token body m
expanded depth read source w (Some (WithParameters names rest body)) m = called depth read source w.token names rest body m
expanded depth read source w (Some Undecided) m = left_alone note.Undecided w.token m
expanded depth read source w (Some Undefined) m = wrote (colored m.busy w) m
expanded depth read source w None m = wrote (colored m.busy w) m

module _ (kept : List Bool) (macros : Known) where
  -- an item, behind which the machine's are read
  abbrev pub stepped : ℕ → (Machine → Machine) → List Token → Item → Machine → Machine
  stepped depth read source End m = ended m
  stepped depth read source (Read w) m = expanded depth read source w (found kept macros m.busy w) m

abbrev pub turn_by : (Item → Machine → Machine) → List Item → Machine → Machine
turn_by step [] m = m
turn_by step (x ∷ xs) m = step x (record m { items = xs })

abbrev pub turns : (Item → Machine → Machine) → ℕ → Machine → Machine
turns step zero m = m
turns step (suc n) m = turns step n (turn_by step m.items m)

module _ (kept : List Bool) (macros : Known) where
  -- All items, where arguments may be so many within each other. An argument is read without text behind it.
  unfoldable pub read : ℕ → List Token → Machine → Machine
  read zero source m = turns (stepped kept macros zero (λ v. v) source) (size m) m
  read (suc depth) source m = turns (stepped kept macros (suc depth) (read depth []) source) (size m) m

  -- how arguments are read where they may be so many within each other
  abbrev pub again : ℕ → Machine → Machine
  again zero m = m
  again (suc depth) m = read depth [] m

-- ---- text

-- a use at a token of text, which some tokens follow
abbrev pub use_read : List Bool → Token → List Token → ℕ → State → Machine
use_read kept t i quiet s = read kept s.macros 16 i (fresh t (states.allowed s) (length i) quiet)

abbrev pub noted_behind : Option Note → List Note → State → State
noted_behind before [] s = s
noted_behind before (n ∷ ns) s = noted_behind (Some n) ns (if is_told n before then s else states.told n s)

abbrev pub with_words : List Word → State → State
with_words [] s = s
with_words (w ∷ ws) s = with_words ws (states.pushed w.token s)

-- what a use was expanded to, what it added, and its notes
abbrev pub used : Machine → State → State
used m s = noted_behind None m.notes (states.paid (states.allowed s - m.left) (with_words m.written s))

-- A token of text, which some tokens follow, unless it was an argument: where the text is read on, and what was read.
abbrev pub token_read : List Bool → Token → List Token → Place → State → Place × State
token_read kept t i p s =
    if nat_le p.after (length i) then (p, s)
    else (if is_some (found kept s.macros [] (plain t))
    then (let m = use_read kept t i p.quiet s in (record { after = m.after; quiet = m.quiet }, used m s))
    else (record { after = length i; quiet = p.quiet }, states.pushed t s))

-- text, from a place on
abbrev pub text_from : List Bool → List Token → Place × State → State
text_from kept [] r = r.1
text_from kept (t ∷ i) r = text_from kept i (token_read kept t i r.0 r.1)

-- nothing was read yet: brackets may be looked for
abbrev pub beginning : List Token → Place
beginning ts = record { after = length ts; quiet = length ts }

-- text between directives
abbrev pub text : List Bool → List Token → State → State
text kept ts s = text_from kept ts (beginning ts, s)
