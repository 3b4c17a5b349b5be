-- Where a C file and its annotations say different things. This project's own rule.
use Rattle.std.specs.Prelude.{ℕ, Bool, true, false, not, ◌&&◌, ◌||◌, if◌then◌else◌, ◌==◌, List}
use Rattle.std.specs.Prelude.{[], ◌∷◌, ◌++◌, flat_map, Option, Some, None, Result, Ok, Err}
use Rattle.std.specs.List.{list_any}
use Rattle.flt_c.specs.Letters.{letters}
use Rattle.flt_c.specs.declared.files.Flaw.{Flaw}
use Rattle.flt_c.specs.declared.letter.Letter.{Letter}
use Rattle.flt_c_drift.specs.Reading.{marks_of}
use Rattle.flt_c_drift.specs.declared.drift.Drift.{Drift}
use Rattle.flt_c_drift.specs.declared.drift.DriftKind.{DriftKind}
use Rattle.flt_c_drift.specs.declared.drift.DriftKind.TheVariants as drift
use Rattle.flt_c_drift.specs.declared.drift.Span.{Span}
use Rattle.flt_c_drift.specs.declared.mark.Mark.{Mark}
use Rattle.flt_c_drift.specs.declared.mark.MarkKind.{MarkKind}
use Rattle.flt_c_drift.specs.declared.mark.MarkKind.TheVariants as k
use Rattle.flt_c_drift.specs.declared.mark.Take.{Take}

-- ---- what a mark says

-- code has the name of this call
abbrev pub calls : ℕ → MarkKind → Bool
calls call (k.Calls other) = other == call
calls call _ = false

-- an annotation names this call
abbrev pub names : ℕ → MarkKind → Bool
names call (k.Names other) = other == call
names call _ = false

-- an annotation returns this status
abbrev pub answers : ℕ → MarkKind → Bool
answers status (k.Answers other) = other == status
answers status _ = false

-- an entry of a table registers a pre callback of this operation
abbrev pub registers_pre : ℕ → MarkKind → Bool
registers_pre operation (k.RegistersPre other) = other == operation
registers_pre operation _ = false

-- or a post callback
abbrev pub registers_post : ℕ → MarkKind → Bool
registers_post operation (k.RegistersPost other) = other == operation
registers_post operation _ = false

-- an annotation begins a pre callback of this operation
abbrev pub heads_pre : ℕ → MarkKind → Bool
heads_pre operation (k.HeadsPre other) = other == operation
heads_pre operation _ = false

-- or a post callback
abbrev pub heads_post : ℕ → MarkKind → Bool
heads_post operation (k.HeadsPost other) = other == operation
heads_post operation _ = false

-- an entry of a table registers a callback
abbrev pub is_registration : MarkKind → Bool
is_registration (k.RegistersPre operation) = true
is_registration (k.RegistersPost operation) = true
is_registration _ = false

-- an annotation begins a callback
abbrev pub is_head : MarkKind → Bool
is_head (k.HeadsPre operation) = true
is_head (k.HeadsPost operation) = true
is_head _ = false

-- an entry of a table registers a callback of another major function
abbrev pub is_other_registration : MarkKind → Bool
is_other_registration k.RegistersOther = true
is_other_registration _ = false

-- the same lock, or none
abbrev pub same_lock : Option ℕ → Option ℕ → Bool
same_lock None None = true
same_lock (Some lock) (Some other) = lock == other
same_lock _ _ = false

-- an annotation takes or releases this lock by this call
abbrev pub guards : Take → MarkKind → Bool
guards take (k.Guards other) = other.call == take.call && same_lock other.lock take.lock
guards take _ = false

-- or any lock
abbrev pub guards_any : ℕ → MarkKind → Bool
guards_any call (k.Guards other) = other.call == call
guards_any call _ = false

-- a line has an annotation
abbrev pub is_noted : MarkKind → Bool
is_noted k.Noted = true
is_noted _ = false

-- a stretch begins
abbrev pub is_cut : MarkKind → Bool
is_cut k.Cut = true
is_cut _ = false

-- ---- a stretch: some code, and then the annotations about it

-- its code has the name of this call
abbrev pub is_called : ℕ → List Mark → Bool
is_called call stretch = list_any (λ mark. calls call mark.kind) stretch

-- its annotations name this call
abbrev pub is_named : ℕ → List Mark → Bool
is_named call stretch = list_any (λ mark. names call mark.kind) stretch

-- it has an annotation
abbrev pub is_annotated : List Mark → Bool
is_annotated stretch = list_any (λ mark. is_noted mark.kind) stretch

-- its annotations return this status
abbrev pub is_answered : ℕ → List Mark → Bool
is_answered status stretch = list_any (λ mark. answers status mark.kind) stretch

-- the bytes of a return in an annotation
abbrev pub answer_of : Mark → MarkKind → Option Span
answer_of mark (k.Answers status) = Some (record { start = mark.start; length = mark.length })
answer_of mark _ = None

abbrev pub or_else : Option Span → Option Span → Option Span
or_else None second = second
or_else (Some first) second = Some first

-- those of the first
abbrev pub first_answer : List Mark → Option Span
first_answer [] = None
first_answer (mark ∷ marks) = or_else (answer_of mark mark.kind) (first_answer marks)

-- ---- the locks of a stretch

-- the marks of locks that annotations take and release, each call with each lock once, after some of them
abbrev pub with_guard : List Mark → Mark → MarkKind → List Mark
with_guard found mark (k.Guards take) = if list_any (λ other. guards take other.kind) found then found else found ++ (mark ∷ [])
with_guard found mark _ = found

abbrev pub guards_from : List Mark → List Mark → List Mark
guards_from found [] = found
guards_from found (mark ∷ marks) = guards_from (with_guard found mark mark.kind) marks

-- those of a stretch
abbrev pub guards_of : List Mark → List Mark
guards_of stretch = guards_from [] stretch

-- one of them is this call with this lock
abbrev pub is_guarded : Take → List Mark → Bool
is_guarded take marks = list_any (λ mark. guards take mark.kind) marks

-- the bytes of a mark of this call
abbrev pub guard_in : ℕ → Mark → Option Span
guard_in call mark = if guards_any call mark.kind then Some (record { start = mark.start; length = mark.length }) else None

-- those of the first
abbrev pub first_guard : ℕ → List Mark → Option Span
first_guard call [] = None
first_guard call (mark ∷ marks) = or_else (guard_in call mark) (first_guard call marks)

-- ---- the callbacks of a file

-- an entry registers a pre callback of this operation
abbrev pub is_pre_registered : ℕ → List Mark → Bool
is_pre_registered operation all = list_any (λ mark. registers_pre operation mark.kind) all

abbrev pub is_post_registered : ℕ → List Mark → Bool
is_post_registered operation all = list_any (λ mark. registers_post operation mark.kind) all

-- an annotation begins one
abbrev pub is_pre_headed : ℕ → List Mark → Bool
is_pre_headed operation all = list_any (λ mark. heads_pre operation mark.kind) all

abbrev pub is_post_headed : ℕ → List Mark → Bool
is_post_headed operation all = list_any (λ mark. heads_post operation mark.kind) all

-- an entry registers a callback of one of the operations
abbrev pub has_table : List Mark → Bool
has_table all = list_any (λ mark. is_registration mark.kind) all

-- an annotation begins a callback
abbrev pub has_heads : List Mark → Bool
has_heads all = list_any (λ mark. is_head mark.kind) all

-- where the first entry that registers a callback of another major function has its name
abbrev pub other_in : Mark → Option ℕ
other_in mark = if is_other_registration mark.kind then Some mark.start else None

abbrev pub or_start : Option ℕ → Option ℕ → Option ℕ
or_start None second = second
or_start (Some first) second = Some first

abbrev pub first_other : List Mark → Option ℕ
first_other [] = None
first_other (mark ∷ marks) = or_start (other_in mark) (first_other marks)

-- this is there
abbrev pub is_at : Option ℕ → ℕ → Bool
is_at None start = false
is_at (Some first) start = first == start

-- ---- drifts

-- a drift where a mark is
abbrev pub at : DriftKind → Mark → Option Span → List Drift
at kind mark other = record { kind = kind; start = mark.start; length = mark.length; other = other } ∷ []

-- a drift where a mark is, unless this holds
abbrev pub unless : Bool → DriftKind → Mark → List Drift
unless true kind mark = []
unless false kind mark = at kind mark None

-- a return that the annotations don't have, where they have another one
abbrev pub other_status : Mark → Option Span → List Drift
other_status mark None = []
other_status mark (Some other) = at drift.OtherStatus mark (Some other)

-- C03: code returns a status that the stretch's annotations don't return, though they return another one
abbrev pub return_drift : List Mark → Mark → ℕ → List Drift
return_drift stretch mark status = if is_answered status stretch then [] else other_status mark (first_answer stretch)

-- any of some locks of a call, which may be one without an expression
abbrev pub unknown : ℕ → Take
unknown call = record { call = call; lock = None }

abbrev pub other_lock : Mark → Option Span → List Drift
other_lock mark None = []
other_lock mark (Some other) = at drift.OtherLock mark (Some other)

-- C05: code takes or releases a lock by a call with which the annotations name locks, but none of this expression, and each has one
abbrev pub lock_drift : List Mark → Mark → Take → List Drift
lock_drift marks mark take =
    if is_guarded take marks || is_guarded (unknown take.call) marks then [] else other_lock mark (first_guard take.call marks)

-- C04: a callback is registered that no annotation begins, though some begin callbacks; or the other way round, where there is a table. Of
-- the callbacks of other major functions the first is noted
abbrev pub callback_drift : List Mark → Mark → MarkKind → List Drift
callback_drift all mark (k.RegistersPre operation) = unless (is_pre_headed operation all || not (has_heads all)) drift.NotAnnotated mark
callback_drift all mark (k.RegistersPost operation) = unless (is_post_headed operation all || not (has_heads all)) drift.NotAnnotated mark
callback_drift all mark (k.HeadsPre operation) = unless (is_pre_registered operation all || not (has_table all)) drift.NotRegistered mark
callback_drift all mark (k.HeadsPost operation) = unless (is_post_registered operation all || not (has_table all)) drift.NotRegistered mark
callback_drift all mark k.RegistersOther = unless (not (is_at (first_other all) mark.start)) drift.OtherOperation mark
callback_drift all mark _ = []

-- the drift of what a mark of a stretch says, of a file that has all these marks
-- C01: an annotation names a call whose name the stretch's code doesn't have
-- C02: code has the name of a call that the stretch's annotations don't name, though it has some
abbrev pub drift_by : List Mark → List Mark → Mark → MarkKind → List Drift
drift_by all stretch mark (k.Names call) = unless (is_called call stretch) drift.NotCalled mark
drift_by all stretch mark (k.Calls call) = unless (is_named call stretch || not (is_annotated stretch)) drift.NotNamed mark
drift_by all stretch mark (k.Returns status) = return_drift stretch mark status
drift_by all stretch mark (k.Takes take) = lock_drift (guards_of stretch) mark take
drift_by all stretch mark k.Malformed = at drift.Malformed mark None
drift_by all stretch mark kind = callback_drift all mark kind

-- the drifts of some marks of a stretch
abbrev pub drifts_in : List Mark → List Mark → List Mark → List Drift
drifts_in all stretch marks = flat_map (λ mark. drift_by all stretch mark mark.kind) marks

-- those of a stretch
abbrev pub drifts_of : List Mark → List Mark → List Drift
drifts_of all stretch = drifts_in all stretch stretch

-- those of marks that follow some of a stretch
abbrev pub drifts_from : List Mark → List Mark → List Mark → List Drift
drifts_from all stretch [] = drifts_of all stretch
drifts_from all stretch (mark ∷ marks) =
    if is_cut mark.kind then drifts_of all stretch ++ drifts_from all [] marks else drifts_from all (stretch ++ (mark ∷ [])) marks

-- ---- a file

-- the drifts of the marks of a file
abbrev pub drifts_of_marks : List Mark → List Drift
drifts_of_marks all = drifts_from all [] all

-- the drifts of a file's letters, or why it has none
abbrev pub drifts_among : Result (List Letter) Flaw → Result (List Drift) Flaw
drifts_among (Ok found) = Ok (drifts_of_marks (marks_of found))
drifts_among (Err flaw) = Err flaw

-- the drifts of a C file, in order, or why it can't be read
abbrev pub drifts : List ℕ → Result (List Drift) Flaw
drifts file = drifts_among (letters file)
