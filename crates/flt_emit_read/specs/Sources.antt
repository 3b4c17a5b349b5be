-- A whole source. This project's own form, the same as `specs/Source.antt` of the emitter has.
use Rattle.std.specs.Prelude.{ℕ, zero, suc, ◌+◌, ◌==◌, Bool, true, false, if◌then◌else◌}
use Rattle.std.specs.Prelude.{List, [], ◌∷◌, ◌++◌, codes, decimal, Option, Some, None}
use Rattle.std.specs.Char.{is_ascii_digit}
use Rattle.std.specs.Str.{bytes_eq}
use Rattle.flt_rules.specs.declared.call.LockKind.{LockKind}
use Rattle.flt_rules.specs.declared.call.LockKind.TheVariants.{Spin, Fast, Push}
use Rattle.flt_rules.specs.Place.{all_operations}
use Rattle.flt_rules.specs.declared.place.Operation.{Operation}
use Rattle.flt_tree.specs.Filter.{head_place, no_span}
use Rattle.flt_rules.specs.Limits.{max_locks, max_callbacks}
use Rattle.flt_tree.specs.Names.{Text}
use Rattle.flt_tree.specs.declared.filter.Callback.{Callback}
use Rattle.flt_tree.specs.declared.filter.Filter.{Filter}
use Rattle.flt_tree.specs.declared.filter.Head.{Head}
use Rattle.flt_tree.specs.declared.filter.Head.TheVariants.{Pre, Post, Canceled, DeferredPre, DeferredPost, Generic}
use Rattle.flt_tree.specs.declared.filter.Lock.{Lock}
use Rattle.flt_tree.specs.declared.filter.Position.{Position}
use Rattle.flt_emit.specs.Callbacks.{prototype, hook}
use Rattle.flt_emit.specs.Fixed as fixed
use Rattle.flt_emit.specs.Names.{operation_word}
use Rattle.flt_emit.specs.Source.{lock_type, framed, helpers}
use Rattle.flt_emit_read.specs.Blocks.{body_at}
use Rattle.flt_emit_read.specs.Front.{Front, ◌>>=◌, or_else, after, one_of, by_form, past_while, number_at, name_at}
use Rattle.flt_emit_read.specs.Lines.{table}
use Rattle.flt_print.specs.Reprinting.{nowhere}

-- ---- locks

abbrev pub all_kinds : List LockKind
all_kinds = Spin ∷ Fast ∷ Push ∷ []

-- a declared lock
unfoldable pub lock_at : Text → Front Lock
lock_at z = do
  kind ← one_of (table lock_type all_kinds) z
  name ← name_at kind.1
  z ← after (codes ";\n") name.1
  Some (record { kind = kind.0; name = name.0 }, z)

-- as many locks at most, behind those found
abbrev pub locks_at : ℕ → List Lock → Text → Front (List Lock)
locks_at zero found z = Some (found, z)
locks_at (suc left) found z = or_else (lock_at z) (λ l. locks_at left (found ++ l.0 ∷ []) l.1) (Some (found, z))

-- whether there is a queue
unfoldable pub queue_at : Text → Front Bool
queue_at z = or_else (after fixed.queue_fields z) (λ rest. Some (true, rest)) (Some (false, z))

-- ---- prototypes

unfoldable pub operation_kind_at : Text → Front Operation
operation_kind_at = one_of (table operation_word all_operations)

-- the event of a callback, and what follows its parameters
unfoldable pub event_at : (Operation → Head) → Text → Text → Front Head
event_at made parameters z = operation_kind_at z >>= λ op. after parameters op.1 >>= λ z. Some (made op.0, z)

-- the name of a routine, and what follows its parameters
unfoldable pub routine_at : (Text → Head) → Text → Text → Front Head
routine_at made parameters z = name_at z >>= λ name. after parameters name.1 >>= λ z. Some (made name.0, z)

-- the head of a callback; a deferred routine has one prototype for both stages, so that it is a pre routine here
unfoldable pub head_at : Text → Front Head
head_at =
    by_form ((fixed.pre_head, event_at Pre fixed.pre_parameters) ∷ (fixed.post_head, event_at Post fixed.post_parameters)
    ∷ (fixed.canceled_prototype, λ z. Some (Canceled, z))
    ∷ (fixed.deferred_head, routine_at DeferredPre fixed.deferred_parameters)
    ∷ (fixed.generic_head, routine_at Generic fixed.generic_parameters) ∷ [])

unfoldable pub prototype_at : Text → Front Head
prototype_at z = after (codes "\n") z >>= λ z. head_at z >>= λ h. after (codes ";\n") h.1 >>= λ z. Some (h.0, z)

-- as many prototypes at most, behind those found
abbrev pub heads_at : ℕ → List Head → Text → Front (List Head)
heads_at zero found z = Some (found, z)
heads_at (suc left) found z = or_else (prototype_at z) (λ h. heads_at left (found ++ h.0 ∷ []) h.1) (Some (found, z))

-- ---- callbacks

-- what follows the next empty line, at the beginning of a line or within it
abbrev pub past_empty : Bool → Text → Option Text
past_empty begins [] = None
past_empty begins (b ∷ z) = if b == 10 then (if begins then Some z else past_empty true z) else past_empty false z

-- the head of a callback by its prototype and its hook, which has the stage of a deferred routine
abbrev pub hooked : Head → Text → Front Head
hooked (DeferredPre name) z =
    or_else (after (hook (DeferredPre name)) z) (λ rest. Some (DeferredPre name, rest))
    (after (hook (DeferredPost name)) z >>= λ rest. Some (DeferredPost name, rest))
hooked h z = after (hook h) z >>= λ rest. Some (h, rest)

-- the callback of a number and a prototype; what it declares is left out
unfoldable pub callback_at : List Lock → ℕ → Head → Text → Front Callback
callback_at locks number h z = do
  z ← after (codes "\n//\n//  Callback ") z
  z ← after (decimal number) z
  z ← after (codes ", line ") z
  z ← after (codes ".\n//\n\n") (past_while is_ascii_digit z)
  z ← after (prototype h) z
  z ← after (codes "\n{\n") z
  z ← past_empty true z
  head ← hooked h z
  z ← after (codes "\n") head.1
  body ← body_at (head_place head.0) locks z
  Some (record { head = head.0; position = nowhere; span = no_span; body = body.0; end = no_span }, body.1)

-- callbacks of these heads, from a number on
abbrev pub callbacks_at : List Lock → ℕ → List Head → Text → Front (List Callback)
callbacks_at locks number [] z = Some ([], z)
callbacks_at locks number (h ∷ hs) z =
    callback_at locks number h z >>= λ c. callbacks_at locks (number + 1) hs c.1 >>= λ cs. Some (c.0 ∷ cs.0, cs.1)

-- ---- a source

abbrev pub queue_of : Bool → Option Position
queue_of true = Some nowhere
queue_of false = None

abbrev pub filter_of : Text → ℕ → List Lock → Bool → List Callback → Filter
filter_of name altitude locks queue callbacks =
    record { name = name; altitude = altitude; locks = locks; queue = queue_of queue; callbacks = callbacks }

-- the filter, if what is left is what stands behind its callbacks
unfoldable pub whole_filter : Filter → Text → Option Filter
whole_filter f z = if bytes_eq z (framed f) then Some f else None

-- the name and the altitude
unfoldable pub title_at : Text → Front (Text × ℕ)
title_at z = do
  z ← after fixed.comment_begin z
  name ← name_at z
  z ← after fixed.source_title name.1
  z ← after name.0 z
  z ← after fixed.altitude_title z
  altitude ← number_at z
  z ← after (codes ".\n") altitude.1
  z ← after fixed.written z
  z ← after (codes "#include \"") z
  z ← after name.0 z
  z ← after (codes "_user.h\"\n") z
  Some ((name.0, altitude.0), z)

-- the filter of a frame, by its callbacks
abbrev pub filter_at : Text → ℕ → List Lock → Bool → List Head → Text → Option Filter
filter_at name altitude locks queue heads z =
    callbacks_at locks 0 heads z >>= λ c. whole_filter (filter_of name altitude locks queue c.0) c.1

-- the filter of a source, without places
unfoldable pub read_back : Text → Option Filter
read_back z = do
  title ← title_at z
  z ← after fixed.contexts title.1
  locks ← locks_at max_locks [] z
  queue ← queue_at locks.1
  z ← after fixed.globals_end queue.1
  heads ← heads_at max_callbacks [] z
  z ← after (helpers queue.0) heads.1
  filter_at title.0.0 title.0.1 locks.0 queue.0 heads.0 z
