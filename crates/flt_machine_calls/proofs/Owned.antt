-- The events of a step are its activation's own, and few.
use Rattle.std.proofs.Common.{refl, ◌==◌, is_some, ◌≡◌, ◌≤◌, ℕ, ◌+◌, Bool, true, false, if◌then◌else◌}
use Rattle.std.proofs.Common.{List, [], ◌∷◌, ◌++◌, length, Option, Some, None, arith}
use Rattle.std.proofs.lemmas.List.{length-append}
use Rattle.flt_rules.specs.declared.call.Anchor.{Anchor}
use Rattle.flt_rules.specs.declared.call.Anchor.TheVariants as anchor
use Rattle.flt_rules.specs.declared.call.Call.{Call}
use Rattle.flt_rules.specs.declared.call.Existing.{Existing}
use Rattle.flt_rules.specs.declared.call.Existing.TheVariants.{Keep, Replace}
use Rattle.flt_tree.specs.declared.filter.Statement.{Statement}
use Rattle.flt_tree.specs.declared.variable.ContextVariable.{ContextVariable}
use Rattle.flt_model.specs.Calls.{needs_of, allocated, cannot_set, got, get_by, kept, set_there}
use Rattle.flt_model.specs.Calls.{set_by, unlinked, delete_by, deleted, referenced, released}
use Rattle.flt_model.specs.Effects.{Step, context, after_unlink, onward, goes_on, unchanged, gives_nothing, uses, empties}
use Rattle.flt_model.specs.Effects.{calling, needing, freed_by_drop, events_of_unlink, gains_context, loses_context}
use Rattle.flt_model.specs.Reads.{read_value_of, write_value_of, read_file_of, test_irp_of}
use Rattle.flt_tree.specs.declared.variable.Atom.{Atom}
use Rattle.flt_tree.specs.declared.variable.NumberVariable.{NumberVariable}
use Rattle.flt_model.specs.declared.parts.Link.{Link}
use Rattle.flt_model.specs.World.{World, Store, context_at, linked_at}
use Rattle.flt_model.specs.declared.event.Event.{Event}
use Rattle.flt_model.specs.declared.event.Event.TheVariants as event
use Rattle.flt_model.specs.declared.event.Object.{Object}
use Rattle.flt_machine_calls.specs.Own.{AreOf, AreOwn}

-- ---- joined lists

pub of_append : (a : ℕ) (xs ys : List Event) → AreOf a xs → AreOf a ys → AreOf a (xs ++ ys)
of_append a [] ys left right = right
of_append a (x ∷ xs) ys left right = (left.0, of_append a xs ys left.1 right)

pub of_uses : (a : ℕ) (needs : List (Option Object)) → AreOf a (uses a needs)
of_uses a [] = tt
of_uses a (None ∷ needs) = of_uses a needs
of_uses a (Some o ∷ needs) = (tt, of_uses a needs)

pub of_empties : (a : ℕ) (needs : List (Option Object)) → AreOf a (empties a needs)
of_empties a [] = tt
of_empties a (None ∷ needs) = (tt, of_empties a needs)
of_empties a (Some o ∷ needs) = of_empties a needs

-- each variable that is needed has one event
pub as_many : (a : ℕ) (needs : List (Option Object)) → length (uses a needs) + length (empties a needs) ≡ length needs
as_many a [] = refl
as_many a (None ∷ needs) = omega (arith, as_many a needs)
as_many a (Some o ∷ needs) = omega (arith, as_many a needs)

-- ---- what steps are made of: events of the activation, no more than so many

abbrev pub AreUpTo : ℕ → ℕ → List Event → Type 0
AreUpTo a n es = AreOf a es × (length es ≤ n)

-- lists of an activation's events are bounded together by the sum of their bounds
pub joined : (a m n : ℕ) (xs ys : List Event) → AreUpTo a m xs → AreUpTo a n ys → AreUpTo a (m + n) (xs ++ ys)
joined a m n xs ys left right = (of_append a xs ys left.0 right.0, omega (arith, length-append xs ys, left.1, right.1))

-- the uses of some needs are as many events as there are needs, at most
pub needs_up_to : (a : ℕ) (needs : List (Option Object)) → AreUpTo a (length needs) (uses a needs ++ empties a needs)
needs_up_to a needs = (
  of_append a (uses a needs) (empties a needs) (of_uses a needs) (of_empties a needs),
  omega (arith, length-append (uses a needs) (empties a needs), as_many a needs),
)

-- an activation's events are its own where there are at most 16
pub own_up_to : (a n : ℕ) (es : List Event) → n ≤ 16 → AreUpTo a n es → AreOwn a es
own_up_to a n es small here = record { of = here.0; few = omega (arith, small, here.1) }

-- a call with few events of its own, few needs and an effect of few events
pub own_call : (w : World) (a : ℕ) (k : Call) (own : List Event) (needs : List (Option Object)) (effect : Step) →
    AreUpTo a 1 own → length needs ≤ 4 → AreUpTo a 8 effect.events → AreOwn a (calling w a k own needs effect).events
own_call w a k own needs effect mine small done =
    let held = needs_up_to a needs in
    let used = joined a 1 (length (uses a needs)) own (uses a needs) mine (of_uses a needs, omega arith) in
    let both = joined a (1 + length (uses a needs)) (length (empties a needs)) (own ++ uses a needs) (empties a needs) used
    (of_empties a needs, omega arith) in
    let all = joined a (1 + length (uses a needs) + length (empties a needs)) 8
    (own ++ uses a needs ++ empties a needs) effect.events both done in
    record { of = (tt, all.0); few = omega (arith, as_many a needs, small, all.1) }

-- the like where it is no call
pub own_read : (w : World) (a : ℕ) (needs : List (Option Object)) (effect : Step) →
    length needs ≤ 4 → AreUpTo a 8 effect.events → AreOwn a (needing w a needs effect).events
own_read w a needs effect small done =
    let all = joined a (length needs) 8 (uses a needs ++ empties a needs) effect.events (needs_up_to a needs) done in
    record { of = all.0; few = omega (arith, small, all.1) }

-- ---- effects

pub freed_up_to : (a : ℕ) (s : Store) (x : ℕ) → AreUpTo a 1 (freed_by_drop s x)
freed_up_to a s x = chosen ((context_at s x).references == 1)
  where
    chosen : (b : Bool) → AreUpTo a 1 (if b then event.Free x ∷ [] else [])
    chosen true = ((tt, tt), omega arith)
    chosen false = (tt, omega arith)

-- a context that is gained is one event, if there is one
pub gains_up_to : (a : ℕ) (x : Option ℕ) → AreUpTo a 1 (gains_context a x)
gains_up_to a None = (tt, omega arith)
gains_up_to a (Some x) = ((refl, tt), omega arith)

-- a context that is lost is one event, if there is one
pub loses_up_to : (a : ℕ) (x : Option ℕ) → AreUpTo a 1 (loses_context a x)
loses_up_to a None = (tt, omega arith)
loses_up_to a (Some x) = ((refl, tt), omega arith)

pub unlink_up_to : (a : ℕ) (s : Store) (x : ℕ) (old : Option ContextVariable) → AreUpTo a 1 (events_of_unlink a s x old)
unlink_up_to a s x None = freed_up_to a s x
unlink_up_to a s x (Some d) = ((refl, tt), omega arith)

-- no events are within every bound
pub none_up_to : (a n : ℕ) → AreUpTo a n []
none_up_to a n = (tt, omega arith)

-- ---- needs of the calls on contexts

-- an anchor and what is given for it need four objects at most
pub needs_few : (on : Anchor) (given : Option ℕ) → length (needs_of on given) ≤ 4
needs_few anchor.Stream given = omega arith
needs_few anchor.Instance given = omega arith

-- an anchor, what is given for it and a context need four objects at most
pub needs_few_more : (on : Anchor) (given x : Option ℕ) → length (context x ∷ needs_of on given) ≤ 4
needs_few_more anchor.Stream given x = omega arith
needs_few_more anchor.Instance given x = omega arith

-- ---- effects of the calls on contexts

module _ (w : World) (a : ℕ) where
  pub got_up_to : (d : ContextVariable) (granted refused : List Statement) (x : Option ℕ) → AreUpTo a 8 (got w a d granted refused x).events
  got_up_to d granted refused None = (tt, omega arith)
  got_up_to d granted refused (Some x) = ((refl, tt), omega arith)

  -- to get a context makes at most eight events
  pub get_up_to : (d : ContextVariable) (granted refused : List Statement) (l : Option Link) →
      AreUpTo a 8 (get_by w a d granted refused l).events
  get_up_to d granted refused None = (tt, omega arith)
  get_up_to d granted refused (Some l) = got_up_to d granted refused (linked_at w.store l)

  kept_up_to : (old : Option ContextVariable) (refused : List Statement) (y : ℕ) → AreUpTo a 8 (kept w a old refused y).events
  kept_up_to None refused y = (tt, omega arith)
  kept_up_to (Some d) refused y = got_up_to d refused refused (Some y)

  more_unlinked : (y : ℕ) (old : Option ContextVariable) → AreUpTo a 8 (events_of_unlink a w.store y old)
  more_unlinked y old = ((unlink_up_to a w.store y old).0, omega (arith, (unlink_up_to a w.store y old).1))

  set_there_up_to : (existing : Existing) (old : Option ContextVariable) (granted refused : List Statement) (x : ℕ)
      (l : Link) (y : Option ℕ) →
      AreUpTo a 8 (set_there w a existing old granted refused x l y).events
  set_there_up_to existing old granted refused x l None = (tt, omega arith)
  set_there_up_to Keep old granted refused x l (Some y) = kept_up_to old refused y
  set_there_up_to Replace old granted refused x l (Some y) = more_unlinked y old

  -- to set a context makes at most eight events
  pub set_up_to : (existing : Existing) (old : Option ContextVariable) (granted refused : List Statement) (x : Option ℕ) (l : Option Link) →
      AreUpTo a 8 (set_by w a existing old granted refused x l).events
  set_up_to existing old granted refused None l = (tt, omega arith)
  set_up_to existing old granted refused (Some x) None = (tt, omega arith)
  set_up_to existing old granted refused (Some x) (Some l) = chosen (cannot_set w a x)
    where
      chosen : (b : Bool) → AreUpTo a 8
          (if b then gives_nothing w a old refused else set_there w a existing old granted refused x l (linked_at w.store l)).events
      chosen true = (tt, omega arith)
      chosen false = set_there_up_to existing old granted refused x l (linked_at w.store l)

  unlinked_up_to : (old : Option ContextVariable) (granted refused : List Statement) (y : Option ℕ) →
      AreUpTo a 8 (unlinked w a old granted refused y).events
  unlinked_up_to old granted refused None = (tt, omega arith)
  unlinked_up_to old granted refused (Some y) = more_unlinked y old

  -- to delete the context at an anchor makes at most eight events
  pub delete_at_up_to : (old : Option ContextVariable) (granted refused : List Statement) (l : Option Link) →
      AreUpTo a 8 (delete_by w a old granted refused l).events
  delete_at_up_to old granted refused None = (tt, omega arith)
  delete_at_up_to old granted refused (Some l) = unlinked_up_to old granted refused (linked_at w.store l)

  -- to delete a context makes at most eight events
  pub deleted_up_to : (rest : List Statement) (x : Option ℕ) → AreUpTo a 8 (deleted w a rest x).events
  deleted_up_to rest None = (tt, omega arith)
  deleted_up_to rest (Some x) = chosen (is_some (context_at w.store x).link)
    where
      chosen : (b : Bool) → AreUpTo a 8
          (if b then goes_on w a (onward w a rest) (after_unlink w.store x None) (freed_by_drop w.store x) else unchanged w a rest).events
      chosen true = more_unlinked x None
      chosen false = (tt, omega arith)

  -- to reference a context makes at most eight events
  pub referenced_up_to : (d : ContextVariable) (rest : List Statement) (x : Option ℕ) → AreUpTo a 8 (referenced w a d rest x).events
  referenced_up_to d rest None = (tt, omega arith)
  referenced_up_to d rest (Some x) = got_up_to d rest rest (Some x)

  -- to release a context makes at most eight events
  pub released_up_to : (rest : List Statement) (x : Option ℕ) → AreUpTo a 8 (released w a rest x).events
  released_up_to rest None = (tt, omega arith)
  released_up_to rest (Some x) = ((refl, (freed_up_to a w.store x).0), omega (arith, (freed_up_to a w.store x).1))

  -- to allocate a context makes at most eight events, granted or refused
  pub allocate_up_to : (d : ContextVariable) (grant : Bool) (granted refused : List Statement) →
      AreUpTo a 8 (if grant then allocated w a d granted (length w.store.contexts) else gives_nothing w a (Some d) refused).events
  allocate_up_to d true granted refused = ((refl, tt), omega arith)
  allocate_up_to d false granted refused = (tt, omega arith)

  -- ---- effects of reads

  -- to read a context's value makes at most eight events
  pub read_value_up_to : (n : NumberVariable) (rest : List Statement) (x : Option ℕ) → AreUpTo a 8 (read_value_of w a n rest x).events
  read_value_up_to n rest None = (tt, omega arith)
  read_value_up_to n rest (Some x) = (tt, omega arith)

  -- to write a context's value makes at most eight events
  pub write_value_up_to : (value : Atom) (rest : List Statement) (x : Option ℕ) → AreUpTo a 8 (write_value_of w a value rest x).events
  write_value_up_to value rest None = (tt, omega arith)
  write_value_up_to value rest (Some x) = (tt, omega arith)

  -- to read an operation's file makes at most eight events
  pub read_file_up_to : (n : NumberVariable) (rest : List Statement) (v : Option ℕ) → AreUpTo a 8 (read_file_of w a n rest v).events
  read_file_up_to n rest None = (tt, omega arith)
  read_file_up_to n rest (Some v) = (tt, omega arith)

  -- to test an operation's mode makes at most eight events
  pub test_irp_up_to : (holds fails : List Statement) (v : Option ℕ) → AreUpTo a 8 (test_irp_of w a holds fails v).events
  test_irp_up_to holds fails None = (tt, omega arith)
  test_irp_up_to holds fails (Some v) = (tt, omega arith)
