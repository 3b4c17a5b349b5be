-- A routine that is declared once is found at the callback that has its name.
use Rattle.std.proofs.Common.{◌≡◌, ℕ, suc, Bool, true, false, List, [], ◌∷◌, ◌++◌, Some, sym, refl, ◌∙◌, arith}
use Rattle.std.specs.Prelude.{slice_get, ◌||◌}
use Rattle.std.specs.List.{list_any, position_or_len}
use Rattle.std.specs.Str.{bytes_eq}
use Rattle.std.proofs.lemmas.Bool.{and_parts}
use Rattle.std.proofs.lemmas.List.Folds.{list_any-append}
use Rattle.std.proofs.lemmas.Slice.Eq.{bytes_eq-Decides}
use Rattle.flt_rules.specs.declared.place.Place.TheVariants as place
use Rattle.flt_tree.specs.Filter.{head_place, is_named}
use Rattle.flt_tree.specs.Declarations.{has_routine, is_declared, AreNewCallbacks, may_be_pre, may_be_post}
use Rattle.flt_tree.specs.Declarations.{runs_deferred, runs_generic, has_deferred, has_generic}
use Rattle.flt_tree.specs.Names.{Text}
use Rattle.flt_tree.specs.Registered.{routine_of}
use Rattle.flt_tree.specs.declared.filter.Callback.{Callback}
use Rattle.flt_tree.specs.declared.filter.Head.{Head}
use Rattle.flt_tree.specs.declared.filter.Head.TheVariants.{Pre, Post, Canceled, DeferredPre, DeferredPost, Generic}
use Rattle.flt_tree.specs.declared.filter.Routine.{Routine}
use Rattle.flt_graph.specs.Served.{IsRoutine, IsDeferred}

-- ---- names

same_bytes : (a b : Text) → bytes_eq a b ≡ true → a ≡ b
same_bytes a b h = (bytes_eq-Decides a b).0 h

differ : false ≡ true → ⊥
differ e = cc

-- a head of a name is declared where a routine of that name is
declared : (name : Text) (h : Head) (before : List Callback) → is_named name h ≡ true → has_routine name before ≡ true →
    is_declared h before ≡ true
declared name (DeferredPre routine) before h e = rw (same_bytes routine name h) e
declared name (DeferredPost routine) before h e = rw (same_bytes routine name h) e
declared name (Generic routine) before h e = rw (same_bytes routine name h) e
declared name (Pre operation) before h e = absurd (differ h)
declared name (Post operation) before h e = absurd (differ h)
declared name Canceled before h e = absurd (differ h)

or_left : (a b : Bool) → a ≡ true → (a || b) ≡ true
or_left true b e = refl
or_left false b e = absurd (differ e)

or_right : (a b : Bool) → b ≡ true → (a || b) ≡ true
or_right true b e = refl
or_right false b e = e

or_second : (a b : Bool) → (a || b) ≡ true → a ≡ false → b ≡ true
or_second true b e h = absurd (differ (sym h))
or_second false b e h = e

-- what is among some callbacks is among them and one more
has_more : (name : Text) (before : List Callback) (c : Callback) → has_routine name before ≡ true →
    has_routine name (before ++ c ∷ []) ≡ true
has_more name before c e = list_any-append (λ (d : Callback). is_named name d.head) before (c ∷ [])
    ∙ or_left (has_routine name before) (is_named name c.head || false) e

has_last : (name : Text) (before : List Callback) (c : Callback) → is_named name c.head ≡ true → has_routine name (before ++ c ∷ []) ≡ true
has_last name before c e =
    list_any-append (λ (d : Callback). is_named name d.head) before (c ∷ []) ∙
    or_right (has_routine name before) (is_named name c.head || false) (or_left (is_named name c.head) false e)

-- behind a routine of a name no other has it
none_again : (name : Text) (before cs : List Callback) → AreNewCallbacks before cs → has_routine name before ≡ true →
    has_routine name cs ≡ false
none_again name before [] new e = refl
none_again name before (c ∷ cs) new e =
    by (is_named name c.head) refl (none_again name (before ++ c ∷ []) cs new.1 (has_more name before c e))
  where
    by : (b : Bool) → is_named name c.head ≡ b → has_routine name cs ≡ false → (is_named name c.head || has_routine name cs) ≡ false
    by true h rest = absurd (differ (sym new.0 ∙ declared name c.head before h e))
    by false h rest = rw h rest

-- ---- the first of a name

-- the first callback of a name is there and passes a test
record Finds (name : Text) (test : Head → Bool) (cs : List Callback) : Type 0 where
  number : ℕ
  callback : Callback
  first : position_or_len (λ (c : Callback). is_named name c.head) cs ≡ number
  there : slice_get cs number ≡ Some callback
  passes : test callback.head ≡ true

-- a test that only routines of the name pass
abbrev OfName : Text → (Head → Bool) → Type 0
OfName name test = (h : Head) → test h ≡ true → is_named name h ≡ true

-- where a callback passes the test, one has the name
named_among : (name : Text) (test : Head → Bool) → OfName name test → (cs : List Callback) →
    list_any (λ (c : Callback). test c.head) cs ≡ true → has_routine name cs ≡ true
named_among name test named [] e = absurd (differ e)
named_among name test named (c ∷ cs) e =
    by (test c.head) refl (named_among name test named cs)
  where
    by : (b : Bool) → test c.head ≡ b → (list_any (λ (d : Callback). test d.head) cs ≡ true → has_routine name cs ≡ true) →
        (is_named name c.head || has_routine name cs) ≡ true
    by true h rest = or_left (is_named name c.head) (has_routine name cs) (named c.head h)
    by false h rest = or_right (is_named name c.head) (has_routine name cs)
        (rest (or_second (test c.head) (list_any (λ (d : Callback). test d.head) cs) e h))

-- where a callback passes the test among callbacks that are declared once, it is the first of the name
finds : (name : Text) (test : Head → Bool) → OfName name test → (before cs : List Callback) → AreNewCallbacks before cs →
    list_any (λ (c : Callback). test c.head) cs ≡ true → Finds name test cs
finds name test named before [] new e = absurd (differ e)
finds name test named before (c ∷ cs) new e =
    by (is_named name c.head) refl (test c.head) refl (finds name test named (before ++ c ∷ []) cs new.1)
  where
    by : (b : Bool) → is_named name c.head ≡ b → (d : Bool) → test c.head ≡ d →
        (list_any (λ (d : Callback). test d.head) cs ≡ true → Finds name test cs) → Finds name test (c ∷ cs)
    by true h true k rest = record { number = 0; callback = c; first = rw h refl; there = refl; passes = k }
    by true h false k rest =
        let later = named_among name test named cs (or_second (test c.head) (list_any (λ (d : Callback). test d.head) cs) e k) in
        absurd (differ (sym (none_again name (before ++ c ∷ []) cs new.1 (has_last name before c h)) ∙ later))
    by false h true k rest = absurd (differ (sym h ∙ named c.head k))
    by false h false k rest =
        let found = rest (or_second (test c.head) (list_any (λ (d : Callback). test d.head) cs) e k) in
        record {
          number = suc found.number;
          callback = found.callback;
          first = rw (h, found.first) (omega arith);
          there = found.there;
          passes = found.passes;
        }

-- ---- the routines of work items

runs_named : (from : Head) (name : Text) (h : Head) → runs_deferred from name h ≡ true → is_named name h ≡ true
runs_named from name (DeferredPre routine) e = (and_parts (may_be_pre from) (bytes_eq routine name) e).1
runs_named from name (DeferredPost routine) e = (and_parts (may_be_post from) (bytes_eq routine name) e).1
runs_named from name (Generic routine) e = absurd (differ e)
runs_named from name (Pre operation) e = absurd (differ e)
runs_named from name (Post operation) e = absurd (differ e)
runs_named from name Canceled e = absurd (differ e)

generic_named : (name : Text) (h : Head) → runs_generic name h ≡ true → is_named name h ≡ true
generic_named name (Generic routine) e = e
generic_named name (DeferredPre routine) e = absurd (differ e)
generic_named name (DeferredPost routine) e = absurd (differ e)
generic_named name (Pre operation) e = absurd (differ e)
generic_named name (Post operation) e = absurd (differ e)
generic_named name Canceled e = absurd (differ e)

-- a head that a deferred work item of a pre callback may run
from_pre : (name : Text) (operation : _) (h : Head) → runs_deferred (Pre operation) name h ≡ true → head_place h ≡ place.DeferredPre
from_pre name operation (DeferredPre routine) e = refl
from_pre name operation (DeferredPost routine) e = absurd (differ e)
from_pre name operation (Generic routine) e = absurd (differ e)
from_pre name operation (Pre other) e = absurd (differ e)
from_pre name operation (Post other) e = absurd (differ e)
from_pre name operation Canceled e = absurd (differ e)

from_post : (name : Text) (operation : _) (h : Head) → runs_deferred (Post operation) name h ≡ true → head_place h ≡ place.DeferredPost
from_post name operation (DeferredPost routine) e = refl
from_post name operation (DeferredPre routine) e = absurd (differ e)
from_post name operation (Generic routine) e = absurd (differ e)
from_post name operation (Pre other) e = absurd (differ e)
from_post name operation (Post other) e = absurd (differ e)
from_post name operation Canceled e = absurd (differ e)

generic_place : (name : Text) (h : Head) → runs_generic name h ≡ true → head_place h ≡ place.Generic
generic_place name (Generic routine) e = refl
generic_place name (DeferredPre routine) e = absurd (differ e)
generic_place name (DeferredPost routine) e = absurd (differ e)
generic_place name (Pre operation) e = absurd (differ e)
generic_place name (Post operation) e = absurd (differ e)
generic_place name Canceled e = absurd (differ e)

routine_there : (cs : List Callback) (r : Routine) (at : _) (test : Head → Bool) → (f : Finds r.name test cs) →
    head_place f.callback.head ≡ at → IsRoutine cs at (Some (routine_of cs r))
routine_there cs r at test f e =
    rw f.first (f.callback, (f.there, e))

-- a deferred work item's routine is there, of the kind that goes on with the operation
pub deferred_there : (cs : List Callback) (from : Head) (r : Routine) → AreNewCallbacks [] cs →
    has_deferred from r.name cs ≡ true → IsDeferred cs (head_place from) (Some (routine_of cs r))
deferred_there cs (Pre operation) r new e =
    let f = finds r.name (runs_deferred (Pre operation) r.name) (runs_named (Pre operation) r.name) [] cs new e in
    routine_there cs r place.DeferredPre (runs_deferred (Pre operation) r.name) f (from_pre r.name operation f.callback.head f.passes)
deferred_there cs (Post operation) r new e =
    let f = finds r.name (runs_deferred (Post operation) r.name) (runs_named (Post operation) r.name) [] cs new e in
    routine_there cs r place.DeferredPost (runs_deferred (Post operation) r.name) f (from_post r.name operation f.callback.head f.passes)
deferred_there cs Canceled r new e = tt
deferred_there cs (DeferredPre routine) r new e = tt
deferred_there cs (DeferredPost routine) r new e = tt
deferred_there cs (Generic routine) r new e = tt

-- a generic work item's routine is there
pub generic_there : (cs : List Callback) (r : Routine) → AreNewCallbacks [] cs → has_generic r.name cs ≡ true →
    IsRoutine cs place.Generic (Some (routine_of cs r))
generic_there cs r new e =
    let f = finds r.name (runs_generic r.name) (generic_named r.name) [] cs new e in
    routine_there cs r place.Generic (runs_generic r.name) f (generic_place r.name f.callback.head f.passes)
