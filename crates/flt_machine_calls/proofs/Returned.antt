-- The plan of a `return` that answers for its operation.
use Rattle.std.proofs.Common.{◌≡◌, ◌||◌, ℕ, Bool, true, false, if◌then◌else◌, List, [], ◌∷◌, ◌++◌}
use Rattle.std.proofs.Common.{Option, Some, None, is_some, nat_lt, arith, ap, sym, subst, refl, ◌∙◌}
use Rattle.flt_rules.specs.Place.{answers}
use Rattle.flt_tree.specs.Filter.{named_context}
use Rattle.flt_tree.specs.declared.filter.Filter.{Filter}
use Rattle.flt_tree.specs.declared.filter.Statement.{Statement}
use Rattle.flt_tree.specs.declared.filter.Status.{Status}
use Rattle.flt_tree.specs.declared.variable.OperationVariable.TheVariants.{Data}
use Rattle.flt_machine_frames.specs.Standings.{activation_with}
use Rattle.flt_machine_frames.specs.declared.standing.Standing.{Standing}
use Rattle.flt_model.specs.declared.event.Answer.TheVariants.{Returned}
use Rattle.flt_model.specs.declared.event.Event.{Event}
use Rattle.flt_model.specs.declared.event.Event.TheVariants as event
use Rattle.flt_model.specs.declared.event.Object.TheVariants.{Visit}
use Rattle.flt_model.specs.Effects.{context, loses_context}
use Rattle.flt_model.specs.Returns.{there, returned, returns, ends, visit_given_back}
use Rattle.flt_model.specs.declared.settling.Way.{Way}
use Rattle.flt_model.specs.Settling.{way_of, makes_frame, settles_visit, settled_by}
use Rattle.flt_model.specs.Trace.{is_held, gains, loses}
use Rattle.flt_model.specs.Variables.{operation_in, named_in}
use Rattle.flt_model.specs.World.{World, Store, Actor, Activation, activation_at}
use Rattle.flt_machine_store.specs.declared.change.Change.TheVariants as change
use Rattle.flt_machine_calls.specs.Own.{AreOf, AreOwn}
use Rattle.flt_machine_calls.specs.Plans.{IsCaller, IsCounted, IsPlanned, world_of}
use Rattle.flt_machine_calls.specs.Returning.{IsReturning, status_told, context_told, visit_told}
use Rattle.flt_machine_calls.specs.declared.caller.Caller.{Caller}
use Rattle.flt_machine_calls.specs.declared.settling.Returning.{Returning}
use Rattle.flt_machine_calls.specs.declared.plans.Write.TheVariants as write
use Rattle.flt_machine_calls.proofs.Owned.{AreUpTo, joined, needs_up_to, loses_up_to, own_up_to}

answered_is : (p : List Filter) (t : List Event) (w : World) (a : ℕ) (st : Option Status) (r : Returning) (v : ℕ) (way : Way) →
    IsReturning t w a st r → r.given ≡ Some v → r.answers ≡ true →
    way ≡ way_of p w.store v (Returned st) →
    returns p t w a st ≡ ends p t w a (settled_by w.store v (there r.named) way)
    ((status_told a r.answers st ++ context_told a r.named) ++ visit_given_back p t w a v (there r.named) way)
answered_is p t w a st r v way h is does led =
    rw (led, ← h.answering, ← h.named)
    (ap (λ (b : Bool). returned p t w a st b (operation_in (activation_at w a) Data)) (h.answering ∙ does) ∙
    ap (λ (o : Option ℕ). returned p t w a st true o) (h.given ∙ is))

-- events that tell of the answer, of the visit and of the end are the plan of a return which answers for its operation
pub return_planned : (p : List Filter) (t : List Event) (s : Store) (actors : List Actor) (acts : List Activation) (a : ℕ)
    (st : Option Status) (r : Returning) (v : ℕ) (x : Option ℕ) (way : Way) (es0 es1 es2 es3 : List Event)
    (granted refused : List Statement) →
    IsReturning t (world_of s actors acts) a st r → r.given ≡ Some v → r.answers ≡ true → x ≡ there r.named →
    way ≡ way_of p s v (Returned st) →
    es0 ≡ [] → es1 ≡ es0 ++ (status_told a r.answers st ++ context_told a r.named) →
    es2 ≡ es1 ++ visit_told s a r.held v x way → es3 ≡ es2 ++ event.End a ∷ [] →
    IsPlanned (world_of s actors acts) a (record { events = es3; granted = true; write = write.End; change = change.Settle v x way }) []
    granted refused (returns p t (world_of s actors acts) a st)
return_planned p t s actors acts a st r v x way es0 es1 es2 es3 granted refused h is does its led none one two three =
    rw (its)
    (subst (IsPlanned (world_of s actors acts) a
    (record { events = es3; granted = true; write = write.End; change = change.Settle v (there r.named) way }) [] granted refused)
    (sym (answered_is p t (world_of s actors acts) a st r v way h is does led))
    (record { events = events; world = refl }))
  where
    back : es2 ≡ es1 ++ visit_given_back p t (world_of s actors acts) a v (there r.named) way
    back = two ∙ ap (λ (y : Option ℕ). es1 ++ visit_told s a r.held v y way) its ∙
        ap (λ (b : Bool). es1 ++ visit_told s a b v (there r.named) way) (h.held v is)

    events : es3 ≡ (((status_told a r.answers st ++ context_told a r.named) ++
        visit_given_back p t (world_of s actors acts) a v (there r.named) way) ++ event.End a ∷ [])
    events = rw (three, back, one, none) refl

-- ---- the events are the activation's own

told_up_to : (a : ℕ) (b : Bool) (e : Event) → AreOf a (e ∷ []) → AreUpTo a 1 (if b then e ∷ [] else [])
told_up_to a true e h = (h, omega arith)
told_up_to a false e h = (tt, omega arith)

context_up_to : (a : ℕ) (named : Option (Option ℕ)) → AreUpTo a 1 (context_told a named)
context_up_to a None = (tt, omega arith)
context_up_to a (Some x) = needs_up_to a (context x ∷ [])

lost_up_to : (a : ℕ) (b : Bool) (x : Option ℕ) → AreUpTo a 1 (if b then loses_context a x else [])
lost_up_to a true x = loses_up_to a x
lost_up_to a false x = (tt, omega arith)

visit_up_to : (s : Store) (a : ℕ) (held : Bool) (v : ℕ) (x : Option ℕ) (way : Way) → AreUpTo a 3 (visit_told s a held v x way)
visit_up_to s a held v x way =
    let first = joined a 1 1 (if held then event.Lose a (Visit v) ∷ [] else []) (if makes_frame s v way then loses_context a x else [])
    (told_up_to a held (event.Lose a (Visit v)) (refl, tt)) (lost_up_to a (makes_frame s v way) x) in
    joined a 2 1 ((if held then event.Lose a (Visit v) ∷ [] else []) ++ (if makes_frame s v way then loses_context a x else []))
    (if settles_visit way then event.Settle v ∷ [] else []) first (told_up_to a (settles_visit way) (event.Settle v) (tt, tt))

status_up_to : (a : ℕ) (answers : Bool) (named : Option (Option ℕ)) (st : Option Status) →
    AreUpTo a 2 (status_told a answers st ++ context_told a named)
status_up_to a answers named st =
    joined a 1 1 (status_told a answers st) (context_told a named)
    (told_up_to a (answers || is_some st) (event.Status a (Returned st)) (tt, tt)) (context_up_to a named)

-- where nothing is settled
pub end_own : (a : ℕ) (answers : Bool) (named : Option (Option ℕ)) (st : Option Status) (es0 es1 es2 : List Event) →
    es0 ≡ [] → es1 ≡ es0 ++ (status_told a answers st ++ context_told a named) → es2 ≡ es1 ++ event.End a ∷ [] → AreOwn a es2
end_own a answers named st es0 es1 es2 none one two =
    rw (two, one, none) (own_up_to a 3 ((status_told a answers st ++ context_told a named) ++ event.End a ∷ []) (omega arith)
    (joined a 2 1 (status_told a answers st ++ context_told a named) (event.End a ∷ []) (status_up_to a answers named st)
    ((tt, tt), omega arith)))

-- where a visit is
pub return_own : (s : Store) (a : ℕ) (r : Returning) (st : Option Status) (v : ℕ) (x : Option ℕ) (way : Way)
    (es0 es1 es2 es3 : List Event) →
    es0 ≡ [] → es1 ≡ es0 ++ (status_told a r.answers st ++ context_told a r.named) → es2 ≡ es1 ++ visit_told s a r.held v x way →
    es3 ≡ es2 ++ event.End a ∷ [] → AreOwn a es3
return_own s a r st v x way es0 es1 es2 es3 none one two three =
    let before = joined a 2 3 (status_told a r.answers st ++ context_told a r.named) (visit_told s a r.held v x way)
    (status_up_to a r.answers r.named st) (visit_up_to s a r.held v x way) in
    rw (three, two, one, none) (own_up_to a 6
    (((status_told a r.answers st ++ context_told a r.named) ++ visit_told s a r.held v x way) ++ event.End a ∷ []) (omega arith)
    (joined a 5 1 ((status_told a r.answers st ++ context_told a r.named) ++ visit_told s a r.held v x way) (event.End a ∷ []) before
    ((tt, tt), omega arith)))

-- ---- what is read of the standing is what is read of the activation

held_is : (t : List Event) (a v : ℕ) (s : Standing) (held : Bool) →
    held ≡ nat_lt s.lost s.gained → s.gained ≡ gains t a (Visit v) → s.lost ≡ loses t a (Visit v) → held ≡ is_held t a (Visit v)
unfolding is_held
held_is t a v s held is gained lost = is ∙ rw (gained, lost) refl

-- what a caller's standing says of its place, its operation and its context is what a return reads
pub is_returning : (t : List Event) (s : Store) (c : Caller) (actors : List Actor) (acts : List Activation) (st : Option Status)
    (r : Returning) → IsCaller actors acts c → IsCounted t c.activation c.standing →
    r.answers ≡ answers c.place → r.given ≡ operation_in (activation_with c.standing []) Data →
    r.held ≡ nat_lt c.standing.lost c.standing.gained →
    r.named ≡ named_in (activation_with c.standing []) (named_context st) → IsReturning t (world_of s actors acts) c.activation st r
is_returning t s c actors acts st r h counted does given held named = record {
  answering = ap answers h.place ∙ sym does;
  given = ap (λ (act : Activation). operation_in act Data) h.act ∙ sym given;
  held = λ v is. held_is t c.activation v c.standing r.held held (counted.gained v (sym given ∙ is)) (counted.lost v (sym given ∙ is));
  named = ap (λ (act : Activation). named_in act (named_context st)) h.act ∙ sym named;
}
