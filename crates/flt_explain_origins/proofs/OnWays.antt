-- What is so at the end of a way has an origin on it.
use Rattle.std.proofs.Common.{◌≡◌, ◌==◌, ℕ, zero, suc, Bool, true, false, List, [], ◌∷◌, Option}
use Rattle.std.proofs.Common.{Some, None, length, slice_index_or, ap, sym, subst, refl, ◌∙◌}
use Rattle.std.specs.Prelude.{not, is_some, ◌&&◌, ◌||◌, if◌then◌else◌}
use Rattle.std.proofs.lemmas.Bool.{and_parts, and_from, eqb-true, eq-eqb}
use Rattle.std.proofs.lemmas.List.{length-set}
use Rattle.flt_rules.specs.Held.{holds_lock}
use Rattle.flt_rules.specs.Place.{same_mode}
use Rattle.flt_rules.specs.Table.{row}
use Rattle.flt_rules.specs.declared.columns.Effects.{Effects}
use Rattle.flt_rules.specs.declared.place.Mode.{Mode}
use Rattle.flt_rules.specs.declared.place.Mode.TheVariants.{Irp, Fast}
use Rattle.flt_rules.specs.declared.place.Place.{Place}
use Rattle.flt_tree.specs.Variable.{context_place, operation_place}
use Rattle.flt_tree.specs.declared.filter.Action.{Action}
use Rattle.flt_tree.specs.declared.filter.Action.TheVariants as action
use Rattle.flt_tree.specs.declared.variable.OperationVariable.TheVariants.{Removed}
use Rattle.flt_graph.specs.Graph.{place_at, instruction_at}
use Rattle.flt_graph.specs.Instruction.{roles}
use Rattle.flt_graph.specs.Points.{successor}
use Rattle.flt_graph.specs.declared.graph.Graph.{Graph}
use Rattle.flt_graph.specs.declared.instruction.Instruction.{Instruction}
use Rattle.flt_graph.specs.declared.instruction.Instruction.TheVariants as instruction
use Rattle.flt_graph.specs.declared.instruction.Invocation.{Invocation}
use Rattle.flt_abs.specs.Entry.{entry, entry_contexts, entry_operations}
use Rattle.flt_abs.specs.Locks.{are_locks}
use Rattle.flt_abs.specs.Outcome.{context_now, operation_now, left, called, failed, acted, agrees, may_come_out, leaves}
use Rattle.flt_abs.specs.Sets.{StatusSet, ModeSet, DrainingSet, null_alone}
use Rattle.flt_abs.specs.State.{Status, Null, Held, Stale, Situation, State, Means, has_status, have_statuses, has_mode, has_draining}
use Rattle.flt_abs.specs.Variables.{context_in, operation_in}
use Rattle.flt_explain_origins.specs.Ways.{moment, breaks_nothing, next_point, moment_after, is_taken, end_of}
use Rattle.flt_explain_origins.specs.declared.answer.Step.{Step}
use Rattle.flt_explain_origins.specs.declared.situation.Moment.{Moment}
use Rattle.flt_explain_origins.specs.Facts.{same_status, is_so, makes, keeps, IsWhole}
use Rattle.flt_explain_origins.specs.Origins.{has, may_be, is_kept, leads, is_at, is_made_by, is_made, behind}
use Rattle.flt_explain_origins.specs.Origins.{is_origin, last_cause, since, origin, origin_if, HaveOrigins}
use Rattle.flt_explain_origins.specs.declared.facts.Fact.{Fact}
use Rattle.flt_explain_origins.specs.declared.facts.Fact.TheVariants as fact
use Rattle.flt_explain_origins.specs.declared.facts.VariableStatus.{VariableStatus}
use Rattle.flt_explain_origins.specs.declared.facts.VariableStatus.TheVariants as is
use Rattle.flt_explain_origins.specs.declared.origin.Cause.{Cause}
use Rattle.flt_explain_origins.specs.declared.origin.Cause.TheVariants as cause
use Rattle.flt_explain_origins.proofs.HeldLocks.{locks_once}
use Rattle.flt_explain_origins.proofs.Situations.{set_named, context_named, operation_named, length_named, after_call, call_leaves}
use Rattle.flt_explain_origins.proofs.Steps.{made_or_kept}

-- ---- situations stay whole

called_whole : (c : Invocation) (e : Effects) (gives : Bool) (t : Situation) → IsWhole t → IsWhole (called c e gives t)
called_whole c e gives t h = subst IsWhole (sym (call_leaves c e gives t)) whole
  where
    whole : IsWhole (after_call c e gives t)
    whole = record {
      contexts = length_named (context_named c.output) (left e.output gives)
          (set_named (context_named c.context) (left e.context gives) t.contexts)
          ∙ length_named (context_named c.context) (left e.context gives) t.contexts ∙ h.contexts;
      operations = length_named (operation_named c.operation) (left e.operation gives) t.operations ∙ h.operations;
      locks = locks_once c.lock e.lock t.locks h.locks;
    }

failed_whole : (c : Invocation) (effects : Option Effects) (gives : Bool) (t : Situation) → IsWhole t → IsWhole (failed c effects gives t)
failed_whole c (Some e) gives t h = called_whole c e gives t h
failed_whole c None gives t h = h

acted_whole : (a : Action) (t : Situation) → IsWhole t → IsWhole (acted a t)
acted_whole (action.ClearContext c) t h =
    record { contexts = length-set t.contexts (context_place c) Null ∙ h.contexts; operations = h.operations; locks = h.locks }
acted_whole (action.ClearOperation o) t h =
    record
    { contexts = h.contexts; operations = length-set t.operations (operation_place (Removed o)) Null ∙ h.operations; locks = h.locks }
acted_whole (action.SetNumber n a) t h = h
acted_whole (action.ReadValue n c) t h = h
acted_whole (action.ReadFile n d) t h = h
acted_whole (action.WriteValue c a) t h = h

leaves_whole : (i : Instruction) (outcome gives : Bool) (t : Situation) → IsWhole t → IsWhole (leaves i outcome gives t)
leaves_whole (instruction.Act a next) outcome gives t h = acted_whole a t h
leaves_whole (instruction.Call c granted refused) true gives t h = called_whole (roles c) (row (roles c).call).on_ok gives t h
leaves_whole (instruction.Call c granted refused) false gives t h = failed_whole (roles c) (row (roles c).call).on_fail gives t h
leaves_whole (instruction.Test q granted refused) outcome gives t h = h
leaves_whole (instruction.Repeat turns block next) outcome gives t h = h
leaves_whole (instruction.Return status) outcome gives t h = h
leaves_whole instruction.End outcome gives t h = h

-- ---- the entry

as_long : (sets : List StatusSet) (us : List Status) → have_statuses sets us ≡ true → length us ≡ length sets
as_long [] [] h = refl
as_long [] (u ∷ us) h = cc
as_long (s ∷ sets) [] h = cc
as_long (s ∷ sets) (u ∷ us) h = ap suc (as_long sets us (and_parts (has_status s u) (have_statuses sets us) h).1)

-- a situation at the entry is whole
entered_whole : (place : Place) (t : Situation) → Means (entry place) t → IsWhole t
entered_whole place t h =
    record {
      contexts = as_long (entry_contexts place) t.contexts h.contexts;
      operations = as_long (entry_operations place) t.operations h.operations;
      locks = subst (λ hs. are_locks hs ≡ true) h.locks refl;
    }

status_at : (sets : List StatusSet) (us : List Status) (i : ℕ) → have_statuses sets us ≡ true →
    has_status (slice_index_or sets i null_alone) (slice_index_or us i Null) ≡ true
status_at [] [] i h = refl
status_at [] (u ∷ us) i h = cc
status_at (s ∷ sets) [] i h = cc
status_at (s ∷ sets) (u ∷ us) zero h = (and_parts (has_status s u) (have_statuses sets us) h).0
status_at (s ∷ sets) (u ∷ us) (suc i) h = status_at sets us i (and_parts (has_status s u) (have_statuses sets us) h).1

has_same : (s : StatusSet) (v : VariableStatus) (u : Status) → has_status s u ≡ true → same_status v u ≡ true → has s v ≡ true
has_same s is.Null Null h e = h
has_same s is.Null Held h e = cc
has_same s is.Null Stale h e = cc
has_same s is.Held Null h e = cc
has_same s is.Held Held h e = h
has_same s is.Held Stale h e = cc
has_same s is.Stale Null h e = cc
has_same s is.Stale Held h e = cc
has_same s is.Stale Stale h e = h

has_same_mode : (s : ModeSet) (m n : Mode) → has_mode s n ≡ true → same_mode m n ≡ true → has_mode s m ≡ true
has_same_mode s Irp Irp h e = h
has_same_mode s Irp Fast h e = cc
has_same_mode s Fast Irp h e = cc
has_same_mode s Fast Fast h e = h

has_same_answer : (s : DrainingSet) (x b : Bool) → has_draining s x ≡ true → agrees x b ≡ true → has_draining s b ≡ true
has_same_answer s true true h e = h
has_same_answer s true false h e = cc
has_same_answer s false true h e = cc
has_same_answer s false false h e = h

-- what is so in a situation may be so in a state that means it
may_be_so : (x : State) (t : Situation) (f : Fact) → Means x t → is_so f t ≡ true → may_be x f ≡ true
may_be_so x t (fact.Context c s) h so =
    has_same (context_in x c) s (context_now t c) (status_at x.contexts t.contexts (context_place c) h.contexts) so
may_be_so x t (fact.Operation d s) h so =
    has_same (operation_in x d) s (operation_now t d) (status_at x.operations t.operations (operation_place d) h.operations) so
may_be_so x t (fact.Mode m) h so = has_same_mode x.modes m t.mode h.mode so
may_be_so x t (fact.Draining b) h so = has_same_answer x.draining t.draining b h.draining so
may_be_so x t (fact.Lock l b) h so = ap (λ hs. agrees (holds_lock l hs) b) h.locks ∙ so

-- ---- one step

-- what may come out leads on
goes_on : (i : Instruction) (t : Situation) (outcome : Bool) →
    may_come_out i t outcome ≡ true → successor i outcome ≡ Some (next_point i outcome)
goes_on (instruction.Act a next) t outcome e = refl
goes_on (instruction.Call c granted refused) t outcome e = refl
goes_on (instruction.Test q granted refused) t outcome e = refl
goes_on (instruction.Repeat turns block next) t outcome e = refl
goes_on (instruction.Return status) t outcome e = cc
goes_on instruction.End t outcome e = cc

-- a cause makes a fact, and the steps behind it lead as those from a point do
abbrev LeadOn : Graph → ℕ → Fact → Cause → List Step → ℕ → List Step → Type 0
LeadOn g k f c later p steps = (is_made g k f c ≡ true) × (leads g k f (behind g k c) later ≡ leads g k f (Some p) steps)

or_right : (x y : Bool) → x ≡ false → (x || y) ≡ true → y ≡ true
or_right true y e h = cc
or_right false y e h = h

-- the same behind one step more, if the fact is so there
step_on : (g : Graph) (k : ℕ) (f : Fact) (p : ℕ) (t : Situation) (c : Cause) (later : List Step) (s : Step) (rest : List Step) → IsWhole t →
    s.point ≡ p → may_come_out (instruction_at g k p) t s.granted ≡ true → (is_so f t ≡ true → LeadOn g k f c later p (s ∷ rest)) →
    is_so f (leaves (instruction_at g k p) s.granted s.gives t) ≡ true → (b : Bool) → is_made_by g k f s ≡ b →
    LeadOn g k f (if b then cause.Made s else c) (if b then rest else later) (next_point (instruction_at g k p) s.granted) rest
step_on g k f p t c later s rest whole at come before so =
    λ b e. by_made b e
  where
    onward : successor (instruction_at g k s.point) s.granted ≡ Some (next_point (instruction_at g k p) s.granted)
    onward = ap (λ x. successor (instruction_at g k x) s.granted) at ∙ goes_on (instruction_at g k p) t s.granted come

    kept_on : is_kept g k f p s ≡ true → leads g k f (Some p) (s ∷ rest) ≡
        leads g k f (Some (next_point (instruction_at g k p) s.granted)) rest
    kept_on e =
        ap (λ (b : Bool). if b then leads g k f (successor (instruction_at g k s.point) s.granted) rest else None) e
        ∙ ap (λ o. leads g k f o rest) onward

    by_made : (b : Bool) → is_made_by g k f s ≡ b →
        LeadOn g k f (if b then cause.Made s else c) (if b then rest else later) (next_point (instruction_at g k p) s.granted) rest
    by_made true e = (e, ap (λ o. leads g k f o rest) onward)
    by_made false e =
        let i = instruction_at g k p in
        let unmade : makes i s.granted s.gives f ≡ false =
        sym (ap (λ x. makes (instruction_at g k x) s.granted s.gives f) at) ∙ e in
        let both = or_right (makes i s.granted s.gives f) (keeps i s.granted f && is_so f t) unmade
        (made_or_kept i s.granted s.gives f t whole come so) in
        let parts = and_parts (keeps i s.granted f) (is_so f t) both in
        let on = before parts.1 in
        let kept : is_kept g k f p s ≡ true =
        and_from (s.point == p) (keeps (instruction_at g k s.point) s.granted f) (eq-eqb s.point p at)
        (ap (λ x. keeps (instruction_at g k x) s.granted f) at ∙ parts.0) in
        (on.0, on.1 ∙ kept_on kept)

-- ---- a way

at_end : (g : Graph) (k : ℕ) (f : Fact) (p : ℕ) (c : Cause) (later : List Step) → LeadOn g k f c later p [] →
    is_origin g k f p c later ≡ true
at_end g k f p c later on =
    and_from (is_made g k f c) (is_at (leads g k f (behind g k c) later) p) on.0 (ap (λ o. is_at o p) on.1 ∙ eq-eqb p p refl)

along : (g : Graph) (k : ℕ) (clean : Bool) (f : Fact) (steps : List Step) (p : ℕ) (t : Situation) (c : Cause)
    (later : List Step) (m : Moment) →
    IsWhole t → end_of g k clean p t steps ≡ Some m → (is_so f t ≡ true → LeadOn g k f c later p steps) → is_so f m.situation ≡ true →
    is_origin g k f m.point (last_cause g k f c steps) (since g k f later steps) ≡ true
along g k clean f [] p t c later m whole e before so =
    let same : moment p t ≡ m = cc in
    subst (λ (x : Moment). is_origin g k f x.point c later ≡ true) same
    (at_end g k f p c later (before (subst (λ (x : Moment). is_so f x.situation ≡ true) (sym same) so)))
along g k clean f (s ∷ rest) p t c later m whole e before so =
    by_taken (is_taken g k clean p t s) refl e
    (λ x there. along g k clean f rest (next_point (instruction_at g k p) s.granted) (leaves (instruction_at g k p) s.granted s.gives t)
    (if is_made_by g k f s then cause.Made s else c) (if is_made_by g k f s then rest else later) m
    (leaves_whole (instruction_at g k p) s.granted s.gives t whole) x there so)
  where
    -- what is to be shown, once it is shown of the steps behind the first
    by_taken : (b : Bool) → is_taken g k clean p t s ≡ b →
        (if b then end_of g k clean (moment_after g k p t s).point (moment_after g k p t s).situation rest else None) ≡ Some m →
        (end_of g k clean (next_point (instruction_at g k p) s.granted) (leaves (instruction_at g k p) s.granted s.gives t) rest ≡ Some m →
        (is_so f (leaves (instruction_at g k p) s.granted s.gives t) ≡ true →
        LeadOn g k f (if is_made_by g k f s then cause.Made s else c) (if is_made_by g k f s then rest else later)
        (next_point (instruction_at g k p) s.granted) rest) →
        is_origin g k f m.point (last_cause g k f c (s ∷ rest)) (since g k f later (s ∷ rest)) ≡ true) →
        is_origin g k f m.point (last_cause g k f c (s ∷ rest)) (since g k f later (s ∷ rest)) ≡ true
    by_taken false taken x go = cc
    by_taken true taken x go =
        let i = instruction_at g k p in
        let parts = and_parts (s.point == p) ((not clean || breaks_nothing g k p t) && may_come_out i t s.granted) taken in
        let come = (and_parts (not clean || breaks_nothing g k p t) (may_come_out i t s.granted) parts.1).1 in
        go x (λ there. step_on g k f p t c later s rest whole (eqb-true s.point p parts.0) come before there (is_made_by g k f s) refl)

-- whatever is so at the end of a way has an origin on it
pub have_origins : HaveOrigins
have_origins g k clean w f way so =
    let found = along g k clean f w.steps 0 w.start cause.Entry w.steps w.end (entered_whole (place_at g k) w.start way.starts) way.leads
    (λ here. (may_be_so (entry (place_at g k)) w.start f way.starts here, refl)) so in
    ap (λ b. is_some (origin_if b (origin f (last_cause g k f cause.Entry w.steps) (since g k f w.steps w.steps)))) found
