-- Changes after which nothing gets a ticket, kind by kind.
use Rattle.std.proofs.Common.{◌≡◌, ℕ, ◌+◌, Bool, true, false, List, [], ◌∷◌, ◌++◌, Option, Some}
use Rattle.std.proofs.Common.{None, length, drop, if◌then◌else◌, ap, sym, refl, ◌∙◌, inl, inr}
use Rattle.std.proofs.Math.ListN.{set, get_or, get_or-append}
use Rattle.std.proofs.lemmas.Bool.{cases_lt}
use Rattle.std.proofs.lemmas.List.{get_or_past, length-set}
use Rattle.std.specs.List.{list_any}
use Rattle.flt_rules.specs.declared.place.Mode.{Mode}
use Rattle.flt_rules.specs.declared.place.Operation.{Operation}
use Rattle.flt_tree.specs.declared.variable.ContextVariable.{ContextVariable}
use Rattle.flt_model.specs.declared.subject.Subject.TheVariants as subject
use Rattle.flt_model.specs.Calls.{put_link}
use Rattle.flt_model.specs.Effects.{after_unlink}
use Rattle.flt_model.specs.Moves.{carried_out, is_entry_of, other_entries, without_last, other_frames}
use Rattle.flt_model.specs.Settling as settling
use Rattle.flt_model.specs.declared.settling.Way.{Way}
use Rattle.flt_model.specs.declared.settling.Way.TheVariants.{Passes, Frames, Ends, Rises, Stays}
use Rattle.flt_model.specs.declared.parts.Arrival.{Arrival}
use Rattle.flt_model.specs.declared.parts.Entry.{Entry}
use Rattle.flt_model.specs.declared.parts.Position.TheVariants.{Down, Visiting}
use Rattle.flt_model.specs.declared.parts.Presence.{Presence}
use Rattle.flt_model.specs.declared.parts.Presence.TheVariants.{Detached}
use Rattle.flt_model.specs.World.{Store, Context, Route, context_at, is_detaching}
use Rattle.flt_model.specs.World.{is_freed, no_route, presence_at, queue_at, route_at, visit_at, with_context, with_route}
use Rattle.flt_machine_store.specs.Changes.{after_change}
use Rattle.flt_machine_store.specs.declared.change.Change.{Change}
use Rattle.flt_machine_store.specs.declared.change.Change.TheVariants as change
use Rattle.flt_machine.specs.Tickets.{newcomer, goes_on, operations, entries_of, teardown_of, by_altitude}
use Rattle.flt_machine.proofs.Passing.{newcomer_none}
use Rattle.flt_machine.proofs.Quiet.{at_set, stays, into_visit, no_operation, same_operations}
use Rattle.flt_machine.proofs.Quiet.{same_entries, no_teardown, any_rest, any_other}

-- ---- parts of a store that are the same

-- what is so of each of two stores is so of one of them
either : (P : Store → Type 0) (b : Bool) (s t : Store) → P s → P t → P (if b then s else t)
either P true s t one other = one
either P false s t one other = other

unlinked : (P : Store → Type 0) (s : Store) (y : ℕ) (old : Option ContextVariable) →
    ((contexts : List Context) → P (record s { contexts = contexts })) → P (after_unlink s y old)
unlinked P s y None so = so _
unlinked P s y (Some d) so = so _

-- ---- operations

-- an operation that gets another route and stays where it is, or comes into a visit
rerouted : (s t : Store) (o : ℕ) (r : Route) → t.routes ≡ set s.routes o r → t.arrivals ≡ s.arrivals →
    goes_on (route_at s o).position r.position ≡ false → operations s t ≡ []
rerouted s t o r routes arrivals stands =
    no_operation s t (λ k.
    ap (λ (l : List Route). goes_on (route_at s k).position (get_or l k no_route).position) routes ∙
    at_set (λ (x : Route). goes_on (route_at s k).position x.position ≡ false) s.routes o k r no_route
    (λ same. ap (λ (j : ℕ). goes_on (route_at s j).position r.position) same ∙ stands) (stays (route_at s k).position))
    (ap (λ (l : List Arrival). length l) arrivals)

-- no operation gets a ticket
pub quiet_operations : (s : Store) (c : Change) →
    ((kind : Operation) (mode : Mode) (file : ℕ) → c ≡ change.Arrive kind mode file → ⊥) → ((o f : ℕ) → c ≡ change.Skip o f → ⊥) →
    ((o : ℕ) → c ≡ change.Lower o → ⊥) → ((v : ℕ) (x : Option ℕ) (way : Way) → c ≡ change.Settle v x way → ⊥) →
    operations s (after_change s c) ≡ []
quiet_operations s change.Nothing arrives skips lowers settles = same_operations s (after_change s change.Nothing) refl refl
quiet_operations s (change.Allocate owner) arrives skips lowers settles =
    same_operations s (after_change s (change.Allocate owner)) refl refl
quiet_operations s (change.AddReference x) arrives skips lowers settles =
    same_operations s (after_change s (change.AddReference x)) refl refl
quiet_operations s (change.DropReference x) arrives skips lowers settles =
    same_operations s (after_change s (change.DropReference x)) refl refl
quiet_operations s (change.Write x value) arrives skips lowers settles =
    either (λ (t : Store). operations s t ≡ []) (is_freed (context_at s x)) s (with_context s x (record (context_at s x) { value = value }))
    (same_operations s s refl refl) (same_operations s (with_context s x (record (context_at s x) { value = value })) refl refl)
quiet_operations s (change.Link x f k None old) arrives skips lowers settles =
    same_operations s (after_change s (change.Link x f k None old)) refl refl
quiet_operations s (change.Link x f k (Some y) old) arrives skips lowers settles =
    unlinked (λ (t : Store). (contexts : List Context) → operations s (record t { contexts = contexts }) ≡ []) s y old (λ cs ds.
    same_operations s (record s { contexts = ds }) refl refl) (put_link (after_unlink s y old) x (record { filter = f; key = k })).contexts
quiet_operations s (change.Unlink x old) arrives skips lowers settles =
    unlinked (λ (t : Store). operations s t ≡ []) s x old (λ cs. same_operations s (record s { contexts = cs }) refl refl)
quiet_operations s (change.TakeLock f l a access) arrives skips lowers settles =
    same_operations s (after_change s (change.TakeLock f l a access)) refl refl
quiet_operations s (change.GiveUpLock f l a) arrives skips lowers settles =
    same_operations s (after_change s (change.GiveUpLock f l a)) refl refl
quiet_operations s (change.Insert f v x) arrives skips lowers settles = same_operations s (after_change s (change.Insert f v x)) refl refl
quiet_operations s (change.RemoveNext f) arrives skips lowers settles = same_operations s (after_change s (change.RemoveNext f)) refl refl
quiet_operations s (change.RemoveOf f o v) arrives skips lowers settles =
    same_operations s (after_change s (change.RemoveOf f o v)) refl refl
quiet_operations s (change.Queue f r v x) arrives skips lowers settles = same_operations s (after_change s (change.Queue f r v x)) refl refl
quiet_operations s (change.Start i) arrives skips lowers settles = same_operations s (after_change s (change.Start i)) refl refl
quiet_operations s (change.Settle v x way) arrives skips lowers settles = absurd (settles v x way refl)
quiet_operations s (change.Arrive kind mode file) arrives skips lowers settles = absurd (arrives kind mode file refl)
quiet_operations s (change.StartPre o f) arrives skips lowers settles = rerouted s (after_change s (change.StartPre o f)) o
    (record (route_at s o) { position = Visiting }) refl refl (into_visit (route_at s o).position)
quiet_operations s (change.Skip o f) arrives skips lowers settles = absurd (skips o f refl)
quiet_operations s (change.Lower o) arrives skips lowers settles = absurd (lowers o refl)
quiet_operations s (change.StartPost o f x) arrives skips lowers settles =
    rerouted s (after_change s (change.StartPost o f x)) o
    (record (route_at s o) { position = Visiting; frames = without_last (route_at s o).frames }) refl refl
    (into_visit (route_at s o).position)
quiet_operations s (change.StartDraining o f x) arrives skips lowers settles =
    rerouted s (after_change s (change.StartDraining o f x)) o
    (record (route_at s o) { frames = other_frames f (route_at s o).frames }) refl refl (stays (route_at s o).position)
quiet_operations s (change.Cancel o) arrives skips lowers settles =
    rerouted s (after_change s (change.Cancel o)) o (record (route_at s o) { cancelled = true }) refl refl (stays (route_at s o).position)
quiet_operations s (change.Detach f) arrives skips lowers settles = same_operations s (after_change s (change.Detach f)) refl refl
quiet_operations s (change.Finish f) arrives skips lowers settles = same_operations s (after_change s (change.Finish f)) refl refl

-- ---- work items

-- none comes
pub quiet_items : (s : Store) (c : Change) → ((f r : ℕ) (v x : Option ℕ) → c ≡ change.Queue f r v x → ⊥) →
    newcomer subject.Item (length s.items) (length (after_change s c).items) ≡ []
quiet_items s change.Nothing queues = newcomer_none subject.Item (length s.items) (length (after_change s change.Nothing).items) refl
quiet_items s (change.Allocate owner) queues =
    newcomer_none subject.Item (length s.items) (length (after_change s (change.Allocate owner)).items) refl
quiet_items s (change.AddReference x) queues =
    newcomer_none subject.Item (length s.items) (length (after_change s (change.AddReference x)).items) refl
quiet_items s (change.DropReference x) queues =
    newcomer_none subject.Item (length s.items) (length (after_change s (change.DropReference x)).items) refl
quiet_items s (change.Write x value) queues =
    newcomer_none subject.Item (length s.items) (length (after_change s (change.Write x value)).items)
    (either (λ (t : Store). length t.items ≡ length s.items) (is_freed (context_at s x)) s
    (with_context s x (record (context_at s x) { value = value })) refl refl)
quiet_items s (change.Link x f k None old) queues =
    newcomer_none subject.Item (length s.items) (length (after_change s (change.Link x f k None old)).items) refl
quiet_items s (change.Link x f k (Some y) old) queues =
    newcomer_none subject.Item (length s.items) (length (after_change s (change.Link x f k (Some y) old)).items)
    (unlinked (λ (t : Store). length t.items ≡ length s.items) s y old (λ cs. refl))
quiet_items s (change.Unlink x old) queues = newcomer_none subject.Item (length s.items)
    (length (after_change s (change.Unlink x old)).items) (unlinked (λ (t : Store). length t.items ≡ length s.items) s x old (λ cs. refl))
quiet_items s (change.TakeLock f l a access) queues =
    newcomer_none subject.Item (length s.items) (length (after_change s (change.TakeLock f l a access)).items) refl
quiet_items s (change.GiveUpLock f l a) queues =
    newcomer_none subject.Item (length s.items) (length (after_change s (change.GiveUpLock f l a)).items) refl
quiet_items s (change.Insert f v x) queues =
    newcomer_none subject.Item (length s.items) (length (after_change s (change.Insert f v x)).items) refl
quiet_items s (change.RemoveNext f) queues =
    newcomer_none subject.Item (length s.items) (length (after_change s (change.RemoveNext f)).items) refl
quiet_items s (change.RemoveOf f o v) queues =
    newcomer_none subject.Item (length s.items) (length (after_change s (change.RemoveOf f o v)).items) refl
quiet_items s (change.Queue f r v x) queues = absurd (queues f r v x refl)
quiet_items s (change.Start i) queues =
    newcomer_none subject.Item (length s.items) (length (after_change s (change.Start i)).items) (length-set s.items i None)
quiet_items s (change.Settle v x way) queues =
    newcomer_none subject.Item (length s.items) (length (after_change s (change.Settle v x way)).items)
    (either (λ (t : Store). length t.items ≡ length s.items) (settling.settles_visit way)
    (record (settling.lead s v x way) { settled = set (settling.lead s v x way).settled v true }) s
    (either (λ (t : Store). length t.items ≡ length s.items) (settling.is_led s v) (with_route s (visit_at s v).operation
    (settling.led (visit_at s v).filter x way (route_at s (visit_at s v).operation))) s refl refl) refl)
quiet_items s (change.Arrive kind mode file) queues =
    newcomer_none subject.Item (length s.items) (length (after_change s (change.Arrive kind mode file)).items) refl
quiet_items s (change.StartPre o f) queues =
    newcomer_none subject.Item (length s.items) (length (after_change s (change.StartPre o f)).items) refl
quiet_items s (change.Skip o f) queues = newcomer_none subject.Item (length s.items) (length (after_change s (change.Skip o f)).items) refl
quiet_items s (change.Lower o) queues = newcomer_none subject.Item (length s.items) (length (after_change s (change.Lower o)).items) refl
quiet_items s (change.StartPost o f x) queues =
    newcomer_none subject.Item (length s.items) (length (after_change s (change.StartPost o f x)).items) refl
quiet_items s (change.StartDraining o f x) queues =
    newcomer_none subject.Item (length s.items) (length (after_change s (change.StartDraining o f x)).items) refl
quiet_items s (change.Cancel o) queues = newcomer_none subject.Item (length s.items) (length (after_change s (change.Cancel o)).items) refl
quiet_items s (change.Detach f) queues = newcomer_none subject.Item (length s.items) (length (after_change s (change.Detach f)).items) refl
quiet_items s (change.Finish f) queues = newcomer_none subject.Item (length s.items) (length (after_change s (change.Finish f)).items) refl

-- ---- entries

-- an operation that gets another route, and is cancelled only if it was
uncancelled : (s : Store) (o k : ℕ) (r : Route) → (r.cancelled ≡ true → (route_at s o).cancelled ≡ true) →
    (get_or (set s.routes o r) k no_route).cancelled ≡ true → (route_at s k).cancelled ≡ true
uncancelled s o k r so =
    at_set (λ (x : Route). x.cancelled ≡ true → (route_at s k).cancelled ≡ true) s.routes o k r no_route
    (λ same is. ap (λ (j : ℕ). (route_at s j).cancelled) same ∙ so is) (λ is. is)

led_cancelled : (f : ℕ) (x : Option ℕ) (way : Way) (r : Route) → (settling.led f x way r).cancelled ≡ r.cancelled
led_cancelled f x Passes r = refl
led_cancelled f x Frames r = refl
led_cancelled f x (Ends outcome) r = refl
led_cancelled f x Rises r = refl
led_cancelled f x Stays r = refl

-- the routes after a visit is settled
settled_cancelled : (s : Store) (v k : ℕ) (x : Option ℕ) (way : Way) →
    (route_at (settling.settled_by s v x way) k).cancelled ≡ true → (route_at s k).cancelled ≡ true
settled_cancelled s v k x way =
    either (λ (t : Store). (route_at t k).cancelled ≡ true → (route_at s k).cancelled ≡ true) (settling.settles_visit way)
    (record (settling.lead s v x way) { settled = set (settling.lead s v x way).settled v true }) s
    (either (λ (t : Store). (route_at t k).cancelled ≡ true → (route_at s k).cancelled ≡ true) (settling.is_led s v)
    (with_route s (visit_at s v).operation (settling.led (visit_at s v).filter x way (route_at s (visit_at s v).operation))) s
    (uncancelled s (visit_at s v).operation k (settling.led (visit_at s v).filter x way (route_at s (visit_at s v).operation))
    (λ is. sym (led_cancelled (visit_at s v).filter x way (route_at s (visit_at s v).operation)) ∙ is)) (λ is. is)) (λ is. is)

settled_presences : (s : Store) (v : ℕ) (x : Option ℕ) (way : Way) → (settling.settled_by s v x way).presences ≡ s.presences
settled_presences s v x way =
    either (λ (t : Store). t.presences ≡ s.presences) (settling.settles_visit way)
    (record (settling.lead s v x way) { settled = set (settling.lead s v x way).settled v true }) s
    (either (λ (t : Store). t.presences ≡ s.presences) (settling.is_led s v)
    (with_route s (visit_at s v).operation (settling.led (visit_at s v).filter x way (route_at s (visit_at s v).operation))) s
    refl refl) refl

settled_queues : (s : Store) (v : ℕ) (x : Option ℕ) (way : Way) → (settling.settled_by s v x way).queues ≡ s.queues
settled_queues s v x way =
    either (λ (t : Store). t.queues ≡ s.queues) (settling.settles_visit way)
    (record (settling.lead s v x way) { settled = set (settling.lead s v x way).settled v true }) s
    (either (λ (t : Store). t.queues ≡ s.queues) (settling.is_led s v)
    (with_route s (visit_at s v).operation (settling.led (visit_at s v).filter x way (route_at s (visit_at s v).operation))) s
    refl refl) refl

-- one that arrives isn't cancelled
arriving : (routes : List Route) (r : Route) (k : ℕ) →
    r.cancelled ≡ false → (get_or (routes ++ r ∷ []) k no_route).cancelled ≡ true → (get_or routes k no_route).cancelled ≡ true
arriving routes r k fresh is = elim (cases_lt k (length routes)) [
  | inl less ↦ ap (λ (x : Route). x.cancelled) (sym (get_or-append routes (r ∷ []) no_route k less)) ∙ is
  | inr past ↦ ap (λ (x : Route). x.cancelled) (get_or_past routes k no_route past)
]

fewer : (s : Store) (f g k : ℕ) (queue : List Entry) →
    (list_any (is_entry_of s k) queue ≡ true → list_any (is_entry_of s k) (queue_at s f) ≡ true) →
    list_any (is_entry_of s k) (get_or (set s.queues f queue) g []) ≡ true → list_any (is_entry_of s k) (queue_at s g) ≡ true
fewer s f g k queue so =
    at_set (λ (q : List Entry). list_any (is_entry_of s k) q ≡ true →
    list_any (is_entry_of s k) (queue_at s g) ≡ true) s.queues f g queue []
    (λ same is. ap (λ (h : ℕ). list_any (is_entry_of s k) (queue_at s h)) same ∙ so is) (λ is. is)

finished : (s : Store) (f g : ℕ) → is_detaching (get_or (set s.presences f Detached) g Detached) ≡ true →
    is_detaching (presence_at s g) ≡ true
finished s f g =
    at_set (λ (p : Presence). is_detaching p ≡ true → is_detaching (presence_at s g) ≡ true) s.presences f g Detached Detached
    (λ same is. absurd (cc)) (λ is. is)

-- no entry comes to wait
pub quiet_entries : (s : Store) (c : Change) (altitudes : List ℕ) → ((o : ℕ) → c ≡ change.Cancel o → ⊥) →
    ((f v : ℕ) (x : Option ℕ) → c ≡ change.Insert f v x → ⊥) →
    ((f : ℕ) → c ≡ change.Detach f → ⊥) → by_altitude (entries_of s (after_change s c)) 0 altitudes ≡ []
quiet_entries s change.Nothing altitudes cancels inserts detaches =
    same_entries s (after_change s change.Nothing) altitudes (λ o is. is) (λ f is. is) (λ f o is. is)
quiet_entries s (change.Allocate owner) altitudes cancels inserts detaches =
    same_entries s (after_change s (change.Allocate owner)) altitudes (λ o is. is) (λ f is. is) (λ f o is. is)
quiet_entries s (change.AddReference x) altitudes cancels inserts detaches =
    same_entries s (after_change s (change.AddReference x)) altitudes (λ o is. is) (λ f is. is) (λ f o is. is)
quiet_entries s (change.DropReference x) altitudes cancels inserts detaches =
    same_entries s (after_change s (change.DropReference x)) altitudes (λ o is. is) (λ f is. is) (λ f o is. is)
quiet_entries s (change.Write x value) altitudes cancels inserts detaches =
    either (λ (t : Store). by_altitude (entries_of s t) 0 altitudes ≡ []) (is_freed (context_at s x)) s
    (with_context s x (record (context_at s x) { value = value })) (same_entries s s altitudes (λ o is. is) (λ f is. is) (λ f o is. is))
    (same_entries s (with_context s x (record (context_at s x) { value = value })) altitudes (λ o is. is) (λ f is. is) (λ f o is. is))
quiet_entries s (change.Link x f k None old) altitudes cancels inserts detaches =
    same_entries s (after_change s (change.Link x f k None old)) altitudes (λ o is. is) (λ f is. is) (λ f o is. is)
quiet_entries s (change.Link x f k (Some y) old) altitudes cancels inserts detaches =
    unlinked (λ (t : Store). (contexts : List Context) →
    by_altitude (entries_of s (record t { contexts = contexts })) 0 altitudes ≡ []) s y old
    (λ cs ds. same_entries s (record s { contexts = ds }) altitudes (λ o is. is) (λ f is. is) (λ f o is. is))
    (put_link (after_unlink s y old) x (record { filter = f; key = k })).contexts
quiet_entries s (change.Unlink x old) altitudes cancels inserts detaches =
    unlinked (λ (t : Store). by_altitude (entries_of s t) 0 altitudes ≡ []) s x old
    (λ cs. same_entries s (record s { contexts = cs }) altitudes (λ o is. is) (λ f is. is) (λ f o is. is))
quiet_entries s (change.TakeLock f l a access) altitudes cancels inserts detaches =
    same_entries s (after_change s (change.TakeLock f l a access)) altitudes (λ o is. is) (λ f is. is) (λ f o is. is)
quiet_entries s (change.GiveUpLock f l a) altitudes cancels inserts detaches =
    same_entries s (after_change s (change.GiveUpLock f l a)) altitudes (λ o is. is) (λ f is. is) (λ f o is. is)
quiet_entries s (change.Insert f v x) altitudes cancels inserts detaches = absurd (inserts f v x refl)
quiet_entries s (change.RemoveNext f) altitudes cancels inserts detaches =
    same_entries s (after_change s (change.RemoveNext f)) altitudes (λ o is. is) (λ f is. is)
    (λ g k. fewer s f g k (drop 1 (queue_at s f)) (any_rest (is_entry_of s k) (queue_at s f)))
quiet_entries s (change.RemoveOf f o v) altitudes cancels inserts detaches =
    same_entries s (after_change s (change.RemoveOf f o v)) altitudes (λ k is. is) (λ g is. is)
    (λ g k. fewer s f g k (other_entries s o (queue_at s f)) (any_other s o (is_entry_of s k) (queue_at s f)))
quiet_entries s (change.Queue f r v x) altitudes cancels inserts detaches =
    same_entries s (after_change s (change.Queue f r v x)) altitudes (λ o is. is) (λ f is. is) (λ f o is. is)
quiet_entries s (change.Start i) altitudes cancels inserts detaches =
    same_entries s (after_change s (change.Start i)) altitudes (λ o is. is) (λ f is. is) (λ f o is. is)
quiet_entries s (change.Settle v x way) altitudes cancels inserts detaches =
    same_entries s (after_change s (change.Settle v x way)) altitudes (λ k. settled_cancelled s v k x way)
    (λ f is. ap (λ (l : List Presence). is_detaching (get_or l f Detached)) (sym (settled_presences s v x way)) ∙ is)
    (λ f k is. ap (λ (l : List (List Entry)). list_any (is_entry_of s k) (get_or l f [])) (sym (settled_queues s v x way)) ∙ is)
quiet_entries s (change.Arrive kind mode file) altitudes cancels inserts detaches =
    same_entries s (after_change s (change.Arrive kind mode file)) altitudes (λ k. arriving s.routes
    (record { position = Down 0; frames = []; cancelled = false; outcome = None }) k refl) (λ f is. is) (λ f k is. is)
quiet_entries s (change.StartPre o f) altitudes cancels inserts detaches = same_entries s (after_change s (change.StartPre o f)) altitudes
    (λ k. uncancelled s o k (record (route_at s o) { position = Visiting }) (λ is. is)) (λ g is. is) (λ g k is. is)
quiet_entries s (change.Skip o f) altitudes cancels inserts detaches = same_entries s (after_change s (change.Skip o f)) altitudes
    (λ k. uncancelled s o k (record (route_at s o) { position = Down (f + 1) }) (λ is. is)) (λ g is. is) (λ g k is. is)
quiet_entries s (change.Lower o) altitudes cancels inserts detaches = same_entries s (after_change s (change.Lower o)) altitudes
    (λ k. uncancelled s o k (carried_out (route_at s o)) (λ is. is)) (λ g is. is) (λ g k is. is)
quiet_entries s (change.StartPost o f x) altitudes cancels inserts detaches =
    same_entries s (after_change s (change.StartPost o f x)) altitudes (λ k. uncancelled s o k
    (record (route_at s o) { position = Visiting; frames = without_last (route_at s o).frames }) (λ is. is)) (λ g is. is) (λ g k is. is)
quiet_entries s (change.StartDraining o f x) altitudes cancels inserts detaches =
    same_entries s (after_change s (change.StartDraining o f x)) altitudes (λ k. uncancelled s o k
    (record (route_at s o) { frames = other_frames f (route_at s o).frames }) (λ is. is)) (λ g is. is) (λ g k is. is)
quiet_entries s (change.Cancel o) altitudes cancels inserts detaches = absurd (cancels o refl)
quiet_entries s (change.Detach f) altitudes cancels inserts detaches = absurd (detaches f refl)
quiet_entries s (change.Finish f) altitudes cancels inserts detaches =
    same_entries s (after_change s (change.Finish f)) altitudes (λ k is. is) (finished s f) (λ g k is. is)

-- ---- teardowns

-- none begins
pub quiet_teardown : (s : Store) (c : Change) (altitudes : List ℕ) → ((f : ℕ) → c ≡ change.Detach f → ⊥) →
    by_altitude (teardown_of s (after_change s c)) 0 altitudes ≡ []
quiet_teardown s change.Nothing altitudes detaches = no_teardown s (after_change s change.Nothing) altitudes (λ g is. is)
quiet_teardown s (change.Allocate owner) altitudes detaches = no_teardown s (after_change s (change.Allocate owner)) altitudes (λ g is. is)
quiet_teardown s (change.AddReference x) altitudes detaches = no_teardown s (after_change s (change.AddReference x)) altitudes (λ g is. is)
quiet_teardown s (change.DropReference x) altitudes detaches =
    no_teardown s (after_change s (change.DropReference x)) altitudes (λ g is. is)
quiet_teardown s (change.Write x value) altitudes detaches =
    either (λ (t : Store). by_altitude (teardown_of s t) 0 altitudes ≡ []) (is_freed (context_at s x)) s
    (with_context s x (record (context_at s x) { value = value })) (no_teardown s s altitudes (λ g is. is))
    (no_teardown s (with_context s x (record (context_at s x) { value = value })) altitudes (λ g is. is))
quiet_teardown s (change.Link x f k None old) altitudes detaches =
    no_teardown s (after_change s (change.Link x f k None old)) altitudes (λ g is. is)
quiet_teardown s (change.Link x f k (Some y) old) altitudes detaches =
    unlinked (λ (t : Store). (contexts : List Context) →
    by_altitude (teardown_of s (record t { contexts = contexts })) 0 altitudes ≡ []) s y old
    (λ cs ds. no_teardown s (record s { contexts = ds }) altitudes (λ g is. is))
    (put_link (after_unlink s y old) x (record { filter = f; key = k })).contexts
quiet_teardown s (change.Unlink x old) altitudes detaches = unlinked (λ (t : Store). by_altitude (teardown_of s t) 0 altitudes ≡ []) s x old
    (λ cs. no_teardown s (record s { contexts = cs }) altitudes (λ g is. is))
quiet_teardown s (change.TakeLock f l a access) altitudes detaches =
    no_teardown s (after_change s (change.TakeLock f l a access)) altitudes (λ g is. is)
quiet_teardown s (change.GiveUpLock f l a) altitudes detaches =
    no_teardown s (after_change s (change.GiveUpLock f l a)) altitudes (λ g is. is)
quiet_teardown s (change.Insert f v x) altitudes detaches = no_teardown s (after_change s (change.Insert f v x)) altitudes (λ g is. is)
quiet_teardown s (change.RemoveNext f) altitudes detaches = no_teardown s (after_change s (change.RemoveNext f)) altitudes (λ g is. is)
quiet_teardown s (change.RemoveOf f o v) altitudes detaches = no_teardown s (after_change s (change.RemoveOf f o v)) altitudes (λ g is. is)
quiet_teardown s (change.Queue f r v x) altitudes detaches = no_teardown s (after_change s (change.Queue f r v x)) altitudes (λ g is. is)
quiet_teardown s (change.Start i) altitudes detaches = no_teardown s (after_change s (change.Start i)) altitudes (λ g is. is)
quiet_teardown s (change.Settle v x way) altitudes detaches =
    no_teardown s (after_change s (change.Settle v x way)) altitudes
    (λ f is. ap (λ (l : List Presence). is_detaching (get_or l f Detached)) (sym (settled_presences s v x way)) ∙ is)
quiet_teardown s (change.Arrive kind mode file) altitudes detaches =
    no_teardown s (after_change s (change.Arrive kind mode file)) altitudes (λ g is. is)
quiet_teardown s (change.StartPre o f) altitudes detaches = no_teardown s (after_change s (change.StartPre o f)) altitudes (λ g is. is)
quiet_teardown s (change.Skip o f) altitudes detaches = no_teardown s (after_change s (change.Skip o f)) altitudes (λ g is. is)
quiet_teardown s (change.Lower o) altitudes detaches = no_teardown s (after_change s (change.Lower o)) altitudes (λ g is. is)
quiet_teardown s (change.StartPost o f x) altitudes detaches =
    no_teardown s (after_change s (change.StartPost o f x)) altitudes (λ g is. is)
quiet_teardown s (change.StartDraining o f x) altitudes detaches =
    no_teardown s (after_change s (change.StartDraining o f x)) altitudes (λ g is. is)
quiet_teardown s (change.Cancel o) altitudes detaches = no_teardown s (after_change s (change.Cancel o)) altitudes (λ g is. is)
quiet_teardown s (change.Detach f) altitudes detaches = absurd (detaches f refl)
quiet_teardown s (change.Finish f) altitudes detaches = no_teardown s (after_change s (change.Finish f)) altitudes (finished s f)
