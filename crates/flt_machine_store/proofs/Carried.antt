-- Changes of contexts and queues are carried over to the machine's own store.
use Rattle.std.proofs.Common.{◌≡◌, ℕ, ◌+◌, ◌-◌, Bool, true, false, ◌==◌, ◌||◌, not, if◌then◌else◌, List, [], ◌∷◌, ◌++◌, Option}
use Rattle.std.proofs.Common.{Some, None, is_some, map, option_map, set, drop, find, ap, sym, subst, refl, ◌∙◌, eq-eqb, eqb-true}
use Rattle.std.proofs.Math.ListN.{get_or, get_or-map}
use Rattle.std.proofs.lemmas.Bool.{true≢false}
use Rattle.std.proofs.lemmas.List.{map-set, map-append}
use Rattle.flt_cbdq.proofs.Entries.{cut_here, cut_later}
use Rattle.flt_cbdq.specs.Queues as cbdq
use Rattle.flt_cbdq.specs.declared.entry.Entry as kept
use Rattle.flt_ctx.specs.Contexts as ctx
use Rattle.flt_ctx.specs.declared.key.Key as at
use Rattle.flt_model.specs.Calls.{put_link}
use Rattle.flt_model.specs.Effects.{after_unlink}
use Rattle.flt_model.specs.Moves.{is_entry_of, other_entries}
use Rattle.flt_model.specs.Reads.{put_value}
use Rattle.flt_model.specs.declared.parts.Entry.{Entry}
use Rattle.flt_model.specs.declared.parts.Presence.{Presence}
use Rattle.flt_model.specs.declared.parts.Presence.TheVariants.{Detached}
use Rattle.flt_model.specs.World.{Store, Context, no_context, context_at, visit_at, is_attached}
use Rattle.flt_model.specs.World.{is_freed, with_context, with_queue, queue_at, add_reference, drop_reference, with_link}
use Rattle.flt_machine_store.proofs.Reading.{queue_there}
use Rattle.flt_machine_store.specs.Changes.{after_change, IsFirstOf}
use Rattle.flt_machine_store.specs.Parts.{key_of, link_of, context_of, entry_of}
use Rattle.flt_machine_store.specs.Stores.{AreClosed}
use Rattle.flt_machine_store.specs.declared.change.Change.TheVariants as change
use Rattle.flt_tree.specs.declared.variable.ContextVariable.{ContextVariable}

-- ---- contexts

-- the store with these contexts
abbrev pub with_contexts : Store → ctx.ContextTable → Store
with_contexts s t = record s { contexts = map context_of t.contexts }

-- the context of a number
pub context_there : (cs : List ctx.Context) (x : ℕ) → get_or (map context_of cs) x no_context ≡ context_of (get_or cs x ctx.no_context)
context_there cs x = get_or-map context_of cs x ctx.no_context

-- one context is changed
changed : (f : ctx.Context → ctx.Context) (g : Context → Context) → ((c : ctx.Context) → context_of (f c) ≡ g (context_of c)) →
    (s : Store) (t : ctx.ContextTable) (x : ℕ) →
    with_contexts s (ctx.with_context t x (f (ctx.context_at t x))) ≡
    with_context (with_contexts s t) x (g (context_at (with_contexts s t) x))
changed f g same s t x =
    ap (λ (cs : List Context). record s { contexts = cs }) (map-set context_of t.contexts x (f (ctx.context_at t x))
    ∙ ap (λ (c : Context). set (map context_of t.contexts) x c) (same (ctx.context_at t x) ∙ ap g (sym (context_there t.contexts x))))

-- a reference that is added among the contexts is added in the machine's store
pub add_carried : (s : Store) (t : ctx.ContextTable) (x : ℕ) →
    with_contexts s (ctx.add_reference t x) ≡ add_reference (with_contexts s t) x
add_carried s t x = changed (λ c. record c { references = if ctx.is_freed c then 0 else c.references + 1 })
    (λ c. record c { references = if is_freed c then 0 else c.references + 1 }) (λ c. refl) s t x

-- a reference that is dropped among the contexts is dropped in the machine's store
pub drop_carried : (s : Store) (t : ctx.ContextTable) (x : ℕ) →
    with_contexts s (ctx.drop_reference t x) ≡ drop_reference (with_contexts s t) x
drop_carried s t x =
    changed (λ c. record c { references = c.references - 1 }) (λ c. record c { references = c.references - 1 }) (λ c. refl) s t x

link_carried : (s : Store) (t : ctx.ContextTable) (x : ℕ) (l : Option at.Key) →
    with_contexts s (ctx.with_link t x l) ≡ with_link (with_contexts s t) x (option_map link_of l)
link_carried s t x l = changed (λ c. record c { link = l }) (λ c. record c { link = option_map link_of l }) (λ c. refl) s t x

write_by : (s : Store) (t : ctx.ContextTable) (x value : ℕ) (b : Bool) →
    with_contexts s (if b then t else ctx.with_context t x (record (ctx.context_at t x) { value = value }))
    ≡ (if b then with_contexts s t else with_context (with_contexts s t) x (record (context_at (with_contexts s t) x) { value = value }))
write_by s t x value true = refl
write_by s t x value false = changed (λ c. record c { value = value }) (λ c. record c { value = value }) (λ c. refl) s t x

-- a value that is put among the contexts is put in the machine's store
pub write_carried : (s : Store) (t : ctx.ContextTable) (x value : ℕ) →
    with_contexts s (ctx.put_value t x value) ≡ put_value (with_contexts s t) x value
write_carried s t x value =
    let r = with_contexts s t in
    write_by s t x value (ctx.is_freed (ctx.context_at t x))
    ∙ ap (λ (c : Context). if is_freed c then r else with_context r x (record (context_at r x) { value = value }))
    (sym (context_there t.contexts x))

-- ---- links

-- a link that is taken among the contexts is taken in the machine's store
pub unlink_carried : (s : Store) (t : ctx.ContextTable) (x : ℕ) (old : Option ContextVariable) →
    with_contexts s (ctx.after_unlink t x (is_some old)) ≡ after_unlink (with_contexts s t) x old
unlink_carried s t x None =
    drop_carried s (ctx.with_link t x None) x ∙ ap (λ (r : Store). drop_reference r x) (link_carried s t x None)
unlink_carried s t x (Some d) = link_carried s t x None

put_carried : (s : Store) (t : ctx.ContextTable) (x : ℕ) (k : at.Key) →
    with_contexts s (ctx.put_link t x k) ≡ put_link (with_contexts s t) x (link_of k)
put_carried s t x k =
    link_carried s (ctx.add_reference t x) x (Some k) ∙ ap (λ (r : Store). with_link r x (Some (link_of k))) (add_carried s t x)

-- a link, over another or none
abbrev pub after_link : ctx.ContextTable → ℕ → at.Key → Option ℕ → Bool → ctx.ContextTable
after_link t x k None wanted = ctx.put_link t x k
after_link t x k (Some y) wanted = ctx.put_link (ctx.after_unlink t y wanted) x k

-- a link that is put, over another one or over none, is the one after the call
pub link_made : (t new : ctx.ContextTable) (x : ℕ) (k : at.Key) (over : Option ℕ) (wanted : Bool) → ctx.linked_at t k ≡ over →
    (ctx.linked_at t k ≡ None → new ≡ ctx.put_link t x k) →
    ((y : ℕ) → ctx.linked_at t k ≡ Some y → new ≡ ctx.put_link (ctx.after_unlink t y wanted) x k) → new ≡ after_link t x k over wanted
link_made t new x k None wanted is none some = none is
link_made t new x k (Some y) wanted is none some = some y is

-- no filter is closed by it
pub closed_same : (t : ctx.ContextTable) (x : ℕ) (k : at.Key) (over : Option ℕ) (wanted : Bool) →
    (after_link t x k over wanted).closed ≡ t.closed
closed_same t x k None wanted = refl
closed_same t x k (Some y) true = refl
closed_same t x k (Some y) false = refl

-- a link that is put over another one among the contexts is put so in the machine's store
pub link_over_carried : (s : Store) (t : ctx.ContextTable) (x : ℕ) (k : at.Key) (over : Option ℕ) (old : Option ContextVariable) →
    with_contexts s (after_link t x k over (is_some old)) ≡
    after_change (with_contexts s t) (change.Link x k.filter (key_of k.target) over old)
link_over_carried s t x k None old = put_carried s t x k
link_over_carried s t x k (Some y) old =
    put_carried s (ctx.after_unlink t y (is_some old)) x k ∙ ap (λ (r : Store). put_link r x (link_of k)) (unlink_carried s t y old)

some_there : {A B : Type 0} (f : A → B) (o : Option A) → is_some (option_map f o) ≡ is_some o
some_there f None = refl
some_there f (Some a) = refl

-- a context that the machine's store lets be linked
pub cannot_there : (cs : List ctx.Context) (x : ℕ) →
    (is_some (get_or (map context_of cs) x no_context).link || is_freed (get_or (map context_of cs) x no_context)) ≡ false →
    ctx.cannot_link (get_or cs x ctx.no_context) ≡ false
cannot_there cs x can =
    let c = get_or cs x ctx.no_context in
    ap (λ (b : Bool). b || ctx.is_freed c) (sym (some_there link_of c.link))
    ∙ ap (λ (v : Context). is_some v.link || is_freed v) (sym (context_there cs x)) ∙ can

-- an attached filter isn't closed
pub open_there : (closed : List Bool) (presences : List Presence) (f : ℕ) → AreClosed closed presences →
    is_attached (get_or presences f Detached) ≡ true → get_or closed f true ≡ false
open_there closed presences f are is = are f ∙ ap not is

-- ---- queues

-- the store with these queues
abbrev pub with_queues : Store → cbdq.Queueing → Store
with_queues s q = record s { queues = map (map entry_of) q.queues }

queue_carried : (s : Store) (q : cbdq.Queueing) (f : ℕ) (es : List kept.Entry) (ds : List Entry) → map entry_of es ≡ ds →
    with_queues s (cbdq.with_queue q f es) ≡ with_queue (with_queues s q) f ds
queue_carried s q f es ds is =
    ap (λ (qs : List (List Entry)). record s { queues = qs }) (map-set (map entry_of) q.queues f es
    ∙ ap (λ (l : List Entry). set (map (map entry_of) q.queues) f l) is)

-- an entry that is inserted into a queue is inserted in the machine's store
pub insert_carried : (s : Store) (q : cbdq.Queueing) (f : ℕ) (e : kept.Entry) →
    with_queues s (cbdq.with_queue q f (cbdq.queue_of q f ++ e ∷ []))
    ≡ with_queue (with_queues s q) f (queue_at (with_queues s q) f ++ entry_of e ∷ [])
insert_carried s q f e = queue_carried s q f (cbdq.queue_of q f ++ e ∷ []) (queue_at (with_queues s q) f ++ entry_of e ∷ [])
    (map-append entry_of (cbdq.queue_of q f) (e ∷ []) ∙ ap (λ (l : List Entry). l ++ entry_of e ∷ []) (sym (queue_there q.queues f)))

dropped : (q : List kept.Entry) → map entry_of (drop 1 q) ≡ drop 1 (map entry_of q)
dropped [] = refl
dropped (x ∷ q) = refl

-- the first entry that is taken from a queue is taken in the machine's store
pub next_carried : (s : Store) (q : cbdq.Queueing) (f : ℕ) →
    with_queues s (cbdq.with_queue q f (drop 1 (cbdq.queue_of q f)))
    ≡ with_queue (with_queues s q) f (drop 1 (queue_at (with_queues s q) f))
next_carried s q f = queue_carried s q f (drop 1 (cbdq.queue_of q f)) (drop 1 (queue_at (with_queues s q) f))
    (dropped (cbdq.queue_of q f) ∙ ap (λ (l : List Entry). drop 1 l) (sym (queue_there q.queues f)))

module _ (s : Store) (f o v : ℕ) where
  -- the visit is of the operation, where the first entry of that is of the visit
  first_by : (e : Entry) (es : List Entry) (b : Bool) → is_entry_of s o e ≡ b → IsFirstOf s f o v (find (is_entry_of s o) (e ∷ es)) →
      (IsFirstOf s f o v (find (is_entry_of s o) es) → ((visit_at s v).operation == o) ≡ true) → ((visit_at s v).operation == o) ≡ true
  first_by e es true is first rest =
      let same = rw is at first in subst (λ (w : ℕ). ((visit_at s w).operation == o) ≡ true) same is
  first_by e es false is first rest = rest (rw is at first)

  first_is : (es : List Entry) → IsFirstOf s f o v (find (is_entry_of s o) es) → ((visit_at s v).operation == o) ≡ true
  first_is [] first = elim first [ ]
  first_is (e ∷ es) first = first_by e es (is_entry_of s o e) refl first (first_is es)

  -- an entry of another operation is of another visit
  other_visit : (e : kept.Entry) (b : Bool) → cbdq.has_visit v e ≡ b → is_entry_of s o (entry_of e) ≡ false →
      ((visit_at s v).operation == o) ≡ true → cbdq.has_visit v e ≡ false
  other_visit e true is other of =
      absurd (true≢false (sym of ∙ ap (λ (w : ℕ). (visit_at s w).operation == o) (sym (eqb-true e.visit v is)) ∙ other))
  other_visit e false is other of = is

  cut_by : (e : kept.Entry) (q : List kept.Entry) (b : Bool) → is_entry_of s o (entry_of e) ≡ b →
      IsFirstOf s f o v (find (is_entry_of s o) (entry_of e ∷ map entry_of q)) →
      (IsFirstOf s f o v (find (is_entry_of s o) (map entry_of q)) →
      map entry_of (cbdq.without_first (cbdq.has_visit v) q) ≡ other_entries s o (map entry_of q)) →
      map entry_of (cbdq.without_first (cbdq.has_visit v) (e ∷ q)) ≡ other_entries s o (entry_of e ∷ map entry_of q)
  cut_by e q true is first rest =
      let same = rw is at first in
      ap (map entry_of) (cut_here (cbdq.has_visit v) e q (eq-eqb e.visit v same))
      ∙ sym (cut_here (is_entry_of s o) (entry_of e) (map entry_of q) is)
  cut_by e q false is first rest =
      let later = rw is at first in
      let other = other_visit e (cbdq.has_visit v e) refl is (first_is (map entry_of q) later) in
      ap (map entry_of) (cut_later (cbdq.has_visit v) e q other) ∙ ap (λ (l : List Entry). entry_of e ∷ l) (rest later)
      ∙ sym (cut_later (is_entry_of s o) (entry_of e) (map entry_of q) is)

  -- the first entry of the operation is the first of the visit
  first_cut : (q : List kept.Entry) → IsFirstOf s f o v (find (is_entry_of s o) (map entry_of q)) →
      map entry_of (cbdq.without_first (cbdq.has_visit v) q) ≡ other_entries s o (map entry_of q)
  first_cut [] first = elim first [ ]
  first_cut (e ∷ q) first = cut_by e q (is_entry_of s o (entry_of e)) refl first (first_cut q)

-- the first entry of an operation that is taken from a queue is taken in the machine's store
pub first_carried : (s : Store) (q : cbdq.Queueing) (f o v : ℕ) →
    IsFirstOf (with_queues s q) f o v (find (is_entry_of (with_queues s q) o) (queue_at (with_queues s q) f)) →
    with_queues s (cbdq.with_queue q f (cbdq.without_first (cbdq.has_visit v) (cbdq.queue_of q f)))
    ≡ with_queue (with_queues s q) f (other_entries (with_queues s q) o (queue_at (with_queues s q) f))
first_carried s q f o v first =
    let here = queue_there q.queues f in
    let r = with_queues s q in
    queue_carried s q f (cbdq.without_first (cbdq.has_visit v) (cbdq.queue_of q f)) (other_entries r o (queue_at r f))
    (first_cut r f o v (cbdq.queue_of q f) (subst (λ (l : List Entry). IsFirstOf r f o v (find (is_entry_of r o) l)) here first)
    ∙ ap (λ (l : List Entry). other_entries r o l) (sym here))
