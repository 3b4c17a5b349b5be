-- Where nothing is left of a filter, its visits are settled and its contexts freed: the invariant says where an unsettled visit stands and
-- where a context's references stand, and there they would be the filter's.
-- Here p is the program, m the moment, k its invariant, f the filter, g another, a an activation, v and u visits, x and y contexts.
use Rattle.std.proofs.Common.{◌≡◌, ◌≢◌, ℕ, zero, suc, ◌≤◌, Bool, true, false, List, [], ◌∷◌, Option}
use Rattle.std.proofs.Common.{Some, None, ap, sym, subst, refl, ◌∙◌, arith, inl, inr, sum_by}
use Rattle.std.specs.Prelude.{◌==◌, if◌then◌else◌}
use Rattle.std.proofs.Math.ListN.{get_or, get_or-map}
use Rattle.std.proofs.lemmas.Bool.{cases_eq}
use Rattle.std.proofs.lemmas.List.{get_or_past}
use Rattle.std.proofs.lemmas.List.Sums.{sum_by-cons}
use Rattle.flt_rules.specs.declared.place.Mode.TheVariants.{Irp}
use Rattle.flt_tree.specs.declared.filter.Filter.{Filter}
use Rattle.flt_tree.specs.declared.variable.OperationVariable.TheVariants.{Removed, Data}
use Rattle.flt_tree.specs.declared.variable.RemovedVariable.{RemovedVariable}
use Rattle.flt_tree.specs.declared.variable.RemovedVariable.TheVariants.{O0, O1, O2, O3}
use Rattle.flt_model.specs.Program.{callbacks_at, place_at}
use Rattle.flt_model.specs.Runs.{Moment}
use Rattle.flt_model.specs.Trace.{one_if}
use Rattle.flt_model.specs.Violations.{in_queue, in_some, in_item}
use Rattle.flt_model.specs.World as world
use Rattle.flt_model.specs.declared.parts.Entry.{Entry}
use Rattle.flt_model.specs.declared.parts.Item.{Item}
use Rattle.flt_model.specs.declared.parts.Link.{Link}
use Rattle.flt_model.specs.World.{World, Store, Frame, Route, nobody, no_route, no_context, actor_at, activation_at}
use Rattle.flt_model.specs.declared.parts.Holder.{Holder}
use Rattle.flt_model.specs.World.{queue_at, item_at, route_at, visit_at, context_at, is_settled, is_freed, holders_at}
use Rattle.flt_sound.specs.Rest.{IsGone}
use Rattle.flt_sound.proofs.sums.Belonging.{Belongs, BelongsItem}
use Rattle.flt_sound.proofs.sums.Counts.{one_if-other}
use Rattle.flt_sound.proofs.sums.Differences.{in_frame, in_route, in_line, in_work, linked}
use Rattle.flt_sound.proofs.sums.Eaches.{Each}
use Rattle.flt_sound.proofs.sums.Owners.{keeps_visit}
use Rattle.flt_sound.proofs.sums.Shadows.{Slot, Unset, Owns, Past, own, own_all, value_of, no_one, plain, shadow_at, operation_slot}
use Rattle.flt_sound.proofs.points.Kept.{Kept, StoodAt, keeps_context}
use Rattle.flt_sound.proofs.points.Stored.{FitsQueue, IsItem, Given, given_is}
use Rattle.flt_sound.proofs.ends.ReturnRules.{own_none}
use Rattle.flt_sound.proofs.rest.Holding.{has_place, Holds, AreHeld}
use Rattle.flt_sound.proofs.rest.Parts.{frame_is, frames_in, item_is, link_is, linked_is, IsEmpty, drained_by}
use Rattle.flt_sound.proofs.rest.Passing.{one_counts, other_by}

-- ---- sums of which each part is nothing

all_zero : {X : Type 0} (n : X → ℕ) (xs : List X) (d : X) → ((i : ℕ) → n (get_or xs i d) ≡ 0) → sum_by n xs ≡ 0
all_zero n [] d h = refl
all_zero n (x ∷ xs) d h = omega (arith, sum_by-cons n x xs, h zero, all_zero n xs d (λ i. h (suc i)))

-- where each element is so, and what is so counts nothing
each_zero : {X : Type 0} (P : X → Type 0) (n : X → ℕ) → ((x : X) → P x → n x ≡ 0) → (xs : List X) → Each P xs → sum_by n xs ≡ 0
each_zero P n h [] e = refl
each_zero P n h (x ∷ xs) e = omega (arith, sum_by-cons n x xs, h x e.0, each_zero P n h xs e.1)

-- where each element is so, and what is so counts nothing where it counts nothing of another kind, and all count nothing of that
each_by : {X : Type 0} (P : X → Type 0) (o n : X → ℕ) → ((x : X) → P x → o x ≡ 0 → n x ≡ 0) → (xs : List X) → Each P xs →
    sum_by o xs ≡ 0 → sum_by n xs ≡ 0
each_by P o n h [] e z = refl
each_by P o n h (x ∷ xs) e z =
    let sum = sum_by-cons o x xs in
    omega (arith, sum_by-cons n x xs, h x e.0 (omega (arith, sum, z)), each_by P o n h xs e.1 (omega (arith, sum, z)))

-- a sum that is above 0 at one place only where it may not be
by_one : (n : ℕ) → (1 ≤ n → ⊥) → n ≡ 0
by_one zero h = refl
by_one (suc n) h = absurd (h (omega arith))

-- an open visit counts
open_or : (b : Bool) → ◌≡◌ {A = ℕ} (if b then 0 else 1) 0 → b ≡ true
open_or true h = refl
open_or false h = absurd (omega (arith, h))

none_equal : (n : ℕ) → n ≡ 0 → (n == 0) ≡ true
none_equal n e = rw e refl

module _ (p : List Filter) (m : Moment) (k : Kept p m) (f : ℕ) (e : IsEmpty f m.world) where
  abbrev s : Store
  s = m.world.store

  -- an activation that goes on isn't the filter's
  other_filter : (a : ℕ) → (shadow_at k.shadows a).ended ≡ false → (actor_at m.world a).filter ≢ f
  other_filter a on same =
      let is : (activation_at m.world a).ended ≡ (shadow_at k.shadows a).ended =
      ap (λ (act : world.Activation). act.ended) (ap (λ l. get_or l a nobody) k.same ∙ get_or-map plain k.shadows a no_one) in
      let bad : true ≡ false = sym (e.active a same) ∙ (is ∙ on) in absurd (cc)

  -- ---- visits

  module _ (v : ℕ) (its : (visit_at s v).filter ≡ f) where
    -- a visit of another filter isn't this one
    not_it : (u g : ℕ) → (visit_at s u).filter ≡ g → g ≢ f → one_if u v ≡ 0
    not_it u g h ne = one_if-other u v (λ same. ne (sym h ∙ (ap (λ i. (visit_at s i).filter) same ∙ its)))

    slot_free : (slot : Slot) (g : ℕ) → ((u : ℕ) → slot ≡ Owns u → (visit_at s u).filter ≡ g) → g ≢ f → own v slot ≡ 0
    slot_free Unset g h ne = refl
    slot_free (Owns u) g h ne = not_it u g (h u refl) ne
    slot_free (Past u) g h ne = refl

    -- no variable of an activation owns it
    none_own : (a : ℕ) (b : Bool) → (shadow_at k.shadows a).ended ≡ b → own_all v (shadow_at k.shadows a).operations ≡ 0
    none_own a true ended = (k.idle a ended).visits v
    none_own a false on = own_none v (shadow_at k.shadows a).operations each
      where
        stood : StoodAt p m a (shadow_at k.shadows a)
        stood = k.each a on

        g : ℕ
        g = (actor_at m.world a).filter

        removed : (o : RemovedVariable) → own v (operation_slot (shadow_at k.shadows a) (Removed o)) ≡ 0
        removed o = slot_free (operation_slot (shadow_at k.shadows a) (Removed o)) g (λ u h. (stood.removed o u h).filter)
            (other_filter a on)

        data_given : (u : ℕ) → operation_slot (shadow_at k.shadows a) Data ≡ Owns u → (visit_at s u).filter ≡ g
        data_given u h =
            (given_is s.visits s.arrivals g (shadow_at k.shadows a).mode (actor_at m.world a).place u
            (subst (λ x. Given s.visits s.arrivals g (shadow_at k.shadows a).mode (actor_at m.world a).place x) (ap value_of h)
            stood.given)).visit.filter

        each : (i : ℕ) → own v (get_or (shadow_at k.shadows a).operations i Unset) ≡ 0
        each zero = removed O0
        each (suc zero) = removed O1
        each (suc (suc zero)) = removed O2
        each (suc (suc (suc zero))) = removed O3
        each (suc (suc (suc (suc zero)))) = slot_free (operation_slot (shadow_at k.shadows a) Data) g data_given (other_filter a on)
        each (suc (suc (suc (suc (suc i))))) =
            ap (own v) (get_or_past (shadow_at k.shadows a).operations (suc (suc (suc (suc (suc i))))) Unset (omega (arith, stood.broad)))

    -- no entry has it
    none_queued : (g : ℕ) → in_queue v (queue_at s g) ≡ 0
    unfolding in_queue
    none_queued g = elim (cases_eq g f) [
      | inl same ↦
          let empty : queue_at s g ≡ [] = ap (λ i. queue_at s i) same ∙ e.queue in
          ap (λ q. sum_by (λ (entry : Entry). one_if entry.visit v) q) empty
      | inr ne ↦ each_zero (FitsQueue s.visits s.arrivals p g) (λ (entry : Entry). one_if entry.visit v)
          (λ entry h. not_it entry.visit g h.given.visit.filter ne) (queue_at s g) (k.stored.entries g)
    ]

    -- no work item has it
    item_free : (x : Option Item) → IsItem s.visits s.arrivals p x → item_is f x ≡ 0 → in_item v x ≡ 0
    item_free None h z = refl
    item_free (Some i) h z = by i.visit refl
      where
        by : (u : Option ℕ) → i.visit ≡ u → in_some v u ≡ 0
        by None same = refl
        by (Some u) same =
            let q = place_at (callbacks_at p i.filter) i.routine in
            not_it u i.filter
            (given_is s.visits s.arrivals i.filter Irp q u
            (subst (λ x. Given s.visits s.arrivals i.filter Irp q x) same h.given)).visit.filter
            (other_by i.filter f z)

    -- so it is settled
    settled_it : is_settled s v ≡ true
    settled_it =
        let variables = all_zero (keeps_visit v) k.shadows no_one (λ a. none_own a (shadow_at k.shadows a).ended refl) in
        let entries = all_zero (in_queue v) s.queues [] none_queued in
        let items = all_zero (in_item v) s.items None
        (λ i. item_free (item_at s i) (k.stored.items i) (one_counts (item_is f) s.items i None refl e.items)) in
        open_or (is_settled s v) (omega (arith, k.owners v, variables, entries, items))

  -- ---- contexts

  module _ (x : ℕ) (its : (context_at s x).owner ≡ f) where
    -- what belongs to another filter isn't this context
    not_this : (g : ℕ) → g ≢ f → (c : Option ℕ) → Belongs s.contexts g c → in_some x c ≡ 0
    not_this g ne None b = refl
    not_this g ne (Some y) b = one_if-other y x (λ same. ne (sym b.owner ∙ (ap (λ i. (context_at s i).owner) same ∙ its)))

    link_free : (l : Option Link) → (context_at s x).link ≡ l → linked l ≡ 0
    link_free None h = refl
    link_free (Some l) h =
        let none : link_is f (Some l) ≡ 0 = ap (link_is f) (sym h) ∙ one_counts (linked_is f) s.contexts x no_context refl e.links in
        let is = k.mine.links x l h in
        absurd (other_by l.filter f none (sym is.owner ∙ its))

    route_free : (o : ℕ) → in_route x (route_at s o) ≡ 0
    route_free o = each_by (λ (r : Frame). Belongs s.contexts r.filter r.context) (frame_is f) (in_frame x)
        (λ r b z. not_this r.filter (other_by r.filter f z) r.context b) (route_at s o).frames (k.mine.frames o)
        (one_counts (frames_in f) s.routes o no_route refl e.frames)

    line_free : (g : ℕ) → in_line x (queue_at s g) ≡ 0
    line_free g = elim (cases_eq g f) [
      | inl same ↦
          let empty : queue_at s g ≡ [] = ap (λ i. queue_at s i) same ∙ e.queue in
          ap (in_line x) empty
      | inr ne ↦ each_zero (λ (entry : Entry). Belongs s.contexts g entry.context) (λ (entry : Entry). in_some x entry.context)
          (λ entry b. not_this g ne entry.context b) (queue_at s g) (k.mine.entries g)
    ]

    work_free : (i : Option Item) → BelongsItem s.contexts i → item_is f i ≡ 0 → in_work x i ≡ 0
    work_free None b z = refl
    work_free (Some i) b z = not_this i.filter (other_by i.filter f z) i.context b

    variables_free : (a : ℕ) (b : Bool) → (shadow_at k.shadows a).ended ≡ b → own_all x (shadow_at k.shadows a).contexts ≡ 0
    variables_free a true ended = (k.idle a ended).contexts x
    variables_free a false on = by_one (own_all x (shadow_at k.shadows a).contexts)
        (λ has. other_filter a on (sym (k.owns a x has).owner ∙ its))

    freed_it : is_freed (context_at s x) ≡ true
    freed_it =
        let variables = all_zero (keeps_context x) k.shadows no_one (λ a. variables_free a (shadow_at k.shadows a).ended refl) in
        let frames = all_zero (in_route x) s.routes no_route route_free in
        let entries = all_zero (in_line x) s.queues [] line_free in
        let items = all_zero (in_work x) s.items None
        (λ i. work_free (item_at s i) (k.mine.items i) (one_counts (item_is f) s.items i None refl e.items)) in
        none_equal (context_at s x).references
        (omega (arith, k.count x, variables, frames, entries, items, link_free (context_at s x).link refl))

  -- ---- locks

  -- nobody holds a lock: one who does is the filter's, and one that has ended holds none
  unlocked_by : (n : ℕ) (holders : List Holder) → Each (Holds m.world f n) holders → holders ≡ []
  unlocked_by n [] h = refl
  unlocked_by n (x ∷ holders) h =
      let is : activation_at m.world x.activation ≡ plain (shadow_at k.shadows x.activation) =
      ap (λ l. get_or l x.activation nobody) k.same ∙ get_or-map plain k.shadows x.activation no_one in
      let ended : (shadow_at k.shadows x.activation).ended ≡ true =
      sym (ap (λ (act : world.Activation). act.ended) is) ∙ e.active x.activation h.0.of in
      let none : (activation_at m.world x.activation).locks ≡ [] =
      ap (λ (act : world.Activation). act.locks) is ∙ (k.idle x.activation ended).locks in
      let bad : false ≡ true = sym (ap (has_place n) none) ∙ h.0.has in absurd (cc)

  -- nothing of the filter is left
  pub gone : AreHeld m.world → IsGone m.world f
  gone held = record {
    unlocked = λ n. unlocked_by n (get_or (holders_at m.world.store f) n []) (held f n);
    drained = drained_by f m.world e;
    settled = λ v there its. settled_it v its;
    freed = λ x there its. freed_it x its;
  }
