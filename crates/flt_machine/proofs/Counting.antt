-- What each change adds: one reference at most to each context, and no operation more than may be.
use Rattle.std.proofs.Common.{◌≡◌, ℕ, ◌+◌, ◌-◌, ◌≤◌, Bool, true, false, List, [], ◌∷◌, ◌++◌, Option, Some}
use Rattle.std.proofs.Common.{None, length, drop, if◌then◌else◌, sym, subst, refl, ◌∙◌, inl, inr, arith}
use Rattle.std.proofs.Math.ListN.{set, get_or}
use Rattle.std.proofs.lemmas.Bool.{cases_eq, cases_lt}
use Rattle.std.proofs.lemmas.List.{get_or-set_same, get_or-set_other, get_or_past, length-set, length-append}
use Rattle.std.proofs.Math.ListN.{get_or-append}
use Rattle.std.proofs.Math.Seq.{get_or-append_seam}
use Rattle.flt_tree.specs.declared.variable.ContextVariable.{ContextVariable}
use Rattle.flt_model.specs.Effects.{after_unlink}
use Rattle.flt_model.specs.Calls.{put_link}
use Rattle.flt_model.specs.Moves.{other_entries}
use Rattle.flt_model.specs.Settling as settling
use Rattle.flt_model.specs.declared.settling.Way.{Way}
use Rattle.flt_model.specs.declared.parts.Link.{Link}
use Rattle.flt_model.specs.declared.parts.Presence.TheVariants.{Detaching, Detached}
use Rattle.flt_model.specs.World.{Store, Context, no_context, context_at, is_freed, queue_at, route_at}
use Rattle.flt_model.specs.World.{visit_at, with_context, with_link, with_route, add_reference, drop_reference}
use Rattle.flt_machine_store.specs.Changes.{after_change, IsPossible}
use Rattle.flt_machine_store.specs.declared.change.Change.{Change}
use Rattle.flt_machine_store.specs.declared.change.Change.TheVariants as change
use Rattle.flt_machine.specs.Counted.{AreAtMost}
use Rattle.flt_rules.specs.Limits.{max_operations}

-- ---- references

one_set : (n : ℕ) (s : Store) (y : ℕ) (c : Context) → AreAtMost n s → c.references ≤ n → AreAtMost n (with_context s y c)
one_set n s y c most less x = elim (cases_eq x y) [
  | inl same ↦ elim (cases_lt y (length s.contexts)) [
    | inl within ↦ subst (λ (k : ℕ). (get_or (set s.contexts y c) k no_context).references ≤ n) (sym same)
        (subst (λ (d : Context). d.references ≤ n) (sym (get_or-set_same s.contexts y c no_context within)) less)
    | inr past ↦ subst (λ (d : Context). d.references ≤ n) (sym (get_or_past (set s.contexts y c) x no_context
        (subst (λ (k : ℕ). k ≤ x) (sym (length-set s.contexts y c)) (omega (arith, past, same))))) (omega arith)
  ]
  | inr differs ↦ subst (λ (d : Context). d.references ≤ n) (sym (get_or-set_other s.contexts y x c no_context differs)) (most x)
]

more : (n : ℕ) (s : Store) → AreAtMost n s → AreAtMost (n + 1) s
more n s most x = omega (arith, most x)

linked : (n : ℕ) (s : Store) (x : ℕ) (l : Option Link) → AreAtMost n s → AreAtMost n (with_link s x l)
linked n s x l most = one_set n s x (record (context_at s x) { link = l }) most (most x)

dropped : (n : ℕ) (s : Store) (x : ℕ) → AreAtMost n s → AreAtMost n (drop_reference s x)
dropped n s x most = one_set n s x (record (context_at s x) { references = (context_at s x).references - 1 }) most (omega (arith, most x))

added : (n : ℕ) (s : Store) (x : ℕ) → AreAtMost n s → AreAtMost (n + 1) (add_reference s x)
added n s x most = one_set (n + 1) s x
    (record (context_at s x) { references = if is_freed (context_at s x) then 0 else (context_at s x).references + 1 }) (more n s most)
    (by (is_freed (context_at s x)))
  where
    by : (b : Bool) → (if b then 0 else (context_at s x).references + 1) ≤ n + 1
    by true = omega arith
    by false = omega (arith, most x)

put : (n : ℕ) (s : Store) (x : ℕ) (l : Link) → AreAtMost n s → AreAtMost (n + 1) (put_link s x l)
put n s x l most = linked (n + 1) (add_reference s x) x (Some l) (added n s x most)

unlinked : (n : ℕ) (s : Store) (y : ℕ) (old : Option ContextVariable) → AreAtMost n s → AreAtMost n (after_unlink s y old)
unlinked n s y None most = dropped n (with_link s y None) y (linked n s y None most)
unlinked n s y (Some d) most = linked n s y None most

-- a store by cases
either_most : (n : ℕ) (b : Bool) (s t : Store) → AreAtMost n s → AreAtMost n t → AreAtMost n (if b then s else t)
either_most n true s t one other = one
either_most n false s t one other = other

settled_most : (n : ℕ) (s : Store) (v : ℕ) (x : Option ℕ) (way : Way) → AreAtMost n s → AreAtMost n (settling.settled_by s v x way)
settled_most n s v x way most =
    either_most n (settling.settles_visit way)
    (record (settling.lead s v x way) { settled = set (settling.lead s v x way).settled v true }) s
    (either_most n (settling.is_led s v) (with_route s (visit_at s v).operation
    (settling.led (visit_at s v).filter x way (route_at s (visit_at s v).operation))) s most most) most

allocated : (n : ℕ) (cs : List Context) (c : Context) → ((x : ℕ) → (get_or cs x no_context).references ≤ n) → c.references ≤ n + 1 →
    (x : ℕ) → (get_or (cs ++ c ∷ []) x no_context).references ≤ n + 1
allocated n cs c most less x = elim (cases_lt x (length cs)) [
  | inl within ↦ subst (λ (d : Context). d.references ≤ n + 1) (sym (get_or-append cs (c ∷ []) no_context x within)) (omega (arith, most x))
  | inr past ↦ elim (cases_eq x (length cs)) [
    | inl same ↦ subst (λ (k : ℕ). (get_or (cs ++ c ∷ []) k no_context).references ≤ n + 1) (sym same)
        (subst (λ (d : Context). d.references ≤ n + 1) (sym (get_or-append_seam cs c [] no_context)) less)
    | inr differs ↦ subst (λ (d : Context). d.references ≤ n + 1) (sym (get_or_past (cs ++ c ∷ []) x no_context
        (subst (λ (k : ℕ). k ≤ x) (sym (length-append cs (c ∷ []))) (omega (arith, past, differs))))) (omega arith)
  ]
]

-- a change adds one reference at most to each context
pub references_after : (n : ℕ) (s : Store) (c : Change) → AreAtMost n s → AreAtMost (n + 1) (after_change s c)
references_after n s change.Nothing most = more n s most
references_after n s (change.Allocate owner) most =
    allocated n s.contexts (record { owner = owner; references = 1; value = 0; link = None }) most (omega arith)
references_after n s (change.AddReference x) most = added n s x most
references_after n s (change.DropReference x) most = more n (drop_reference s x) (dropped n s x most)
references_after n s (change.Write x value) most =
    either_most (n + 1) (is_freed (context_at s x)) s (with_context s x (record (context_at s x) { value = value })) (more n s most)
    (more n (with_context s x (record (context_at s x) { value = value }))
    (one_set n s x (record (context_at s x) { value = value }) most (most x)))
references_after n s (change.Link x f k None old) most = put n s x (record { filter = f; key = k }) most
references_after n s (change.Link x f k (Some y) old) most =
    put n (after_unlink s y old) x (record { filter = f; key = k }) (unlinked n s y old most)
references_after n s (change.Unlink x old) most = more n (after_unlink s x old) (unlinked n s x old most)
references_after n s (change.TakeLock f l a access) most = more n s most
references_after n s (change.GiveUpLock f l a) most = more n s most
references_after n s (change.Insert f v x) most = more n s most
references_after n s (change.RemoveNext f) most = more n s most
references_after n s (change.RemoveOf f o v) most = more n s most
references_after n s (change.Queue f r v x) most = more n s most
references_after n s (change.Start i) most = more n s most
references_after n s (change.Settle v x way) most = more n (settling.settled_by s v x way) (settled_most n s v x way most)
references_after n s (change.Arrive kind mode file) most = more n s most
references_after n s (change.StartPre o f) most = more n s most
references_after n s (change.Skip o f) most = more n s most
references_after n s (change.Lower o) most = more n s most
references_after n s (change.StartPost o f x) most = more n s most
references_after n s (change.StartDraining o f x) most = more n s most
references_after n s (change.Cancel o) most = more n s most
references_after n s (change.Detach f) most = more n s most
references_after n s (change.Finish f) most = more n s most

-- ---- operations

-- whether a change adds an operation
abbrev pub is_arriving : Change → Bool
is_arriving (change.Arrive kind mode file) = true
is_arriving _ = false

either_same : (n : ℕ) (b : Bool) (s t : Store) → length s.arrivals ≡ n → length t.arrivals ≡ n → length (if b then s else t).arrivals ≡ n
either_same n true s t one other = one
either_same n false s t one other = other

settled_same : (s : Store) (v : ℕ) (x : Option ℕ) (way : Way) → length (settling.settled_by s v x way).arrivals ≡ length s.arrivals
settled_same s v x way =
    either_same (length s.arrivals) (settling.settles_visit way)
    (record (settling.lead s v x way) { settled = set (settling.lead s v x way).settled v true }) s
    (either_same (length s.arrivals) (settling.is_led s v) (with_route s (visit_at s v).operation
    (settling.led (visit_at s v).filter x way (route_at s (visit_at s v).operation))) s refl refl) refl

unlinked_same : (s : Store) (y : ℕ) (old : Option ContextVariable) → length (after_unlink s y old).arrivals ≡ length s.arrivals
unlinked_same s y None = refl
unlinked_same s y (Some d) = refl

-- a change that can be made leaves no more operations than may be
pub arrivals_after : (s : Store) (c : Change) → IsPossible s c → length s.arrivals ≤ max_operations →
    length (after_change s c).arrivals ≤ max_operations
arrivals_after s change.Nothing can few = few
arrivals_after s (change.Allocate owner) can few = few
arrivals_after s (change.AddReference x) can few = few
arrivals_after s (change.DropReference x) can few = few
arrivals_after s (change.Write x value) can few =
    subst (λ (n : ℕ). n ≤ max_operations) (sym (either_same (length s.arrivals) (is_freed (context_at s x)) s
    (with_context s x (record (context_at s x) { value = value })) refl refl)) few
arrivals_after s (change.Link x f k None old) can few = few
arrivals_after s (change.Link x f k (Some y) old) can few = subst (λ (n : ℕ). n ≤ max_operations) (sym (unlinked_same s y old)) few
arrivals_after s (change.Unlink x old) can few = subst (λ (n : ℕ). n ≤ max_operations) (sym (unlinked_same s x old)) few
arrivals_after s (change.TakeLock f l a access) can few = few
arrivals_after s (change.GiveUpLock f l a) can few = few
arrivals_after s (change.Insert f v x) can few = few
arrivals_after s (change.RemoveNext f) can few = few
arrivals_after s (change.RemoveOf f o v) can few = few
arrivals_after s (change.Queue f r v x) can few = few
arrivals_after s (change.Start i) can few = few
arrivals_after s (change.Settle v x way) can few = subst (λ (n : ℕ). n ≤ max_operations) (sym (settled_same s v x way)) few
arrivals_after s (change.Arrive kind mode file) can few =
    omega (arith, can, length-append s.arrivals (record { kind = kind; mode = mode; file = file } ∷ []))
arrivals_after s (change.StartPre o f) can few = few
arrivals_after s (change.Skip o f) can few = few
arrivals_after s (change.Lower o) can few = few
arrivals_after s (change.StartPost o f x) can few = few
arrivals_after s (change.StartDraining o f x) can few = few
arrivals_after s (change.Cancel o) can few = few
arrivals_after s (change.Detach f) can few = few
arrivals_after s (change.Finish f) can few = few

-- ---- work items

either_items : (n : ℕ) (b : Bool) (s t : Store) → length s.items ≡ n → length t.items ≡ n → length (if b then s else t).items ≡ n
either_items n true s t one other = one
either_items n false s t one other = other

settled_items : (s : Store) (v : ℕ) (x : Option ℕ) (way : Way) → length (settling.settled_by s v x way).items ≡ length s.items
settled_items s v x way =
    either_items (length s.items) (settling.settles_visit way)
    (record (settling.lead s v x way) { settled = set (settling.lead s v x way).settled v true }) s
    (either_items (length s.items) (settling.is_led s v) (with_route s (visit_at s v).operation
    (settling.led (visit_at s v).filter x way (route_at s (visit_at s v).operation))) s refl refl) refl

unlinked_items : (s : Store) (y : ℕ) (old : Option ContextVariable) → length (after_unlink s y old).items ≡ length s.items
unlinked_items s y None = refl
unlinked_items s y (Some d) = refl

one_more : (n m : ℕ) → m ≡ n → m ≤ n + 1
one_more n m same = omega (arith, same)

-- a change adds one work item at most
pub items_after : (s : Store) (c : Change) → length (after_change s c).items ≤ length s.items + 1
items_after s change.Nothing = one_more _ _ refl
items_after s (change.Allocate owner) = one_more _ _ refl
items_after s (change.AddReference x) = one_more _ _ refl
items_after s (change.DropReference x) = one_more _ _ refl
items_after s (change.Write x value) =
    one_more _ _ (either_items (length s.items) (is_freed (context_at s x)) s
    (with_context s x (record (context_at s x) { value = value })) refl refl)
items_after s (change.Link x f k None old) = one_more _ _ refl
items_after s (change.Link x f k (Some y) old) = one_more _ _ (unlinked_items s y old)
items_after s (change.Unlink x old) = one_more _ _ (unlinked_items s x old)
items_after s (change.TakeLock f l a access) = one_more _ _ refl
items_after s (change.GiveUpLock f l a) = one_more _ _ refl
items_after s (change.Insert f v x) = one_more _ _ refl
items_after s (change.RemoveNext f) = one_more _ _ refl
items_after s (change.RemoveOf f o v) = one_more _ _ refl
items_after s (change.Queue f r v x) =
    omega (arith, length-append s.items (Some (record { filter = f; routine = r; visit = v; context = x }) ∷ []))
items_after s (change.Start i) = one_more _ _ (length-set s.items i None)
items_after s (change.Settle v x way) = one_more _ _ (settled_items s v x way)
items_after s (change.Arrive kind mode file) = one_more _ _ refl
items_after s (change.StartPre o f) = one_more _ _ refl
items_after s (change.Skip o f) = one_more _ _ refl
items_after s (change.Lower o) = one_more _ _ refl
items_after s (change.StartPost o f x) = one_more _ _ refl
items_after s (change.StartDraining o f x) = one_more _ _ refl
items_after s (change.Cancel o) = one_more _ _ refl
items_after s (change.Detach f) = one_more _ _ refl
items_after s (change.Finish f) = one_more _ _ refl

-- ---- queues

-- there are as many queues as filters
abbrev pub HasQueues : Store → Type 0
HasQueues s = length s.queues ≡ length s.presences

either_queues : (b : Bool) (s t : Store) → HasQueues s → HasQueues t → HasQueues (if b then s else t)
either_queues true s t one other = one
either_queues false s t one other = other

settled_queues : (s : Store) (v : ℕ) (x : Option ℕ) (way : Way) → HasQueues s → HasQueues (settling.settled_by s v x way)
settled_queues s v x way has =
    either_queues (settling.settles_visit way)
    (record (settling.lead s v x way) { settled = set (settling.lead s v x way).settled v true }) s
    (either_queues (settling.is_led s v)
    (with_route s (visit_at s v).operation (settling.led (visit_at s v).filter x way (route_at s (visit_at s v).operation))) s has has) has

unlinked_queues : (s : Store) (y : ℕ) (old : Option ContextVariable) → HasQueues s → HasQueues (after_unlink s y old)
unlinked_queues s y None has = has
unlinked_queues s y (Some d) has = has

-- a change leaves as many
pub queues_after : (s : Store) (c : Change) → HasQueues s → HasQueues (after_change s c)
queues_after s change.Nothing has = has
queues_after s (change.Allocate owner) has = has
queues_after s (change.AddReference x) has = has
queues_after s (change.DropReference x) has = has
queues_after s (change.Write x value) has =
    either_queues (is_freed (context_at s x)) s (with_context s x (record (context_at s x) { value = value })) has has
queues_after s (change.Link x f k None old) has = has
queues_after s (change.Link x f k (Some y) old) has = unlinked_queues s y old has
queues_after s (change.Unlink x old) has = unlinked_queues s x old has
queues_after s (change.TakeLock f l a access) has = has
queues_after s (change.GiveUpLock f l a) has = has
queues_after s (change.Insert f v x) has = length-set s.queues f (queue_at s f ++ record { visit = v; context = x } ∷ []) ∙ has
queues_after s (change.RemoveNext f) has = length-set s.queues f (drop 1 (queue_at s f)) ∙ has
queues_after s (change.RemoveOf f o v) has = length-set s.queues f (other_entries s o (queue_at s f)) ∙ has
queues_after s (change.Queue f r v x) has = has
queues_after s (change.Start i) has = has
queues_after s (change.Settle v x way) has = settled_queues s v x way has
queues_after s (change.Arrive kind mode file) has = has
queues_after s (change.StartPre o f) has = has
queues_after s (change.Skip o f) has = has
queues_after s (change.Lower o) has = has
queues_after s (change.StartPost o f x) has = has
queues_after s (change.StartDraining o f x) has = has
queues_after s (change.Cancel o) has = has
queues_after s (change.Detach f) has = has ∙ sym (length-set s.presences f Detaching)
queues_after s (change.Finish f) has = has ∙ sym (length-set s.presences f Detached)
