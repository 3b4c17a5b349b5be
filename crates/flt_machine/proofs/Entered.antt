-- Entries that come to wait: of an operation that is cancelled, one that comes into a queue, and of a filter that is being detached.
use Rattle.std.proofs.Common.{◌≡◌, ◌≢◌, ℕ, ◌+◌, ◌-◌, ◌<◌, ◌≤◌, Bool, true, false, not, ◌&&◌, ◌||◌, List, [], ◌∷◌, ◌++◌, Option}
use Rattle.std.proofs.Common.{Some, None, length, drop, map, append_assoc, if◌then◌else◌, ap, sym, refl, ◌∙◌, inl, inr, arith}
use Rattle.std.proofs.Math.ListN.{get_or}
use Rattle.std.proofs.lemmas.Bool.{cases_eq, cases_lt, eq-eqb, ne_eqb}
use Rattle.std.proofs.lemmas.Bool.Decides.{nat_tests}
use Rattle.std.proofs.lemmas.List.{get_or-set_same, get_or-set_other, get_or_past}
use Rattle.std.proofs.lemmas.List.Folds.{list_any-append}
use Rattle.std.specs.List.{list_any}
use Rattle.std.specs.Prelude.{◌⊎◌, cond, find, is_some, nat_lt, option_map, slice_get}
use Rattle.flt_model.specs.declared.subject.Subject.{Subject}
use Rattle.flt_model.specs.declared.subject.Subject.TheVariants as subject
use Rattle.flt_model.specs.Moves.{is_entry_of}
use Rattle.flt_model.specs.declared.parts.Entry.{Entry}
use Rattle.flt_model.specs.declared.parts.Presence.{Presence}
use Rattle.flt_model.specs.declared.parts.Presence.TheVariants.{Attached, Detaching, Detached}
use Rattle.flt_model.specs.World.{Store, Route, is_attached, is_detaching}
use Rattle.flt_model.specs.World.{no_route, presence_at, queue_at, route_at, visit_at, with_presence, with_queue}
use Rattle.flt_ops.specs.Operating.{with_cancel}
use Rattle.flt_machine.specs.Tickets.{passing, waits, comes_to_wait, entries_of, teardown_of, by_altitude}
use Rattle.flt_machine.proofs.Passing.{passing_none, passing_one, passing_same, by_altitude_none}
use Rattle.flt_machine.proofs.Passing.{by_altitude_one, by_altitude_past, by_altitude_step}
use Rattle.flt_machine.proofs.Quiet.{implied, none_and}

-- ---- what is read

either_found : {A : Type 0} (b any : Bool) (x : A) (o : Option A) → is_some o ≡ any → is_some (cond b (Some x) o) ≡ (b || any)
either_found true any x o is = refl
either_found false any x o is = is

-- there is a first one where there is any
pub found_any : {A : Type 0} (test : A → Bool) (xs : List A) → is_some (find test xs) ≡ list_any test xs
found_any test [] = refl
found_any test (x ∷ xs) = either_found (test x) (list_any test xs) x (find test xs) (found_any test xs)

some_mapped : {A B : Type 0} (f : A → B) (o : Option A) → is_some o ≡ is_some (option_map f o)
some_mapped f None = refl
some_mapped f (Some x) = refl

-- an entry stands there
pub stands_there : {A : Type 0} (s : Store) (f o : ℕ) (entry_in : A → Entry) (e : Option A) →
    option_map entry_in e ≡ find (is_entry_of s o) (queue_at s f) →
    is_some e ≡ list_any (is_entry_of s o) (queue_at s f)
stands_there s f o entry_in e is =
    some_mapped entry_in e ∙ ap (λ (x : Option Entry). is_some x) is ∙ found_any (is_entry_of s o) (queue_at s f)

-- ---- one operation's entries alone

-- of a filter where one operation alone may come to wait
pub one_entry : (s t : Store) (f a o : ℕ) (b : Bool) → ((k : ℕ) → k ≢ o → comes_to_wait s t f k ≡ false) →
    (nat_lt o (length s.arrivals) && comes_to_wait s t f o) ≡ b →
    entries_of s t f a ≡ (if b then subject.Entry a o ∷ [] else [])
one_entry s t f a o b others is = by (comes_to_wait s t f o) refl (cases_lt o (length s.arrivals))
  where
    none : ((k : ℕ) → k < length s.arrivals → comes_to_wait s t f k ≡ false) → b ≡ false →
        entries_of s t f a ≡ (if b then subject.Entry a o ∷ [] else [])
    none misses out =
        ap (map (subject.Entry a)) (passing_none (comes_to_wait s t f) (length s.arrivals) misses) ∙
        ap (λ (v : Bool). if v then subject.Entry a o ∷ [] else []) (sym out)

    by : (v : Bool) → comes_to_wait s t f o ≡ v → (o < length s.arrivals) ⊎ (length s.arrivals ≤ o) →
        entries_of s t f a ≡ (if b then subject.Entry a o ∷ [] else [])
    by v same (inr past) =
        let out : nat_lt o (length s.arrivals) ≡ false = grind (arith, nat_tests) in
        none (λ k less. others k (λ it. absurd (omega (arith, less, past, it))))
        (sym is ∙ ap (λ (x : Bool). x && comes_to_wait s t f o) out)
    by false same (inl there) =
        none (λ k less. elim (cases_eq k o) [
          | inl it ↦ ap (comes_to_wait s t f) it ∙ same
          | inr differs ↦ others k differs
        ]) (sym is ∙ ap (λ (x : Bool). nat_lt o (length s.arrivals) && x) same ∙ none_and (nat_lt o (length s.arrivals)))
    by true same (inl there) =
        let within : nat_lt o (length s.arrivals) ≡ true = grind (arith, nat_tests) in
        let hits : b ≡ true = sym is ∙ ap (λ (x : Bool). x && comes_to_wait s t f o) within ∙ same in
        ap (map (subject.Entry a))
        (passing_one (comes_to_wait s t f) (length s.arrivals) o there same (λ k less differs. others k differs)) ∙
        ap (λ (v : Bool). if v then subject.Entry a o ∷ [] else []) (sym hits)

-- where the same waits, nothing comes to wait
same_waits : (s t : Store) (f o : ℕ) → waits s t f o ≡ waits s s f o → comes_to_wait s t f o ≡ false
same_waits s t f o same = ap (λ (b : Bool). b && not (waits s s f o)) same ∙ implied (waits s s f o) (waits s s f o) (λ is. is)

-- ---- an operation is cancelled

module _ (s : Store) (o : ℕ) (before : (route_at s o).cancelled ≡ false) where
  there : o < length s.routes
  there = elim (cases_lt o (length s.routes)) [
    | inl here ↦ here
    | inr past ↦
        absurd (let none : (route_at s o).cancelled ≡ true = ap (λ (r : Route). r.cancelled) (get_or_past s.routes o no_route past) in cc)
  ]

  own : (route_at (with_cancel o s) o).cancelled ≡ true
  own = ap (λ (r : Route). r.cancelled) (get_or-set_same s.routes o (record (route_at s o) { cancelled = true }) no_route there)

  others_wait : (f k : ℕ) → k ≢ o → comes_to_wait s (with_cancel o s) f k ≡ false
  others_wait f k differs = same_waits s (with_cancel o s) f k
      (ap (λ (r : Route). (r.cancelled || is_detaching (presence_at s f)) && list_any (is_entry_of s k) (queue_at s f))
      (get_or-set_other s.routes o k (record (route_at s o) { cancelled = true }) no_route differs))

  new_only : (any det : Bool) → (((true || det) && any) && not ((false || det) && any)) ≡ (any && not det)
  new_only true true = refl
  new_only true false = refl
  new_only false true = refl
  new_only false false = refl

  own_waits : (f : ℕ) → comes_to_wait s (with_cancel o s) f o ≡
      (list_any (is_entry_of s o) (queue_at s f) && not (is_detaching (presence_at s f)))
  own_waits f =
      ap (λ (b : Bool). ((b || is_detaching (presence_at s f)) && list_any (is_entry_of s o) (queue_at s f)) && not (waits s s f o)) own ∙
      ap (λ (b : Bool). ((true || is_detaching (presence_at s f)) && list_any (is_entry_of s o) (queue_at s f)) &&
      not ((b || is_detaching (presence_at s f)) && list_any (is_entry_of s o) (queue_at s f))) before ∙
      new_only (list_any (is_entry_of s o) (queue_at s f)) (is_detaching (presence_at s f))

  and_assoc : (a b c : Bool) → (a && (b && c)) ≡ ((a && b) && c)
  and_assoc true b c = refl
  and_assoc false b c = refl

  -- of a filter, its entry, unless the filter is being detached
  pub cancelled_entry : (f a : ℕ) → entries_of s (with_cancel o s) f a ≡
      (if (nat_lt o (length s.arrivals) && list_any (is_entry_of s o) (queue_at s f)) &&
      not (is_detaching (presence_at s f)) then subject.Entry a o ∷ [] else [])
  cancelled_entry f a = one_entry s (with_cancel o s) f a o _ (others_wait f)
      (ap (λ (b : Bool). nat_lt o (length s.arrivals) && b) (own_waits f) ∙
      and_assoc (nat_lt o (length s.arrivals)) (list_any (is_entry_of s o) (queue_at s f)) (not (is_detaching (presence_at s f))))

-- ---- an entry comes into a queue

module _ (s : Store) (f v : ℕ) (x : Option ℕ) (attached : is_attached (presence_at s f) ≡ true)
    (queues : length s.queues ≡ length s.presences) where
  abbrev pub entry : Entry
  entry = record { visit = v; context = x }

  abbrev pub later : Store
  later = with_queue s f (queue_at s f ++ entry ∷ [])

  not_detaching : (p : Presence) → is_attached p ≡ true → is_detaching p ≡ false
  not_detaching Attached is = refl
  not_detaching Detaching is = absurd (cc)
  not_detaching Detached is = absurd (cc)

  in_presences : f < length s.presences
  in_presences = elim (cases_lt f (length s.presences)) [
    | inl here ↦ here
    | inr past ↦ absurd (let none : is_attached (presence_at s f) ≡ false = ap is_attached (get_or_past s.presences f Detached past) in cc)
  ]

  queue_is : queue_at later f ≡ queue_at s f ++ entry ∷ []
  queue_is = get_or-set_same s.queues f (queue_at s f ++ entry ∷ []) [] (omega (arith, in_presences, queues))

  abbrev pub o : ℕ
  o = (visit_at s v).operation

  or_none : (b : Bool) → (b || (false || false)) ≡ b
  or_none true = refl
  or_none false = refl

  other_operations : (k : ℕ) → k ≢ o → comes_to_wait s later f k ≡ false
  other_operations k differs = same_waits s later f k
      (ap (λ (b : Bool). ((route_at s k).cancelled || is_detaching (presence_at s f)) && b)
      (ap (list_any (is_entry_of s k)) queue_is ∙ list_any-append (is_entry_of s k) (queue_at s f) (entry ∷ []) ∙
      ap (λ (b : Bool). list_any (is_entry_of s k) (queue_at s f) || (b || false)) (ne_eqb o k (λ it. differs (sym it))) ∙
      or_none (list_any (is_entry_of s k) (queue_at s f))))

  new_there : (can any : Bool) → (((can || false) && (any || (true || false))) && not ((can || false) && any)) ≡ (can && not any)
  new_there true true = refl
  new_there true false = refl
  new_there false true = refl
  new_there false false = refl

  own_operation : comes_to_wait s later f o ≡ ((route_at s o).cancelled && not (list_any (is_entry_of s o) (queue_at s f)))
  own_operation =
      ap (λ (b : Bool). (((route_at s o).cancelled || b) && list_any (is_entry_of s o) (queue_at later f)) &&
      not (((route_at s o).cancelled || b) && list_any (is_entry_of s o) (queue_at s f))) (not_detaching (presence_at s f) attached) ∙
      ap (λ (b : Bool). (((route_at s o).cancelled || false) && b) &&
      not (((route_at s o).cancelled || false) && list_any (is_entry_of s o) (queue_at s f)))
      (ap (list_any (is_entry_of s o)) queue_is ∙ list_any-append (is_entry_of s o) (queue_at s f) (entry ∷ []) ∙
      ap (λ (b : Bool). list_any (is_entry_of s o) (queue_at s f) || (b || false)) (eq-eqb o o refl)) ∙
      new_there (route_at s o).cancelled (list_any (is_entry_of s o) (queue_at s f))

  other_filters : (g a : ℕ) → g ≢ f → entries_of s later g a ≡ []
  other_filters g a differs =
      ap (map (subject.Entry a)) (passing_none (comes_to_wait s later g) (length s.arrivals) (λ k less. same_waits s later g k
      (ap (λ (q : List Entry). ((route_at s k).cancelled || is_detaching (presence_at s g)) && list_any (is_entry_of s k) q)
      (get_or-set_other s.queues f g (queue_at s f ++ entry ∷ []) [] differs))))

  -- the operation is cancelled, and has no other entry there
  abbrev pub is_new : Bool
  is_new = nat_lt o (length s.arrivals) && ((route_at s o).cancelled && not (list_any (is_entry_of s o) (queue_at s f)))

  own_filter : (a : ℕ) → entries_of s later f a ≡ (if is_new then subject.Entry a o ∷ [] else [])
  own_filter a = one_entry s later f a o is_new other_operations (ap (λ (b : Bool). nat_lt o (length s.arrivals) && b) own_operation)

  pub inserted_one : (altitudes : List ℕ) (a : ℕ) → slice_get altitudes f ≡ Some a → is_new ≡ true →
      by_altitude (entries_of s later) 0 altitudes ≡ subject.Entry a o ∷ []
  inserted_one altitudes a is new =
      by_altitude_one (entries_of s later) altitudes f a is (λ g b differs. other_filters g b differs) ∙ own_filter a ∙
      ap (λ (b : Bool). if b then subject.Entry a o ∷ [] else []) new

  -- an operation that waits at a filter that isn't there makes no entry
  pub inserted_past : (altitudes : List ℕ) → slice_get altitudes f ≡ None → by_altitude (entries_of s later) 0 altitudes ≡ []
  inserted_past altitudes is = by_altitude_past (entries_of s later) altitudes f is (λ g b differs. other_filters g b differs)

  pub inserted_none : (altitudes : List ℕ) → is_new ≡ false → by_altitude (entries_of s later) 0 altitudes ≡ []
  inserted_none altitudes old = by_altitude_none (entries_of s later) altitudes (λ g b. elim (cases_eq g f) [
    | inl same ↦ ap (λ (h : ℕ). entries_of s later h b) same ∙ own_filter b ∙
        ap (λ (y : Bool). if y then subject.Entry b o ∷ [] else []) old
    | inr differs ↦ other_filters g b differs
  ])

  -- the same, by what is read
  abbrev pub new_of : ℕ → Bool
  new_of n = nat_lt n (length s.arrivals) && ((route_at s n).cancelled && not (list_any (is_entry_of s n) (queue_at s f)))

  -- an operation that doesn't come to wait makes no entry
  pub inserted_not : (altitudes : List ℕ) (n : ℕ) (b : Bool) →
      n ≡ o → b ≡ new_of n → b ≡ false → by_altitude (entries_of s later) 0 altitudes ≡ []
  inserted_not altitudes n b same is old = inserted_none altitudes (ap new_of (sym same) ∙ sym is ∙ old)

  -- an operation that comes to wait makes an entry of its filter
  pub inserted_entry : (altitudes : List ℕ) (n a : ℕ) (b : Bool) → n ≡ o → slice_get altitudes f ≡ Some a → b ≡ new_of n → b ≡ true →
      by_altitude (entries_of s later) 0 altitudes ≡ subject.Entry a n ∷ []
  inserted_entry altitudes n a b same at is new =
      inserted_one altitudes a at (ap new_of (sym same) ∙ sym is ∙ new) ∙ ap (λ (k : ℕ). subject.Entry a k ∷ []) (sym same)

-- ---- a filter's teardown begins

module _ (s : Store) (f : ℕ) (attached : is_attached (presence_at s f) ≡ true) where
  abbrev pub torn : Store
  torn = with_presence s f Detaching

  in_filters : f < length s.presences
  in_filters = elim (cases_lt f (length s.presences)) [
    | inl here ↦ here
    | inr past ↦ absurd (let none : is_attached (presence_at s f) ≡ false = ap is_attached (get_or_past s.presences f Detached past) in cc)
  ]

  now_detaching : is_detaching (presence_at torn f) ≡ true
  now_detaching = ap is_detaching (get_or-set_same s.presences f Detaching Detached in_filters)

  was_attached : is_detaching (presence_at s f) ≡ false
  was_attached = by (presence_at s f) attached
    where
      by : (p : Presence) → is_attached p ≡ true → is_detaching p ≡ false
      by Attached is = refl
      by Detaching is = absurd (cc)
      by Detached is = absurd (cc)

  same_presence : (g : ℕ) → g ≢ f → presence_at torn g ≡ presence_at s g
  same_presence g differs = get_or-set_other s.presences f g Detaching Detached differs

  not_yet : (any can : Bool) → (((can || true) && any) && not ((can || false) && any)) ≡ (any && not can)
  not_yet true true = refl
  not_yet true false = refl
  not_yet false true = refl
  not_yet false false = refl

  torn_waits : (k : ℕ) → comes_to_wait s torn f k ≡ (list_any (is_entry_of s k) (queue_at s f) && not (route_at s k).cancelled)
  torn_waits k =
      ap (λ (b : Bool). (((route_at s k).cancelled || b) && list_any (is_entry_of s k) (queue_at s f)) && not (waits s s f k))
      now_detaching ∙
      ap (λ (b : Bool). (((route_at s k).cancelled || true) && list_any (is_entry_of s k) (queue_at s f)) &&
      not (((route_at s k).cancelled || b) && list_any (is_entry_of s k) (queue_at s f))) was_attached ∙
      not_yet (list_any (is_entry_of s k) (queue_at s f)) (route_at s k).cancelled

  other_queues : (g a : ℕ) → g ≢ f → entries_of s torn g a ≡ []
  other_queues g a differs =
      ap (map (subject.Entry a)) (passing_none (comes_to_wait s torn g) (length s.arrivals) (λ k less. same_waits s torn g k
      (ap (λ (p : Presence). ((route_at s k).cancelled || is_detaching p) && list_any (is_entry_of s k) (queue_at s g))
      (same_presence g differs))))

  -- the operations with an entry that aren't cancelled, by what is marked
  pub detached_some : (altitudes : List ℕ) (a : ℕ) (marks : List Bool) (n : ℕ) → slice_get altitudes f ≡ Some a → n ≡ length s.arrivals →
      ((k : ℕ) → k < length s.arrivals → get_or marks k false ≡ list_any (is_entry_of s k) (queue_at s f)) →
      by_altitude (entries_of s torn) 0 altitudes ≡ map (subject.Entry a)
      (passing (λ k. get_or marks k false && not (route_at s k).cancelled) n)
  detached_some altitudes a marks n is same marked =
      by_altitude_one (entries_of s torn) altitudes f a is (λ g b differs. other_queues g b differs) ∙
      ap (map (subject.Entry a))
      (passing_same (comes_to_wait s torn f) (λ k. get_or marks k false && not (route_at s k).cancelled) (length s.arrivals)
      (λ k less. torn_waits k ∙ ap (λ (b : Bool). b && not (route_at s k).cancelled) (sym (marked k less))) ∙
      ap (passing (λ k. get_or marks k false && not (route_at s k).cancelled)) (sym same))

  -- a filter that isn't there makes no entries where it is detached
  pub detached_past : (altitudes : List ℕ) → slice_get altitudes f ≡ None → by_altitude (entries_of s torn) 0 altitudes ≡ []
  detached_past altitudes is = by_altitude_past (entries_of s torn) altitudes f is (λ g b differs. other_queues g b differs)

  other_teardowns : (g a : ℕ) → g ≢ f → teardown_of s torn g a ≡ []
  other_teardowns g a differs =
      ap (λ (b : Bool). if b then subject.Detach a ∷ [] else [])
      (ap (λ (p : Presence). is_detaching p && not (is_detaching (presence_at s g))) (same_presence g differs) ∙
      implied (is_detaching (presence_at s g)) (is_detaching (presence_at s g)) (λ it. it))

  -- its teardown
  pub no_torn : (altitudes : List ℕ) → slice_get altitudes f ≡ None → by_altitude (teardown_of s torn) 0 altitudes ≡ []
  no_torn altitudes is = by_altitude_past (teardown_of s torn) altitudes f is (λ g b differs. other_teardowns g b differs)

  -- a filter whose detachment begins has a teardown
  pub torn_down : (altitudes : List ℕ) (a : ℕ) → slice_get altitudes f ≡ Some a →
      by_altitude (teardown_of s torn) 0 altitudes ≡ subject.Detach a ∷ []
  torn_down altitudes a is =
      by_altitude_one (teardown_of s torn) altitudes f a is (λ g b differs. other_teardowns g b differs) ∙
      ap (λ (b : Bool). if b && not (is_detaching (presence_at s f)) then subject.Detach a ∷ [] else []) now_detaching ∙
      ap (λ (b : Bool). if not b then subject.Detach a ∷ [] else []) was_attached

-- ---- as they are pushed

module _ (s : Store) (o : ℕ) (before : (route_at s o).cancelled ≡ false) where
  -- one filter more on the walk of a cancelled operation
  pub walked : (altitudes : List ℕ) (old now : List Subject) (n : ℕ) (b : Bool) → 0 < n → n ≤ length altitudes →
      b ≡ ((nat_lt o (length s.arrivals) && list_any (is_entry_of s o) (queue_at s (n - 1))) &&
      not (is_detaching (presence_at s (n - 1)))) →
      now ≡ old ++ by_altitude (entries_of s (with_cancel o s)) n (drop n altitudes) →
      now ++ (if b then subject.Entry (get_or altitudes (n - 1) 0) o ∷ [] else []) ≡
      old ++ by_altitude (entries_of s (with_cancel o s)) (n - 1) (drop (n - 1) altitudes)
  walked altitudes old now n b more within is so =
      let next : n ≡ (n - 1) + 1 = omega (arith, more) in
      ap (λ (l : List Subject). l ++ (if b then subject.Entry (get_or altitudes (n - 1) 0) o ∷ [] else [])) so ∙
      append_assoc old (by_altitude (entries_of s (with_cancel o s)) n (drop n altitudes))
      (if b then subject.Entry (get_or altitudes (n - 1) 0) o ∷ [] else []) ∙
      ap (λ (l : List Subject). old ++ l)
      (ap (λ (k : ℕ). by_altitude (entries_of s (with_cancel o s)) k (drop k altitudes) ++
      (if b then subject.Entry (get_or altitudes (n - 1) 0) o ∷ [] else [])) next ∙
      ap (λ (l : List Subject). by_altitude (entries_of s (with_cancel o s)) ((n - 1) + 1) (drop ((n - 1) + 1) altitudes) ++ l)
      (ap (λ (v : Bool). if v then subject.Entry (get_or altitudes (n - 1) 0) o ∷ [] else []) is ∙
      sym (cancelled_entry s o before (n - 1) (get_or altitudes (n - 1) 0))) ∙
      sym (by_altitude_step (entries_of s (with_cancel o s)) altitudes (n - 1) (omega (arith, more, within))))

-- an operation that can be cancelled isn't yet
pub uncancelled_yet : (done cancelled : Bool) → (done || cancelled) ≡ false → cancelled ≡ false
uncancelled_yet true cancelled is = absurd (cc)
uncancelled_yet false cancelled is = is
