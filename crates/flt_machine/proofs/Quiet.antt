-- Changes after which no operation, no entry and no filter gets a ticket.
use Rattle.std.proofs.Common.{◌≡◌, ℕ, zero, suc, ◌+◌, ◌<◌, Bool, true, false, not, ◌&&◌, ◌||◌, List, [], ◌∷◌, ◌++◌}
use Rattle.std.proofs.Common.{length, drop, take, map, if◌then◌else◌, ap, sym, subst, refl, ◌∙◌, inl, inr, arith}
use Rattle.std.proofs.Math.ListN.{set, get_or}
use Rattle.std.proofs.lemmas.Bool.{cases_eq, cases_lt, eq-eqb}
use Rattle.std.proofs.lemmas.List.{get_or-set_same, get_or-set_other, get_or_past, length-set}
use Rattle.std.specs.List.{list_any, before_first, after_first, position_or_len}
use Rattle.flt_model.specs.declared.subject.Subject.TheVariants as subject
use Rattle.flt_model.specs.Moves.{is_done, is_entry_of, other_entries}
use Rattle.flt_model.specs.declared.parts.Entry.{Entry}
use Rattle.flt_model.specs.declared.parts.Position.{Position}
use Rattle.flt_model.specs.declared.parts.Position.TheVariants.{Down, Visiting, Up}
use Rattle.flt_model.specs.World.{Store, Route, no_route}
use Rattle.flt_model.specs.World.{is_detaching, presence_at, queue_at, route_at}
use Rattle.flt_machine.specs.Tickets.{newcomer, goes_on, is_left, operations, waits, comes_to_wait, entries_of, teardown_of, by_altitude}
use Rattle.flt_machine.proofs.Passing.{passing_none, newcomer_none, by_altitude_none}

-- ---- lists in which one place is set

-- what is so at a place, and of what is set, is so after it
pub at_set : {A : Type 0} (P : A → Type 0) (xs : List A) (o k : ℕ) (r d : A) →
    (k ≡ o → P r) → P (get_or xs k d) → P (get_or (set xs o r) k d)
at_set P xs o k r d here there = elim (cases_eq k o) [
  | inl same ↦ elim (cases_lt o (length xs)) [
    | inl within ↦ subst P (sym (ap (λ (j : ℕ). get_or (set xs o r) j d) same ∙ get_or-set_same xs o r d within)) (here same)
    | inr past ↦
        subst P (get_or_past xs k d (omega (arith, past, same)) ∙
        sym (get_or_past (set xs o r) k d (omega (arith, past, same, length-set xs o r)))) there
  ]
  | inr differs ↦ subst P (sym (get_or-set_other xs o k r d differs)) there
]

-- ---- truth

-- where one thing implies another, it doesn't hold without it
pub implied : (a b : Bool) → (a ≡ true → b ≡ true) → (a && not b) ≡ false
implied true true h = refl
implied true false h = absurd (let is = h refl in cc)
implied false b h = refl

all_or : (b : Bool) → (b || true) ≡ true
all_or true = refl
all_or false = refl

-- false and anything is false
pub none_and : (b : Bool) → (b && false) ≡ false
none_and true = refl
none_and false = refl

weaker : (a b c x y z : Bool) → (a ≡ true → x ≡ true) → (b ≡ true → y ≡ true) → (c ≡ true → z ≡ true) →
    ((a || b) && c) ≡ true → ((x || y) && z) ≡ true
weaker true b true x y z f g h is = ap (λ (v : Bool). (v || y) && z) (f refl) ∙ h refl
weaker true b false x y z f g h is = absurd (cc)
weaker false true true x y z f g h is = ap (λ (v : Bool). (x || v) && z) (g refl) ∙ ap (λ (v : Bool). v && z) (all_or x) ∙ h refl
weaker false true false x y z f g h is = absurd (cc)
weaker false false c x y z f g h is = absurd (cc)

-- ---- operations

-- an operation that stays where it is doesn't go on
pub stays : (p : Position) → goes_on p p ≡ false
stays (Down f) = ap not (eq-eqb f f refl)
stays Visiting = refl
stays Up = refl

-- nor does one that comes into a visit
pub into_visit : (p : Position) → goes_on p Visiting ≡ false
into_visit (Down f) = refl
into_visit Visiting = refl
into_visit Up = refl

module _ (s t : Store) where
  -- where none goes on or arrives, none gets a ticket
  pub no_operation : ((o : ℕ) → goes_on (route_at s o).position (route_at t o).position ≡ false) →
      length t.arrivals ≡ length s.arrivals → operations s t ≡ []
  no_operation misses same =
      ap (λ (l : List ℕ). map subject.Operation l ++ newcomer subject.Operation (length s.arrivals) (length t.arrivals))
      (passing_none (is_left s t) (length s.routes) (λ o less. ap (λ (b : Bool). b && not (is_done t o)) (misses o))) ∙
      newcomer_none subject.Operation (length s.arrivals) (length t.arrivals) same

  -- where all stay
  pub same_operations : t.routes ≡ s.routes → length t.arrivals ≡ length s.arrivals → operations s t ≡ []
  same_operations routes arrivals =
      no_operation (λ o.
      ap (λ (l : List Route). goes_on (route_at s o).position (get_or l o no_route).position) routes ∙
      stays (route_at s o).position) arrivals

  -- ---- entries

  -- where no entry comes to wait that didn't wait before
  pub no_entry : (altitudes : List ℕ) → ((f o : ℕ) → o < length s.arrivals → waits s t f o ≡ true → waits s s f o ≡ true) →
      by_altitude (entries_of s t) 0 altitudes ≡ []
  no_entry altitudes misses = by_altitude_none (entries_of s t) altitudes
      (λ f a. ap (map (subject.Entry a))
      (passing_none (comes_to_wait s t f) (length s.arrivals) (λ o less. implied (waits s t f o) (waits s s f o) (misses f o less))))

  -- where no operation comes to be cancelled, no filter to be detached, and nothing comes into a queue
  pub same_entries : (altitudes : List ℕ) → ((o : ℕ) → (route_at t o).cancelled ≡ true → (route_at s o).cancelled ≡ true) →
      ((f : ℕ) → is_detaching (presence_at t f) ≡ true → is_detaching (presence_at s f) ≡ true) →
      ((f o : ℕ) → list_any (is_entry_of s o) (queue_at t f) ≡ true → list_any (is_entry_of s o) (queue_at s f) ≡ true) →
      by_altitude (entries_of s t) 0 altitudes ≡ []
  same_entries altitudes cancelled detaching queued = no_entry altitudes
      (λ f o less. weaker (route_at t o).cancelled (is_detaching (presence_at t f)) (list_any (is_entry_of s o) (queue_at t f))
      (route_at s o).cancelled (is_detaching (presence_at s f)) (list_any (is_entry_of s o) (queue_at s f)) (cancelled o)
      (detaching f) (queued f o))

  -- ---- teardowns

  -- where no more filters are being detached than before, no teardown comes
  pub no_teardown : (altitudes : List ℕ) → ((f : ℕ) → is_detaching (presence_at t f) ≡ true → is_detaching (presence_at s f) ≡ true) →
      by_altitude (teardown_of s t) 0 altitudes ≡ []
  no_teardown altitudes misses = by_altitude_none (teardown_of s t) altitudes
      (λ f a. ap (λ (b : Bool). if b then subject.Detach a ∷ [] else [])
      (implied (is_detaching (presence_at t f)) (is_detaching (presence_at s f)) (misses f)))

-- ---- queues from which something is taken

any_drop : {A : Type 0} (test : A → Bool) (n : ℕ) (xs : List A) → list_any test (drop n xs) ≡ true → list_any test xs ≡ true
any_drop test zero xs is = is
any_drop test (suc n) [] is = absurd (cc)
any_drop test (suc n) (x ∷ xs) is = ap (λ (b : Bool). test x || b) (any_drop test n xs is) ∙ all_or (test x)

more_taken : (b : Bool) (taken all : Bool) → (taken ≡ true → all ≡ true) → (b || taken) ≡ true → (b || all) ≡ true
more_taken true taken all so is = refl
more_taken false taken all so is = so is

any_take : {A : Type 0} (test : A → Bool) (n : ℕ) (xs : List A) → list_any test (take n xs) ≡ true → list_any test xs ≡ true
any_take test zero xs is = absurd (cc)
any_take test (suc n) [] is = absurd (cc)
any_take test (suc n) (x ∷ xs) is = more_taken (test x) (list_any test (take n xs)) (list_any test xs) (any_take test n xs) is

first_or_rest : (b : Bool) (rest whole : Bool) → (b ≡ true → whole ≡ true) → (rest ≡ true → whole ≡ true) →
    (b || rest) ≡ true → whole ≡ true
first_or_rest true rest whole f g is = f refl
first_or_rest false rest whole f g is = g is

any_either : {A : Type 0} (test : A → Bool) (xs ys zs : List A) →
    (list_any test xs ≡ true → list_any test zs ≡ true) → (list_any test ys ≡ true → list_any test zs ≡ true) →
    list_any test (xs ++ ys) ≡ true → list_any test zs ≡ true
any_either test [] ys zs f g is = g is
any_either test (x ∷ xs) ys zs f g is =
    first_or_rest (test x) (list_any test (xs ++ ys)) (list_any test zs) (λ hit. f (ap (λ (b : Bool). b || list_any test xs) hit))
    (any_either test xs ys zs (λ more. f (ap (λ (b : Bool). test x || b) more ∙ all_or (test x))) g) is

-- without its front entry, a queue has no more
pub any_rest : (test : Entry → Bool) (queue : List Entry) → list_any test (drop 1 queue) ≡ true → list_any test queue ≡ true
any_rest test queue is = any_drop test 1 queue is

-- nor without an operation's first
pub any_other : (s : Store) (o : ℕ) (test : Entry → Bool) (queue : List Entry) →
    list_any test (other_entries s o queue) ≡ true → list_any test queue ≡ true
any_other s o test queue is =
    any_either test (before_first (is_entry_of s o) queue) (after_first (is_entry_of s o) queue) queue
    (any_take test (position_or_len (is_entry_of s o) queue) queue) (any_drop test (position_or_len (is_entry_of s o) queue + 1) queue) is
