-- Who holds a lock by the store holds it by its own list, and is of the lock's filter. Each step keeps that: a lock that is taken comes
-- into both, one that is given up leaves both, and no other step touches either.
-- Here w, u are worlds, f is a filter, n a lock's place, h a holder, a and b are activations.
use Rattle.std.proofs.Common.{◌≡◌, ◌≢◌, ℕ, ◌<◌, Bool, true, false, List, [], ◌∷◌, ◌++◌, length, ap, sym, subst, refl, ◌∙◌, arith, inl, inr}
use Rattle.std.specs.Prelude.{not, ◌&&◌, ◌||◌, ◌==◌, if◌then◌else◌, filter}
use Rattle.std.specs.List.{list_any}
use Rattle.std.proofs.Math.ListN.{set, get_or, get_or-append}
use Rattle.std.proofs.lemmas.Bool.{cases_eq, cases_lt, eq-eqb, eqb-true, or_left, or_right}
use Rattle.std.proofs.lemmas.List.{get_or_past, get_or-set_same, get_or-set_other, set_past}
use Rattle.std.proofs.lemmas.List.Folds.{list_any-append}
use Rattle.flt_rules.specs.Call.{place_of}
use Rattle.flt_rules.specs.Held.{held, holds_lock, same_lock, without_last}
use Rattle.flt_rules.specs.declared.call.LockNumber.{LockNumber}
use Rattle.flt_rules.specs.declared.held.Access.{Access}
use Rattle.flt_rules.specs.declared.held.HeldLock.{HeldLock}
use Rattle.flt_model.specs.Locks.{holders_of, with_holders, with_holder, without_holder}
use Rattle.flt_model.specs.declared.parts.Holder.{Holder}
use Rattle.flt_model.specs.World.{World, Store, Actor, Activation, no_actor, nobody, actor_at, activation_at, holders_at}
use Rattle.flt_sound.proofs.sums.Eaches.{Each, each_push, each_map, within}

-- whether a lock of this place is in the list
abbrev pub has_place : ℕ → List HeldLock → Bool
has_place n = list_any (λ (h : HeldLock). n == place_of h.lock)

-- the holder is of the filter, and has the lock in its list
pub record Holds (w : World) (f n : ℕ) (h : Holder) : Type 0 where
  pub of : (actor_at w h.activation).filter ≡ f
  pub has : has_place n (activation_at w h.activation).locks ≡ true

-- so it is of each holder of each lock
abbrev pub AreHeld : World → Type 0
AreHeld w = (f n : ℕ) → Each (Holds w f n) (get_or (holders_at w.store f) n [])

-- a holder is there
holder_there : (w : World) (f n : ℕ) (h : Holder) → Holds w f n h → h.activation < length w.activations
holder_there w f n h k = within w.activations h.activation nobody
    (λ d. let bad : false ≡ true = ap (λ (act : Activation). has_place n act.locks) (sym d) ∙ k.has in absurd (cc))

-- where holders, actors and the locks of all that are there stay, so it stays
pub held_on : (w u : World) → u.store.holders ≡ w.store.holders →
    ((b : ℕ) → b < length w.activations → (actor_at u b).filter ≡ (actor_at w b).filter) →
    ((b : ℕ) → b < length w.activations → (activation_at u b).locks ≡ (activation_at w b).locks) → AreHeld w → AreHeld u
held_on w u same actors locks k f n =
    subst (λ l. Each (Holds u f n) (get_or (get_or l f []) n [])) (sym same)
    (each_map (Holds w f n) (Holds u f n) (get_or (holders_at w.store f) n [])
    (λ h one. let there = holder_there w f n h one in record {
      of = actors h.activation there ∙ one.of;
      has = ap (has_place n) (locks h.activation there) ∙ one.has;
    })
    (k f n))

-- an activation goes on with the locks that it had
pub locks_stay : (acts : List Activation) (a : ℕ) (act : Activation) → act.locks ≡ (get_or acts a nobody).locks → (b : ℕ) →
    (get_or (set acts a act) b nobody).locks ≡ (get_or acts b nobody).locks
locks_stay acts a act same b = elim (cases_eq b a) [
  | inl e ↦ elim (cases_lt a (length acts)) [
    | inl there ↦ rw (e, get_or-set_same acts a act nobody there) same
    | inr past ↦ rw (set_past acts a act past) refl
  ]
  | inr ne ↦ rw (get_or-set_other acts a b act nobody ne) refl
]

-- one activation more
pub held_more : (w : World) (s : Store) (actor : Actor) (act : Activation) → length w.actors ≡ length w.activations →
    s.holders ≡ w.store.holders → AreHeld w →
    AreHeld (record { actors = w.actors ++ actor ∷ []; activations = w.activations ++ act ∷ []; store = s })
held_more w s actor act long same k =
    held_on w (record { actors = w.actors ++ actor ∷ []; activations = w.activations ++ act ∷ []; store = s }) same
    (λ b there. ap (λ (x : Actor). x.filter) (get_or-append w.actors (actor ∷ []) no_actor b (omega (arith, there, long))))
    (λ b there. ap (λ (x : Activation). x.locks) (get_or-append w.activations (act ∷ []) nobody b there))
    k

-- ---- one element of a list is set

-- what holds of the new one, of the default and of each other holds of each
at_set_or : {X : Type 0} (Q : ℕ → X → Type 0) (l : List X) (i : ℕ) (x d : X) → Q i x → Q i d → ((j : ℕ) → j ≢ i → Q j (get_or l j d)) →
    (j : ℕ) → Q j (get_or (set l i x) j d)
at_set_or Q l i x d new none others j = elim (cases_eq j i) [
  | inl e ↦ elim (cases_lt i (length l)) [
    | inl there ↦ rw (e, get_or-set_same l i x d there) new
    | inr past ↦ rw (e, set_past l i x past, get_or_past l i d past) none
  ]
  | inr ne ↦ rw (get_or-set_other l i j x d ne) (others j ne)
]

-- the holders of one lock change: what holds of the new ones, and of those of other locks, holds of all
holders_set : (P : ℕ → ℕ → Holder → Type 0) (s : Store) (g : ℕ) (l : LockNumber) (new : List Holder) → Each (P g (place_of l)) new →
    ((f n : ℕ) → (f ≡ g → n ≢ place_of l) → Each (P f n) (get_or (holders_at s f) n [])) →
    (f n : ℕ) → Each (P f n) (get_or (holders_at (with_holders s g l new) f) n [])
holders_set P s g l new k others f =
    at_set_or (λ f (lists : List (List Holder)). (n : ℕ) → Each (P f n) (get_or lists n [])) s.holders g
    (set (holders_at s g) (place_of l) new) []
    (at_set_or (λ n (list : List Holder). Each (P g n) list) (holders_at s g) (place_of l) new [] k tt (λ n ne. others g n (λ e. ne)))
    (λ n. tt)
    (λ f ne n. others f n (λ e. absurd (ne e))) f

-- ---- an activation takes a lock or gives one up

module _ (w : World) (a : ℕ) (there : a < length w.activations) where
  abbrev own : ℕ
  own = (actor_at w a).filter

  abbrev locks : List HeldLock
  locks = (activation_at w a).locks

  -- a holder of any lock, where the activation has other locks: the same, unless it is the activation, and then if it has the lock still
  holds_after : (act : Activation) (s : Store) (f n : ℕ) → (f ≡ own → has_place n locks ≡ true → has_place n act.locks ≡ true) →
      (h : Holder) → Holds w f n h → Holds (record w { activations = set w.activations a act; store = s }) f n h
  holds_after act s f n still h k = record {
    of = k.of;
    has = elim (cases_eq h.activation a) [
      | inl e ↦
          let f_is : f ≡ own = sym k.of ∙ ap (λ i. (actor_at w i).filter) e in
          rw (e, get_or-set_same w.activations a act nobody there)
          (still f_is (ap (λ i. has_place n (activation_at w i).locks) (sym e) ∙ k.has))
      | inr ne ↦ rw (get_or-set_other w.activations a h.activation act nobody ne) k.has
    ];
  }

  -- a lock more is in the list, and all others are
  more_has : (l : LockNumber) (access : Access) (n : ℕ) → has_place n locks ≡ true → has_place n (locks ++ held l access ∷ []) ≡ true
  more_has l access n h = list_any-append (λ (k : HeldLock). n == place_of k.lock) locks (held l access ∷ []) ∙ or_left _ _ h

  new_has : (l : LockNumber) (access : Access) → has_place (place_of l) (locks ++ held l access ∷ []) ≡ true
  new_has l access = list_any-append (λ (k : HeldLock). place_of l == place_of k.lock) locks (held l access ∷ [])
      ∙ or_right _ _ (or_left _ _ (eq-eqb (place_of l) (place_of l) refl))

  -- a lock is taken
  pub taken_held : (l : LockNumber) (access : Access) (act : Activation) → act.locks ≡ locks ++ held l access ∷ [] → AreHeld w →
      AreHeld (record w {
        activations = set w.activations a act;
        store = with_holder w.store own l (record { activation = a; access = access });
      })
  taken_held l access act same k =
      let s = with_holder w.store own l (record { activation = a; access = access }) in
      let u : World = record w { activations = set w.activations a act; store = s } in
      let old : (f n : ℕ) → Each (Holds u f n) (get_or (holders_at w.store f) n []) = λ f n.
      each_map (Holds w f n) (Holds u f n) (get_or (holders_at w.store f) n [])
      (holds_after act s f n (λ e h. ap (has_place n) same ∙ more_has l access n h)) (k f n) in
      holders_set (Holds u) w.store own l (holders_of w.store own l ++ record { activation = a; access = access } ∷ [])
      (each_push (Holds u own (place_of l)) (holders_of w.store own l) (record { activation = a; access = access }) (old own (place_of l))
      (record {
        of = refl;
        has = rw (get_or-set_same w.activations a act nobody there)
            (ap (has_place (place_of l)) same ∙ new_has l access);
      }))
      (λ f n ne. old f n)

  -- another lock stays in the list
  other_stays : (l : LockNumber) (n : ℕ) → n ≢ place_of l → (ls : List HeldLock) → has_place n ls ≡ true →
      has_place n (without_last l ls) ≡ true
  other_stays l n ne [] h = h
  other_stays l n ne (k ∷ ls) h =
      by (n == place_of k.lock) refl (same_lock l k.lock && not (holds_lock l ls)) refl (other_stays l n ne ls) h
    where
      by : (b : Bool) → (n == place_of k.lock) ≡ b → (c : Bool) → (same_lock l k.lock && not (holds_lock l ls)) ≡ c →
          (has_place n ls ≡ true → has_place n (without_last l ls) ≡ true) →
          (b || has_place n ls) ≡ true → has_place n (if c then ls else k ∷ without_last l ls) ≡ true
      by true e true c others h =
          let place : place_of l ≡ place_of k.lock = eqb-true (place_of l) (place_of k.lock) (first (same_lock l k.lock) _ c) in
          absurd (ne (eqb-true n (place_of k.lock) e ∙ sym place))
        where
          first : (x y : Bool) → (x && y) ≡ true → x ≡ true
          first true y h = refl
          first false y h = h
      by false e true c others h = h
      by true e false c others h = or_left _ _ e
      by false e false c others h = or_right _ _ (others h)

  -- the holders but the activation
  others_held : (u : World) (f n : ℕ) → ((h : Holder) → h.activation ≢ a → Holds w f n h → Holds u f n h) → (hs : List Holder) →
      Each (Holds w f n) hs → Each (Holds u f n) (filter (λ (h : Holder). not (h.activation == a)) hs)
  others_held u f n on [] k = tt
  others_held u f n on (h ∷ hs) k = by (h.activation == a) refl (others_held u f n on hs k.1)
    where
      by : (b : Bool) → (h.activation == a) ≡ b → Each (Holds u f n) (filter (λ (h : Holder). not (h.activation == a)) hs) →
          Each (Holds u f n) (if not b then h ∷ filter (λ (h : Holder). not (h.activation == a)) hs
          else filter (λ (h : Holder). not (h.activation == a)) hs)
      by true e r = r
      by false e r =
          (on h (λ same. let bad : true ≡ false = sym (eq-eqb h.activation a same) ∙ e in absurd (cc)) k.0, r)

  -- a lock is given up
  pub given_up_held : (l : LockNumber) (act : Activation) → act.locks ≡ without_last l locks → AreHeld w →
      AreHeld (record w { activations = set w.activations a act; store = without_holder w.store own l a })
  given_up_held l act same k =
      let s = without_holder w.store own l a in
      let u : World = record w { activations = set w.activations a act; store = s } in
      holders_set (Holds u) w.store own l (filter (λ (h : Holder). not (h.activation == a)) (holders_of w.store own l))
      (others_held u own (place_of l)
      (λ h ne one. record { of = one.of; has = rw (get_or-set_other w.activations a h.activation act nobody ne) one.has })
      (holders_of w.store own l) (k own (place_of l)))
      (λ f n ne. each_map (Holds w f n) (Holds u f n) (get_or (holders_at w.store f) n [])
      (holds_after act s f n (λ e h. ap (has_place n) same ∙ other_stays l n (ne e) locks h)) (k f n))
