-- What a ledger's counts say of a trace: what is held, what is live, and that an activation has let everything go.
use Rattle.std.proofs.Common.{◌≡◌, ◌≢◌, ⊎_elim, subst, ℕ, ◌+◌, ◌<◌, ◌≤◌, Bool, true, false, List, [], ◌∷◌, ap, sym, refl, ◌∙◌, arith}
use Rattle.std.proofs.lemmas.Bool.{cases_eq, cases_Bool, both_ways, and_from, and_parts}
use Rattle.std.proofs.lemmas.Bool.{false_from_ne_true, true≢false, ltb-true, ltb-false}
use Rattle.std.proofs.lemmas.Bool.Decides.{nat_tests}
use Rattle.std.proofs.lemmas.List.Sums.{sum_by-cons}
use Rattle.std.specs.Prelude.{nat_lt, ◌==◌, ◌↔◌, IsTrue, not}
use Rattle.std.specs.List.{list_all, sum_by}
use Rattle.flt_model.specs.declared.event.Event.{Event}
use Rattle.flt_model.specs.declared.event.Event.TheVariants as event
use Rattle.flt_model.specs.declared.event.Object.{Object}
use Rattle.flt_model.specs.declared.event.Object.TheVariants.{Context, Visit}
use Rattle.flt_model.specs.Trace.{one_if, of_actor, gains, loses, gain, is_held}
use Rattle.flt_model.specs.Violations.{is_live, is_let_go, leaks_nothing}
use Rattle.flt_replay.proofs.Counting.Ones.{one_elsewhere, actor_none}
use Rattle.flt_replay_records.specs.Counts.{count}
use Rattle.flt_replay.specs.Holdings.{times_held}
use Rattle.flt_replay.specs.Ledger.{Tally, Tells, held}

balanced : (l g h : ℕ) → g ≡ l + h → nat_lt 0 h ≡ nat_lt l g
balanced l g h e = grind (arith, nat_tests)

-- what is held counts
pub held_is : (t : List Event) (c : Tally) (a : ℕ) (o : Object) → Tells t c → nat_lt 0 (held c a o) ≡ is_held t a o
unfolding is_held
held_is t c a o k = balanced (loses t a o) (gains t a o) (held c a o) (k.balance a o)

-- a context that counts as freed isn't live
pub live_is : (t : List Event) (c : Tally) (x : ℕ) → Tells t c → (count c.freed x == 0) ≡ is_live t (Context x)
unfolding is_live
live_is t c x k = ap (λ n. n == 0) (sym (k.frees_are x))

-- visits are live at all times
pub live_visit : (t : List Event) (v : ℕ) → true ≡ is_live t (Visit v)
unfolding is_live
live_visit t v = refl

-- ---- an activation that holds nothing

module _ (t : List Event) (a : ℕ) where
  lets_go : ((x : ℕ) → is_held t a (Context x) ≡ false) → (e : Event) → is_let_go t a e ≡ true
  lets_go h (event.Gain b (Context x)) = ap not (h x)
  lets_go h (event.Gain b (Visit v)) = refl
  lets_go h (event.Call b k) = refl
  lets_go h (event.Status b s) = refl
  lets_go h (event.Lock b l) = refl
  lets_go h (event.Unlock b l) = refl
  lets_go h (event.Use b o) = refl
  lets_go h (event.Empty b) = refl
  lets_go h (event.Lose b o) = refl
  lets_go h (event.Free x) = refl
  lets_go h (event.Settle v) = refl
  lets_go h (event.End b) = refl

  all_let_go : ((x : ℕ) → is_held t a (Context x) ≡ false) → (es : List Event) → list_all (is_let_go t a) es ≡ true
  all_let_go h [] = refl
  all_let_go h (e ∷ es) = and_from (is_let_go t a e) (list_all (is_let_go t a) es) (lets_go h e) (all_let_go h es)

  module _ (x : ℕ) (holds : is_held t a (Context x) ≡ true) where
    not_gained_of : (b y : ℕ) → is_let_go t a (event.Gain b (Context y)) ≡ true → of_actor b a (one_if y x) ≡ 0
    not_gained_of b y h =
        ⊎_elim (λ (e : y ≡ x). absurd (true≢false (sym h ∙ ap not (subst (λ z. is_held t a (Context z) ≡ true) (sym e) holds))))
        (λ (ne : y ≢ x). ap (of_actor b a) (one_elsewhere y x ne) ∙ actor_none b a)
        (cases_eq y x)

    not_gained : (e : Event) → is_let_go t a e ≡ true → gain a (Context x) e ≡ 0
    not_gained (event.Gain b (Context y)) h = not_gained_of b y h
    not_gained (event.Gain b (Visit v)) h = actor_none b a
    not_gained (event.Call b k) h = refl
    not_gained (event.Status b s) h = refl
    not_gained (event.Lock b l) h = refl
    not_gained (event.Unlock b l) h = refl
    not_gained (event.Use b o) h = refl
    not_gained (event.Empty b) h = refl
    not_gained (event.Lose b o) h = refl
    not_gained (event.Free y) h = refl
    not_gained (event.Settle v) h = refl
    not_gained (event.End b) h = refl

    none_gained : (es : List Event) → list_all (is_let_go t a) es ≡ true → sum_by (gain a (Context x)) es ≡ 0
    none_gained [] h = refl
    none_gained (e ∷ es) h =
        let parts = and_parts (is_let_go t a e) (list_all (is_let_go t a) es) h in
        omega (arith, sum_by-cons (gain a (Context x)) e es, not_gained e parts.0, none_gained es parts.1)

  -- what it holds it has gained, so that it can't have let all go
  let_go_is : list_all (is_let_go t a) t ≡ true → (x : ℕ) → is_held t a (Context x) ≡ false
  unfolding is_held gains
  let_go_is h x = false_from_ne_true (is_held t a (Context x)) (λ (holds : is_held t a (Context x) ≡ true).
      let none : gains t a (Context x) ≡ 0 = none_gained x holds t h in
      let more : loses t a (Context x) < gains t a (Context x) = ltb-true (loses t a (Context x)) (gains t a (Context x)) holds in
      omega arith)

  count_none : (c : Tally) → Tells t c → (x : ℕ) → is_held t a (Context x) ≡ false → times_held c.contexts a x ≡ 0
  count_none c k x h =
      let none : times_held c.contexts a x ≤ 0 = ltb-false 0 (times_held c.contexts a x) (held_is t c a (Context x) k ∙ h) in
      omega arith

  held_none : (c : Tally) → Tells t c → (x : ℕ) → times_held c.contexts a x ≡ 0 → is_held t a (Context x) ≡ false
  held_none c k x h = sym (held_is t c a (Context x) k) ∙ ap (λ n. nat_lt 0 n) h

-- it has let all go if no context counts
pub leaks_nothing_is : (t : List Event) (c : Tally) (a : ℕ) (b : Bool) → Tells t c →
    (IsTrue b ↔ ((x : ℕ) → times_held c.contexts a x ≡ 0)) → b ≡ leaks_nothing t (event.End a)
leaks_nothing_is t c a b k h =
    ⊎_elim (λ (e : b ≡ true). e ∙ sym (all_let_go t a (λ x. held_none t a c k x (h.0 e x)) t))
    (λ (e : b ≡ false). e ∙ sym (false_from_ne_true (list_all (is_let_go t a) t)
    (λ go. both_ways b e (h.1 (λ x. count_none t a c k x (let_go_is t a go x))))))
    (cases_Bool b)
