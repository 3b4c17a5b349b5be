-- What a ledger says of a step whose events it has taken in: the visits that it has listed are enough to look at.
use Rattle.std.proofs.Common.{◌≡◌, ◌≢◌, ◌⊎◌, ⊎_elim, inl, inr, subst, ℕ, zero, suc, ◌+◌, ◌<◌, ◌≤◌, Bool, true, false}
use Rattle.std.proofs.Common.{List, [], ◌∷◌, ◌++◌, Option, Some, None, ap, sym, refl, ◌∙◌, arith, length, get_or}
use Rattle.std.proofs.Math.ListN.{get_or-append}
use Rattle.std.proofs.Math.Seq.{get_or-append_seam}
use Rattle.std.proofs.lemmas.Bool.{both_ways, true≢false, cases_eq, cases_lt, lt-ltb, le-ltb, eqb-true, eq-eqb}
use Rattle.std.proofs.lemmas.Bool.{and_from, and_parts, or_right, false_from_ne_true, not-false, not-true}
use Rattle.std.proofs.lemmas.List.{length-map, ext_get_or, length-append}
use Rattle.std.proofs.lemmas.List.Sums.{sum_by-cons}
use Rattle.std.specs.List.{list_all}
use Rattle.std.specs.Prelude.{not, ◌&&◌, ◌||◌, ◌==◌, nat_lt, if◌then◌else◌, cond, is_some}
use Rattle.flt_tree.specs.declared.filter.Filter.{Filter}
use Rattle.flt_model.specs.declared.event.Event.{Event}
use Rattle.flt_model.specs.declared.event.Object.{Object}
use Rattle.flt_model.specs.declared.event.Object.TheVariants.{Context, Visit}
use Rattle.flt_model.specs.declared.verdict.Violation.{Violation}
use Rattle.flt_model.specs.declared.verdict.Violation.TheVariants.{V1, V2, V3, V4}
use Rattle.flt_model.specs.Effects.{Step}
use Rattle.flt_model.specs.Runs.{Moment, next, after}
use Rattle.flt_model.specs.Steps.{Transition}
use Rattle.flt_model.specs.Trace.{one_if}
use Rattle.flt_model.specs.Violations.{holding, holders_from, owners, is_owned, one_owner, no_stale_use, no_leak, settled_once}
use Rattle.flt_model.specs.World.{World, Activation, activation_at, nobody, is_settled}
use Rattle.flt_replay.proofs.Machine.Apart.{held_apart}
use Rattle.flt_replay.proofs.Counting.Ones.{one_elsewhere}
use Rattle.flt_replay.proofs.Machine.Locals.{AreQuiet}
use Rattle.flt_replay.proofs.Machine.Onward.{Onward, Peopled, NobodyNew, OneNew, onward}
use Rattle.flt_replay.proofs.Machine.Owners.{Tidy, Spared, tidy_after, one_owner_after, one_owner_at}
use Rattle.flt_replay.proofs.Counting.Tallies.{held_is}
use Rattle.flt_replay.specs.Apart.{ends_in}
use Rattle.flt_replay_records.specs.Counts.{count, occurs}
use Rattle.flt_replay.specs.Holdings.{times_held}
use Rattle.flt_replay.specs.Rows.{count_of}
use Rattle.flt_replay.specs.Judging.{Follows, first_of, of_holding}
use Rattle.flt_replay.specs.Ledger.{Tally, Tells, IsCounted, Agrees, Judged, Halted, Joined, held, share}
use Rattle.flt_replay.specs.Ledger.{running_with, going, waiting, owns, owns_any, first_broken}

-- ---- the listed

all_at : (f : ℕ → Bool) (vs : List ℕ) → list_all f vs ≡ true → (v : ℕ) → occurs v vs ≢ 0 → f v ≡ true
all_at f [] h v some = absurd (some refl)
all_at f (u ∷ vs) h v some =
    let parts = and_parts (f u) (list_all f vs) h in
    ⊎_elim (λ (e : u ≡ v). ap f (sym e) ∙ parts.0)
    (λ (ne : u ≢ v). all_at f vs parts.1 v (λ z. some (omega (arith, sum_by-cons (λ (k : ℕ). one_if k v) u vs, one_elsewhere u v ne, z))))
    (cases_eq u v)

all_from : (f : ℕ → Bool) → ((v : ℕ) → f v ≡ true) → (vs : List ℕ) → list_all f vs ≡ true
all_from f h [] = refl
all_from f h (v ∷ vs) = and_from (f v) (list_all f vs) (h v) (all_from f h vs)

-- ---- holders

sharing : (on : Bool) (n : ℕ) → (if on && nat_lt 0 n then 1 else 0) ≡ share on n
unfolding share
sharing true zero = refl
sharing true (suc n) = ap (λ b. if true && b then 1 else 0) (lt-ltb 0 (suc n) (omega arith)) ∙ omega arith
sharing false n = refl

module _ (t : List Event) (c : Tally) (k : Tells t c) (v : ℕ) where
  holding_is : (a : ℕ) (act : Activation) → holding t v a act ≡ share (not act.ended) (count_of c.visits a v)
  unfolding holding
  holding_is a act =
      ap (λ (b : Bool). if not act.ended && b then 1 else 0) (sym (held_is t c a (Visit v) k))
      ∙ sharing (not act.ended) (count_of c.visits a v)

  holders_are : (acts : List Activation) (a : ℕ) → holders_from t v a acts ≡ running_with (going acts) (λ b. count_of c.visits b v) a
  unfolding running_with
  holders_are [] a = refl
  holders_are (act ∷ acts) a =
      ap (λ n. n + holders_from t v (a + 1) acts) (holding_is a act)
      ∙ ap (λ n. share (not act.ended) (count_of c.visits a v) + n) (holders_are acts (a + 1))

  -- the counts say who owns a visit
  owned_is : (w : World) → IsCounted c → c.running ≡ going w.activations → is_owned w t v ≡ owns c w v
  unfolding owners
  owned_is w counted running =
      let holders : holders_from t v 0 w.activations ≡ count c.holders v =
      holders_are w.activations 0 ∙ ap (λ (ons : List Bool). running_with ons (λ b. count_of c.visits b v) 0) (sym running)
      ∙ sym (counted.by_visit v) in
      let all : owners w t v ≡ count c.holders v + waiting w.store v = omega arith in
      ap (λ n. n == (if is_settled w.store v then 0 else 1)) all

-- ---- counts that differ in who goes on alone

held_alike : (old new : Tally) (ons : List Bool) (holders : List ℕ) →
    new ≡ record old { running = ons; holders = holders } → (a : ℕ) (o : Object) → held new a o ≡ held old a o
held_alike old new ons holders e a (Context x) = ap (λ (d : Tally). times_held d.contexts a x) e
held_alike old new ons holders e a (Visit v) = ap (λ (d : Tally). count_of d.visits a v) e

tells_alike : (t : List Event) (old new : Tally) (ons : List Bool) (holders : List ℕ) →
    new ≡ record old { running = ons; holders = holders } → Tells t old → Tells t new
tells_alike t old new ons holders e k = record {
  balance = λ a o. omega (arith, k.balance a o, held_alike old new ons holders e a o);
  frees_are = λ x. k.frees_are x ∙ sym (ap (λ (d : Tally). count d.freed x) e);
  settles_are = λ v. k.settles_are v ∙ sym (ap (λ (d : Tally). count d.settled v) e);
}

-- ---- which activations go on

going_at : (acts : List Activation) (a : ℕ) → get_or (going acts) a false ≡ not (get_or acts a nobody).ended
going_at [] a = refl
going_at (act ∷ acts) zero = refl
going_at (act ∷ acts) (suc a) = going_at acts a

neither : (b c : Bool) → (not c && not b) ≡ not (b || c)
neither true true = refl
neither true false = refl
neither false true = refl
neither false false = refl

module _ (w : World) (s : Step) (onwards : Onward w s) (ons : List Bool) (size : length ons ≡ length w.activations)
    (flags : (a : ℕ) → get_or ons a false ≡ (get_or (going w.activations) a false && not (ends_in a s.events))) where
  goes_there : (a : ℕ) → a < length w.activations → get_or ons a false ≡ get_or (going s.world.activations) a false
  goes_there a within =
      flags a
      ∙ ap (λ (b : Bool). b && not (ends_in a s.events)) (going_at w.activations a)
      ∙ neither (ends_in a s.events) (activation_at w a).ended
      ∙ ap not (sym (onwards.flags a within))
      ∙ sym (going_at s.world.activations a)

  joined : List Bool
  joined = if nat_lt (length ons) (length s.world.activations) then ons ++ true ∷ [] else ons

  goes_on_all : length s.world.activations ≡ length w.activations → joined ≡ going s.world.activations
  unfolding joined
  goes_on_all is =
      ap (λ (b : Bool). if b then ons ++ true ∷ [] else ons) (le-ltb (length ons) (length s.world.activations) (omega (arith, size, is)))
      ∙ ext_get_or false ons (going s.world.activations)
      (omega (arith, size, is, length-map s.world.activations (λ (act : Activation). not act.ended)))
      (λ i l. goes_there i (omega (arith, size, l)))

  pushed_at : (goes : (activation_at s.world (length w.activations)).ended ≡ false) → (i : ℕ) → i < length ons + 1 →
      (i < length ons) ⊎ (length ons ≤ i) →
      get_or (ons ++ true ∷ []) i false ≡ get_or (going s.world.activations) i false
  pushed_at goes i l (inl below) = get_or-append ons (true ∷ []) false i below ∙ goes_there i (omega (arith, size, below))
  pushed_at goes i l (inr past) =
      let last : length ons ≡ i = omega (arith, past, l) in
      let place : length w.activations ≡ i = omega (arith, size, last) in
      subst (λ (n : ℕ). get_or (ons ++ true ∷ []) n false ≡ true) last (get_or-append_seam ons true [] false)
      ∙ sym (going_at s.world.activations i ∙ ap not (subst (λ (n : ℕ). (activation_at s.world n).ended ≡ false) place goes))

  goes_on_one : length s.world.activations ≡ length w.activations + 1 →
      (activation_at s.world (length w.activations)).ended ≡ false → joined ≡ going s.world.activations
  unfolding joined
  goes_on_one is goes =
      ap (λ (b : Bool). if b then ons ++ true ∷ [] else ons) (lt-ltb (length ons) (length s.world.activations) (omega (arith, size, is)))
      ∙ ext_get_or false (ons ++ true ∷ []) (going s.world.activations)
      (omega (arith, size, is, length-append ons (true ∷ []), length-map s.world.activations (λ (act : Activation). not act.ended)))
      (λ i l. pushed_at goes i (omega (arith, length-append ons (true ∷ []), l)) (cases_lt i (length ons)))

  goes_on_by : Peopled w s.world → joined ≡ going s.world.activations
  goes_on_by (NobodyNew is) = goes_on_all is
  goes_on_by (OneNew is goes) = goes_on_one is goes

  pub joined_is : (if nat_lt (length ons) (length s.world.activations) then ons ++ true ∷ [] else ons) ≡ going s.world.activations
  unfolding joined
  joined_is = goes_on_by onwards.peopled

-- ---- the least violation

abbrev fourth : Option Violation → Bool → Option Violation
fourth (Some v) b = Some v
fourth None b = if b then None else Some V4

abbrev nothing : Option Violation
nothing = None

-- where there is no violation, it is `None`
pub none_from : (o : Option Violation) → is_some o ≡ false → o ≡ None
none_from None e = refl
none_from (Some v) e = absurd (true≢false e)

least : (a b c d : Bool) →
    cond (not a) (Some V1) (cond (not b) (Some V2) (cond (not c) (Some V3) (cond (not d) (Some V4) None)))
    ≡ fourth (if a then (if b then (if c then None else Some V3) else Some V2) else Some V1) d
least true true true true = refl
least true true true false = refl
least true true false d = refl
least true false c d = refl
least false b c d = refl

first_is : (p : List Filter) (m : Moment) (s : Step) →
    first_of of_holding p m s ≡ fourth (first_broken s.world m.trace s.events) (one_owner s.world (m.trace ++ s.events))
first_is p m s = least (no_stale_use s.world m.trace s.events) (no_leak m.trace s.events) (settled_once m.trace s.events)
    (one_owner s.world (m.trace ++ s.events))

-- ---- a step whose events were taken in

module _ (quiet : AreQuiet) (p : List Filter) (m : Moment) (x : Transition) (s : Step) (e : next p m x ≡ Some s)
    (old mid last new : Tally) (some all : List ℕ) (agrees : Agrees m old)
    (j : Judged s.world m.trace s.events old mid [] some true true) (h : Halted s.events mid last some all)
    (n : Joined (length s.world.activations) last new) where
  tidy : Tidy m
  tidy = record { paired = agrees.paired; strangers = agrees.strangers }

  running_mid : mid.running ≡ going m.world.activations
  running_mid = j.same_running ∙ agrees.running_is

  running_new : new.running ≡ going s.world.activations
  running_new =
      ap (λ (d : Tally). d.running) n.only
      ∙ joined_is m.world s (onward quiet p m x s e) last.running
      (h.size ∙ ap length running_mid ∙ length-map m.world.activations (λ (act : Activation). not act.ended))
      (λ a. h.flags a ∙ ap (λ (ons : List Bool). get_or ons a false && not (ends_in a s.events)) running_mid)

  tells_new : Tells (m.trace ++ s.events) new
  tells_new =
      tells_alike (m.trace ++ s.events) last new
      (if nat_lt (length last.running) (length s.world.activations) then last.running ++ true ∷ [] else last.running) new.holders n.only
      (tells_alike (m.trace ++ s.events) mid last last.running last.holders h.only j.tells)

  counted_new : IsCounted new
  counted_new = n.counted (h.counted j.counted)

  owned_new : (v : ℕ) → is_owned s.world (m.trace ++ s.events) v ≡ owns new s.world v
  owned_new v = owned_is (m.trace ++ s.events) new tells_new v s.world counted_new running_new

  spared : (v : ℕ) → occurs v all ≡ 0 → Spared m s v
  spared v z =
      let apart = j.apart v (h.listed v z) in
      record {
        apart = apart;
        released = λ b end. sym (held_apart m.trace s.events b v apart)
            ∙ sym (held_is (m.trace ++ s.events) mid b (Visit v) j.tells) ∙ ap (λ k. nat_lt 0 k) (h.released b v end z);
      }

  is_listed : ℕ → Bool
  is_listed v = not (occurs v all == 0)

  left : (v : ℕ) → is_listed v ≡ false → Spared m s v
  unfolding is_listed
  left v l = spared v (eqb-true (occurs v all) 0 (not-false (occurs v all == 0) l))

  looked : list_all (owns_any new s.world) all ≡ true → (v : ℕ) → v < length s.world.store.visits → is_listed v ≡ true →
      is_owned s.world (m.trace ++ s.events) v ≡ true
  unfolding is_listed
  looked each v within l =
      let any : owns_any new s.world v ≡ true =
      all_at (owns_any new s.world) all each v
      (λ z. both_ways (occurs v all == 0) (not-true (occurs v all == 0) l) (eq-eqb (occurs v all) 0 z)) in
      let here : owns_any new s.world v ≡ owns new s.world v =
      ap (λ b. not b || owns new s.world v) (lt-ltb v (length s.world.store.visits) within) in
      owned_new v ∙ sym here ∙ any

  owned_each : list_all (owns_any new s.world) all ≡ true → one_owner s.world (m.trace ++ s.events) ≡ true
  owned_each each = one_owner_after quiet p m x s e tidy is_listed left (looked each) agrees.owned

  any_owned : one_owner s.world (m.trace ++ s.events) ≡ true → (v : ℕ) → owns_any new s.world v ≡ true
  any_owned one v =
      elim (cases_lt v (length s.world.store.visits)) [
        | inl within ↦ or_right (not (nat_lt v (length s.world.store.visits))) (owns new s.world v)
            (sym (owned_new v) ∙ one_owner_at quiet p m x s e tidy one v within)
        | inr past ↦ ap (λ b. not b || owns new s.world v) (le-ltb v (length s.world.store.visits) past)
      ]

  all_owned : one_owner s.world (m.trace ++ s.events) ≡ true → list_all (owns_any new s.world) all ≡ true
  all_owned one = all_from (owns_any new s.world) (any_owned one) all

  agrees_after : one_owner s.world (m.trace ++ s.events) ≡ true → Agrees (after m s) new
  agrees_after one =
      let later = tidy_after quiet p m x s e tidy in
      record {
        tells = tells_new;
        counted = counted_new;
        running_is = running_new;
        owned = one;
        paired = later.paired;
        strangers = later.strangers;
      }

module _ (quiet : AreQuiet) (p : List Filter) (m : Moment) (x : Transition) (s : Step) (w : World) (es : List Event)
    (old mid last new : Tally) (some all : List ℕ) (agrees : Agrees m old)
    (f : Follows p m x s w es) (found : Option Violation) (no : is_some found ≡ false) (first : found ≡ first_broken w m.trace es)
    (was : List ℕ) (blank : was ≡ []) (taken : found ≡ None → Judged w m.trace es old mid was some true true)
    (h : Halted es mid last some all)
    (n : Joined (length w.activations) last new) where
  none : None ≡ first_broken w m.trace es
  none = sym (none_from found no) ∙ first

  j : Judged w m.trace es old mid [] some true true
  j = subst (λ (listed : List ℕ). Judged w m.trace es old mid listed some true true) blank (taken (none_from found no))

  none_first : None ≡ first_broken s.world m.trace s.events
  none_first =
      subst (λ (v : World). None ≡ first_broken v m.trace s.events) (sym f.world)
      (subst (λ (fs : List Event). None ≡ first_broken w m.trace fs) (sym f.events_are) none)

  judged_step : Judged s.world m.trace s.events old mid [] some true true
  judged_step =
      subst (λ (v : World). Judged v m.trace s.events old mid [] some true true) (sym f.world)
      (subst (λ (fs : List Event). Judged w m.trace fs old mid [] some true true) (sym f.events_are) j)

  halted_step : Halted s.events mid last some all
  halted_step = subst (λ (fs : List Event). Halted fs mid last some all) (sym f.events_are) h

  joined_step : Joined (length s.world.activations) last new
  joined_step = subst (λ (v : World). Joined (length v.activations) last new) (sym f.world) n

  fourth_is : (b : Bool) → one_owner s.world (m.trace ++ s.events) ≡ b → (if b then None else Some V4) ≡ first_of of_holding p m s
  fourth_is b one = sym (first_is p m s ∙ ap (λ o. fourth o (one_owner s.world (m.trace ++ s.events))) (sym none_first)
      ∙ ap (λ (c : Bool). if c then None else Some V4) one)

  -- each that was listed has its owner
  pub concluded : list_all (owns_any new w) all ≡ true → (None ≡ first_of of_holding p m s) × (nothing ≡ None → Agrees (after m s) new)
  concluded each =
      let one = owned_each quiet p m x s f.is old mid last new some all agrees judged_step halted_step joined_step
      (subst (λ (v : World). list_all (owns_any new v) all ≡ true) (sym f.world) each) in
      (fourth_is true one, λ _. agrees_after quiet p m x s f.is old mid last new some all agrees judged_step halted_step joined_step one)

  -- one has not
  pub refuted : list_all (owns_any new w) all ≡ false → Some V4 ≡ first_of of_holding p m s
  refuted each =
      fourth_is false (false_from_ne_true (one_owner s.world (m.trace ++ s.events)) (λ one.
      both_ways (list_all (owns_any new w) all) each
      (subst (λ (v : World). list_all (owns_any new v) all ≡ true) f.world
      (all_owned quiet p m x s f.is old mid last new some all agrees judged_step halted_step joined_step one))))
