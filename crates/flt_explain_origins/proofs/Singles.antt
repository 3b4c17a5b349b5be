-- States that mean one situation alone, and these situations.
use Rattle.std.proofs.Common.{◌≡◌, Bool, true, false, List, [], ◌∷◌, map, sym, ap, subst, refl, ◌∙◌}
use Rattle.std.specs.List.{list_all}
use Rattle.std.specs.Prelude.{IsTrue}
use Rattle.std.proofs.lemmas.Bool.{and_parts, and_from}
use Rattle.flt_rules.specs.declared.place.Mode.{Mode}
use Rattle.flt_rules.specs.declared.place.Mode.TheVariants.{Irp, Fast}
use Rattle.flt_abs.specs.Sets.{StatusSet, ModeSet, DrainingSet, statuses, held_alone, null_alone}
use Rattle.flt_abs.specs.State.{Status, Null, Held, Stale, Situation, State, Means, IsBelow}
use Rattle.flt_abs.specs.State.{state_of, has_status, has_mode, has_draining, have_statuses}
use Rattle.flt_explain_origins.specs.Alone.{status_alone, mode_alone, draining_alone, alone, is_one, is_one_mode}
use Rattle.flt_explain_origins.specs.Alone.{is_one_draining, is_single, status_in, mode_in, situation_in}

-- ---- digits

-- the bits 2 stand for held alone
pub held_is : statuses 2 ≡ held_alone
held_is = refl

-- the bits 1 stand for null alone
pub null_is : statuses 1 ≡ null_alone
null_is = refl

-- ---- there and back

status_back : (s : Status) → status_in (status_alone s) ≡ s
status_back Null = refl
status_back Held = refl
status_back Stale = refl

statuses_back : (ts : List Status) → map status_in (map status_alone ts) ≡ ts
statuses_back [] = refl
statuses_back (t ∷ ts) = λ k. status_back t k ∷ statuses_back ts k

mode_back : (m : Mode) → mode_in (mode_alone m) ≡ m
mode_back Irp = refl
mode_back Fast = refl

draining_back : (b : Bool) → (draining_alone b).yes ≡ b
draining_back true = refl
draining_back false = refl

-- the situation of a state that means it alone
pub situation_alone : (t : Situation) → situation_in (alone t) ≡ t
situation_alone t = λ k. record {
  contexts = statuses_back t.contexts k;
  operations = statuses_back t.operations k;
  mode = mode_back t.mode k;
  draining = draining_back t.draining k;
  locks = t.locks;
}

-- two situations are one where one state means them alone
pub same_alone : (a b : Situation) → alone a ≡ alone b → a ≡ b
same_alone a b e = sym (situation_alone a) ∙ ap situation_in e ∙ situation_alone b

abbrev set_of : Bool → Bool → Bool → StatusSet
set_of n h s = record { null = n; held = h; stale = s }

one_by : (n h s : Bool) → is_one (set_of n h s) ≡ true → status_alone (status_in (set_of n h s)) ≡ set_of n h s
one_by false false false h = cc
one_by false false true h = refl
one_by false true false h = refl
one_by false true true h = cc
one_by true false false h = refl
one_by true false true h = cc
one_by true true false h = cc
one_by true true true h = cc

all_one : (xs : List StatusSet) → list_all is_one xs ≡ true → map status_alone (map status_in xs) ≡ xs
all_one [] h = refl
all_one (x ∷ xs) h =
    let parts = and_parts _ _ h in λ k. one_by x.null x.held x.stale parts.0 k ∷ all_one xs parts.1 k

abbrev modes_of : Bool → Bool → ModeSet
modes_of i f = record { irp = i; fast = f }

one_mode : (i f : Bool) → is_one_mode (modes_of i f) ≡ true → mode_alone (mode_in (modes_of i f)) ≡ modes_of i f
one_mode false false h = cc
one_mode false true h = refl
one_mode true false h = refl
one_mode true true h = cc

abbrev draining_of : Bool → Bool → DrainingSet
draining_of n y = record { no = n; yes = y }

one_draining : (n y : Bool) → is_one_draining (draining_of n y) ≡ true → draining_alone y ≡ draining_of n y
one_draining false false h = cc
one_draining false true h = refl
one_draining true false h = refl
one_draining true true h = cc

-- a state that means just one situation means its situation alone
pub alone_single : (x : State) → IsTrue (is_single x) → alone (situation_in x) ≡ x
alone_single x h =
    let parts = and_parts _ _ h in
    let later = and_parts _ _ parts.1 in
    let last = and_parts _ _ later.1 in
    λ k. state_of (all_one x.contexts parts.0 k) (all_one x.operations later.0 k) (one_mode x.modes.irp x.modes.fast last.0 k)
    (one_draining x.draining.no x.draining.yes last.1 k) x.locks

-- ---- what they mean

status_means : (s : Status) → has_status (status_alone s) s ≡ true
status_means Null = refl
status_means Held = refl
status_means Stale = refl

statuses_mean : (ts : List Status) → have_statuses (map status_alone ts) ts ≡ true
statuses_mean [] = refl
statuses_mean (t ∷ ts) = and_from _ _ (status_means t) (statuses_mean ts)

mode_means : (m : Mode) → has_mode (mode_alone m) m ≡ true
mode_means Irp = refl
mode_means Fast = refl

draining_means : (b : Bool) → has_draining (draining_alone b) b ≡ true
draining_means true = refl
draining_means false = refl

pub alone_means : (t : Situation) → Means (alone t) t
alone_means t = record {
  contexts = statuses_mean t.contexts;
  operations = statuses_mean t.operations;
  mode = mode_means t.mode;
  draining = draining_means t.draining;
  locks = refl;
}

-- what is above a state that means a situation alone means it too
pub means_below : (t : Situation) (x y : State) → x ≡ alone t → IsBelow x y → Means y t
means_below t x y e b = b.situations t (subst (λ z. Means z t) (sym e) (alone_means t))
