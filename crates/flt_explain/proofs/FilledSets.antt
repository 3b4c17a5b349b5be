-- States in which all stands in place of empty sets have no empty set.
use Rattle.std.proofs.Common.{◌≡◌, suc, ◌==◌, ◌&&◌, Bool, true, false, List, [], ◌∷◌, length, refl, ap, ◌∙◌}
use Rattle.std.specs.Prelude.{IsTrue, map, if◌then◌else◌}
use Rattle.std.specs.List.{list_all}
use Rattle.std.proofs.lemmas.Bool.{and_from, eq-eqb}
use Rattle.flt_abs.specs.Locks.{are_locks}
use Rattle.flt_abs.specs.Sets.{StatusSet, ModeSet, DrainingSet, is_possible, is_mode_possible, is_draining_possible}
use Rattle.flt_abs.specs.State.{State, is_proper}
use Rattle.flt_explain.specs.Sets.{or_all, or_both, or_either, filled}
use Rattle.flt_explain.specs.declared.sets.Sets.{Sets}

or_all_possible : (s : StatusSet) → is_possible (or_all s) ≡ true
or_all_possible s = by (is_possible s) refl
  where
    by : (b : Bool) → is_possible s ≡ b → is_possible (if b then s else record { null = true; held = true; stale = true }) ≡ true
    by true e = e
    by false e = refl

or_both_possible : (s : ModeSet) → is_mode_possible (or_both s) ≡ true
or_both_possible s = by (is_mode_possible s) refl
  where
    by : (b : Bool) → is_mode_possible s ≡ b → is_mode_possible (if b then s else record { irp = true; fast = true }) ≡ true
    by true e = e
    by false e = refl

or_either_possible : (s : DrainingSet) → is_draining_possible (or_either s) ≡ true
or_either_possible s = by (is_draining_possible s) refl
  where
    by : (b : Bool) → is_draining_possible s ≡ b → is_draining_possible (if b then s else record { no = true; yes = true }) ≡ true
    by true e = e
    by false e = refl

all_possible : (ss : List StatusSet) → list_all is_possible (map or_all ss) ≡ true
all_possible [] = refl
all_possible (s ∷ ss) = and_from _ _ (or_all_possible s) (all_possible ss)

as_many : (ss : List StatusSet) → length (map or_all ss) ≡ length ss
as_many [] = refl
as_many (s ∷ ss) = ap (λ n. suc n) (as_many ss)

last_of_seven : (a b c d e f g : Bool) → (a && (b && (c && (d && (e && (f && g)))))) ≡ true → g ≡ true
last_of_seven true true true true true true g h = h
last_of_seven true true true true true false g h = absurd (cc)
last_of_seven true true true true false f g h = absurd (cc)
last_of_seven true true true false e f g h = absurd (cc)
last_of_seven true true false d e f g h = absurd (cc)
last_of_seven true false c d e f g h = absurd (cc)
last_of_seven false b c d e f g h = absurd (cc)

all_seven : (a b c d e f g : Bool) → a ≡ true → b ≡ true → c ≡ true → d ≡ true → e ≡ true → f ≡ true → g ≡ true →
    (a && (b && (c && (d && (e && (f && g)))))) ≡ true
all_seven a b c d e f g p q r s t u v = rw (p, q, r, s, t, u, v) refl

-- the locks of a state without an empty set
locks_of_proper : (x : State) → is_proper x ≡ true → are_locks x.locks ≡ true
locks_of_proper x h =
    last_of_seven (length x.contexts == 9) (length x.operations == 5) (list_all is_possible x.contexts) (list_all is_possible x.operations)
    (is_mode_possible x.modes) (is_draining_possible x.draining) (are_locks x.locks) h

-- sets of the right numbers, filled, with the locks of such a state, are such a state
pub filled_is_proper : (s : Sets) (x : State) → length s.contexts ≡ 9 → length s.operations ≡ 5 → IsTrue (is_proper x) →
    IsTrue (is_proper (filled s x))
filled_is_proper s x nine five h =
    all_seven (length (map or_all s.contexts) == 9) (length (map or_all s.operations) == 5) (list_all is_possible (map or_all s.contexts))
    (list_all is_possible (map or_all s.operations)) (is_mode_possible (or_both s.modes)) (is_draining_possible (or_either s.draining))
    (are_locks x.locks) (eq-eqb (length (map or_all s.contexts)) 9 (as_many s.contexts ∙ nine))
    (eq-eqb (length (map or_all s.operations)) 5 (as_many s.operations ∙ five)) (all_possible s.contexts) (all_possible s.operations)
    (or_both_possible s.modes) (or_either_possible s.draining) (locks_of_proper x h)
