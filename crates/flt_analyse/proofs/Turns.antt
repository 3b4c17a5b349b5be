-- One turn of the walk's loop, by what its calls say.
use Rattle.std.proofs.Common.{◌≡◌, ◌≢◌, ◌<◌, ◌≤◌, ◌+◌, ℕ, suc, List, length, Some, None, Result, Ok, Err, refl, sym, arith, inl, inr}
use Rattle.std.proofs.Math.Path.{subst}
use Rattle.std.specs.Prelude.{◌⊎◌}
use Rattle.std.proofs.lemmas.Bool.{cases_eq}
use Rattle.flt_rules.specs.declared.rule.Rule.{Rule}
use Rattle.flt_graph.specs.Graph.{line_at}
use Rattle.flt_graph.specs.declared.graph.Graph.{Graph}
use Rattle.flt_cert.specs.Format.{Point}
use Rattle.flt_analyse.specs.Columns.{Column, ProperSteps}
use Rattle.flt_analyse.specs.Least.{HasRoom, IfRefused, IsStop, IsNamed, NoneCovers}
use Rattle.flt_analyse.specs.Pending.{least}
use Rattle.flt_analyse.specs.Walk.{look, taken, opening, outcome_at, Leads, Stops}
use Rattle.flt_analyse.specs.declared.fault.AnalyseFault.{AnalyseFault}
use Rattle.flt_analyse.specs.declared.fault.AnalyseFault.TheVariants.{Refused, OutOfMemory}
use Rattle.flt_analyse.specs.declared.walk.Walk.{Walk}
use Rattle.flt_analyse.proofs.Order.{Laws}
use Rattle.flt_analyse.proofs.Certificates.{Columns, none_covers}
use Rattle.flt_analyse.proofs.Stages.{found}
use Rattle.flt_analyse.proofs.Walks.{Stage, covered, below_all, all_points, stops_all}

-- what a look finds is proper, whether the point was taken out of the pending ones before or after
pub proper_at : (g : Graph) (callback p : ℕ) (w t : Walk) → t ≡ taken w p → ProperSteps (outcome_at g callback p (found t p)) →
    ProperSteps (outcome_at g callback p (found w p))
proper_at g callback p w t e h = subst (λ i. ProperSteps (outcome_at g callback p (found i p))) e h

-- the same look, said of the walk from which the point was taken
pub look_at : (g : Graph) (callback p : ℕ) (w t : Walk) (m : Result Walk Rule) → t ≡ taken w p → look g callback p t ≡ m →
    look g callback p (taken w p) ≡ m
look_at g callback p w t m e h = subst (λ i. look g callback p i ≡ m) e h

-- a walk that the loop stops at a rule is a stop of the callback at that rule, on that line
pub stop_of : Laws → (g : Graph) (callback : ℕ) (w t : Walk) (p line : ℕ) (r : Rule) → Stage g callback w →
    ((n : ℕ) × Leads g callback n (opening g callback) w) → Some p ≡ least w.pending → t ≡ taken w p →
    ProperSteps (outcome_at g callback p (found t p)) → look g callback p t ≡ Err r → line ≡ line_at g callback p →
    IsStop g callback (record { callback = callback; point = p; line = line; rule = r })
stop_of laws g callback w t p line r s led e same ok h at = record {
  here = refl;
  line = at;
  stops = record { looks = led.0; last = w; led = led.1; taken_next = sym e; stopped = look_at g callback p w t (Err r) same h };
  none = stops_all laws g callback w p r s (sym e) (proper_at g callback p w t same ok) (look_at g callback p w t (Err r) same h);
}

-- a walk with nothing pending is the callback's column
pub column_of_end : (g : Graph) (callback : ℕ) (w t : Walk) → Stage g callback w →
    ((n : ℕ) × Leads g callback n (opening g callback) w) → None ≡ least w.pending → t ≡ w → Column g callback t.points
column_of_end g callback w t s led e same = subst (λ (i : Walk). Column g callback i.points) (sym same) (record {
  covered = covered g callback w s (sym e);
  least = below_all g callback w s;
  proper = all_points w.points s.proper;
  ends = record { looks = led.0; last = w; led = led.1; none = sym e };
})

-- one more look of the loop is one more look of the walk from the opening
pub led_on : (g : Graph) (callback : ℕ) (w t v : Walk) (p : ℕ) → ((n : ℕ) × Leads g callback n (opening g callback) w) →
    Some p ≡ least w.pending → t ≡ taken w p → look g callback p t ≡ Ok v →
    (n : ℕ) × Leads g callback n (opening g callback) v
led_on g callback w t v p led e same h = (suc led.0, (w, led.1, p, sym e, look_at g callback p w t (Ok v) same h))

-- ---- the callbacks one after the other

-- where a callback's walk stops at a rule, no certificate covers the graph
pub refused_none : (g : Graph) (callback : ℕ) (f : AnalyseFault) → callback < length g.callbacks →
    IfRefused f (IsStop g callback) → IfRefused f (λ r. NoneCovers g)
refused_none g callback (Refused r) below h = none_covers g callback below h.none
refused_none g callback OutOfMemory below h = tt

-- where the callbacks before have their columns, the refusal of this one is the one that is named
pub refused_named : (g : Graph) (callback : ℕ) (k : List (List Point)) (f : AnalyseFault) → callback < length g.callbacks →
    HasRoom g → Columns g callback k → IfRefused f (IsStop g callback) → IfRefused f (IsNamed g)
refused_named g callback k (Refused r) below room c h = inr (
  room,
  record {
    callback = subst (λ i. i < length g.callbacks) (sym h.here) below;
    line = subst (λ i. r.line ≡ line_at g i r.point) (sym h.here) h.line;
    stops = subst (λ i. Stops g i r.point r.rule) (sym h.here) h.stops;
    earlier = λ i l. (c.each i (subst (λ j. i < j) h.here l)).ends;
  },
)
refused_named g callback k OutOfMemory below room c h = tt

-- a point of another callback isn't counted, and of its own one at most 31 times
pub before_more : (watched callback start before now : ℕ) → (callback ≤ watched → before ≤ start) →
    (watched ≢ callback → now ≤ before) → callback + 1 ≤ watched → now ≤ start
before_more watched callback start before now h other l =
    let a = h (omega arith) in
    let b = other (λ e. absurd (omega arith)) in omega arith

-- a count that began within 31 is within 31 after each callback, watched or not
pub after_more : (watched callback start before now : ℕ) → (callback ≤ watched → before ≤ start) → before ≤ start + 31 →
    now ≤ before + 31 → (watched ≢ callback → now ≤ before) → now ≤ start + 31
after_more watched callback start before now h k own other = by_place (cases_eq watched callback)
  where
    by_place : ((watched ≡ callback) ⊎ (watched ≡ callback → ⊥)) → now ≤ start + 31
    by_place (inl e) = let a = h (omega arith) in omega arith
    by_place (inr e) = let a = other e in omega arith
