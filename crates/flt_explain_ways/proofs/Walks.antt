-- What a way reaches is in each set that no step leads out of.
use Rattle.std.proofs.Common.{◌≡◌, ℕ, Bool, true, false, List, [], ◌∷◌, Option, Some, None, sym, subst, refl, ◌∙◌}
use Rattle.std.specs.Prelude.{not, ◌==◌, ◌||◌, if◌then◌else◌}
use Rattle.std.proofs.lemmas.Bool.{and_parts, eqb-true}
use Rattle.flt_graph.specs.Graph.{instruction_at}
use Rattle.flt_graph.specs.Points.{successor}
use Rattle.flt_graph.specs.declared.graph.Graph.{Graph}
use Rattle.flt_graph.specs.declared.instruction.Instruction.{Instruction}
use Rattle.flt_graph.specs.declared.instruction.Instruction.TheVariants as instruction
use Rattle.flt_abs.specs.Outcome.{may_come_out}
use Rattle.flt_abs.specs.State.{Situation}
use Rattle.flt_explain_closed.specs.Closed.{IsIn, IsClosed}
use Rattle.flt_explain_closed.specs.declared.member.Member.{Member}
use Rattle.flt_explain_origins.specs.Ways.{next_point, moment_after, breaks_nothing, is_taken, end_of, is_last}
use Rattle.flt_explain_origins.specs.declared.answer.Step.{Step}
use Rattle.flt_explain_origins.specs.declared.situation.Moment.{Moment}

has_successor : (i : Instruction) (t : Situation) (outcome : Bool) → may_come_out i t outcome ≡ true →
    successor i outcome ≡ Some (next_point i outcome)
has_successor (instruction.Act a next) t outcome h = refl
has_successor (instruction.Call c granted refused) t outcome h = refl
has_successor (instruction.Test f granted refused) t outcome h = refl
has_successor (instruction.Repeat turns block next) t outcome h = refl
has_successor (instruction.Return status) t outcome h = cc
has_successor instruction.End t outcome h = cc

-- what is there only where a test passes
when : {A : Type 0} {X : Type 0} (b : Bool) (x : Option X) (m : X) → (if b then x else None) ≡ Some m → (b ≡ true → x ≡ Some m → A) → A
when true x m e f = f refl e
when false x m e f = cc

inside : {X : Type 0} {x y : X} → Some x ≡ Some y → x ≡ y
inside e = cc

-- a step that may be taken may come out so
may_step : (g : Graph) (k : ℕ) (clean : Bool) (p : ℕ) (t : Situation) (s : Step) → is_taken g k clean p t s ≡ true →
    may_come_out (instruction_at g k p) t s.granted ≡ true
may_step g k clean p t s h =
    let parts = and_parts (s.point == p) _ h in
    (and_parts (not clean || breaks_nothing g k p t) (may_come_out (instruction_at g k p) t s.granted) parts.1).1

module _ (g : Graph) (k : ℕ) (locks : Bool) (ms : List Member) (closed : IsClosed g k locks ms) where
  step_in : (clean : Bool) (p : ℕ) (t : Situation) (s : Step) → is_taken g k clean p t s ≡ true → IsIn locks ms p t →
      IsIn locks ms (moment_after g k p t s).point (moment_after g k p t s).situation
  step_in clean p t s h r =
      let may = may_step g k clean p t s h in
      closed.kept p (next_point (instruction_at g k p) s.granted) t s.granted s.gives r may
      (has_successor (instruction_at g k p) t s.granted may)

  -- where steps lead from what is in the set is in the set
  pub end_in : (clean : Bool) (p : ℕ) (t : Situation) (steps : List Step) (m : Moment) → IsIn locks ms p t →
      end_of g k clean p t steps ≡ Some m → IsIn locks ms m.point m.situation
  end_in clean p t [] m r e = subst (λ (m : Moment). IsIn locks ms m.point m.situation) (inside e) r
  end_in clean p t (s ∷ steps) m r e =
      when (is_taken g k clean p t s) (end_of g k clean (moment_after g k p t s).point (moment_after g k p t s).situation steps) m e
      (λ h rest. end_in clean (moment_after g k p t s).point (moment_after g k p t s).situation steps m (step_in clean p t s h r) rest)

  -- the last step: from a situation in the set, at its point
  pub record LastStep (q : ℕ) (m : Moment) : Type 0 where
    pub situation : Situation
    pub step : Step
    pub among : IsIn locks ms q situation
    pub may : may_come_out (instruction_at g k q) situation step.granted ≡ true
    pub after : m ≡ moment_after g k q situation step

  last_at : (clean : Bool) (p q : ℕ) (t : Situation) (s : Step) (m : Moment) → p ≡ q → is_taken g k clean p t s ≡ true → IsIn locks ms p t →
      m ≡ moment_after g k p t s → LastStep q m
  last_at clean p q t s m same h r after =
      subst (λ q. LastStep q m) same
      (record { situation = t; step = s; among = r; may = may_step g k clean p t s h; after = after })

  -- the last step of a path that comes to a point is there in each set that no step leads out of
  pub last_in : (clean : Bool) (p : ℕ) (t : Situation) (steps : List Step) (q : ℕ) (m : Moment) → IsIn locks ms p t →
      end_of g k clean p t steps ≡ Some m → is_last steps q ≡ true → LastStep q m
  last_in clean p t [] q m r e last = cc
  last_in clean p t (s ∷ []) q m r e last =
      when (is_taken g k clean p t s) (Some (moment_after g k p t s)) m e
      (λ h rest.
      let here : s.point ≡ p = eqb-true s.point p (and_parts (s.point == p) _ h).0 in
      last_at clean p q t s m (sym here ∙ eqb-true s.point q last) h r (sym (inside rest)))
  last_in clean p t (s ∷ n ∷ steps) q m r e last =
      when (is_taken g k clean p t s) (end_of g k clean (moment_after g k p t s).point (moment_after g k p t s).situation (n ∷ steps)) m e
      (λ h rest.
      last_in clean (moment_after g k p t s).point (moment_after g k p t s).situation (n ∷ steps) q m (step_in clean p t s h r) rest last)
