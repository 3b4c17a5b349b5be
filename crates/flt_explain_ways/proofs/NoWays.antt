-- A set that no step leads out of rules out each way, where it has nothing of what is found.
use Rattle.std.proofs.Common.{◌≡◌, ◌<◌, ◌+◌, ℕ, zero, suc, Bool, true, false, List, [], ◌∷◌, ◌++◌, length}
use Rattle.std.proofs.Common.{take, get_or, arith, Option, Some, None, map, ap, sym, subst, refl, ◌∙◌}
use Rattle.std.specs.Prelude.{IsTrue, not, ◌==◌, ◌||◌, slice_get}
use Rattle.std.specs.List.{list_all}
use Rattle.std.proofs.lemmas.Bool.{and_parts, eqb-true, eq-eqb}
use Rattle.flt_rules.specs.declared.held.HeldLock.{HeldLock}
use Rattle.flt_rules.specs.declared.rule.Rule.{Rule}
use Rattle.flt_rules.specs.declared.rule.Rule.TheVariants.{R12}
use Rattle.flt_graph.specs.Graph.{instruction_at}
use Rattle.flt_graph.specs.Points.{successor}
use Rattle.flt_graph.specs.declared.graph.Graph.{Graph}
use Rattle.flt_graph.specs.declared.instruction.Instruction.{Instruction}
use Rattle.flt_abs.specs.Outcome.{may_come_out, leaves, side, Reaches}
use Rattle.flt_abs.specs.State.{Situation, State, Means, is_proper}
use Rattle.flt_abs.specs.Step.{leads_to}
use Rattle.flt_abs.specs.declared.step.Successor.{Successor}
use Rattle.flt_abs.specs.declared.step.Successors.{Successors}
use Rattle.flt_explain_closed.specs.Closed.{IsClosed, is_closed}
use Rattle.flt_explain_closed.specs.declared.member.Member.{Member}
use Rattle.flt_explain.specs.declared.finding.Finding.{Finding}
use Rattle.flt_explain_origins.specs.Alone.{alone}
use Rattle.flt_explain_ways.specs.NoWay.{NoWay, NoWayBy, reads_locks, may_break, is_free, is_with}
use Rattle.flt_explain_ways.specs.NoWay.{meets_none, is_alone, rules_out, is_checked, is_ruled_out}
use Rattle.flt_explain_origins.specs.Ways.{or_zero, next_point, are_lists_apart, Shows, Meet}
use Rattle.flt_explain_origins.specs.declared.answer.Way.{Way}
use Rattle.flt_explain_ways.specs.declared.cover.Cover.{Cover}
use Rattle.flt_explain_origins.specs.declared.situation.Moment.{Moment}
use Rattle.flt_explain_ways.proofs.Blame.{found_breaks}
use Rattle.flt_explain_ways.proofs.Growing.{Grows, breaks_above}
use Rattle.flt_explain_ways.proofs.Walks.{end_in, last_in}

-- ---- lists and tests

all_at : {X : Type 0} (p : X → Bool) (xs : List X) (n : ℕ) (x : X) → list_all p xs ≡ true → slice_get xs n ≡ Some x → p x ≡ true
all_at p [] n x h e = cc
all_at p (y ∷ xs) zero x h e = subst (λ y. p y ≡ true) (inside e) (and_parts (p y) (list_all p xs) h).0
  where
    inside : {X : Type 0} {x y : X} → Some x ≡ Some y → x ≡ y
    inside e = cc
all_at p (y ∷ xs) (suc n) x h e = all_at p xs n x (and_parts (p y) (list_all p xs) h).1 e

-- the second holds where the first would rule out what is so
rest_of : (a b : Bool) → a ≡ true → (not a || b) ≡ true → b ≡ true
rest_of true b e h = h
rest_of false b e h = cc

never : (a : Bool) → not a ≡ true → a ≡ true → ⊥
never true h e = cc
never false h e = cc

-- ---- ways that show it

-- the laws of `flt_abs`
abbrev pub Follows : Type 0
Follows =
    (i : Instruction) (x : State) (t : Situation) (outcome gives : Bool) →
    Means x t → may_come_out i t outcome ≡ true →
    Reaches (side (leads_to x i) outcome) (successor i outcome) (leaves i outcome gives t)

module _ (g : Graph) (f : Finding) (locks : Bool) (ms : List Member) (closed : IsClosed g f.callback locks ms) where
  none_shows : Grows → (locks || not (reads_locks f.rule)) ≡ true → list_all (is_free g f) ms ≡ true → (clean : Bool) (w : Way) →
      Shows g f clean w → ⊥
  none_shows grows fits free clean w shows =
      let r = end_in g f.callback locks ms closed clean 0 w.start w.steps w.end (closed.entered w.start shows.way.starts) shows.way.leads in
      let here = all_at (is_free g f) ms r.number r.member free r.there in
      let at : (r.member.point == f.point) ≡ true = eq-eqb r.member.point f.point (r.point ∙ shows.there) in
      let parts = and_parts (is_proper r.member.state) (not (may_break g f r.member.state)) (rest_of _ _ at here) in
      never (may_break g f r.member.state) parts.1
      (breaks_above grows g f locks r.member.state w.end.situation fits parts.0 r.means
      (found_breaks g f (alone w.end.situation) shows.found))

  -- ---- ways that meet

  apart_not : (s : Option Successor) (p : Option ℕ) (t : Situation) (q : ℕ) (b : Member) (n : ℕ) (hs : List HeldLock) → q ≡ or_zero p →
      meets_none f.subject ms s ≡ true → Reaches s p t → slice_get ms n ≡ Some b → b.point ≡ q → b.state.locks ≡ hs →
      are_lists_apart f.subject t.locks hs ≡ true → ⊥
  apart_not None p t q b n hs same none r there point locks apart = absurd r
  apart_not (Some s) p t q b n hs same none r there point locks apart =
      let with_s = all_at (is_with f.subject s) ms n b none there in
      let at : b.point ≡ s.point = point ∙ same ∙ sym (ap or_zero r.0) in
      never (are_lists_apart f.subject s.state.locks b.state.locks) (rest_of _ _ (eq-eqb b.point s.point at) with_s)
      (subst (λ hs. are_lists_apart f.subject hs b.state.locks ≡ true) (sym r.1.locks)
      (subst (λ hs. are_lists_apart f.subject t.locks hs ≡ true) (sym locks) apart))

none_meet : Follows → (g : Graph) (f : Finding) (ms : List Member) → IsClosed g f.callback true ms → list_all (is_alone g f ms) ms ≡ true →
    (clean : Bool) (w v : Way) → Meet g f clean w v → ⊥
none_meet follows g f ms closed free clean w v meet =
    let i = instruction_at g f.callback f.point in
    let l = last_in g f.callback true ms closed clean 0 w.start w.steps f.point w.end
    (closed.entered w.start meet.way.starts) meet.way.leads meet.from in
    let o = end_in g f.callback true ms closed clean 0 v.start v.steps v.end (closed.entered v.start meet.other.starts) meet.other.leads in
    let a = l.among in
    let here = all_at (is_alone g f ms) ms a.number a.member free a.there in
    let next = leads_to a.member.state i in
    let both = and_parts (meets_none f.subject ms next.first) (meets_none f.subject ms next.second)
    (rest_of _ _ (eq-eqb a.member.point f.point a.point) here) in
    let reach = follows i a.member.state l.situation l.step.granted l.step.gives a.means l.may in
    let none : meets_none f.subject ms (side next l.step.granted) ≡ true = by l.step.granted next both.0 both.1 in
    let point : o.member.point ≡ next_point i l.step.granted = o.point ∙ sym meet.there ∙ ap (λ (m : Moment). m.point) l.after in
    let apart : are_lists_apart f.subject (leaves i l.step.granted l.step.gives l.situation).locks v.end.situation.locks ≡ true =
    subst (λ (m : Moment). are_lists_apart f.subject m.situation.locks v.end.situation.locks ≡ true) l.after meet.apart in
    apart_not g f true ms closed (side (leads_to a.member.state i) l.step.granted) (successor i l.step.granted)
    (leaves i l.step.granted l.step.gives l.situation) (next_point i l.step.granted) o.member o.number v.end.situation.locks refl
    none reach o.there point o.means.locks apart
  where
    by : (b : Bool) (next : Successors) → meets_none f.subject ms next.first ≡ true → meets_none f.subject ms next.second ≡ true →
        meets_none f.subject ms (side next b) ≡ true
    by true next p q = p
    by false next p q = q

-- ---- the answer

abbrev Closes : Type 0
Closes = (g : Graph) (k : ℕ) (locks : Bool) (ms : List Member) → IsTrue (is_closed g k locks ms) → IsClosed g k locks ms

no_way : Follows → Grows → (g : Graph) (f : Finding) (c : Cover) (r : Rule) → f.rule ≡ r → IsClosed g f.callback c.locks c.members →
    rules_out r g f c ≡ true → NoWayBy r g f
no_way follows grows g f c R12 e closed h = λ clean w v meet.
    let parts = and_parts c.locks (list_all (is_alone g f c.members) c.members) h in
    none_meet follows g f c.members (subst (λ b. IsClosed g f.callback b c.members) parts.0 closed) parts.1 clean w v meet
no_way follows grows g f c r e closed h = λ clean w shows.
    let parts = and_parts (c.locks || not (reads_locks r)) (list_all (is_free g f) c.members) h in
    none_shows g f c.locks c.members closed grows (subst (λ r. (c.locks || not (reads_locks r)) ≡ true) (sym e) parts.0) parts.1
    clean w shows

map_at : {X Y : Type 0} (f : X → Y) (xs : List X) (n : ℕ) (x : X) → slice_get xs n ≡ Some x → slice_get (map f xs) n ≡ Some (f x)
map_at f [] n x e = cc
map_at f (y ∷ xs) zero x e = subst (λ z. slice_get (map f (y ∷ xs)) 0 ≡ Some (f z)) (inside e) refl
  where
    inside : {X : Type 0} {x y : X} → Some x ≡ Some y → x ≡ y
    inside e = cc
map_at f (y ∷ xs) (suc n) x e = map_at f xs n x e

-- a cover that was found to be closed rules out each way
pub ruled_out : Follows → Grows → Closes → (g : Graph) (f : Finding) (covers : List Cover) (closed : List Bool) (n : ℕ) →
    closed ≡ map (is_checked g) covers → is_ruled_out g f (slice_get covers n) (slice_get closed n) ≡ true → NoWay g f
ruled_out follows grows closes g f covers closed n e h = from (slice_get covers n) (slice_get closed n) refl refl h
  where
    inside : {X : Type 0} {x y : X} → Some x ≡ Some y → x ≡ y
    inside e = cc

    from : (c : Option Cover) (b : Option Bool) → slice_get covers n ≡ c → slice_get closed n ≡ b → is_ruled_out g f c b ≡ true → NoWay g f
    from (Some c) (Some true) there checked h =
        let parts = and_parts (c.callback == f.callback) (rules_out f.rule g f c) h in
        let same : is_checked g c ≡ true =
        inside (sym (map_at (is_checked g) covers n c there) ∙ sym (ap (λ bs. slice_get bs n) e) ∙ checked) in
        let closed_c : IsClosed g f.callback c.locks c.members =
        subst (λ k. IsClosed g k c.locks c.members) (eqb-true c.callback f.callback parts.0) (closes g c.callback c.locks c.members same) in
        no_way follows grows g f c f.rule refl closed_c parts.1
    from (Some c) (Some false) there checked h = cc
    from (Some c) None there checked h = cc
    from None b there checked h = cc

-- what is found out of one cover more
pub one_more : (g : Graph) (covers : List Cover) (i : ℕ) (c : Cover) (all more : List Bool) → i < length covers → c ≡ get_or covers i c →
    all ≡ map (is_checked g) (take i covers) → more ≡ all ++ is_checked g c ∷ [] → more ≡ map (is_checked g) (take (i + 1) covers)
one_more g covers i c all more less is kept e =
    let next : i + 1 ≡ suc i = omega arith in
    rw next (e ∙ ap (λ bs. bs ++ is_checked g c ∷ []) kept ∙ taken covers i less is)
  where
    taken : (xs : List Cover) (i : ℕ) → i < length xs → c ≡ get_or xs i c →
        map (is_checked g) (take i xs) ++ is_checked g c ∷ [] ≡ map (is_checked g) (take (suc i) xs)
    taken [] i less is = elim less [ ]
    taken (x ∷ xs) zero less is = ap (λ x. is_checked g x ∷ []) is
    taken (x ∷ xs) (suc i) less is = ap (λ bs. is_checked g x ∷ bs) (taken xs i (omega (arith, less)) is)
