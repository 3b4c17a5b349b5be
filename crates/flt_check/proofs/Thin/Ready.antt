-- Going through a callback: what is kept for later points is what follows for them, and a fault is the checker's.
use Rattle.std.proofs.Common.{◌≡◌, ◌<◌, ◌≤◌, ◌+◌, ℕ, suc, Bool, true, false, List, [], ◌∷◌, ◌++◌, length, take}
use Rattle.std.proofs.Common.{set, get_or, Option, Some, None, Ok, refl, sym, ap, ◌∙◌, subst, arith, inl, inr}
use Rattle.std.specs.Prelude.{◌⊎◌, ◌&&◌, ◌==◌, not, nat_lt, if◌then◌else◌, is_some}
use Rattle.std.proofs.lemmas.Bool.{cond-false, cases_lt, cases_eq, ne_eqb, lt-ltb, le-ltb, ltb-true, and_parts, and_from, true≢false}
use Rattle.std.proofs.lemmas.List.{get_or-take, length-take-le, get_or_past, take_more, get_or-set_same, get_or-set_other, length-set}
use Rattle.std.proofs.lemmas.Option.{none-some}
use Rattle.flt_rules.specs.Held.{same_locks}
use Rattle.flt_rules.specs.declared.rule.Rule.TheVariants.{R12, R14}
use Rattle.flt_graph.specs.Graph.{instruction_at}
use Rattle.flt_graph.specs.declared.graph.Graph.{Graph}
use Rattle.flt_abs.specs.State.{State, is_below}
use Rattle.flt_abs.specs.Step.{transfer}
use Rattle.flt_abs.specs.declared.step.Successor.{Successor}
use Rattle.flt_abs.specs.declared.step.Successors.{Successors}
use Rattle.flt_cert.specs.Format.{Point}
use Rattle.flt_check.specs.Checker.{lead_fault}
use Rattle.flt_graph.specs.Kept.{edges_of, edges_into, is_kept}
use Rattle.flt_cert.specs.Thin.{Slot}
use Rattle.flt_check.specs.Full.{reached_by, reached_from, followed, filled_in, full_points}
use Rattle.flt_check.specs.Ready.{waiting, IsReady, waits, put, put_both, slot_fault, side_fault, column_fault}
use Rattle.flt_check.proofs.Thin.Sides.{hits, sides_of, one_hit, reached_first, reached_second, reached_none}
use Rattle.flt_check.proofs.Thin.Edges.{alone, own_edges, IsOther, other_of, followed_at, followed_none}
use Rattle.flt_check.proofs.Thin.Filled.{length-full, full_at}

-- ---- what is given, and what follows

-- a point that is given stays
pub given_at : (g : Graph) (callback : ℕ) (slots : List Slot) (p : ℕ) (x : Point) → get_or slots p None ≡ Some x → p < length slots →
    get_or (full_points g callback slots) p None ≡ x
given_at g callback slots p x e h =
    full_at g callback slots p h ∙ ap (λ s. filled_in g callback (take p (full_points g callback slots)) s) e

-- another follows from those before it
pub follows_at : (g : Graph) (callback : ℕ) (slots : List Slot) (p : ℕ) → get_or slots p None ≡ None → p < length slots →
    get_or (full_points g callback slots) p None ≡ followed g callback p 0 (take p (full_points g callback slots))
follows_at g callback slots p e h =
    let long = length-full g callback slots in
    full_at g callback slots p h
    ∙ (ap (λ s. filled_in g callback (take p (full_points g callback slots)) s) e
    ∙ ap (λ n. followed g callback n 0 (take p (full_points g callback slots))) (length-take-le p (full_points g callback slots)
    (omega arith)))

-- what was kept for a point is its state
pub ready_state : (g : Graph) (callback : ℕ) (slots : List Slot) (p : ℕ) (states : List Point) → IsReady g callback slots p states →
    p < length slots → get_or slots p None ≡ None → get_or states p None ≡ get_or (full_points g callback slots) p None
ready_state g callback slots p states r h e =
    r.each p (omega arith) h ∙ (ap (λ s. waiting g callback slots p p s) e ∙ sym (follows_at g callback slots p e h))

-- ---- one point more

-- a point that has no edge into another changes nothing for it
followed_pass : (g : Graph) (callback to from : ℕ) (points : List Point) (x : Point) (n : ℕ) → n ≡ from + length points →
    edges_of (instruction_at g callback n) to ≡ 0 → followed g callback to from (points ++ x ∷ []) ≡ followed g callback to from points
followed_pass g callback to from [] x n e none =
    let same : n ≡ from = omega arith in
    let miss : edges_of (instruction_at g callback from) to ≡ 0 = subst (λ m. edges_of (instruction_at g callback m) to ≡ 0) same none in
    cond-false (nat_lt 0 (edges_of (instruction_at g callback from) to)) (reached_from g callback from to x) None
    (le-ltb 0 (edges_of (instruction_at g callback from) to) (omega arith))
followed_pass g callback to from (y ∷ points) x n e none =
    ap (λ (z : Point). if nat_lt 0 (edges_of (instruction_at g callback from) to) then reached_from g callback from to y else z)
    (followed_pass g callback to (suc from) points x n (omega arith) none)

-- what follows for a point into which one edge leads at most, from the points up to another, that one included
more_passes : (g : Graph) (callback p later : ℕ) (points : List Point) → p < length points →
    edges_of (instruction_at g callback p) later ≡ 0 →
    followed g callback later 0 (take (p + 1) points) ≡ followed g callback later 0 (take p points)
more_passes g callback p later points h none =
    ap (λ (l : List Point). followed g callback later 0 l) (take_more points p None h)
    ∙ followed_pass g callback later 0 (take p points) (get_or points p None) p (omega (arith, length-take-le p points (omega arith))) none

more_reaches : (g : Graph) (callback p later : ℕ) (points : List Point) → p < length points → edges_into g callback later ≤ 1 →
    0 < edges_of (instruction_at g callback p) later →
    followed g callback later 0 (take (p + 1) points) ≡ reached_from g callback p later (get_or points p None)
more_reaches g callback p later points h few has =
    let front = length-take-le (p + 1) points (omega arith) in
    followed_at g callback later 0 (take (p + 1) points) p p (omega arith) (omega arith) has
    (λ m low high. alone g callback later p m few has (λ e. omega arith))
    ∙ ap (λ x. reached_from g callback p later x) (get_or-take (p + 1) points p None (omega arith))

none_before : (g : Graph) (callback p later : ℕ) (points : List Point) → p < length points → edges_into g callback later ≤ 1 →
    0 < edges_of (instruction_at g callback p) later → followed g callback later 0 (take p points) ≡ None
none_before g callback p later points h few has =
    let front = length-take-le p points (omega arith) in
    followed_none g callback later 0 (take p points) (λ m low high. alone g callback later p m few has (λ e. omega arith))

-- ---- what is put

hit_or_not : (to : ℕ) (o : Option Successor) → ((s : Successor) × (o ≡ Some s) × (s.point ≡ to)) ⊎ (hits to o ≡ 0)
hit_or_not to None = inr refl
hit_or_not to (Some s) = by (cases_eq s.point to)
  where
    by : ((s.point ≡ to) ⊎ (s.point ≡ to → ⊥)) → ((t : Successor) × (Some s ≡ Some t) × (t.point ≡ to)) ⊎ (hits to (Some s) ≡ 0)
    by (inl e) = inl (s, refl, e)
    by (inr e) = inr (cond-false (s.point == to) 1 0 (ne_eqb s.point to e))

length-put : (slots : List Slot) (p : ℕ) (o : Option Successor) (states : List Point) → length (put slots p o states) ≡ length states
length-put slots p None states = refl
length-put slots p (Some s) states = by (waits slots p s.point (get_or slots s.point None))
  where
    by : (b : Bool) → length (if b then set states s.point (Some s.state) else states) ≡ length states
    by true = length-set states s.point (Some s.state)
    by false = refl

put_other : (slots : List Slot) (p later : ℕ) (o : Option Successor) (states : List Point) → hits later o ≡ 0 →
    get_or (put slots p o states) later None ≡ get_or states later None
put_other slots p later None states e = refl
put_other slots p later (Some s) states e = by (waits slots p s.point (get_or slots s.point None))
  where
    apart : later ≡ s.point → ⊥
    apart same = let one = one_hit later (Some s) s refl (sym same) in absurd (omega arith)

    by : (b : Bool) → get_or (if b then set states s.point (Some s.state) else states) later None ≡ get_or states later None
    by true = get_or-set_other states s.point later (Some s.state) None apart
    by false = refl

put_given : (slots : List Slot) (p later : ℕ) (o : Option Successor) (states : List Point) (x : Point) → get_or slots later None ≡ Some x →
    get_or (put slots p o states) later None ≡ get_or states later None
put_given slots p later None states x e = refl
put_given slots p later (Some s) states x e = by (cases_eq s.point later)
  where
    by : ((s.point ≡ later) ⊎ (s.point ≡ later → ⊥)) → get_or (put slots p (Some s) states) later None ≡ get_or states later None
    by (inl same) =
        let here : get_or slots s.point None ≡ Some x = ap (λ n. get_or slots n None) same ∙ e in
        ap (λ b. get_or (if b then set states s.point (Some s.state) else states) later None) (ap (waits slots p s.point) here)
    by (inr apart) = put_other slots p later (Some s) states (cond-false (s.point == later) 1 0 (ne_eqb s.point later apart))

put_here : (slots : List Slot) (p : ℕ) (s : Successor) (states : List Point) → get_or slots s.point None ≡ None → p < s.point →
    s.point < length slots → length slots ≤ length states → get_or (put slots p (Some s) states) s.point None ≡ Some s.state
put_here slots p s states none low high long =
    let waiting_there : waits slots p s.point (get_or slots s.point None) ≡ true =
    ap (waits slots p s.point) none ∙ and_from _ _ (lt-ltb p s.point low) (lt-ltb s.point (length slots) high) in
    ap (λ b. get_or (if b then set states s.point (Some s.state) else states) s.point None) waiting_there
    ∙ get_or-set_same states s.point (Some s.state) None (omega arith)

within_slots : (slots : List Slot) (p : ℕ) (x : Point) → get_or slots p None ≡ Some x → p < length slots
within_slots slots p x e = by (cases_lt p (length slots))
  where
    by : ((p < length slots) ⊎ (length slots ≤ p)) → p < length slots
    by (inl l) = l
    by (inr past) = absurd (none-some x (sym (get_or_past slots p None past) ∙ e))

own_led : (x : State) → is_below x x ≡ true → lead_fault x (Some x) ≡ None
own_led x h = by (same_locks x.locks x.locks) (is_below x x) (and_parts _ _ h).0 h
  where
    by : (b c : Bool) → b ≡ true → c ≡ true → (if not b then Some R12 else (if not c then Some R14 else None)) ≡ None
    by true true e k = refl
    by true false e k = cc
    by false c e k = cc

-- ---- one callback, whose points are given exactly where they are kept

module _ (g : Graph) (callback : ℕ) (slots : List Slot)
    (agree : (p : ℕ) → p < length slots → is_some (get_or slots p None) ≡ is_kept g callback p) where
  others : (p : ℕ) → p < length slots → get_or slots p None ≡ None → IsOther g callback p
  others p h e = other_of g callback p (sym (agree p h) ∙ ap is_some e)

  -- a point that isn't reached leads nowhere
  pub ready_unreached : (p : ℕ) (states : List Point) → IsReady g callback slots p states → p < length slots →
      get_or (full_points g callback slots) p None ≡ None → IsReady g callback slots (p + 1) states
  ready_unreached p states r h none = record {
    wide = r.wide;
    each = λ later low high. by later low high (get_or slots later None) refl (r.each later (omega arith) high);
  }
    where
      same : (later : ℕ) → later < length slots → get_or slots later None ≡ None →
          followed g callback later 0 (take p (full_points g callback slots)) ≡
          followed g callback later 0 (take (p + 1) (full_points g callback slots))
      same later high e = by_edge (cases_lt 0 (edges_of (instruction_at g callback p) later))
        where
          by_edge : ((0 < edges_of (instruction_at g callback p) later) ⊎ (edges_of (instruction_at g callback p) later ≤ 0)) →
              followed g callback later 0 (take p (full_points g callback slots)) ≡
              followed g callback later 0 (take (p + 1) (full_points g callback slots))
          by_edge (inl has) =
              let long = length-full g callback slots in
              let other = others later high e in
              none_before g callback p later (full_points g callback slots) (omega arith) other.few has
              ∙ sym (more_reaches g callback p later (full_points g callback slots) (omega arith) other.few has
              ∙ ap (reached_from g callback p later) none)
          by_edge (inr zero_edges) =
              let long = length-full g callback slots in
              sym (more_passes g callback p later (full_points g callback slots) (omega arith) (omega arith))

      by : (later : ℕ) → p + 1 ≤ later → later < length slots → (s : Slot) → get_or slots later None ≡ s →
          get_or states later None ≡ waiting g callback slots p later (get_or slots later None) →
          get_or states later None ≡ waiting g callback slots (p + 1) later (get_or slots later None)
      by later low high (Some x) e k = k ∙ (ap (waiting g callback slots p later) e ∙ sym (ap (waiting g callback slots (p + 1) later) e))
      by later low high None e k = k ∙ (ap (waiting g callback slots p later) e
          ∙ (same later high e ∙ sym (ap (waiting g callback slots (p + 1) later) e)))

  -- a point that is reached puts its successors where they wait
  module _ (p : ℕ) (states : List Point) (r : IsReady g callback slots p states) (h : p < length slots) (few_points : length slots ≤ 512)
      (x : State) (here : get_or (full_points g callback slots) p None ≡ Some x) (next : Successors)
      (gone : transfer g callback p x ≡ Ok next) where
    reached_now : (later : ℕ) → later < length slots → get_or slots later None ≡ None →
        0 < edges_of (instruction_at g callback p) later →
        followed g callback later 0 (take (p + 1) (full_points g callback slots)) ≡ reached_by later (Ok next)
    reached_now later high e has =
        let long = length-full g callback slots in
        let other = others later high e in
        more_reaches g callback p later (full_points g callback slots) (omega arith) other.few has
        ∙ (ap (reached_from g callback p later) here ∙ ap (reached_by later) gone)

    -- each later point has what follows for it
    now : (later : ℕ) → p < later → later < length slots → get_or slots later None ≡ None →
        get_or (put_both slots p next states) later None ≡ followed g callback later 0 (take (p + 1) (full_points g callback slots))
    now later low high e = by_first (hit_or_not later next.first)
      where
        long : length (full_points g callback slots) ≡ length slots
        long = length-full g callback slots

        wide : length slots ≤ length states
        wide = r.wide

        other : IsOther g callback later
        other = others later high e

        most : hits later next.first + hits later next.second ≤ edges_of (instruction_at g callback p) later
        most = sides_of g callback p x next later gone

        own : edges_of (instruction_at g callback p) later ≤ edges_into g callback later
        own = own_edges g callback p later

        before : get_or states later None ≡ followed g callback later 0 (take p (full_points g callback slots))
        before = r.each later (omega arith) high ∙ ap (waiting g callback slots p later) e

        by_edge : hits later next.first ≡ 0 → hits later next.second ≡ 0 →
            ((0 < edges_of (instruction_at g callback p) later) ⊎ (edges_of (instruction_at g callback p) later ≤ 0)) →
            get_or (put_both slots p next states) later None ≡
            followed g callback later 0 (take (p + 1) (full_points g callback slots))
        by_edge a b (inl has) =
            let l = long in
            let w = wide in
            let m = most in
            let o = own in
            let few = other.few in
            put_other slots p later next.second (put slots p next.first states) b
            ∙ (put_other slots p later next.first states a
            ∙ (before ∙ (none_before g callback p later (full_points g callback slots) (omega arith) few has
            ∙ sym (reached_now later high e has ∙ reached_none later next a b))))
        by_edge a b (inr none) =
            let l = long in
            let w = wide in
            let m = most in
            let o = own in
            put_other slots p later next.second (put slots p next.first states) b
            ∙ (put_other slots p later next.first states a
            ∙ (before ∙ sym (more_passes g callback p later (full_points g callback slots) (omega arith) (omega arith))))

        by_second : hits later next.first ≡ 0 →
            (((s : Successor) × (next.second ≡ Some s) × (s.point ≡ later)) ⊎ (hits later next.second ≡ 0)) →
            get_or (put_both slots p next states) later None ≡
            followed g callback later 0 (take (p + 1) (full_points g callback slots))
        by_second a (inr b) = by_edge a b (cases_lt 0 (edges_of (instruction_at g callback p) later))
        by_second a (inl (s, is, same)) =
            let l = long in
            let w = wide in
            let m = most in
            let o = own in
            let one = one_hit later next.second s is same in
            let few = other.few in
            let less = length-put slots p next.first states in
            let has : 0 < edges_of (instruction_at g callback p) later = omega arith in
            let there : get_or (put slots p (Some s) (put slots p next.first states)) s.point None ≡ Some s.state =
            put_here slots p s (put slots p next.first states) (ap (λ n. get_or slots n None) same ∙ e) (omega arith) (omega arith)
            (omega arith) in
            ap (λ o. get_or (put slots p o (put slots p next.first states)) later None) is
            ∙ (ap (λ n. get_or (put slots p (Some s) (put slots p next.first states)) n None) (sym same)
            ∙ (there ∙ sym (reached_now later high e has ∙ reached_second later next s is same (omega arith))))

        by_first : (((s : Successor) × (next.first ≡ Some s) × (s.point ≡ later)) ⊎ (hits later next.first ≡ 0)) →
            get_or (put_both slots p next states) later None ≡
            followed g callback later 0 (take (p + 1) (full_points g callback slots))
        by_first (inr a) = by_second a (hit_or_not later next.second)
        by_first (inl (s, is, same)) =
            let l = long in
            let w = wide in
            let m = most in
            let o = own in
            let one = one_hit later next.first s is same in
            let few = other.few in
            let has : 0 < edges_of (instruction_at g callback p) later = omega arith in
            let there : get_or (put slots p (Some s) states) s.point None ≡ Some s.state =
            put_here slots p s states (ap (λ n. get_or slots n None) same ∙ e) (omega arith) (omega arith) (omega arith) in
            put_other slots p later next.second (put slots p next.first states) (omega arith)
            ∙ (ap (λ o. get_or (put slots p o states) later None) is
            ∙ (ap (λ n. get_or (put slots p (Some s) states) n None) (sym same)
            ∙ (there ∙ sym (reached_now later high e has ∙ reached_first later next s is same))))

    -- after a point that is reached and breaks no rule all is ready for the next one
    pub ready_reached : IsReady g callback slots (p + 1) (put_both slots p next states)
    ready_reached = record {
      wide = subst (λ n. length slots ≤ n) (sym (length-put slots p next.second (put slots p next.first states)
          ∙ length-put slots p next.first states)) r.wide;
      each = λ later low high. by later low high (get_or slots later None) refl;
    }
      where
        by : (later : ℕ) → p + 1 ≤ later → later < length slots → (s : Slot) → get_or slots later None ≡ s →
            get_or (put_both slots p next states) later None ≡ waiting g callback slots (p + 1) later (get_or slots later None)
        by later low high (Some y) e =
            put_given slots p later next.second (put slots p next.first states) y e
            ∙ (put_given slots p later next.first states y e
            ∙ (r.each later (omega arith) high ∙ (ap (waiting g callback slots p later) e
            ∙ sym (ap (waiting g callback slots (p + 1) later) e))))
        by later low high None e = now later (omega arith) high e ∙ sym (ap (waiting g callback slots (p + 1) later) e)

    -- a later point that isn't given has the state of the one successor that leads to it
    later_state : (s : Successor) → ((next.first ≡ Some s) ⊎ (next.second ≡ Some s)) → p < s.point → s.point < length slots →
        get_or slots s.point None ≡ None → get_or (full_points g callback slots) s.point None ≡ Some s.state
    later_state s which low high e =
        let long = length-full g callback slots in
        let other = others s.point high e in
        let few = other.few in
        let most = sides_of g callback p x next s.point gone in
        let own = own_edges g callback p s.point in
        let has : 0 < edges_of (instruction_at g callback p) s.point = elim which [
          | inl w ↦ (let one = one_hit s.point next.first s w refl in omega arith)
          | inr w ↦ (let one = one_hit s.point next.second s w refl in omega arith)
        ] in
        let front = length-take-le s.point (full_points g callback slots) (omega arith) in
        let first = followed_at g callback s.point 0 (take s.point (full_points g callback slots)) p p (omega arith) (omega arith) has
        (λ m least most_. alone g callback s.point p m few has (λ k. omega arith)) in
        let state : get_or (take s.point (full_points g callback slots)) p None ≡ Some x =
        get_or-take s.point (full_points g callback slots) p None low ∙ here in
        let by_next : reached_by s.point (Ok next) ≡ Some s.state = elim which [
          | inl w ↦ reached_first s.point next s w refl
          | inr w ↦ reached_second s.point next s w refl (omega arith)
        ] in
        follows_at g callback slots s.point e high
        ∙ (first ∙ (ap (reached_from g callback p s.point) state ∙ (ap (reached_by s.point) gone ∙ by_next)))

    -- an earlier one has none
    earlier_state : (s : Successor) → ((next.first ≡ Some s) ⊎ (next.second ≡ Some s)) → s.point ≤ p → s.point < length slots →
        get_or slots s.point None ≡ None → get_or (full_points g callback slots) s.point None ≡ None
    earlier_state s which low high e =
        let long = length-full g callback slots in
        let other = others s.point high e in
        let few = other.few in
        let most = sides_of g callback p x next s.point gone in
        let has : 0 < edges_of (instruction_at g callback p) s.point = elim which [
          | inl w ↦ (let one = one_hit s.point next.first s w refl in omega arith)
          | inr w ↦ (let one = one_hit s.point next.second s w refl in omega arith)
        ] in
        let front = length-take-le s.point (full_points g callback slots) (omega arith) in
        follows_at g callback slots s.point e high
        ∙ followed_none g callback s.point 0 (take s.point (full_points g callback slots))
        (λ m least most_. alone g callback s.point p m few has (λ k. omega arith))

    -- what is wrong with a successor, by its slot, is what is wrong with it by the points that follow
    pub side_fault_is : ((x : State) → is_below x x ≡ true) → (o : Option Successor) → ((next.first ≡ o) ⊎ (next.second ≡ o)) →
        side_fault slots p o ≡ column_fault (full_points g callback slots) o
    side_fault_is reflexive None which = refl
    side_fault_is reflexive (Some s) which = by_slot (get_or slots s.point None) refl
      where
        own_fault : lead_fault s.state (Some s.state) ≡ None
        own_fault = own_led s.state (reflexive s.state)

        by_place : (b : Bool) → (nat_lt p s.point && nat_lt s.point (length slots)) ≡ b → get_or slots s.point None ≡ None →
            (if b then None else Some R14) ≡ lead_fault s.state (get_or (full_points g callback slots) s.point None)
        by_place true k e =
            let both = and_parts (nat_lt p s.point) (nat_lt s.point (length slots)) k in
            sym (ap (lead_fault s.state)
            (later_state s which (ltb-true p s.point both.0) (ltb-true s.point (length slots) both.1) e) ∙ own_fault)
        by_place false k e = by_end (cases_lt s.point (length slots))
          where
            by_end : ((s.point < length slots) ⊎ (length slots ≤ s.point)) →
                Some R14 ≡ lead_fault s.state (get_or (full_points g callback slots) s.point None)
            by_end (inl high) = by_order (cases_lt p s.point)
              where
                by_order : ((p < s.point) ⊎ (s.point ≤ p)) →
                    Some R14 ≡ lead_fault s.state (get_or (full_points g callback slots) s.point None)
                by_order (inl low) =
                    absurd (true≢false (sym (and_from _ _ (lt-ltb p s.point low) (lt-ltb s.point (length slots) high)) ∙ k))
                by_order (inr low) = sym (ap (lead_fault s.state) (earlier_state s which low high e))
            by_end (inr past) =
                let long = length-full g callback slots in
                sym (ap (lead_fault s.state) (get_or_past (full_points g callback slots) s.point None (omega arith)))

        by_slot : (slot : Slot) → get_or slots s.point None ≡ slot → slot_fault slots p s (get_or slots s.point None) ≡
            lead_fault s.state (get_or (full_points g callback slots) s.point None)
        by_slot (Some y) e =
            ap (slot_fault slots p s) e
            ∙ sym (ap (lead_fault s.state) (given_at g callback slots s.point y e (within_slots slots s.point y e)))
        by_slot None e = ap (slot_fault slots p s) e ∙ by_place (nat_lt p s.point && nat_lt s.point (length slots)) refl e
