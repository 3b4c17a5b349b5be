-- Where nothing changes, nothing is missing.
use Rattle.std.proofs.Common.{arith, ◌≡◌, ◌⊎◌, ◌∙◌, ◌+◌, ◌<◌, ◌≤◌, ◌||◌, ℕ, zero, suc, Bool, true, false}
use Rattle.std.proofs.Common.{true≢false, List, [], ◌∷◌, Option, Some, None, is_none, length, replicate, ap}
use Rattle.std.proofs.Common.{sym, refl, subst, slice_index_or, inl, inr, ⊎_elim, get_or, if◌then◌else◌}
use Rattle.std.proofs.lemmas.Bool.{cases_lt}
use Rattle.std.proofs.lemmas.List.{get_or_past, length-replicate}
use Rattle.flt_rules.specs.declared.call.Anchor.{Anchor}
use Rattle.flt_tree.specs.declared.variable.ContextVariable.{ContextVariable}
use Rattle.flt_graph.specs.Graph.{points_at, no_callback}
use Rattle.flt_graph.specs.declared.graph.CallbackGraph.{CallbackGraph}
use Rattle.flt_graph.specs.declared.graph.Graph.{Graph}
use Rattle.flt_kinds.specs.Cells.{Cells, cells_for, cell, count_empty}
use Rattle.flt_kinds.specs.Flows.{flows, source, spot}
use Rattle.flt_kinds.specs.Kinds.{IsThere, Leads, Reaches, MaySet}
use Rattle.flt_kinds.specs.Kinds.{stays, goes}
use Rattle.flt_kinds.specs.Rounds.{marked_by, changes_by, carried, carries, any_carries, noted_in, notes_in, noted, notes, visited}
use Rattle.flt_kinds.specs.Rounds.{visits, points_visited, points_change, callbacks_change, round_of, changes, IsNarrow}
use Rattle.flt_kinds.specs.Settled.{IsJust, IsComplete}
use Rattle.flt_kinds.specs.Sites.{set_at}
use Rattle.flt_kinds.specs.declared.slot.Flow.{Flow}
use Rattle.flt_kinds.specs.declared.slot.Slot.{Slot}
use Rattle.flt_kinds.specs.declared.slot.Slot.TheVariants.{Variable}
use Rattle.flt_kinds.specs.declared.slot.Spot.{Spot}
use Rattle.flt_kinds.proofs.Marks.{blank_cells, unmarked}
use Rattle.flt_kinds.proofs.Moves.{Moves, visit_moves, points_move, round_moves}

-- ---- tests that are false

left_false : (x y : Bool) → (x || y) ≡ false → x ≡ false
left_false true y e = e
left_false false y e = refl

right_false : (x y : Bool) → (x || y) ≡ false → y ≡ false
right_false true y e = absurd (true≢false e)
right_false false y e = e

-- ---- one statement

unchanged_by : (cells : Cells) (s : Slot) (found : Option Spot) → changes_by cells s found ≡ false → marked_by cells s found ≡ cells
unchanged_by cells s None e = refl
unchanged_by cells s (Some at) e = unmarked cells s at e

carried_same : (callback point : ℕ) (cells : Cells) (f : Flow) → carries callback point cells f ≡ false →
    carried callback point cells f ≡ cells
carried_same callback point cells f e = unchanged_by cells (source callback point f.from) (cell cells f.to) e

-- no flow of a statement changes anything
none_carries : (callback point : ℕ) (cells : Cells) (fs : List Flow) (k : ℕ) (f : Flow) → any_carries callback point cells fs ≡ false →
    k < length fs → get_or fs k f ≡ f → carries callback point cells f ≡ false
none_carries callback point cells [] k f e below is = absurd (omega (arith, below))
none_carries callback point cells (x ∷ fs) zero f e below is =
    subst (λ y. carries callback point cells y ≡ false) is
    (left_false (carries callback point cells x) (any_carries callback point (carried callback point cells x) fs) e)
none_carries callback point cells (x ∷ fs) (suc k) f e below is =
    let more = any_carries callback point (carried callback point cells x) fs in
    let here : carries callback point cells x ≡ false = left_false (carries callback point cells x) more e in
    none_carries callback point cells fs k f
    (subst (λ (l : Cells). any_carries callback point l fs ≡ false) (carried_same callback point cells x here)
    (right_false (carries callback point cells x) more e))
    (omega (arith, below)) is

noted_same_by : (cells : Cells) (at : Spot) (found : Option ContextVariable) → notes_in cells at found ≡ false →
    noted_in cells at found ≡ cells
noted_same_by cells at None e = refl
noted_same_by cells at (Some v) e = unmarked cells (Variable at v) at e

noted_same : (g : Graph) (anchor : Anchor) (callback point : ℕ) (cells : Cells) → notes g anchor callback point cells ≡ false →
    noted g anchor callback point cells ≡ cells
unfolding noted notes
noted_same g anchor callback point cells e = noted_same_by cells (spot callback point) (set_at g anchor callback point) e

visits_notes : (g : Graph) (anchor : Anchor) (callback point : ℕ) (cells : Cells) → visits g anchor callback point cells ≡ false →
    notes g anchor callback point cells ≡ false
unfolding visits
visits_notes g anchor callback point cells e =
    left_false (notes g anchor callback point cells)
    (any_carries callback point (noted g anchor callback point cells) (flows g callback point)) e

visits_carries : (g : Graph) (anchor : Anchor) (callback point : ℕ) (cells : Cells) → visits g anchor callback point cells ≡ false →
    any_carries callback point cells (flows g callback point) ≡ false
unfolding visits
visits_carries g anchor callback point cells e =
    let notes_here = notes g anchor callback point cells in
    let more = any_carries callback point (noted g anchor callback point cells) (flows g callback point) in
    subst (λ (l : Cells). any_carries callback point l (flows g callback point) ≡ false)
    (noted_same g anchor callback point cells (left_false notes_here more e)) (right_false notes_here more e)

-- ---- all statements

-- what is below the number after another one is that one, or below it
pub equal_or_below : (p n : ℕ) → p < suc n → (p ≡ n) ⊎ (p < n)
equal_or_below p n less = ⊎_elim (λ h. inr h) (λ h. inl (omega (arith, h, less))) (cases_lt p n)

point_still : (g : Graph) (anchor : Anchor) (callbacks callback n p : ℕ) (cells : Cells) → IsNarrow g → callback < callbacks →
    n ≤ points_at g callback → length cells ≡ cells_for callbacks → points_change g anchor callback n cells ≡ false → p < n →
    visits g anchor callback p cells ≡ false
point_still g anchor callbacks callback zero p cells narrow h below sized e less = absurd (omega (arith, less))
point_still g anchor callbacks callback (suc n) p cells narrow h below sized e less =
    let more = points_change g anchor callback n (visited g anchor callback n cells) in
    let here : visits g anchor callback n cells ≡ false = left_false (visits g anchor callback n cells) more e in
    let there : IsThere g (spot callback n) = omega (arith, below) in
    let same = (visit_moves g anchor callbacks callback n cells h (omega (arith, below, narrow callback)) sized there).same here in
    ⊎_elim (λ q. subst (λ m. visits g anchor callback m cells ≡ false) (sym q) here)
    (λ low. point_still g anchor callbacks callback n p cells narrow h (omega (arith, below)) sized
    (subst (λ (l : Cells). points_change g anchor callback n l ≡ false) same (right_false (visits g anchor callback n cells) more e)) low)
    (equal_or_below p n less)

callback_still : (g : Graph) (anchor : Anchor) (callbacks n callback p : ℕ) (cells : Cells) → IsNarrow g → n ≤ callbacks →
    length cells ≡ cells_for callbacks → callbacks_change g anchor n cells ≡ false → callback < n → p < points_at g callback →
    visits g anchor callback p cells ≡ false
callback_still g anchor callbacks zero callback p cells narrow below sized e less there = absurd (omega (arith, less))
callback_still g anchor callbacks (suc n) callback p cells narrow below sized e less there =
    let first = points_change g anchor n (points_at g n) cells in
    let more = callbacks_change g anchor n (points_visited g anchor n (points_at g n) cells) in
    let here : points_change g anchor n (points_at g n) cells ≡ false = left_false first more e in
    let within : n < callbacks = omega (arith, below) in
    let same = (points_move g anchor callbacks n (points_at g n) cells narrow within (omega arith) sized).same here in
    ⊎_elim (λ q. point_still g anchor callbacks callback (points_at g callback) p cells narrow
    (subst (λ m. m < callbacks) (sym q) within) (omega arith) sized
    (subst (λ m. points_change g anchor m (points_at g m) cells ≡ false) (sym q) here) there)
    (λ low. callback_still g anchor callbacks n callback p cells narrow (omega (arith, below)) sized
    (subst (λ (l : Cells). callbacks_change g anchor n l ≡ false) same (right_false first more e)) low there)
    (equal_or_below callback n less)

-- a callback with points is there
points_past : (cs : List CallbackGraph) (callback : ℕ) → length cs ≤ callback → length (slice_index_or cs callback no_callback).points ≡ 0
points_past cs callback h = ap (λ (c : CallbackGraph). length c.points) (get_or_past cs callback no_callback h)

no_points : (g : Graph) (callback p : ℕ) → p < points_at g callback → points_at g callback ≡ 0 → callback < length g.callbacks
no_points g callback p there e = absurd (omega (arith, there, e))

-- a callback that has a point is one of the graph
pub is_callback : (g : Graph) (callback p : ℕ) → p < points_at g callback → callback < length g.callbacks
is_callback g callback p there =
    ⊎_elim (λ h. h) (λ h. no_points g callback p there (points_past g.callbacks callback h)) (cases_lt callback (length g.callbacks))

-- where a round changes nothing, no statement does
still_at : (g : Graph) (anchor : Anchor) (cells : Cells) (at : Spot) → IsNarrow g → length cells ≡ cells_for (length g.callbacks) →
    changes g anchor cells ≡ false → IsThere g at → visits g anchor at.callback at.point cells ≡ false
unfolding changes
still_at g anchor cells at narrow sized e there =
    callback_still g anchor (length g.callbacks) (length g.callbacks) at.callback at.point cells narrow (omega arith) sized e
    (is_callback g at.callback at.point there) there

-- ---- nothing is missing

notes_nothing : (g : Graph) (anchor : Anchor) (at : Spot) (v : ContextVariable) (cells : Cells) →
    set_at g anchor at.callback at.point ≡ Some v → notes g anchor at.callback at.point cells ≡ false →
    is_none (cell cells (Variable at v)) ≡ false
unfolding notes
notes_nothing g anchor at v cells sets e = subst (λ o. notes_in cells at o ≡ false) sets e

filled_from : (cells : Cells) (s : Slot) (found : Option Spot) → changes_by cells s found ≡ false → is_none found ≡ false →
    is_none (cell cells s) ≡ false
filled_from cells s None e h = absurd (true≢false h)
filled_from cells s (Some at) e h = e

leads_back : (g : Graph) (anchor : Anchor) (cells : Cells) (from to : Slot) → IsNarrow g → length cells ≡ cells_for (length g.callbacks) →
    changes g anchor cells ≡ false → Leads g from to → is_none (cell cells to) ≡ false → is_none (cell cells from) ≡ false
leads_back g anchor cells from to narrow sized e lead h =
    let at = lead.at in
    let none = visits_carries g anchor at.callback at.point cells (still_at g anchor cells at narrow sized e lead.there) in
    let is : get_or (flows g at.callback at.point) lead.carries.0 lead.carrier ≡ lead.carrier = lead.carries.2 in
    let no : carries at.callback at.point cells lead.carrier ≡ false =
    none_carries at.callback at.point cells (flows g at.callback at.point) lead.carries.0 lead.carrier none lead.carries.1 is in
    subst (λ s. is_none (cell cells s) ≡ false) (sym lead.begins)
    (filled_from cells (source at.callback at.point lead.carrier.from) (cell cells lead.carrier.to) no
    (subst (λ s. is_none (cell cells s) ≡ false) (sym lead.ends) h))

reaches_back : (g : Graph) (anchor : Anchor) (cells : Cells) (from to : Slot) → IsNarrow g → length cells ≡ cells_for (length g.callbacks) →
    changes g anchor cells ≡ false → Reaches g from to → is_none (cell cells to) ≡ false → is_none (cell cells from) ≡ false
reaches_back g anchor cells _ _ narrow sized e stays h = h
reaches_back g anchor cells _ _ narrow sized e (goes {from = from} {by = by} {to = to} lead more) h =
    leads_back g anchor cells from by narrow sized e lead (reaches_back g anchor cells by to narrow sized e more h)

complete_by : (g : Graph) (anchor : Anchor) (cells : Cells) (slot : Slot) (at : Spot) → IsNarrow g →
    length cells ≡ cells_for (length g.callbacks) → changes g anchor cells ≡ false → MaySet g anchor slot at →
    is_none (cell cells slot) ≡ false
complete_by g anchor cells slot at narrow sized e may =
    reaches_back g anchor cells slot (Variable at may.variable) narrow sized e may.reaches
    (notes_nothing g anchor at may.variable cells may.sets
    (visits_notes g anchor at.callback at.point cells (still_at g anchor cells at narrow sized e may.there)))

-- where no point changes a cell, no cell is missing
pub complete : (g : Graph) (anchor : Anchor) (cells : Cells) → IsNarrow g → length cells ≡ cells_for (length g.callbacks) →
    changes g anchor cells ≡ false → IsComplete g anchor cells
unfolding IsComplete
complete g anchor cells narrow sized e = λ slot at may. complete_by g anchor cells slot at narrow sized e may

-- ---- the beginning

pub blank_just : (g : Graph) (anchor : Anchor) (n : ℕ) → IsJust g anchor (replicate n None)
unfolding IsJust
blank_just g anchor n = λ slot at is. absurd (true≢false (ap is_none (sym (blank_cells n slot) ∙ is)))

-- at first there are as many cells as callbacks need
pub sized_first : (n m : ℕ) (cells : Cells) → n ≡ m → cells ≡ replicate (cells_for n) None → length cells ≡ cells_for m
sized_first n m cells e is = ap length is ∙ length-replicate (cells_for n) None ∙ ap cells_for e

-- at first no cell has anything
pub just_first : (g : Graph) (anchor : Anchor) (n : ℕ) (cells : Cells) → cells ≡ replicate (cells_for n) None → IsJust g anchor cells
just_first g anchor n cells is = subst (λ (l : Cells). IsJust g anchor l) (sym is) (blank_just g anchor (cells_for n))

-- ---- a round more

module _ (g : Graph) (anchor : Anchor) (old new : Cells) (more : Bool) (fits : IsNarrow g)
    (sized : length old ≡ cells_for (length g.callbacks)) (went : new ≡ round_of g anchor old)
    (told : more ≡ changes g anchor old) where
  moves : Moves g anchor old (round_of g anchor old) (changes g anchor old)
  moves = round_moves g anchor old fits sized

  -- a round keeps how many cells there are
  pub sized_next : length new ≡ cells_for (length g.callbacks)
  sized_next = ap length went ∙ moves.sized ∙ sized

  -- what cells have after a round may set the context that is there
  pub just_next : IsJust g anchor old → IsJust g anchor new
  just_next j = subst (λ (l : Cells). IsJust g anchor l) (sym went) (moves.just j)

  -- a round without a change leaves nothing to be changed
  pub closed_next : more ≡ false → changes g anchor new ≡ false
  closed_next e =
      let no : changes g anchor old ≡ false = sym told ∙ e in
      subst (λ (l : Cells). changes g anchor l ≡ false) (sym (went ∙ moves.same no)) no

  falls_by : (b : Bool) → more ≡ b → count_empty new + (if more then 1 else 0) < count_empty old + 1
  falls_by true e =
      let less : count_empty (round_of g anchor old) < count_empty old = moves.fewer (sym told ∙ e) in
      subst (λ x. count_empty new + (if x then 1 else 0) < count_empty old + 1) (sym e)
      (subst (λ (l : Cells). count_empty l + 1 < count_empty old + 1) (sym went) (omega (arith, less)))
  falls_by false e =
      let same : new ≡ old = went ∙ moves.same (sym told ∙ e) in
      subst (λ x. count_empty new + (if x then 1 else 0) < count_empty old + 1) (sym e)
      (subst (λ (l : Cells). count_empty l + 0 < count_empty old + 1) (sym same) (omega arith))

  -- a round leaves fewer cells empty, or changes nothing more
  pub falls_next : count_empty new + (if more then 1 else 0) < count_empty old + 1
  falls_next = falls_by more refl
