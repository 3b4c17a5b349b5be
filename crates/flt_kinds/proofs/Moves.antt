-- What a round does to the cells: it keeps what they are for, and each change leaves fewer of them empty.
use Rattle.std.proofs.Common.{arith, ◌≡◌, ◌∙◌, ◌<◌, ◌≤◌, ◌||◌, ℕ, zero, suc, Bool, true, false, true≢false, List, []}
use Rattle.std.proofs.Common.{◌∷◌, Option, Some, None, is_none, length, sym, refl, subst, Contains, zero-lt-suc}
use Rattle.std.proofs.lemmas.List.Elements.{Contains-append_right}
use Rattle.flt_rules.specs.declared.call.Anchor.{Anchor}
use Rattle.flt_tree.specs.declared.variable.ContextVariable.{ContextVariable}
use Rattle.flt_graph.specs.Graph.{points_at}
use Rattle.flt_graph.specs.declared.graph.Graph.{Graph}
use Rattle.flt_kinds.specs.Cells.{Cells, cells_for, IsWithin, cell, marked, count_empty}
use Rattle.flt_kinds.specs.Flows.{flows, source, spot}
use Rattle.flt_kinds.specs.Kinds.{IsThere, MaySet}
use Rattle.flt_kinds.specs.Kinds.{stays, goes}
use Rattle.flt_kinds.specs.Rounds.{marked_by, changes_by, carried, carries, all_carried, any_carries, noted_in}
use Rattle.flt_kinds.specs.Rounds.{notes_in, noted, notes, visited, visits, points_visited, points_change}
use Rattle.flt_kinds.specs.Rounds.{callbacks_visited, callbacks_change, round_of, changes, IsNarrow}
use Rattle.flt_kinds.specs.Settled.{IsJust}
use Rattle.flt_kinds.specs.Sites.{set_at}
use Rattle.flt_kinds.specs.declared.slot.Flow.{Flow}
use Rattle.flt_kinds.specs.declared.slot.Slot.{Slot}
use Rattle.flt_kinds.specs.declared.slot.Slot.TheVariants.{Variable}
use Rattle.flt_kinds.specs.declared.slot.Spot.{Spot}
use Rattle.flt_kinds.proofs.Marks.{length-marked, unmarked, one_fewer, marked_just}

-- ---- what a change keeps

pub record Moves (g : Graph) (anchor : Anchor) (old new : Cells) (changed : Bool) : Type 0 where
  pub sized : length new ≡ length old
  pub fewer : changed ≡ true → count_empty new < count_empty old
  pub same : changed ≡ false → new ≡ old
  pub just : IsJust g anchor old → IsJust g anchor new

still : (g : Graph) (anchor : Anchor) (cells : Cells) → Moves g anchor cells cells false
still g anchor cells = record { sized = refl; fewer = λ e. absurd (true≢false (sym e)); same = λ e. refl; just = λ j. j }

fewer_both : (a b c : Cells) (x y : Bool) → (x ≡ true → count_empty b < count_empty a) → (x ≡ false → b ≡ a) →
    (y ≡ true → count_empty c < count_empty b) → (y ≡ false → c ≡ b) → (x || y) ≡ true → count_empty c < count_empty a
fewer_both a b c true true p q r s e = omega (arith, p refl, r refl)
fewer_both a b c true false p q r s e = subst (λ (l : Cells). count_empty l < count_empty a) (sym (s refl)) (p refl)
fewer_both a b c false true p q r s e = subst (λ (l : Cells). count_empty c < count_empty l) (q refl) (r refl)
fewer_both a b c false false p q r s e = absurd (true≢false (sym e))

same_both : (a b c : Cells) (x y : Bool) → (x ≡ false → b ≡ a) → (y ≡ false → c ≡ b) → (x || y) ≡ false → c ≡ a
same_both a b c true y q s e = absurd (true≢false e)
same_both a b c false true q s e = absurd (true≢false e)
same_both a b c false false q s e = s refl ∙ q refl

-- one change and another
pub moves_on : (g : Graph) (anchor : Anchor) (a b c : Cells) (x y : Bool) → Moves g anchor a b x → Moves g anchor b c y →
    Moves g anchor a c (x || y)
moves_on g anchor a b c x y m n = record {
  sized = n.sized ∙ m.sized;
  fewer = fewer_both a b c x y m.fewer m.same n.fewer n.same;
  same = same_both a b c x y m.same n.same;
  just = λ j. n.just (m.just j);
}

-- ---- one cell

mark_moves : (g : Graph) (anchor : Anchor) (callbacks : ℕ) (cells : Cells) (s : Slot) (at : Spot) → IsWithin callbacks s →
    length cells ≡ cells_for callbacks → (IsJust g anchor cells → MaySet g anchor s at) →
    Moves g anchor cells (marked cells s at) (is_none (cell cells s))
mark_moves g anchor callbacks cells s at within sized may = record {
  sized = length-marked cells s at;
  fewer = one_fewer callbacks cells s at within sized;
  same = unmarked cells s at;
  just = λ j. marked_just g anchor callbacks cells s at within sized j (may j);
}

source_within : (callbacks callback point : ℕ) (from : Option ContextVariable) → callback < callbacks → point < 513 →
    IsWithin callbacks (source callback point from)
source_within callbacks callback point None h k = tt
source_within callbacks callback point (Some v) h k = (h, k)

-- a statement that may set what comes from a place
may_from : (g : Graph) (anchor : Anchor) (callback point : ℕ) (f : Flow) (at : Spot) → IsThere g (spot callback point) →
    Contains (flows g callback point) f → MaySet g anchor f.to at → MaySet g anchor (source callback point f.from) at
may_from g anchor callback point f at there has may = record {
  there = may.there;
  variable = may.variable;
  sets = may.sets;
  reaches = goes {by = f.to} (record {
    at = spot callback point;
    there = there;
    carrier = f;
    carries = has;
    begins = refl;
    ends = refl;
  }) may.reaches;
}

just_of : (g : Graph) (anchor : Anchor) (cells : Cells) (s : Slot) (at : Spot) → IsJust g anchor cells → cell cells s ≡ Some at →
    MaySet g anchor s at
unfolding IsJust
just_of g anchor cells s at j e = j s at e

carry_by : (g : Graph) (anchor : Anchor) (callbacks callback point : ℕ) (cells : Cells) (f : Flow) (found : Option Spot) →
    callback < callbacks → point < 513 → length cells ≡ cells_for callbacks → IsThere g (spot callback point) →
    Contains (flows g callback point) f → cell cells f.to ≡ found →
    Moves g anchor cells (marked_by cells (source callback point f.from) found) (changes_by cells (source callback point f.from) found)
carry_by g anchor callbacks callback point cells f None h k sized there has e = still g anchor cells
carry_by g anchor callbacks callback point cells f (Some at) h k sized there has e =
    mark_moves g anchor callbacks cells (source callback point f.from) at (source_within callbacks callback point f.from h k) sized
    (λ j. may_from g anchor callback point f at there has (just_of g anchor cells f.to at j e))

carry_moves : (g : Graph) (anchor : Anchor) (callbacks callback point : ℕ) (cells : Cells) (f : Flow) →
    callback < callbacks → point < 513 → length cells ≡ cells_for callbacks → IsThere g (spot callback point) →
    Contains (flows g callback point) f → Moves g anchor cells (carried callback point cells f) (carries callback point cells f)
carry_moves g anchor callbacks callback point cells f h k sized there has =
    carry_by g anchor callbacks callback point cells f (cell cells f.to) h k sized there has refl

-- ---- one statement

contains_head : (f : Flow) (fs : List Flow) → Contains (f ∷ fs) f
contains_head f fs = (0, zero-lt-suc (length fs), refl)

all_moves : (g : Graph) (anchor : Anchor) (callbacks callback point : ℕ) (cells : Cells) (fs : List Flow) →
    callback < callbacks → point < 513 → length cells ≡ cells_for callbacks → IsThere g (spot callback point) →
    ((f : Flow) → Contains fs f → Contains (flows g callback point) f) →
    Moves g anchor cells (all_carried callback point cells fs) (any_carries callback point cells fs)
all_moves g anchor callbacks callback point cells [] h k sized there has = still g anchor cells
all_moves g anchor callbacks callback point cells (f ∷ fs) h k sized there has =
    let first = carry_moves g anchor callbacks callback point cells f h k sized there (has f (contains_head f fs)) in
    moves_on g anchor cells (carried callback point cells f) (all_carried callback point (carried callback point cells f) fs)
    (carries callback point cells f) (any_carries callback point (carried callback point cells f) fs) first
    (all_moves g anchor callbacks callback point (carried callback point cells f) fs h k (first.sized ∙ sized) there
    (λ x is. has x (Contains-append_right (f ∷ []) fs x is)))

note_by : (g : Graph) (anchor : Anchor) (callbacks callback point : ℕ) (cells : Cells) (found : Option ContextVariable) →
    callback < callbacks → point < 513 → length cells ≡ cells_for callbacks → IsThere g (spot callback point) →
    set_at g anchor callback point ≡ found →
    Moves g anchor cells (noted_in cells (spot callback point) found) (notes_in cells (spot callback point) found)
note_by g anchor callbacks callback point cells None h k sized there e = still g anchor cells
note_by g anchor callbacks callback point cells (Some v) h k sized there e =
    mark_moves g anchor callbacks cells (Variable (spot callback point) v) (spot callback point) (h, k) sized
    (λ j. record { there = there; variable = v; sets = e; reaches = stays })

note_moves : (g : Graph) (anchor : Anchor) (callbacks callback point : ℕ) (cells : Cells) →
    callback < callbacks → point < 513 → length cells ≡ cells_for callbacks → IsThere g (spot callback point) →
    Moves g anchor cells (noted g anchor callback point cells) (notes g anchor callback point cells)
unfolding noted notes
note_moves g anchor callbacks callback point cells h k sized there =
    note_by g anchor callbacks callback point cells (set_at g anchor callback point) h k sized there refl

-- to visit a point keeps what cells are for, and fills one where it changes anything
pub visit_moves : (g : Graph) (anchor : Anchor) (callbacks callback point : ℕ) (cells : Cells) →
    callback < callbacks → point < 513 → length cells ≡ cells_for callbacks → IsThere g (spot callback point) →
    Moves g anchor cells (visited g anchor callback point cells) (visits g anchor callback point cells)
unfolding visited visits
visit_moves g anchor callbacks callback point cells h k sized there =
    let first = note_moves g anchor callbacks callback point cells h k sized there in
    moves_on g anchor cells (noted g anchor callback point cells)
    (all_carried callback point (noted g anchor callback point cells) (flows g callback point))
    (notes g anchor callback point cells)
    (any_carries callback point (noted g anchor callback point cells) (flows g callback point)) first
    (all_moves g anchor callbacks callback point (noted g anchor callback point cells) (flows g callback point) h k
    (first.sized ∙ sized) there (λ f has. has))

-- ---- all statements

-- to visit a callback's points keeps what cells are for, and fills some where it changes anything
pub points_move : (g : Graph) (anchor : Anchor) (callbacks callback n : ℕ) (cells : Cells) → IsNarrow g → callback < callbacks →
    n ≤ points_at g callback → length cells ≡ cells_for callbacks →
    Moves g anchor cells (points_visited g anchor callback n cells) (points_change g anchor callback n cells)
points_move g anchor callbacks callback zero cells narrow h below sized = still g anchor cells
points_move g anchor callbacks callback (suc n) cells narrow h below sized =
    let there : IsThere g (spot callback n) = omega (arith, below) in
    let first = visit_moves g anchor callbacks callback n cells h (omega (arith, below, narrow callback)) sized there in
    moves_on g anchor cells (visited g anchor callback n cells) (points_visited g anchor callback n (visited g anchor callback n cells))
    (visits g anchor callback n cells) (points_change g anchor callback n (visited g anchor callback n cells)) first
    (points_move g anchor callbacks callback n (visited g anchor callback n cells) narrow h (omega (arith, below)) (first.sized ∙ sized))

pub callbacks_move : (g : Graph) (anchor : Anchor) (callbacks n : ℕ) (cells : Cells) → IsNarrow g → n ≤ callbacks →
    length cells ≡ cells_for callbacks →
    Moves g anchor cells (callbacks_visited g anchor n cells) (callbacks_change g anchor n cells)
callbacks_move g anchor callbacks zero cells narrow below sized = still g anchor cells
callbacks_move g anchor callbacks (suc n) cells narrow below sized =
    let first = points_move g anchor callbacks n (points_at g n) cells narrow (omega (arith, below)) (omega arith) sized in
    moves_on g anchor cells (points_visited g anchor n (points_at g n) cells)
    (callbacks_visited g anchor n (points_visited g anchor n (points_at g n) cells))
    (points_change g anchor n (points_at g n) cells) (callbacks_change g anchor n (points_visited g anchor n (points_at g n) cells)) first
    (callbacks_move g anchor callbacks n (points_visited g anchor n (points_at g n) cells) narrow (omega (arith, below))
    (first.sized ∙ sized))

-- a round
pub round_moves : (g : Graph) (anchor : Anchor) (cells : Cells) → IsNarrow g → length cells ≡ cells_for (length g.callbacks) →
    Moves g anchor cells (round_of g anchor cells) (changes g anchor cells)
unfolding round_of changes
round_moves g anchor cells narrow sized = callbacks_move g anchor (length g.callbacks) (length g.callbacks) cells narrow (omega arith) sized
