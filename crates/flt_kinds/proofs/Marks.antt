-- One cell that is filled.
use Rattle.std.proofs.Common.{arith, ◌≡◌, ◌⊎◌, ◌∙◌, ◌+◌, ◌*◌, ◌<◌, ◌≤◌, ℕ, zero, suc, Bool, true, false, true≢false, unwrap_or, Option}
use Rattle.std.proofs.Common.{Some, None, is_none, get_or, set, length, replicate, if◌then◌else◌, ap, sym, refl, subst, inl, inr}
use Rattle.std.proofs.Common.{lit<, ltb-true, lt-ltb, length-set, le_trans, le_of_eq, get_or-set_other, get_or-set_same}
use Rattle.std.proofs.lemmas.Bool.{cases_eq, cases_lt}
use Rattle.std.proofs.lemmas.List.{get_or_past, get_or-replicate, length-replicate}
use Rattle.std.proofs.lemmas.List.Sums.{sum_by-set}
use Rattle.flt_rules.specs.declared.call.Anchor.{Anchor}
use Rattle.flt_tree.specs.Variable.{context_place}
use Rattle.flt_tree.specs.declared.variable.ContextVariable.{ContextVariable}
use Rattle.flt_tree.specs.declared.variable.ContextVariable.TheVariants.{C0, C1, C2, C3, C4, C5, C6, C7, Arg}
use Rattle.flt_graph.specs.declared.graph.Graph.{Graph}
use Rattle.flt_kinds.specs.Cells.{Cells, cells_for, index, has_cell, IsWithin, cell, filled, marked, count_empty}
use Rattle.flt_kinds.specs.Kinds.{MaySet}
use Rattle.flt_kinds.specs.Settled.{IsJust}
use Rattle.flt_kinds.specs.declared.slot.Slot.{Slot}
use Rattle.flt_kinds.specs.declared.slot.Slot.TheVariants.{Queue, Variable}
use Rattle.flt_kinds.specs.declared.slot.Spot.{Spot}

-- ---- numbers of cells

pub context_low : (c : ContextVariable) → context_place c < 9
context_low C0 = lit< tt
context_low C1 = lit< tt
context_low C2 = lit< tt
context_low C3 = lit< tt
context_low C4 = lit< tt
context_low C5 = lit< tt
context_low C6 = lit< tt
context_low C7 = lit< tt
context_low Arg = lit< tt

variable_at : ℕ → ContextVariable
variable_at zero = C0
variable_at (suc zero) = C1
variable_at (suc (suc zero)) = C2
variable_at (suc (suc (suc zero))) = C3
variable_at (suc (suc (suc (suc zero)))) = C4
variable_at (suc (suc (suc (suc (suc zero))))) = C5
variable_at (suc (suc (suc (suc (suc (suc zero)))))) = C6
variable_at (suc (suc (suc (suc (suc (suc (suc zero))))))) = C7
variable_at _ = Arg

back : (v : ContextVariable) → variable_at (context_place v) ≡ v
unfolding variable_at
back C0 = refl
back C1 = refl
back C2 = refl
back C3 = refl
back C4 = refl
back C5 = refl
back C6 = refl
back C7 = refl
back Arg = refl

one_variable : (v w : ContextVariable) → context_place v ≡ context_place w → v ≡ w
one_variable v w e = sym (back v) ∙ ap variable_at e ∙ back w

one_place : (c p v d q w : ℕ) → p < 513 → q < 513 → v < 9 → w < 9 →
    1 + (4617 * c + (9 * p + v)) ≡ 1 + (4617 * d + (9 * q + w)) → (c ≡ d) × ((p ≡ q) × (v ≡ w))
one_place c p v d q w hp hq hv hw e = (omega arith, (omega arith, omega arith))

one_slot : (c p d q : ℕ) (v w : ContextVariable) → c ≡ d → p ≡ q → v ≡ w →
    Variable (record { callback = c; point = p }) v ≡ Variable (record { callback = d; point = q }) w
one_slot c p d q v w e f h =
    ap (λ n. Variable (record { callback = n; point = p }) v) e ∙ ap (λ n. Variable (record { callback = d; point = n }) v) f
    ∙ ap (λ x. Variable (record { callback = d; point = q }) x) h

-- places with one cell are one
pub one_index : (s t : Slot) → has_cell s ≡ true → has_cell t ≡ true → index s ≡ index t → s ≡ t
one_index Queue Queue hs ht e = refl
one_index Queue (Variable at v) hs ht e = absurd (omega (arith, e))
one_index (Variable at v) Queue hs ht e = absurd (omega (arith, e))
one_index (Variable at v) (Variable by w) hs ht e =
    let same = one_place at.callback at.point (context_place v) by.callback by.point (context_place w) (ltb-true at.point 513 hs)
    (ltb-true by.point 513 ht) (context_low v) (context_low w) e in
    one_slot at.callback at.point by.callback by.point v w same.0 same.1.0 (one_variable v w same.1.1)

-- a place has a cell, and it is there
pub has_one : (callbacks : ℕ) (s : Slot) → IsWithin callbacks s → has_cell s ≡ true
has_one callbacks Queue h = refl
has_one callbacks (Variable at v) h = lt-ltb at.point 513 h.1

pub index_low : (callbacks : ℕ) (s : Slot) → IsWithin callbacks s → index s < cells_for callbacks
index_low callbacks Queue h = omega arith
index_low callbacks (Variable at v) h = omega (arith, h.0, h.1, context_low v)

-- ---- cells

cell_by : Bool → Cells → Slot → Option Spot
cell_by b cells s = if b then get_or cells (index s) None else None

cell_there : (cells : Cells) (s : Slot) → has_cell s ≡ true → cell cells s ≡ get_or cells (index s) None
unfolding cell cell_by
cell_there cells s h = ap (λ b. cell_by b cells s) h

cell_past : (cells : Cells) (s : Slot) → has_cell s ≡ false → cell cells s ≡ None
unfolding cell cell_by
cell_past cells s h = ap (λ b. cell_by b cells s) h

empty_at : (n i : ℕ) (b : (i < n) ⊎ (n ≤ i)) → get_or (replicate {A = Option Spot} n None) i None ≡ None
empty_at n i (inl h) = get_or-replicate n i None None h
empty_at n i (inr h) = get_or_past (replicate n None) i None (le_trans (le_of_eq (length-replicate {A = Option Spot} n None)) h)

blank_by : (n : ℕ) (s : Slot) (b : Bool) → has_cell s ≡ b → cell (replicate n None) s ≡ None
blank_by n s false h = cell_past (replicate n None) s h
blank_by n s true h = cell_there (replicate n None) s h ∙ empty_at n (index s) (cases_lt (index s) n)

-- an empty table has nothing
pub blank_cells : (n : ℕ) (s : Slot) → cell (replicate n None) s ≡ None
blank_cells n s = blank_by n s (has_cell s) refl

-- ---- one that is filled

length_filled : (b : Bool) (cells : Cells) (s : Slot) (at : Spot) → length (filled b cells s at) ≡ length cells
length_filled true cells s at = length-set cells (index s) (Some at)
length_filled false cells s at = refl

-- as many cells as before
pub length-marked : (cells : Cells) (s : Slot) (at : Spot) → length (marked cells s at) ≡ length cells
unfolding marked
length-marked cells s at = length_filled (is_none (cell cells s)) cells s at

-- what was filled stays as it was
unmarked_by : (cells : Cells) (s : Slot) (at : Spot) (b : Bool) → b ≡ false → filled b cells s at ≡ cells
unmarked_by cells s at false h = refl
unmarked_by cells s at true h = absurd (true≢false h)

-- a cell that is filled isn't filled again
pub unmarked : (cells : Cells) (s : Slot) (at : Spot) → is_none (cell cells s) ≡ false → marked cells s at ≡ cells
unfolding marked
unmarked cells s at h = unmarked_by cells s at (is_none (cell cells s)) h

is_nothing : {A : Type 0} (x : Option A) → is_none x ≡ true → x ≡ None
is_nothing None h = refl
is_nothing (Some a) h = absurd (true≢false (sym h))

one_if_none : Option Spot → ℕ
one_if_none c = if is_none c then 1 else 0

fewer_by : (callbacks : ℕ) (cells : Cells) (s : Slot) (at : Spot) → IsWithin callbacks s → length cells ≡ cells_for callbacks →
    cell cells s ≡ None → count_empty (set cells (index s) (Some at)) < count_empty cells
unfolding count_empty one_if_none
fewer_by callbacks cells s at h sized e =
    let low : index s < length cells = omega (arith, index_low callbacks s h, sized) in
    let was : get_or cells (index s) None ≡ None = sym (cell_there cells s (has_one callbacks s h)) ∙ e in
    let empty : one_if_none (get_or cells (index s) None) ≡ 1 = ap one_if_none was in
    let full : one_if_none (Some at) ≡ 0 = refl in
    let counts : count_empty (set cells (index s) (Some at)) + one_if_none (get_or cells (index s) None)
    ≡ count_empty cells + one_if_none (Some at) = sum_by-set one_if_none cells (index s) (Some at) None low in
    omega (arith, counts, empty, full)

marked_by_true : (cells : Cells) (s : Slot) (at : Spot) (b : Bool) → b ≡ true → filled b cells s at ≡ set cells (index s) (Some at)
marked_by_true cells s at true h = refl
marked_by_true cells s at false h = absurd (true≢false (sym h))

marked_is : (cells : Cells) (s : Slot) (at : Spot) → is_none (cell cells s) ≡ true → marked cells s at ≡ set cells (index s) (Some at)
unfolding marked
marked_is cells s at h = marked_by_true cells s at (is_none (cell cells s)) h

-- what was empty makes one empty cell fewer
pub one_fewer : (callbacks : ℕ) (cells : Cells) (s : Slot) (at : Spot) → IsWithin callbacks s → length cells ≡ cells_for callbacks →
    is_none (cell cells s) ≡ true → count_empty (marked cells s at) < count_empty cells
one_fewer callbacks cells s at h sized e =
    subst (λ (l : Cells). count_empty l < count_empty cells) (sym (marked_is cells s at e))
    (fewer_by callbacks cells s at h sized (is_nothing (cell cells s) e))

-- ---- what a cell has is a statement that may set the context

some_one : (a b : Spot) → Some a ≡ Some b → a ≡ b
some_one a b e = ap (λ (o : Option Spot). unwrap_or o a) e

-- what another place has, or this one
set_there : (callbacks : ℕ) (cells : Cells) (s t : Slot) (at found : Spot) → IsWithin callbacks s → length cells ≡ cells_for callbacks →
    has_cell t ≡ true → cell (set cells (index s) (Some at)) t ≡ Some found → (index t ≡ index s) ⊎ (index t ≡ index s → ⊥) →
    (cell cells t ≡ Some found) ⊎ ((t ≡ s) × (at ≡ found))
set_there callbacks cells s t at found h sized has is (inr other) =
    inl (cell_there cells t has ∙ sym (get_or-set_other cells (index s) (index t) (Some at) None other)
    ∙ sym (cell_there (set cells (index s) (Some at)) t has) ∙ is)
set_there callbacks cells s t at found h sized has is (inl same) =
    let low : index s < length cells = omega (arith, index_low callbacks s h, sized) in
    inr (
      one_index t s has (has_one callbacks s h) same,
      some_one at found (sym (get_or-set_same cells (index s) (Some at) None low)
          ∙ ap (λ n. get_or (set cells (index s) (Some at)) n None) (sym same)
          ∙ sym (cell_there (set cells (index s) (Some at)) t has) ∙ is),
    )

set_anywhere : (callbacks : ℕ) (cells : Cells) (s t : Slot) (at found : Spot) → IsWithin callbacks s → length cells ≡ cells_for callbacks →
    cell (set cells (index s) (Some at)) t ≡ Some found → (b : Bool) → has_cell t ≡ b → (cell cells t ≡ Some found) ⊎ ((t ≡ s) ×
    (at ≡ found))
set_anywhere callbacks cells s t at found h sized is true has =
    set_there callbacks cells s t at found h sized has is (cases_eq (index t) (index s))
set_anywhere callbacks cells s t at found h sized is false has =
    absurd (true≢false (ap is_none (sym (cell_past (set cells (index s) (Some at)) t has) ∙ is)))

just_by : (g : Graph) (anchor : Anchor) (callbacks : ℕ) (cells : Cells) (s : Slot) (at : Spot) → IsWithin callbacks s →
    length cells ≡ cells_for callbacks → ((slot : Slot) (found : Spot) → cell cells slot ≡ Some found → MaySet g anchor slot found) →
    MaySet g anchor s at → (t : Slot) (found : Spot) →
    (cell cells t ≡ Some found) ⊎ ((t ≡ s) × (at ≡ found)) → MaySet g anchor t found
just_by g anchor callbacks cells s at h sized just may t found (inl old) = just t found old
just_by g anchor callbacks cells s at h sized just may t found (inr new) =
    subst (λ x. MaySet g anchor t x) new.1 (subst (λ x. MaySet g anchor x at) (sym new.0) may)

just_set : (g : Graph) (anchor : Anchor) (callbacks : ℕ) (cells : Cells) (s : Slot) (at : Spot) → IsWithin callbacks s →
    length cells ≡ cells_for callbacks → IsJust g anchor cells → MaySet g anchor s at → IsJust g anchor (set cells (index s) (Some at))
unfolding IsJust
just_set g anchor callbacks cells s at h sized just may = λ t found is.
    just_by g anchor callbacks cells s at h sized just may t found
    (set_anywhere callbacks cells s t at found h sized is (has_cell t) refl)

just_marked : (g : Graph) (anchor : Anchor) (callbacks : ℕ) (cells : Cells) (s : Slot) (at : Spot) → IsWithin callbacks s →
    length cells ≡ cells_for callbacks → IsJust g anchor cells → MaySet g anchor s at → (b : Bool) → is_none (cell cells s) ≡ b →
    IsJust g anchor (marked cells s at)
just_marked g anchor callbacks cells s at h sized just may true e =
    subst (λ (l : Cells). IsJust g anchor l) (sym (marked_is cells s at e)) (just_set g anchor callbacks cells s at h sized just may)
just_marked g anchor callbacks cells s at h sized just may false e =
    subst (λ (l : Cells). IsJust g anchor l) (sym (unmarked cells s at e)) just

-- so it stays
pub marked_just : (g : Graph) (anchor : Anchor) (callbacks : ℕ) (cells : Cells) (s : Slot) (at : Spot) → IsWithin callbacks s →
    length cells ≡ cells_for callbacks → IsJust g anchor cells → MaySet g anchor s at → IsJust g anchor (marked cells s at)
marked_just g anchor callbacks cells s at h sized just may =
    just_marked g anchor callbacks cells s at h sized just may (is_none (cell cells s)) refl
