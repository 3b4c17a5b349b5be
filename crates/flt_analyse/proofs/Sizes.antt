-- A state can grow thirty times: how many statuses, modes and answers are in its sets.
use Rattle.std.proofs.Common.{◌≡◌, ◌≤◌, ◌+◌, ◌*◌, ℕ, Bool, true, false, List, [], ◌∷◌, length, refl, sym, ◌∙◌, arith}
use Rattle.std.specs.Prelude.{not, ◌||◌, ◌&&◌, ◌==◌, ◌⊎◌}
use Rattle.std.proofs.Common.{inl, inr}
use Rattle.std.specs.List.{list_all}
use Rattle.flt_rules.specs.Held.{same_locks}
use Rattle.std.proofs.lemmas.Bool.{and_parts, and_cases, eqb-true, true≢false}
use Rattle.flt_abs.specs.LockLaws.{same_locks_decides}
use Rattle.flt_abs.specs.Sets.{StatusSet, statuses_within, modes_within, drainings_within, either_status}
use Rattle.flt_abs.specs.Sets.{is_possible, is_mode_possible, is_draining_possible}
use Rattle.flt_abs.specs.State.{State, is_below, is_proper, all_within, either_all, join_of}

-- ---- one set

-- a flag as a number
pub bit : Bool → ℕ
bit true = 1
bit false = 0

-- a flag that is up counts 1
pub bit_one : bit true ≡ 1
unfolding bit
bit_one = refl

-- a flag that is down counts nothing
pub bit_none : bit false ≡ 0
unfolding bit
bit_none = refl

bit_or : (a b : Bool) → bit a ≤ bit (a || b)
unfolding bit
bit_or true b = omega arith
bit_or false b = omega arith

bit_more : (a b : Bool) → (not b || a) ≡ false → bit a + 1 ≤ bit (a || b)
unfolding bit
bit_more true true h = cc
bit_more true false h = cc
bit_more false true h = omega arith
bit_more false false h = cc

bit_most : (a : Bool) → bit a ≤ 1
unfolding bit
bit_most true = omega arith
bit_most false = omega arith

either_bit : (a b : Bool) → (a || b) ≡ true → 1 ≤ bit a + bit b
unfolding bit
either_bit true b h = omega arith
either_bit false true h = omega arith
either_bit false false h = cc

some_bit : (a b c : Bool) → (a || (b || c)) ≡ true → 1 ≤ bit a + (bit b + bit c)
unfolding bit
some_bit true b c h = omega arith
some_bit false true c h = omega arith
some_bit false false true h = omega arith
some_bit false false false h = cc

abbrev set_size : StatusSet → ℕ
set_size s = bit s.null + (bit s.held + bit s.stale)

set_grows : (a b : StatusSet) → set_size a ≤ set_size (either_status a b)
set_grows a b =
    let x = bit_or a.null b.null in
    let y = bit_or a.held b.held in
    let z = bit_or a.stale b.stale in omega arith

set_grows_more : (a b : StatusSet) → statuses_within b a ≡ false → set_size a + 1 ≤ set_size (either_status a b)
set_grows_more a b h = by_null (and_cases (not b.null || a.null) _ h)
  where
    by_later : (((not b.held || a.held) ≡ false) ⊎ ((not b.stale || a.stale) ≡ false)) → set_size a + 1 ≤ set_size (either_status a b)
    by_later (inl e) =
        let x = bit_or a.null b.null in
        let y = bit_more a.held b.held e in
        let z = bit_or a.stale b.stale in omega arith
    by_later (inr e) =
        let x = bit_or a.null b.null in
        let y = bit_or a.held b.held in
        let z = bit_more a.stale b.stale e in omega arith

    by_null : (((not b.null || a.null) ≡ false) ⊎ (((not b.held || a.held) && (not b.stale || a.stale)) ≡ false)) →
        set_size a + 1 ≤ set_size (either_status a b)
    by_null (inl e) =
        let x = bit_more a.null b.null e in
        let y = bit_or a.held b.held in
        let z = bit_or a.stale b.stale in omega arith
    by_null (inr e) = by_later (and_cases (not b.held || a.held) (not b.stale || a.stale) e)

-- ---- lists of sets

sizes : List StatusSet → ℕ
sizes [] = 0
sizes (a ∷ xs) = set_size a + sizes xs

sizes_least : (xs : List StatusSet) → list_all is_possible xs ≡ true → length xs ≤ sizes xs
unfolding sizes
sizes_least [] h = omega arith
sizes_least (a ∷ xs) h =
    let parts = and_parts (is_possible a) (list_all is_possible xs) h in
    let x = some_bit a.null a.held a.stale parts.0 in
    let y = sizes_least xs parts.1 in omega arith

sizes_most : (xs : List StatusSet) → sizes xs ≤ 3 * length xs
unfolding sizes
sizes_most [] = omega arith
sizes_most (a ∷ xs) =
    let x = bit_most a.null in
    let y = bit_most a.held in
    let z = bit_most a.stale in
    let w = sizes_most xs in omega arith

sizes_grow : (xs ys : List StatusSet) → sizes xs ≤ sizes (either_all xs ys)
unfolding sizes
sizes_grow [] ys = omega arith
sizes_grow (a ∷ xs) [] = omega arith
sizes_grow (a ∷ xs) (b ∷ ys) =
    let x = set_grows a b in
    let y = sizes_grow xs ys in omega arith

sizes_grow_more : (xs ys : List StatusSet) → length xs ≡ length ys → all_within ys xs ≡ false → sizes xs + 1 ≤ sizes (either_all xs ys)
unfolding sizes
sizes_grow_more [] [] e h = cc
sizes_grow_more [] (b ∷ ys) e h = cc
sizes_grow_more (a ∷ xs) [] e h = cc
sizes_grow_more (a ∷ xs) (b ∷ ys) e h =
    by_first (and_cases (statuses_within b a) (all_within ys xs) h) (sizes_grow xs ys) (λ k. sizes_grow_more xs ys (omega arith) k)
  where
    by_first : ((statuses_within b a ≡ false) ⊎ (all_within ys xs ≡ false)) → sizes xs ≤ sizes (either_all xs ys) →
        (all_within ys xs ≡ false → sizes xs + 1 ≤ sizes (either_all xs ys)) →
        set_size a + sizes xs + 1 ≤ set_size (either_status a b) + sizes (either_all xs ys)
    by_first (inl k) m f = let x = set_grows_more a b k in omega arith
    by_first (inr k) m f = let x = set_grows a b in let y = f k in omega arith

-- ---- states

abbrev mode_size : State → ℕ
mode_size x = bit x.modes.irp + bit x.modes.fast

abbrev draining_size : State → ℕ
draining_size x = bit x.draining.no + bit x.draining.yes

-- how many statuses, modes and answers are in a state's sets, all counted
pub size : State → ℕ
size x = sizes x.contexts + (sizes x.operations + (mode_size x + draining_size x))

pub record Sized (x : State) : Type 0 where
  pub nine : length x.contexts ≡ 9
  pub five : length x.operations ≡ 5
  pub contexts : list_all is_possible x.contexts ≡ true
  pub operations : list_all is_possible x.operations ≡ true
  pub modes : is_mode_possible x.modes ≡ true
  pub draining : is_draining_possible x.draining ≡ true

pub sized : (x : State) → is_proper x ≡ true → Sized x
sized x h =
    let nine = and_parts (length x.contexts == 9) _ h in
    let five = and_parts (length x.operations == 5) _ nine.1 in
    let contexts = and_parts (list_all is_possible x.contexts) _ five.1 in
    let operations = and_parts (list_all is_possible x.operations) _ contexts.1 in
    let modes = and_parts (is_mode_possible x.modes) _ operations.1 in
    let draining = and_parts (is_draining_possible x.draining) _ modes.1 in
    record {
      nine = eqb-true _ _ nine.0;
      five = eqb-true _ _ five.0;
      contexts = contexts.0;
      operations = operations.0;
      modes = modes.0;
      draining = draining.0;
    }

-- sixteen sets, none of them empty
pub size_least : (x : State) → is_proper x ≡ true → 16 ≤ size x
unfolding size
size_least x h =
    let p = sized x h in
    let a = sizes_least x.contexts p.contexts in
    let b = sizes_least x.operations p.operations in
    let c = either_bit x.modes.irp x.modes.fast p.modes in
    let d = either_bit x.draining.no x.draining.yes p.draining in
    let e = p.nine in
    let f = p.five in omega arith

-- a proper state has at most 46 of them
pub size_most : (x : State) → is_proper x ≡ true → size x ≤ 46
unfolding size
size_most x h =
    let p = sized x h in
    let a = sizes_most x.contexts in
    let b = sizes_most x.operations in
    let c = bit_most x.modes.irp in
    let d = bit_most x.modes.fast in
    let i = bit_most x.draining.no in
    let j = bit_most x.draining.yes in
    let e = p.nine in
    let f = p.five in omega arith

-- two bits, as of modes and of answers
two_grow : (a b c d : Bool) → bit a + bit b ≤ bit (a || c) + bit (b || d)
two_grow a b c d = let x = bit_or a c in let y = bit_or b d in omega arith

two_more : (a b c d : Bool) → ((not c || a) && (not d || b)) ≡ false → bit a + bit b + 1 ≤ bit (a || c) + bit (b || d)
two_more a b c d h = by_side (and_cases (not c || a) (not d || b) h)
  where
    by_side : (((not c || a) ≡ false) ⊎ ((not d || b) ≡ false)) → bit a + bit b + 1 ≤ bit (a || c) + bit (b || d)
    by_side (inl e) = let x = bit_more a c e in let y = bit_or b d in omega arith
    by_side (inr e) = let x = bit_or a c in let y = bit_more b d e in omega arith

-- what isn't below in one of its parts adds something to a join
grows_by : (x y : State) →
    ((sizes x.contexts + 1 ≤ sizes (either_all x.contexts y.contexts))
    ⊎ ((sizes x.operations + 1 ≤ sizes (either_all x.operations y.operations)) ⊎
    ((mode_size x + 1 ≤ mode_size (join_of x y)) ⊎ (draining_size x + 1 ≤ draining_size (join_of x y))))) → size x + 1 ≤ size (join_of x y)
unfolding size
grows_by x y h = by_part h
    (sizes_grow x.contexts y.contexts) (sizes_grow x.operations y.operations)
    (two_grow x.modes.irp x.modes.fast y.modes.irp y.modes.fast) (two_grow x.draining.no x.draining.yes y.draining.no y.draining.yes)
  where
    by_part : {a b c d e f k l : ℕ} → ((a + 1 ≤ b) ⊎ ((c + 1 ≤ d) ⊎ ((e + 1 ≤ f) ⊎ (k + 1 ≤ l)))) → a ≤ b → c ≤ d → e ≤ f → k ≤ l →
        a + (c + (e + k)) + 1 ≤ b + (d + (f + l))
    by_part (inl z) p q r s = omega arith
    by_part (inr (inl z)) p q r s = omega arith
    by_part (inr (inr (inl z))) p q r s = omega arith
    by_part (inr (inr (inr z))) p q r s = omega arith

grows_lists : (x y : State) → Sized x → Sized y →
    (all_within y.contexts x.contexts && all_within y.operations x.operations) ≡ false → size x + 1 ≤ size (join_of x y)
grows_lists x y p q h = by_side (and_cases (all_within y.contexts x.contexts) (all_within y.operations x.operations) h)
  where
    by_side : ((all_within y.contexts x.contexts ≡ false) ⊎ (all_within y.operations x.operations ≡ false)) →
        size x + 1 ≤ size (join_of x y)
    by_side (inl e) = grows_by x y (inl (sizes_grow_more x.contexts y.contexts (p.nine ∙ sym q.nine) e))
    by_side (inr e) = grows_by x y (inr (inl (sizes_grow_more x.operations y.operations (p.five ∙ sym q.five) e)))

grows_draining : (x y : State) → Sized x → Sized y →
    (drainings_within y.draining x.draining && (all_within y.contexts x.contexts && all_within y.operations x.operations)) ≡ false →
    size x + 1 ≤ size (join_of x y)
grows_draining x y p q h = by_side (and_cases (drainings_within y.draining x.draining) _ h)
  where
    by_side : ((drainings_within y.draining x.draining ≡ false)
        ⊎ ((all_within y.contexts x.contexts && all_within y.operations x.operations) ≡ false)) → size x + 1 ≤ size (join_of x y)
    by_side (inl e) = grows_by x y (inr (inr (inr (two_more x.draining.no x.draining.yes y.draining.no y.draining.yes e))))
    by_side (inr e) = grows_lists x y p q e

grows_modes : (x y : State) → Sized x → Sized y →
    (modes_within y.modes x.modes && (drainings_within y.draining x.draining
    && (all_within y.contexts x.contexts && all_within y.operations x.operations))) ≡ false →
    size x + 1 ≤ size (join_of x y)
grows_modes x y p q h = by_side (and_cases (modes_within y.modes x.modes) _ h)
  where
    by_side : ((modes_within y.modes x.modes ≡ false)
        ⊎ ((drainings_within y.draining x.draining && (all_within y.contexts x.contexts && all_within y.operations x.operations))
        ≡ false)) →
        size x + 1 ≤ size (join_of x y)
    by_side (inl e) = grows_by x y (inr (inr (inl (two_more x.modes.irp x.modes.fast y.modes.irp y.modes.fast e))))
    by_side (inr e) = grows_draining x y p q e

-- a join with a state that isn't below grows by one at least
pub join_grows : (x y : State) → is_proper x ≡ true → is_proper y ≡ true → same_locks x.locks y.locks ≡ true →
    is_below y x ≡ false → size x + 1 ≤ size (join_of x y)
join_grows x y p q e h =
    let same : same_locks y.locks x.locks ≡ true =
    (same_locks_decides y.locks x.locks).1 (sym ((same_locks_decides x.locks y.locks).0 e)) in
    by_side same (and_cases (same_locks y.locks x.locks) _ h)
  where
    by_side : same_locks y.locks x.locks ≡ true → ((same_locks y.locks x.locks ≡ false) ⊎
        ((modes_within y.modes x.modes && (drainings_within y.draining x.draining
        && (all_within y.contexts x.contexts && all_within y.operations x.operations))) ≡ false)) →
        size x + 1 ≤ size (join_of x y)
    by_side same (inl k) = absurd (true≢false (sym same ∙ k))
    by_side same (inr k) = grows_modes x y (sized x p) (sized y q) k
