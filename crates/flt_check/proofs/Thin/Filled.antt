-- The points that follow from slots: what is given stands there, and what isn't follows from the points before it.
use Rattle.std.proofs.Common.{◌≡◌, ◌<◌, ◌+◌, ℕ, zero, suc, List, [], ◌∷◌, ◌++◌, length, take, get_or, None, refl, sym, ap, ◌∙◌, arith}
use Rattle.std.proofs.lemmas.List.{get_or_append_left, get_or_push, length_push, take-take, take_at, take_all}
use Rattle.flt_graph.specs.declared.graph.Graph.{Graph}
use Rattle.flt_cert.specs.Format.{Point}
use Rattle.flt_graph.specs.Kept.{is_kept}
use Rattle.flt_cert.specs.Thin.{Slot, slot_of, thin_points}
use Rattle.flt_check.specs.Full.{filled_in, filled, full_points}

-- as many points as were found and slots are left
pub length-filled : (g : Graph) (callback : ℕ) (found : List Point) (slots : List Slot) →
    length (filled g callback found slots) ≡ length found + length slots
length-filled g callback found [] = omega arith
length-filled g callback found (s ∷ slots) =
    let x : Point = filled_in g callback found s in
    let rest = length-filled g callback (found ++ x ∷ []) slots in
    let more = length_push found x in
    rest ∙ omega arith

keeps : (g : Graph) (callback : ℕ) (found : List Point) (slots : List Slot) (i : ℕ) → i < length found →
    get_or (filled g callback found slots) i None ≡ get_or found i None
keeps g callback found [] i h = refl
keeps g callback found (s ∷ slots) i h =
    let x : Point = filled_in g callback found s in
    let more = length_push found x in
    keeps g callback (found ++ x ∷ []) slots i (omega arith) ∙ get_or_append_left found (x ∷ []) None i h

keeps_all : (g : Graph) (callback : ℕ) (found : List Point) (slots : List Slot) →
    take (length found) (filled g callback found slots) ≡ found
keeps_all g callback found [] = take_all (length found) found (omega arith)
keeps_all g callback found (s ∷ slots) =
    let x : Point = filled_in g callback found s in
    let more = length_push found x in
    sym (take-take (length found) (length (found ++ x ∷ [])) (filled g callback (found ++ x ∷ []) slots) (omega arith))
    ∙ (ap (λ (l : List Point). take (length found) l) (keeps_all g callback (found ++ x ∷ []) slots)
    ∙ take_at found (x ∷ []) (length found) refl)

slot_filled : (g : Graph) (callback : ℕ) (found : List Point) (slots : List Slot) (i n : ℕ) → n ≡ length found + i → i < length slots →
    get_or (filled g callback found slots) n None ≡
    filled_in g callback (take n (filled g callback found slots)) (get_or slots i None)
slot_filled g callback found [] i n e h = absurd (omega arith)
slot_filled g callback found (s ∷ slots) zero n e h =
    let x : Point = filled_in g callback found s in
    let more = length_push found x in
    let same : n ≡ length found = omega arith in
    let here : get_or (filled g callback (found ++ x ∷ []) slots) (length found) None ≡ x =
    keeps g callback (found ++ x ∷ []) slots (length found) (omega arith) ∙ get_or_push found x None (length found) refl in
    let before : take (length found) (filled g callback (found ++ x ∷ []) slots) ≡ found = keeps_all g callback found (s ∷ slots) in
    ap (λ m. get_or (filled g callback (found ++ x ∷ []) slots) m None) same
    ∙ (here ∙ (ap (λ (l : List Point). filled_in g callback l s) (sym before)
    ∙ ap (λ m. filled_in g callback (take m (filled g callback (found ++ x ∷ []) slots)) s) (sym same)))
slot_filled g callback found (s ∷ slots) (suc i) n e h =
    let x : Point = filled_in g callback found s in
    let more = length_push found x in
    slot_filled g callback (found ++ x ∷ []) slots i n (omega arith) (omega arith)

-- a point for each slot
pub length-full : (g : Graph) (callback : ℕ) (slots : List Slot) → length (full_points g callback slots) ≡ length slots
length-full g callback slots = length-filled g callback [] slots ∙ omega arith

-- each point is given, or follows from those before it
pub full_at : (g : Graph) (callback : ℕ) (slots : List Slot) (p : ℕ) → p < length slots →
    get_or (full_points g callback slots) p None ≡
    filled_in g callback (take p (full_points g callback slots)) (get_or slots p None)
full_at g callback slots p h = slot_filled g callback [] slots p p (omega arith) h

-- ---- slots of a certificate

-- a slot for each point
pub length-thin : (g : Graph) (callback p : ℕ) (points : List Point) → length (thin_points g callback p points) ≡ length points
length-thin g callback p [] = refl
length-thin g callback p (x ∷ points) = ap suc (length-thin g callback (suc p) points)

-- the slot of a point, by whether it is kept
pub thin_at : (g : Graph) (callback p : ℕ) (points : List Point) (i n : ℕ) → n ≡ p + i → i < length points →
    get_or (thin_points g callback p points) i None ≡ slot_of (is_kept g callback n) (get_or points i None)
thin_at g callback p [] i n e h = absurd (omega arith)
thin_at g callback p (x ∷ points) zero n e h =
    let same : p ≡ n = omega arith in ap (λ m. slot_of (is_kept g callback m) x) same
thin_at g callback p (x ∷ points) (suc i) n e h = thin_at g callback (suc p) points i n (omega arith) (omega arith)
