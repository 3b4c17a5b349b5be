-- One statement more, or one callback.
use Rattle.std.proofs.Common.{arith, ◌≡◌, ◌∙◌, ◌+◌, ◌++◌, ℕ, List, length, take, drop, ap, sym}
use Rattle.std.proofs.Common.{add-one, append_assoc, append-nil, drop_of_length-le, take_all}
use Rattle.flt_graph.specs.declared.graph.Graph.{Graph}
use Rattle.flt_kinds.specs.Cells.{Cells}
use Rattle.flt_kinds.specs.Deciding.{is_needed, only, needed_below}
use Rattle.flt_kinds.specs.Flows.{spot}
use Rattle.flt_kinds.specs.declared.slot.Spot.{Spot}

-- the places that are needed up to one point more
pub needed_next : (g : Graph) (cells : Cells) (callback n : ℕ) (a b c : List Spot) → b ≡ a ++ needed_below g cells callback n →
    c ≡ b ++ only (is_needed g cells callback n) (spot callback n) → c ≡ a ++ needed_below g cells callback (n + 1)
needed_next g cells callback n a b c e f =
    f ∙ ap (λ (l : List Spot). l ++ only (is_needed g cells callback n) (spot callback n)) e
    ∙ append_assoc a (needed_below g cells callback n) (only (is_needed g cells callback n) (spot callback n))
    ∙ ap (λ k. a ++ needed_below g cells callback k) (sym (add-one n))

-- all of a list is written
pub whole : {A : Type 0} (n : ℕ) (new old : List A) → length new ≡ n → length old ≡ n → take n (new ++ drop (length new) old) ≡ new
whole n new old e f =
    ap (λ (l : List _). take n (new ++ l)) (drop_of_length-le old (omega (arith, e, f)))
    ∙ ap (take n) (append-nil new) ∙ take_all n new (omega (arith, e))
