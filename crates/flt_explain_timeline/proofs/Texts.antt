-- Steps of what is written.
use Rattle.std.proofs.Common.{◌≡◌, ◌+◌, ◌*◌, ◌/◌, ◌%◌, ◌^◌, ℕ, zero, suc, List, [], ◌∷◌, ◌++◌, add-one}
use Rattle.std.proofs.Common.{append_assoc, append-nil, arith, ap, flat_map, map, refl, sym, ◌∙◌}
use Rattle.std.specs.Prelude.{◌==◌, Result, Ok, Err}
use Rattle.std.specs.List.{range_with_len}
use Rattle.std.proofs.Math.Nat.{div-div-eq-div-mul, pow-suc}
use Rattle.std.proofs.lemmas.List.FromFn.{map-range_with_len_more}
use Rattle.std.proofs.lemmas.Grind.{flat_map-append}
use Rattle.flt_tree.specs.Names.{Text}
use Rattle.flt_explain_timeline.specs.Text.{bar, bars, is_alive, single}
use Rattle.flt_explain_timeline.specs.Words.{Puts}

-- a text, and one more
pub puts_after : {E : Type 0} (r : Result (Unit {0}) E) (a b c x y : Text) → b ≡ a ++ x → Puts r b c y → Puts r a c (x ++ y)
puts_after (Ok u) a b c x y e f = f ∙ ap (λ z. z ++ y) e ∙ append_assoc a x y
puts_after (Err u) a b c x y e f = f

range_more : (from count : ℕ) → range_with_len from (count + 1) ≡ range_with_len from count ++ (from + count) ∷ []
range_more from zero = let e : from ≡ from + 0 = omega arith in ap (λ n. n ∷ []) e
range_more from (suc count) =
    let e : suc count + 1 ≡ suc (count + 1) = omega arith in
    let f : from + 1 + count ≡ from + suc count = omega arith in
    rw e (ap (λ ns. from ∷ ns) (range_more (from + 1) count ∙ ap (λ n. range_with_len (from + 1) count ++ n ∷ []) f))

-- the signs of columns, and one more
pub bars_more : (alive count : ℕ) → bars alive (count + 1) ≡ bars alive count ++ bar (is_alive alive count)
bars_more alive count =
    let f = λ (column : ℕ). bar (is_alive alive column) in
    let e : 0 + count ≡ count = omega arith in
    ap (flat_map f) (range_more 0 count ∙ ap (λ n. range_with_len 0 count ++ n ∷ []) e)
    ∙ flat_map-append f (range_with_len 0 count) (count ∷ []) ∙ ap (λ z. bars alive count ++ z) (append-nil (f count))

-- half of what is left
pub halves : (alive count : ℕ) → alive / 2 ^ count / 2 ≡ alive / 2 ^ (count + 1)
halves alive count = div-div-eq-div-mul alive (2 ^ count) 2 ∙
    ap (λ n. alive / n) (let e : 2 ^ count * 2 ≡ 2 ^ (count + 1) = rw (add-one count, pow-suc 2 count) refl in e)

-- rows of one entry each, and one more
pub singles_more : (count : ℕ) → map single (range_with_len 0 (count + 1)) ≡ map single (range_with_len 0 count) ++ single count ∷ []
singles_more count = map-range_with_len_more single 0 count count (omega arith)

-- the sign of one more column
pub bars_step : (alive count left : ℕ) (old out new sign : Text) → out ≡ old ++ bars alive count → left ≡ alive / 2 ^ count →
    sign ≡ bar (left % 2 == 1) → new ≡ out ++ sign → new ≡ old ++ bars alive (count + 1)
bars_step alive count left old out new sign e f g h =
    h ∙ ap (λ z. z ++ sign) e ∙ append_assoc old (bars alive count) sign
    ∙ ap (λ z. old ++ z) (ap (λ z. bars alive count ++ z) (g ∙ ap (λ n. bar (n % 2 == 1)) f) ∙ sym (bars_more alive count))
