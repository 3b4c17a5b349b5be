-- A frame is written after others.
use Rattle.std.proofs.Common.{◌≡◌, ◌<◌, ◌+◌, ◌++◌, ◌∷◌, ◌∙◌, List, ℕ, suc, arith, ap, sym, drop, get_or, length, map}
use Rattle.std.proofs.Math.Seq.{drop-cons}
use Rattle.std.proofs.lemmas.List.{append_assoc}
use Rattle.std.specs.List.{flat_map}
use Rattle.flt_server_frames.specs.Frames.{framed}
use Rattle.flt_server_frames.specs.Line.{Text}

-- a header of three parts, and a body after it
pub frame_pushed : (old got text mid new name number end body : Text) → mid ≡ old ++ got → got ≡ text → text ≡ name ++ (number ++ end) →
    new ≡ mid ++ body → new ≡ old ++ (name ++ (number ++ (end ++ body)))
frame_pushed old got text mid new name number end body first same parts second =
    second ∙ ap (λ l. l ++ body) (first ∙ ap (λ l. old ++ l) (same ∙ parts))
    ∙ append_assoc old (name ++ (number ++ end)) body
    ∙ ap (λ l. old ++ l) (append_assoc name (number ++ end) body ∙ ap (λ l. name ++ l) (append_assoc number end body))

-- one frame more of several bodies
pub frame_more : {A : Type 0} (text_of : A → Text) (xs : List A) (at : ℕ) (x : A) (before after all : Text) → at < length xs →
    x ≡ get_or xs at x → before ++ flat_map framed (map text_of (drop at xs)) ≡ all → after ≡ before ++ framed (text_of x) →
    after ++ flat_map framed (map text_of (drop (at + 1) xs)) ≡ all
frame_more text_of xs at x before after all low is so_far next =
    let rest = flat_map framed (map text_of (drop (at + 1) xs)) in
    let one : suc at ≡ at + 1 = omega arith in
    let first : drop at xs ≡ x ∷ drop (at + 1) xs = drop-cons xs at x low ∙ ap (λ k. get_or xs at x ∷ drop k xs) one ∙ ap (λ y. y ∷
    drop (at + 1) xs) (sym is) in
    let grown : before ++ (framed (text_of x) ++ rest) ≡ all = rw first at so_far in
    ap (λ l. l ++ rest) next ∙ append_assoc before (framed (text_of x)) rest ∙ grown
