-- Classes that are marked one after the other are those by all names.
use Rattle.std.proofs.Common.{◌≡◌, ℕ, zero, suc, ◌+◌, ◌<◌, ◌≤◌, ◌≢◌, Bool, true, false, List, [], ◌∷◌, ◌++◌, length, map, take}
use Rattle.std.proofs.Common.{refl, sym, ap, ◌∙◌, append_assoc, append-nil, eq-eqb, add-one, arith}
use Rattle.std.proofs.Math.Bool.{or-false}
use Rattle.std.proofs.lemmas.Bool.{ne_eqb}
use Rattle.std.proofs.lemmas.List.Folds.{list_any-append}
use Rattle.std.specs.List.{list_any}
use Rattle.std.specs.Prelude.{◌||◌, ◌==◌, if◌then◌else◌, slice_set}
use Rattle.flt_c_tokens.specs.Bytes.{Text}
use Rattle.flt_c_syntax.specs.declared.class.Class.{Class}
use Rattle.flt_c_syntax.specs.declared.class.Class.TheVariants as class
use Rattle.flt_c_functions.specs.Texts.{text_at}
use Rattle.flt_c_functions.specs.Classes.{class_of, classes, classes_from, look, marked}

-- ---- looks

pub no_types : (n : ℕ) (ws : List Text) → map look ws ≡ classes_from [] n ws
no_types n [] = refl
no_types n (w ∷ ws) = ap (λ cs. look w ∷ cs) (no_types (n + 1) ws)

look_suc : (ws : List Text) (n : ℕ) → n < length ws → map look (take (suc n) ws) ≡ map look (take n ws) ++ look (text_at ws n) ∷ []
look_suc [] n h = absurd (omega arith)
look_suc (w ∷ ws) zero h = refl
look_suc (w ∷ ws) (suc n) h = ap (λ cs. look w ∷ cs) (look_suc ws n (omega arith))

pub look_more : (ws : List Text) (n : ℕ) → n < length ws → map look (take (n + 1) ws) ≡ map look (take n ws) ++ look (text_at ws n) ∷ []
look_more ws n h = ap (λ k. map look (take k ws)) (add-one n) ∙ look_suc ws n h

-- ---- one more name

or_true : (b : Bool) → (b || true) ≡ true
or_true true = refl
or_true false = refl

any_more : (ns : List ℕ) (m n : ℕ) → list_any (λ t. t == n) (ns ++ m ∷ []) ≡ (list_any (λ t. t == n) ns || ((m == n) || false))
any_more ns m n = list_any-append (λ t. t == n) ns (m ∷ [])

-- it makes its word a type
named : (ns : List ℕ) (n : ℕ) (w : Text) → class_of (ns ++ n ∷ []) n w ≡ class.Type
named ns n w =
    ap (λ b. if b then class.Type else look w)
    (any_more ns n n
    ∙ (ap (λ b. list_any (λ t. t == n) ns || (b || false)) (eq-eqb n n refl) ∙ or_true (list_any (λ t. t == n) ns)))

-- and no other one
not_named : (ns : List ℕ) (m n : ℕ) (w : Text) → m ≢ n → class_of (ns ++ m ∷ []) n w ≡ class_of ns n w
not_named ns m n w ne =
    ap (λ b. if b then class.Type else look w)
    (any_more ns m n
    ∙ (ap (λ b. list_any (λ t. t == n) ns || (b || false)) (ne_eqb m n ne) ∙ or-false (list_any (λ t. t == n) ns)))

behind : (ns : List ℕ) (m n : ℕ) (ws : List Text) → m < n → classes_from (ns ++ m ∷ []) n ws ≡ classes_from ns n ws
behind ns m n [] h = refl
behind ns m n (w ∷ ws) h =
    ap (λ c. c ∷ classes_from (ns ++ m ∷ []) (n + 1) ws) (not_named ns m n w (λ e. omega arith))
    ∙ ap (λ cs. class_of ns n w ∷ cs) (behind ns m (n + 1) ws (omega arith))

-- the word of the number k, before which m words stand from the number n on
mark_one : (ns : List ℕ) (m n k : ℕ) (ws : List Text) → k ≡ n + m →
    slice_set (classes_from ns n ws) m class.Type ≡ classes_from (ns ++ k ∷ []) n ws
mark_one ns m n k [] e = refl
mark_one ns zero n k (w ∷ ws) e =
    let same : n ≡ k = omega arith in
    ap (λ c. c ∷ classes_from ns (n + 1) ws) (sym (named ns n w))
    ∙ (ap (λ cs. class_of (ns ++ n ∷ []) n w ∷ cs) (sym (behind ns n (n + 1) ws (omega arith)))
    ∙ ap (λ j. classes_from (ns ++ j ∷ []) n (w ∷ ws)) same)
mark_one ns (suc m) n k (w ∷ ws) e =
    ap (λ c. c ∷ slice_set (classes_from ns (n + 1) ws) m class.Type) (sym (not_named ns k n w (λ d. omega arith)))
    ∙ ap (λ cs. class_of (ns ++ k ∷ []) n w ∷ cs) (mark_one ns m (n + 1) k ws (omega arith))

mark_more : (ns ms : List ℕ) (ws : List Text) → marked ms (classes_from ns 0 ws) ≡ classes_from (ns ++ ms) 0 ws
mark_more ns [] ws = ap (λ l. classes_from l 0 ws) (sym (append-nil ns))
mark_more ns (m ∷ ms) ws =
    ap (marked ms) (mark_one ns m 0 m ws (omega arith))
    ∙ (mark_more (ns ++ m ∷ []) ms ws ∙ ap (λ l. classes_from l 0 ws) (append_assoc ns (m ∷ []) ms))

-- ---- all names

pub marked_looks : (types : List ℕ) (ws : List Text) → marked types (map look ws) ≡ classes types ws
unfolding classes
marked_looks types ws = ap (marked types) (no_types 0 ws) ∙ mark_more [] types ws

-- a number that no word has marks none
pub mark_none : (cs : List Class) (n : ℕ) → length cs ≤ n → cs ≡ slice_set cs n class.Type
mark_none [] n h = refl
mark_none (c ∷ cs) zero h = absurd (omega arith)
mark_none (c ∷ cs) (suc n) h = ap (λ ds. c ∷ ds) (mark_none cs n (omega arith))
