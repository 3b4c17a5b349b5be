-- What a filter has left, by the first that is found of it.
use Rattle.std.proofs.Common.{◌≡◌, ℕ, ◌+◌, ◌||◌, ◌&&◌, ◌==◌, Bool, true, false, List, [], ◌∷◌}
use Rattle.std.proofs.Common.{Option, Some, None, length, is_some, ap, sym, refl, ◌∙◌, arith}
use Rattle.std.proofs.lemmas.Bool.{eq-eqb, eqb-true}
use Rattle.std.proofs.lemmas.Bool.Decides.{nat_tests}
use Rattle.std.specs.Prelude.{position, not, cond, nat_lt, IfSome, IfNone}
use Rattle.std.specs.List.{list_any, position_or_len}
use Rattle.flt_model.specs.Moves.{is_linked_by}
use Rattle.flt_model.specs.declared.parts.Link.{Link}
use Rattle.flt_model.specs.World.{Store, Context, is_linked_to, same_key, linked_at}
use Rattle.flt_model.specs.declared.moves.Key.{Key}

within_by : (b : Bool) (n m l : ℕ) (rest : Bool) → l ≡ 1 + m → nat_lt n m ≡ rest → nat_lt (cond (not b) (1 + n) 0) l ≡ (b || rest)
within_by true n m l rest more is = grind (arith, nat_tests)
within_by false n m l rest more is = grind (arith, nat_tests)

module _ {X : Type 0} (p : X → Bool) where
  within : (xs : List X) → nat_lt (position_or_len p xs) (length xs) ≡ list_any p xs
  within [] = refl
  within (x ∷ xs) = within_by (p x) (position_or_len p xs) (length xs) (length (x ∷ xs)) (list_any p xs) (omega arith) (within xs)

  some_if : (b : Bool) (n : ℕ) → is_some (cond b (Some n) None) ≡ b
  some_if true n = refl
  some_if false n = refl

  -- there is a first one exactly where there is one
  pub some_position : (xs : List X) → is_some (position p xs) ≡ list_any p xs
  some_position xs = some_if (nat_lt (position_or_len p xs) (length xs)) (position_or_len p xs) ∙ within xs

or_true : (b : Bool) → (b || true) ≡ true
or_true true = refl
or_true false = refl

weaker_by : (a b c d : Bool) → (a ≡ true → b ≡ true) → (c ≡ true → d ≡ true) → (a || c) ≡ true → (b || d) ≡ true
weaker_by true b c d here rest is = ap (λ (e : Bool). e || d) (here refl)
weaker_by false b c d here rest is = ap (λ (e : Bool). b || e) (rest is) ∙ or_true b

any_weaker : {X : Type 0} (p q : X → Bool) → ((x : X) → p x ≡ true → q x ≡ true) → (xs : List X) →
    list_any p xs ≡ true → list_any q xs ≡ true
any_weaker p q passes [] is = is
any_weaker p q passes (x ∷ xs) is =
    weaker_by (p x) (q x) (list_any p xs) (list_any q xs) (passes x) (any_weaker p q passes xs) is

first_of_both : (a b : Bool) → (a && b) ≡ true → a ≡ true
first_of_both true b is = refl
first_of_both false b is = is

-- a link there is one of the filter
link_by : (f : ℕ) (k : Key) (l : Option Link) → is_linked_to (record { filter = f; key = k }) l ≡ true → is_linked_by f l ≡ true
link_by f k None is = is
link_by f k (Some l) is = eq-eqb l.filter f (sym (eqb-true f l.filter (first_of_both (f == l.filter) (same_key k l.key) is)))

-- the first key says whether a context is linked for the filter
pub link_found : (s : Store) (f : ℕ) (r : Option Key) →
    IfSome r (λ key. is_some (linked_at s (record { filter = f; key = key })) ≡ true) →
    IfNone r (list_any (λ (c : Context). is_linked_by f c.link) s.contexts ≡ false) →
    is_some r ≡ list_any (λ (c : Context). is_linked_by f c.link) s.contexts
link_found s f None linked none = sym none
link_found s f (Some k) linked none =
    let test : Context → Bool = λ c. is_linked_to (record { filter = f; key = k }) c.link in
    sym (any_weaker test (λ (c : Context). is_linked_by f c.link) (λ c. link_by f k c.link) s.contexts
    (sym (some_position test s.contexts) ∙ linked))
