-- Letters behind a name make it rarer, until it stands nowhere in a text.
use Rattle.std.proofs.Common.{◌≡◌, ◌≢◌, ℕ, ◌+◌, ◌*◌, ◌^◌, ◌<◌, ◌≤◌, true, false, ◌&&◌, []}
use Rattle.std.proofs.Common.{◌∷◌, ◌++◌, length, refl, sym, ap, subst, ◌∙◌, arith, add-one}
use Rattle.std.proofs.Math.Nat.{mul-le-mul_left, pow-le-pow_right, pow-succ'}
use Rattle.std.proofs.lemmas.Bool.Decides.{nat_tests}
use Rattle.std.proofs.lemmas.List.{length_push}
use Rattle.std.proofs.lemmas.List.Folds.{list_all-append}
use Rattle.std.specs.Prelude.{if◌then◌else◌, nat_eq}
use Rattle.std.specs.List.{list_all, starts_with}
use Rattle.flt_syntax.specs.Lex.{lookup}
use Rattle.flt_syntax.specs.Vocabulary.{vocabulary}
use Rattle.flt_syntax.specs.declared.token.Kind.TheVariants as k
use Rattle.flt_tree.specs.Names.{Text, is_name, is_word}
use Rattle.flt_explain_hints.specs.Names.{IsNew, IsRarer, occurrences}
use Rattle.flt_rules.specs.Limits.{max_text}

-- ---- where bytes stand

-- 1 if a text begins with some bytes
abbrev once : Text → Text → ℕ
once z word = if starts_with nat_eq z word then 1 else 0

-- a text doesn't begin with two words that differ in their last letter alone
apart : (word z : Text) (a b : ℕ) → a ≢ b → once z (word ++ a ∷ []) + once z (word ++ b ∷ []) ≤ once z word
apart [] [] a b ne = omega arith
apart [] (c ∷ z) a b ne = grind (arith, nat_tests)
apart (m ∷ word) [] a b ne = omega arith
apart (m ∷ word) (c ∷ z) a b ne =
    let h : once z (word ++ a ∷ []) + once z (word ++ b ∷ []) ≤ once z word = apart word z a b ne in
    elim (nat_eq m c) as (λ t. (if t && starts_with nat_eq z (word ++ a ∷ []) then 1 else 0)
    + (if t && starts_with nat_eq z (word ++ b ∷ []) then 1 else 0) ≤ (if t && starts_with nat_eq z word then 1 else 0))
    [ true ↦ h | false ↦ omega arith ]

-- bytes stand in a text as often as they do there with one of two letters behind them or the other, or oftener
pub shared : (word text : Text) (a b : ℕ) → a ≢ b →
    occurrences (word ++ a ∷ []) text + occurrences (word ++ b ∷ []) text ≤ occurrences word text
shared word [] a b ne = omega arith
shared word (c ∷ z) a b ne = omega (arith, apart word (c ∷ z) a b ne, shared word z a b ne)

-- ---- names that get longer

-- a name that begins with `_`
pub record IsBegun (name : Text) : Type 0 where
  pub rest : Text
  pub whole : name ≡ 95 ∷ rest
  pub words : list_all is_word rest ≡ true

-- a name that stands in a text the less often the longer it is
pub record IsRare (text name : Text) : Type 0 where
  pub begun : IsBegun name
  pub short : length name ≤ 18
  pub rare : 2 ^ length name * occurrences name text ≤ 2 ^ 17

-- bytes stand in a text at most as often as it has bytes
as_often : (word text : Text) → occurrences word text ≤ length text
as_often word [] = omega arith
as_often word (b ∷ z) =
    let h : occurrences word z ≤ length z = as_often word z in
    elim (starts_with nat_eq (b ∷ z) word) as (λ t. (if t then 1 else 0) + occurrences word z ≤ length (b ∷ z))
    [ true ↦ omega arith | false ↦ omega arith ]

-- the first is `_` alone
pub begins : (text : Text) → length text ≤ max_text → IsRare text (95 ∷ [])
begins text few = record {
  begun = record { rest = []; whole = refl; words = refl };
  short = omega arith;
  rare = omega (arith, as_often (95 ∷ []) text);
}

doubled : (w o p b : ℕ) → p + p ≤ o → w * o ≤ b → (2 * w) * p ≤ b
doubled w o p b half few = omega (arith, mul-le-mul_left w half)

weight : (n : ℕ) → 2 ^ (n + 1) ≡ 2 * 2 ^ n
weight n = rw add-one (pow-succ' 2 n)

few_letters : (n o : ℕ) → 2 ^ n * o ≤ 2 ^ 17 → 0 < o → n ≤ 17
few_letters n o few some =
    let least : 2 ^ n * 1 ≤ 2 ^ n * o = mul-le-mul_left (2 ^ n) (omega arith) in
    let no : 18 ≤ n → ⊥ = λ (h : 18 ≤ n). (let p : 2 ^ 18 ≤ 2 ^ n = pow-le-pow_right {n = 2} (omega arith) h in omega arith) in
    omega arith

-- with a letter behind it, it is still a name
longer_begun : (name longer : Text) (letter : ℕ) → IsBegun name → is_word letter ≡ true → longer ≡ name ++ letter ∷ [] → IsBegun longer
longer_begun name longer letter h spelled same = record {
  rest = h.rest ++ letter ∷ [];
  whole = same ∙ ap (λ z. z ++ letter ∷ []) h.whole;
  words = list_all-append is_word h.rest (letter ∷ []) ∙ rw (h.words, spelled) refl;
}

-- and rarer, where it stands somewhere
pub gets_rarer : (text name longer : Text) → IsRare text name → 0 < occurrences name text → IsRarer text name longer → IsRare text longer
gets_rarer text name longer h some r =
    let n : length longer ≡ length name + 1 = ap length r.longer_by ∙ length_push name r.letter in
    record {
      begun = longer_begun name longer r.letter h.begun r.spelled r.longer_by;
      short = omega (arith, few_letters (length name) (occurrences name text) h.rare some);
      rare = rw (n, weight (length name))
          (doubled (2 ^ length name) (occurrences name text) (occurrences longer text) (2 ^ 17) r.rarer h.rare);
    }

-- a longer name that is rarer occurs less often
pub is_rarer : (text name longer : Text) → 0 < occurrences name text → IsRarer text name longer →
    occurrences longer text < occurrences name text
is_rarer text name longer some r = omega (arith, r.rarer)

-- ---- the name that stands nowhere

named : (rest : Text) → list_all is_word rest ≡ true → length rest < 64 → is_name (95 ∷ rest) ≡ true
named rest words few = rw words (grind (arith, nat_tests))

-- no word of the language begins with `_`
no_word : (rest : Text) → lookup vocabulary (95 ∷ rest) ≡ k.Name
no_word rest = refl

new_at : (text rest : Text) → list_all is_word rest ≡ true → length (95 ∷ rest) ≤ 18 →
    occurrences (95 ∷ rest) text ≡ 0 → IsNew text (95 ∷ rest)
new_at text rest words short none = record {
  named = named rest words (omega arith);
  no_word = no_word rest;
  nowhere = none;
}

-- a rare name that stands nowhere is new
pub is_new : (text name : Text) → IsRare text name → occurrences name text ≤ 0 → IsNew text name
is_new text name h none =
    let here : occurrences name text ≡ 0 = omega arith in
    subst (IsNew text) (sym h.begun.whole) (new_at text h.begun.rest h.begun.words
    (subst (λ z. length z ≤ 18) h.begun.whole h.short) (subst (λ z. occurrences z text ≡ 0) h.begun.whole here))

-- ---- which letter makes it rarer

-- `a` does where it stands there no oftener with `a` than with `b`
pub by_one : (text name one other : Text) → one ≡ name ++ 97 ∷ [] → other ≡ name ++ 98 ∷ [] →
    occurrences one text ≤ occurrences other text → IsRarer text name one
by_one text name one other e f less =
    let all : occurrences one text + occurrences other text ≤ occurrences name text =
    subst (λ z. occurrences z text + occurrences other text ≤ occurrences name text) (sym e)
    (subst (λ z. occurrences (name ++ 97 ∷ []) text + occurrences z text ≤ occurrences name text) (sym f)
    (shared name text 97 98 (λ h. omega arith))) in
    record { letter = 97; spelled = refl; longer_by = e; rarer = omega arith }

-- and else `b`
pub by_other : (text name one other : Text) → one ≡ name ++ 97 ∷ [] → other ≡ name ++ 98 ∷ [] →
    occurrences other text < occurrences one text → IsRarer text name other
by_other text name one other e f less =
    let all : occurrences one text + occurrences other text ≤ occurrences name text =
    subst (λ z. occurrences z text + occurrences other text ≤ occurrences name text) (sym e)
    (subst (λ z. occurrences (name ++ 97 ∷ []) text + occurrences z text ≤ occurrences name text) (sym f)
    (shared name text 97 98 (λ h. omega arith))) in
    record { letter = 98; spelled = refl; longer_by = f; rarer = omega arith }
