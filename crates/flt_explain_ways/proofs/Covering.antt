-- Each finding is akin to the first of a group.
use Rattle.std.proofs.Common.{◌⊎◌, inl, inr, ◌≡◌, ◌≤◌, ◌<◌, ◌+◌, ℕ, zero, suc, Bool, true, false, List}
use Rattle.std.proofs.Common.{[], ◌∷◌, Some, length, map, slice_get, arith, ap, refl, subst, ◌∙◌}
use Rattle.std.specs.Prelude.{◌==◌, ⊤, filter, not, option_map, All, if◌then◌else◌}
use Rattle.std.proofs.lemmas.Bool.{and_parts, and_from, eq-eqb}
use Rattle.std.proofs.lemmas.List.Sums.{length-filter, count_by-le-length}
use Rattle.std.proofs.lemmas.Option.{same_Some}
use Rattle.flt_rules.specs.Rule.{number}
use Rattle.flt_explain.specs.Subjects.{place}
use Rattle.flt_explain.specs.declared.finding.Finding.{Finding}
use Rattle.flt_explain_origins.specs.Grouping.{group, groups_in, groups_of, is_like, is_unlike, share}
use Rattle.flt_explain_origins.specs.declared.grouping.Group.{Group}
use Rattle.flt_explain_origins.specs.declared.grouping.TracedFinding.{TracedFinding}
use Rattle.flt_explain_ways.specs.Tracing.{traced, traced_from}
use Rattle.flt_explain_origins.specs.declared.trace.FindingTrace.{FindingTrace}
use Rattle.flt_explain_ways.specs.Covering.{is_akin, AreFirsts, Covers, Rises}

-- ---- lists

abbrev Each : {A : Type 0} → (A → Type 0) → List A → Type 0
Each P [] = ⊤
Each P (x ∷ xs) = P x × Each P xs

abbrev In : {A : Type 0} → A → List A → Type 0
In x [] = ⊥
In x (y ∷ ys) = (y ≡ x) ⊎ In x ys

all_of : {A : Type 0} (P : A → Type 0) (xs : List A) → Each P xs → All P xs
all_of P [] each k d less = absurd (omega (arith, less))
all_of P (x ∷ xs) each zero d less = each.0
all_of P (x ∷ xs) each (suc k) d less = all_of P xs each.1 k d (omega (arith, less))

mapped : {A B : Type 0} (f : A → B) (Q : B → Type 0) (xs : List A) → Each (λ x. Q (f x)) xs → Each Q (map f xs)
mapped f Q [] each = tt
mapped f Q (x ∷ xs) each = (each.0, mapped f Q xs each.1)

at_place : {A : Type 0} (P : A → Type 0) (xs : List A) (k : ℕ) (x : A) → Each P xs → slice_get xs k ≡ Some x → P x
at_place P [] k x each is = absurd (cc)
at_place P (y ∷ ys) zero x each is = subst P (same_Some y x is) each.0
at_place P (y ∷ ys) (suc k) x each is = at_place P ys k x each.1 is

weaker : {A : Type 0} (P Q : A → Type 0) (xs : List A) → ((x : A) → P x → Q x) → Each P xs → Each Q xs
weaker P Q [] step each = tt
weaker P Q (x ∷ xs) step each = (step x each.0, weaker P Q xs step each.1)

kept : {A : Type 0} (P : A → Type 0) (p : A → Bool) (xs : List A) → Each P xs → Each P (filter p xs)
kept P p [] each = tt
kept P p (x ∷ xs) each = by_test (p x) (kept P p xs each.1)
  where
    by_test : (b : Bool) → Each P (filter p xs) → Each P (if b then x ∷ filter p xs else filter p xs)
    by_test true rest = (each.0, rest)
    by_test false rest = rest

fewer : (p : TracedFinding → Bool) (xs : List TracedFinding) → length (filter p xs) ≤ length xs
fewer p xs = let e = length-filter p xs in let h = count_by-le-length p xs in omega (arith, e, h)

stays : {A : Type 0} (p : A → Bool) (xs : List A) (x : A) → In x xs → p x ≡ true → In x (filter p xs)
stays p (y ∷ ys) x (inl same) passes = by_test (p y) (ap p same ∙ passes)
  where
    by_test : (b : Bool) → b ≡ true → In x (if b then y ∷ filter p ys else filter p ys)
    by_test true e = inl same
    by_test false e = absurd (cc)
stays p (y ∷ ys) x (inr later) passes = by_test (p y) (stays p ys x later passes)
  where
    by_test : (b : Bool) → In x (filter p ys) → In x (if b then y ∷ filter p ys else filter p ys)
    by_test true rest = inr rest
    by_test false rest = rest
stays p [] x none passes = absurd none

-- ---- findings and their numbers

-- the numbers of some findings rise
abbrev Ascends : List TracedFinding → Type 0
Ascends [] = ⊤
Ascends (x ∷ xs) = Each (λ (y : TracedFinding). x.number < y.number) xs × Ascends xs

ascends_on : (p : TracedFinding → Bool) (xs : List TracedFinding) → Ascends xs → Ascends (filter p xs)
ascends_on p [] up = tt
ascends_on p (x ∷ xs) up = by_test (p x) (ascends_on p xs up.1)
  where
    by_test : (b : Bool) → Ascends (filter p xs) → Ascends (if b then x ∷ filter p xs else filter p xs)
    by_test true rest = (kept (λ (y : TracedFinding). x.number < y.number) p xs up.0, rest)
    by_test false rest = rest

module _ (shown : List FindingTrace) where
  from_on : (n : ℕ) (fs : List Finding) → Each (λ (t : TracedFinding). n ≤ t.number) (traced_from n fs shown)
  from_on n [] = tt
  from_on n (f ∷ fs) = (
    omega arith,
    weaker (λ (t : TracedFinding). n + 1 ≤ t.number) (λ (t : TracedFinding). n ≤ t.number) (traced_from (n + 1) fs shown)
        (λ t less. omega (arith, less)) (from_on (n + 1) fs),
  )

  ascending : (n : ℕ) (fs : List Finding) → Ascends (traced_from n fs shown)
  ascending n [] = tt
  ascending n (f ∷ fs) = (
    weaker (λ (t : TracedFinding). n + 1 ≤ t.number) (λ (t : TracedFinding). n < t.number) (traced_from (n + 1) fs shown)
        (λ t less. omega (arith, less)) (from_on (n + 1) fs),
    ascending (n + 1) fs,
  )

  -- a finding stands at its number, where the first has number n
  abbrev IsAt : ℕ → List Finding → TracedFinding → Type 0
  IsAt n fs t = (k : ℕ) × (t.number ≡ n + k) × (slice_get fs k ≡ Some t.finding)

  placed : (n : ℕ) (fs : List Finding) → Each (IsAt n fs) (traced_from n fs shown)
  placed n [] = tt
  placed n (f ∷ fs) = (
    (zero, omega arith, refl),
    weaker (IsAt (n + 1) fs) (IsAt n (f ∷ fs)) (traced_from (n + 1) fs shown)
        (λ t at. (suc at.0, omega (arith, at.1), at.2)) (placed (n + 1) fs),
  )

  found_in : (n : ℕ) (fs : List Finding) (k : ℕ) (f : Finding) →
      slice_get fs k ≡ Some f → In (traced (n + k) f shown) (traced_from n fs shown)
  found_in n [] k f is = absurd (cc)
  found_in n (e ∷ fs) zero f is =
      let same : n ≡ n + 0 = omega arith in
      inl (ap (λ m. traced m e shown) same ∙ ap (λ g. traced (n + 0) g shown) (same_Some e f is))
  found_in n (e ∷ fs) (suc k) f is =
      let same : (n + 1) + k ≡ n + suc k = omega arith in
      inr (subst (λ m. In (traced m f shown) (traced_from (n + 1) fs shown)) same (found_in (n + 1) fs k f is))

-- ---- groups

firsts : (P : TracedFinding → Type 0) (turns xs : List TracedFinding) → Each P xs → Each (λ (g : Group). P g.first) (groups_in turns xs)
firsts P [] xs each = tt
firsts P (turn ∷ turns) [] each = tt
firsts P (turn ∷ turns) (x ∷ xs) each = (each.0, firsts P turns (filter (is_unlike x) xs) (kept P (is_unlike x) xs each.1))

abbrev pub number_of : Group → ℕ
number_of g = g.first.number

rising : (turns xs : List TracedFinding) → Ascends xs → Rises (map number_of (groups_in turns xs))
rising [] xs up = tt
rising (turn ∷ turns) [] up = tt
rising (turn ∷ turns) (x ∷ xs) up =
    let rest = filter (is_unlike x) xs in
    let P = λ (t : TracedFinding). x.number < t.number in
    let above = firsts P turns rest (kept P (is_unlike x) xs up.0) in (
      all_of (λ m. x.number < m) (map number_of (groups_in turns rest)) (mapped number_of (λ m. x.number < m) (groups_in turns rest) above),
      rising turns rest (ascends_on (is_unlike x) xs up.1),
    )

akin_self : (f : Finding) → is_akin f f ≡ true
akin_self f =
    and_from (f.callback == f.callback) _ (eq-eqb f.callback f.callback refl)
    (and_from (number f.rule == number f.rule) (place f.subject == place f.subject) (eq-eqb (number f.rule) (number f.rule) refl)
    (eq-eqb (place f.subject) (place f.subject) refl))

akin_like : (x t : TracedFinding) → is_like x t ≡ true → is_akin x.finding t.finding ≡ true
akin_like x t e =
    let callback = and_parts (x.finding.callback == t.finding.callback) _ e in
    let rule = and_parts (number x.finding.rule == number t.finding.rule) _ callback.1 in
    let subject = and_parts (place x.finding.subject == place t.finding.subject) (share x.cause t.cause) rule.1 in
    and_from (x.finding.callback == t.finding.callback) _ callback.0
    (and_from (number x.finding.rule == number t.finding.rule) (place x.finding.subject == place t.finding.subject) rule.0 subject.0)

-- the first of a group leads a finding: it is akin to it, and doesn't stand behind it
record Leads (t : TracedFinding) (gs : List Group) : Type 0 where
  position : ℕ
  one : Group
  is_one : slice_get gs position ≡ Some one
  before : one.first.number ≤ t.number
  akin : is_akin one.first.finding t.finding ≡ true

later : (t : TracedFinding) (g : Group) (gs : List Group) → Leads t gs → Leads t (g ∷ gs)
later t g gs l = record { position = suc l.position; one = l.one; is_one = l.is_one; before = l.before; akin = l.akin }

among : (P : TracedFinding → Type 0) (xs : List TracedFinding) (t : TracedFinding) → Each P xs → In t xs → P t
among P [] t each none = absurd none
among P (x ∷ xs) t each (inl same) = subst P same each.0
among P (x ∷ xs) t each (inr rest) = among P xs t each.1 rest

led : (turns xs : List TracedFinding) → length xs ≤ length turns → Ascends xs → (t : TracedFinding) → In t xs → Leads t (groups_in turns xs)
led turns [] enough up t none = absurd none
led [] (x ∷ xs) enough up t there = absurd (omega (arith, enough))
led (turn ∷ turns) (x ∷ xs) enough up t (inl same) = record {
  position = zero;
  one = group x (filter (is_like x) xs);
  is_one = refl;
  before = subst (λ (y : TracedFinding). x.number ≤ y.number) same (omega arith);
  akin = subst (λ (y : TracedFinding). is_akin x.finding y.finding ≡ true) same (akin_self x.finding);
}
led (turn ∷ turns) (x ∷ xs) enough up t (inr there) =
    let few = fewer (is_unlike x) xs in
    by_test (is_like x t) refl
    (λ still. led turns (filter (is_unlike x) xs) (omega (arith, few, enough)) (ascends_on (is_unlike x) xs up.1) t still)
  where
    by_test : (b : Bool) → is_like x t ≡ b → (In t (filter (is_unlike x) xs) → Leads t (groups_in turns (filter (is_unlike x) xs))) →
        Leads t (groups_in (turn ∷ turns) (x ∷ xs))
    by_test true e on = record {
      position = zero;
      one = group x (filter (is_like x) xs);
      is_one = refl;
      before = (let less = among (λ (y : TracedFinding). x.number < y.number) xs t up.0 there in omega (arith, less));
      akin = akin_like x t e;
    }
    by_test false e on =
        later t (group x (filter (is_like x) xs)) (groups_in turns (filter (is_unlike x) xs))
        (on (stays (is_unlike x) xs t there (ap not e)))

-- ---- the numbers of the groups' firsts

get_mapped : {A B : Type 0} (f : A → B) (xs : List A) (k : ℕ) (x : A) → slice_get xs k ≡ Some x → slice_get (map f xs) k ≡ Some (f x)
get_mapped f [] k x is = absurd (cc)
get_mapped f (y ∷ ys) zero x is = ap (λ o. option_map f o) is
get_mapped f (y ∷ ys) (suc k) x is = get_mapped f ys k x is

within : {A : Type 0} (xs : List A) (k : ℕ) (x : A) → slice_get xs k ≡ Some x → k < length xs
within [] k x is = absurd (cc)
within (y ∷ ys) zero x is = omega arith
within (y ∷ ys) (suc k) x is = let rest = within ys k x is in omega (arith, rest)

-- the first findings of the groups are those to which all others are akin
pub are_firsts : (found : List Finding) (shown : List FindingTrace) →
    AreFirsts found (map number_of (groups_of (traced_from 0 found shown)))
are_firsts found shown = record {
  rise = rising xs xs (ascending shown 0 found);
  within = all_of (λ n. n < length found) (map number_of gs) (mapped number_of (λ n. n < length found) gs
      (weaker (λ (g : Group). IsAt shown 0 found g.first) (λ (g : Group). number_of g < length found) gs below at_numbers));
  covers = covered;
}
  where
    xs : List TracedFinding
    xs = traced_from 0 found shown

    gs : List Group
    gs = groups_of xs

    at_numbers : Each (λ (g : Group). IsAt shown 0 found g.first) gs
    at_numbers = firsts (IsAt shown 0 found) xs xs (placed shown 0 found)

    below : (g : Group) → IsAt shown 0 found g.first → number_of g < length found
    below g at = let less = within found at.0 g.first.finding at.2 in omega (arith, less, at.1)

    covered : Covers found (map number_of gs)
    covered own f is =
        let l = led xs xs (omega arith) (ascending shown 0 found) (traced (0 + own) f shown) (found_in shown 0 found own f is) in
        let at = at_place (λ (g : Group). IsAt shown 0 found g.first) gs l.position l.one at_numbers l.is_one in
        let same : at.0 ≡ l.one.first.number = omega (arith, at.1) in
        record {
          position = l.position;
          first = l.one.first.number;
          is_first = get_mapped number_of gs l.position l.one l.is_one;
          before = (let less = l.before in omega (arith, less));
          one = l.one.first.finding;
          is_one = subst (λ k. slice_get found k ≡ Some l.one.first.finding) same at.2;
          akin = l.akin;
        }
