-- The keys of comments: two are one where the line and the kind are.
use Rattle.std.proofs.Common.{◌≡◌, ℕ, Bool, true, false, ◌&&◌, ◌==◌, [], ◌∷◌, Option, Some, None, refl, ap, ◌∙◌, arith}
use Rattle.std.proofs.lemmas.Bool.Decides.{nat_tests}
use Rattle.std.specs.BTreeMap.{BTreeMap, get}
use Rattle.std.specs.Ordering.{is_eq, nat_cmp, ordering_then}
use Rattle.std.specs.declared.cmp.Ordering.{Ordering}
use Rattle.std.specs.declared.cmp.Ordering.TheVariants.{Less, Equal, Greater}
use Rattle.std.specs.Str.{bytes_eq}
use Rattle.flt_tree.specs.Names.{Text}
use Rattle.flt_explain_warnings.specs.Kinds.{kind_name}
use Rattle.flt_explain_warnings.specs.declared.warning.Kind.{Kind}
use Rattle.flt_explain_warnings.specs.declared.warning.Kind.TheVariants.{W00, W01, W02, W03, W04, W05, W06, W07}
use Rattle.flt_explain_warnings.specs.declared.allowance.Allowance.{Allowance}
use Rattle.flt_explain_warning_details.specs.Allowing.{names, is_reason}
use Rattle.flt_explain_warning_details.specs.Indexed.{number_of, key_cmp, is_key, key_by, key_of, is_for}

-- ---- the order

nat_is : (x y : ℕ) → is_eq (nat_cmp x y) ≡ (x == y)
nat_is x y = grind (arith, nat_tests)

then_is : (x y : Ordering) → is_eq (ordering_then x y) ≡ (is_eq x && is_eq y)
then_is Less y = refl
then_is Equal y = refl
then_is Greater y = refl

-- keys that are equal in the order are one
pub cmp_is : (p q : ℕ × ℕ) → is_eq (key_cmp p q) ≡ is_key p q
cmp_is p q = then_is (nat_cmp p.0 q.0) (nat_cmp p.1 q.1) ∙ rw (nat_is p.0 q.0, nat_is p.1 q.1) refl

-- keys that are one have the same place
pub same_place : (m : BTreeMap (ℕ × ℕ) ℕ) (p q : ℕ × ℕ) → is_key p q ≡ true → get key_cmp m q ≡ get key_cmp m p
same_place m p q h =
    let first : q.0 ≡ p.0 = grind (arith, nat_tests) in
    let second : q.1 ≡ p.1 = grind (arith, nat_tests) in
    ap (λ (n : ℕ). get key_cmp m (n, q.1)) first ∙ ap (λ (n : ℕ). get key_cmp m (p.0, n)) second

-- ---- the kinds

-- kinds have the same name where they have the same number
named : (a b : Kind) → bytes_eq (kind_name a) (kind_name b) ≡ (number_of a == number_of b)
named W00 W00 = refl
named W00 W01 = refl
named W00 W02 = refl
named W00 W03 = refl
named W00 W04 = refl
named W00 W05 = refl
named W00 W06 = refl
named W00 W07 = refl
named W01 W00 = refl
named W01 W01 = refl
named W01 W02 = refl
named W01 W03 = refl
named W01 W04 = refl
named W01 W05 = refl
named W01 W06 = refl
named W01 W07 = refl
named W02 W00 = refl
named W02 W01 = refl
named W02 W02 = refl
named W02 W03 = refl
named W02 W04 = refl
named W02 W05 = refl
named W02 W06 = refl
named W02 W07 = refl
named W03 W00 = refl
named W03 W01 = refl
named W03 W02 = refl
named W03 W03 = refl
named W03 W04 = refl
named W03 W05 = refl
named W03 W06 = refl
named W03 W07 = refl
named W04 W00 = refl
named W04 W01 = refl
named W04 W02 = refl
named W04 W03 = refl
named W04 W04 = refl
named W04 W05 = refl
named W04 W06 = refl
named W04 W07 = refl
named W05 W00 = refl
named W05 W01 = refl
named W05 W02 = refl
named W05 W03 = refl
named W05 W04 = refl
named W05 W05 = refl
named W05 W06 = refl
named W05 W07 = refl
named W06 W00 = refl
named W06 W01 = refl
named W06 W02 = refl
named W06 W03 = refl
named W06 W04 = refl
named W06 W05 = refl
named W06 W06 = refl
named W06 W07 = refl
named W07 W00 = refl
named W07 W01 = refl
named W07 W02 = refl
named W07 W03 = refl
named W07 W04 = refl
named W07 W05 = refl
named W07 W06 = refl
named W07 W07 = refl

-- whether a key is that of a comment
abbrev pub is_key_of : Option (ℕ × ℕ) → ℕ × ℕ → Bool
is_key_of (Some k) q = is_key k q
is_key_of None q = false

both : (x y : Bool) → (x && (true && y)) ≡ (y && x)
both true true = refl
both true false = refl
both false true = refl
both false false = refl

neither : (x : Bool) → (x && false) ≡ false
neither true = refl
neither false = refl

by_parts : (named : Option Kind) (reason : Text) (statement line : ℕ) (kind : Kind) →
    (names named kind && (is_reason reason && statement == line)) ≡ is_key_of (key_by named reason statement) (line, number_of kind)
by_parts None reason statement line kind = refl
by_parts (Some k) [] statement line kind = neither (names (Some k) kind)
by_parts (Some k) (b ∷ reason) statement line kind =
    ap (λ (x : Bool). x && (true && statement == line)) (named k kind) ∙ both (number_of k == number_of kind) (statement == line)

-- a comment allows a kind on a line where that is its key
pub for_key : (line : ℕ) (kind : Kind) (a : Allowance) → is_for line kind a ≡ is_key_of (key_of a) (line, number_of kind)
for_key line kind a = by_parts a.kind a.reason a.statement line kind
