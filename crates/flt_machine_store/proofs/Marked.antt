-- A walk along a queue that marks the operation of each entry.
use Rattle.std.proofs.Common.{◌≡◌, ℕ, zero, suc, ◌<◌, ◌≤◌, Bool, true, false, ◌||◌, List, [], ◌∷◌}
use Rattle.std.proofs.Common.{Some, None, map, length, ap, sym, refl, ◌∙◌, inl, inr, arith, drop}
use Rattle.std.proofs.Math.ListN.{get_or, set}
use Rattle.std.proofs.lemmas.Bool.{cases_eq, eq-eqb, ne_eqb}
use Rattle.std.proofs.lemmas.List.{get_or-set_same, get_or-set_other}
use Rattle.std.specs.List.{list_any}
use Rattle.std.specs.Prelude.{replicate}
use Rattle.flt_cbdq.specs.declared.entry.Entry as cbdq
use Rattle.flt_cbdq.specs.Queues.{front_of}
use Rattle.flt_model.specs.Moves.{is_entry_of}
use Rattle.flt_model.specs.World.{Store, visit_at}
use Rattle.flt_machine_store.specs.Parts.{entry_of}

-- an operation is marked, or has an entry among those that are left
abbrev pub is_marked : Store → List Bool → List cbdq.Entry → ℕ → Bool
is_marked s marks left o = get_or marks o false || list_any (is_entry_of s o) (map entry_of left)

or_none : (b : Bool) → (b || false) ≡ b
or_none true = refl
or_none false = refl

or_all : (b : Bool) → (b || true) ≡ true
or_all true = refl
or_all false = refl

-- before the walk nothing is marked
pub none_marked : (s : Store) (n : ℕ) (left : List cbdq.Entry) (o : ℕ) →
    is_marked s (replicate n false) left o ≡ list_any (is_entry_of s o) (map entry_of left)
none_marked s n left o = ap (λ (b : Bool). b || list_any (is_entry_of s o) (map entry_of left)) (unmarked n o)
  where
    unmarked : (n o : ℕ) → get_or (replicate n false) o false ≡ false
    unmarked zero o = refl
    unmarked (suc n) zero = refl
    unmarked (suc n) (suc o) = unmarked n o

-- after it an operation is marked where it has an entry
pub all_marked : (s : Store) (marks : List Bool) (left : List cbdq.Entry) (o : ℕ) →
    None ≡ front_of left → is_marked s marks left o ≡ get_or marks o false
all_marked s marks [] o is = or_none (get_or marks o false)
all_marked s marks (x ∷ left) o is = absurd (cc)

-- an entry whose operation is another, or isn't marked with the others
other_marked : (s : Store) (marks : List Bool) (left : List cbdq.Entry) (e : cbdq.Entry) (o : ℕ) → Some e ≡ front_of left →
    ((visit_at s e.visit).operation ≡ o → ⊥) → is_marked s marks left o ≡ is_marked s marks (drop 1 left) o
other_marked s marks [] e o is other = absurd (cc)
other_marked s marks (x ∷ left) e o is other =
    let same : e ≡ x = cc in
    let miss : is_entry_of s o (entry_of e) ≡ false = ne_eqb _ _ other in
    ap (λ (y : cbdq.Entry). is_marked s marks (y ∷ left) o) (sym same) ∙
    ap (λ (b : Bool). get_or marks o false || (b || list_any (is_entry_of s o) (map entry_of left))) miss

own_marked : (s : Store) (marks : List Bool) (left : List cbdq.Entry) (e : cbdq.Entry) (o : ℕ) → Some e ≡ front_of left →
    (visit_at s e.visit).operation ≡ o → is_marked s marks left o ≡ true
own_marked s marks [] e o is own = absurd (cc)
own_marked s marks (x ∷ left) e o is own =
    let same : e ≡ x = cc in
    let hit : is_entry_of s o (entry_of e) ≡ true = eq-eqb _ _ own in
    ap (λ (y : cbdq.Entry). is_marked s marks (y ∷ left) o) (sym same) ∙
    ap (λ (b : Bool). get_or marks o false || (b || list_any (is_entry_of s o) (map entry_of left))) hit ∙ or_all (get_or marks o false)

-- the walk takes an entry, and marks its operation
pub one_marked : (s : Store) (marks : List Bool) (left : List cbdq.Entry) (e : cbdq.Entry) (m o : ℕ) → Some e ≡ front_of left →
    (visit_at s e.visit).operation ≡ m → m < length marks → is_marked s (set marks m true) (drop 1 left) o ≡ is_marked s marks left o
one_marked s marks left e m o is of here = elim (cases_eq m o) [
  | inl same ↦
      let marked : get_or (set marks m true) o false ≡ true =
      ap (λ (k : ℕ). get_or (set marks m true) k false) (sym same) ∙ get_or-set_same marks m true false here in
      ap (λ (b : Bool). b || list_any (is_entry_of s o) (map entry_of (drop 1 left))) marked ∙
      sym (own_marked s marks left e o is (of ∙ same))
  | inr differs ↦
      ap (λ (b : Bool). b || list_any (is_entry_of s o) (map entry_of (drop 1 left)))
      (get_or-set_other marks m o true false (λ it. differs (sym it))) ∙
      sym (other_marked s marks left e o is (λ it. differs (sym of ∙ it)))
]

-- or it isn't there
pub none_there : (s : Store) (marks : List Bool) (left : List cbdq.Entry) (e : cbdq.Entry) (m o : ℕ) → Some e ≡ front_of left →
    (visit_at s e.visit).operation ≡ m → length marks ≤ m → o < length marks → is_marked s marks (drop 1 left) o ≡ is_marked s marks left o
none_there s marks left e m o is of past here =
    sym (other_marked s marks left e o is (λ it. absurd (omega (arith, past, here, sym of ∙ it))))
