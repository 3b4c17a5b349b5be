-- What is read of contexts and queues is carried over to the machine's own.
use Rattle.std.proofs.Common.{◌≡◌, ◌≢◌, ℕ, ◌+◌, ◌<◌, Bool, true, false, ◌==◌, ◌&&◌, List, [], ◌∷◌, Option}
use Rattle.std.proofs.Common.{Some, None, map, option_map, ap, sym, subst, refl, ◌∙◌, drop, find, arith}
use Rattle.std.proofs.lemmas.Bool.{eq-eqb, ne_eqb}
use Rattle.std.proofs.Math.ListN.{get_or, get_or-map}
use Rattle.std.proofs.lemmas.List.{length-map}
use Rattle.std.specs.Prelude.{position, not, cond, nat_lt, slice_get, length, MatchOption}
use Rattle.std.specs.List.{position_or_len}
use Rattle.flt_cbdq.specs.declared.entry.Entry as cbdq
use Rattle.flt_cbdq.specs.Queues.{front_of}
use Rattle.flt_ctx.specs.Contexts as ctx
use Rattle.flt_ctx.specs.declared.key.Key as at
use Rattle.flt_ctx.specs.declared.key.Target.{Target}
use Rattle.flt_ctx.specs.declared.key.Target.TheVariants.{Stream, Instance}
use Rattle.flt_model.specs.Moves.{is_entry_of}
use Rattle.flt_model.specs.declared.parts.Entry.{Entry}
use Rattle.flt_model.specs.World.{Store, Context, Visit, visit_at, same_key, is_linked_to}
use Rattle.flt_machine_store.specs.Parts.{key_of, link_of, context_of, entry_of}

-- ---- contexts

pub keys_same : (k l : Target) → same_key (key_of k) (key_of l) ≡ ctx.same_target k l
keys_same (Stream f) (Stream g) = refl
keys_same (Stream f) Instance = refl
keys_same Instance (Stream g) = refl
keys_same Instance Instance = refl

pub links_same : (k : at.Key) (l : Option at.Key) → is_linked_to (link_of k) (option_map link_of l) ≡ ctx.is_key k l
links_same k None = refl
links_same k (Some l) = ap (λ (b : Bool). (k.filter == l.filter) && b) (keys_same k.target l.target)

length_there : {A B : Type 0} (f : A → B) (p : B → Bool) (q : A → Bool) → ((x : A) → p (f x) ≡ q x) → (xs : List A) →
    position_or_len p (map f xs) ≡ position_or_len q xs
length_there f p q same [] = refl
length_there f p q same (x ∷ xs) =
    ap (λ (b : Bool). cond (not b) (1 + position_or_len p (map f xs)) 0) (same x) ∙
    ap (λ (n : ℕ). cond (not (q x)) (1 + n) 0) (length_there f p q same xs)

pub position_there : {A B : Type 0} (f : A → B) (p : B → Bool) (q : A → Bool) → ((x : A) → p (f x) ≡ q x) → (xs : List A) →
    position p (map f xs) ≡ position q xs
position_there f p q same xs =
    ap (λ (n : ℕ). cond (nat_lt n (length (map f xs))) (Some n) None) (length_there f p q same xs) ∙
    ap (λ (m : ℕ). cond (nat_lt (position_or_len q xs) m) (Some (position_or_len q xs)) None) (length-map xs f)

-- the context that is linked there
pub linked_there : (cs : List ctx.Context) (k : at.Key) →
    position (λ (c : Context). is_linked_to (link_of k) c.link) (map context_of cs) ≡ position (λ (c : ctx.Context). ctx.is_key k c.link) cs
linked_there cs k =
    position_there context_of (λ (c : Context). is_linked_to (link_of k) c.link) (λ (c : ctx.Context). ctx.is_key k c.link)
    (λ c. links_same k c.link) cs

-- ---- queues

first_there : (q : List cbdq.Entry) (e : cbdq.Entry) → Some e ≡ slice_get q 0 → map entry_of q ≡ entry_of e ∷ drop 1 (map entry_of q)
first_there [] e is = absurd (cc)
first_there (x ∷ q) e is = let same : e ≡ x = cc in ap (λ (y : cbdq.Entry). entry_of y ∷ map entry_of q) (sym same)

none_there : (q : List cbdq.Entry) → None ≡ slice_get q 0 → map entry_of q ≡ []
none_there [] is = refl
none_there (x ∷ q) is = absurd (cc)

-- a queue
pub queue_there : (qs : List (List cbdq.Entry)) (f : ℕ) → get_or (map (map entry_of) qs) f [] ≡ map entry_of (get_or qs f [])
queue_there qs f = get_or-map (map entry_of) qs f []

-- the front entry
pub front_there : (qs : List (List cbdq.Entry)) (f : ℕ) (front : Option cbdq.Entry) → front ≡ slice_get (get_or qs f []) 0 →
    MatchOption front (get_or (map (map entry_of) qs) f [] ≡ [])
    (λ e. get_or (map (map entry_of) qs) f [] ≡ record { visit = e.visit; context = e.context } ∷
    drop 1 (get_or (map (map entry_of) qs) f []))
front_there qs f None is = queue_there qs f ∙ none_there (get_or qs f []) is
front_there qs f (Some e) is =
    subst (λ (q : List Entry). q ≡ entry_of e ∷ drop 1 q) (sym (queue_there qs f)) (first_there (get_or qs f []) e is)

-- ---- a walk along a queue

module _ (s : Store) (o : ℕ) where
  abbrev found_in : List cbdq.Entry → Option Entry
  found_in left = find (is_entry_of s o) (map entry_of left)

  -- the walk has come to the operation's first entry
  pub walk_found : (left : List cbdq.Entry) (e : cbdq.Entry) (visit : Visit) →
      Some e ≡ front_of left → visit ≡ visit_at s e.visit → visit.operation ≡ o →
      Some (entry_of e) ≡ found_in left
  walk_found [] e visit is there here = absurd (cc)
  walk_found (x ∷ left) e visit is there here =
      let same : e ≡ x = cc in
      let passes : (visit_at s e.visit).operation ≡ o = ap (λ (v : Visit). v.operation) (sym there) ∙ here in
      let hit : is_entry_of s o (entry_of e) ≡ true = eq-eqb _ _ passes in
      ap (λ (b : Bool). cond b (Some (entry_of e)) (found_in left)) (sym hit) ∙ ap (λ (y : cbdq.Entry). found_in (y ∷ left)) same

  -- the walk passes an entry of another operation
  pub walk_past : (left : List cbdq.Entry) (e : cbdq.Entry) (visit : Visit) →
      Some e ≡ front_of left → visit ≡ visit_at s e.visit → visit.operation ≢ o →
      found_in left ≡ found_in (drop 1 left)
  walk_past [] e visit is there other = absurd (cc)
  walk_past (x ∷ left) e visit is there other =
      let same : e ≡ x = cc in
      let fails : (visit_at s e.visit).operation ≢ o = λ it. other (ap (λ (v : Visit). v.operation) there ∙ it) in
      let miss : is_entry_of s o (entry_of e) ≡ false = ne_eqb _ _ fails in
      ap (λ (y : cbdq.Entry). found_in (y ∷ left)) (sym same) ∙ ap (λ (b : Bool). cond b (Some (entry_of e)) (found_in left)) miss

  -- no entry is left
  pub walk_over : (left : List cbdq.Entry) → None ≡ front_of left → None ≡ found_in left
  walk_over [] is = refl
  walk_over (x ∷ left) is = absurd (cc)

-- an entry that is taken leaves fewer
pub walk_shorter : (left : List cbdq.Entry) (e : cbdq.Entry) → Some e ≡ front_of left → length (drop 1 left) < length left
walk_shorter [] e is = absurd (cc)
walk_shorter (x ∷ left) e is = omega arith
