-- The ledgers of changes to one context: it is allocated, referenced, released, linked, unlinked, written. The calls on contexts are
-- made of these. Here a is the activation that calls, s the store before, y the context that changes, x any context, l a link.
use Rattle.std.proofs.Common.{◌≡◌, ◌≢◌, ℕ, zero, suc, ◌+◌, ◌-◌, ◌<◌, ◌≤◌, Bool, true, false, List, []}
use Rattle.std.proofs.Common.{◌∷◌, ◌++◌, length, Some, None, ap, sym, subst, refl, ◌∙◌, arith, inl, inr}
use Rattle.std.specs.Prelude.{◌==◌, if◌then◌else◌}
use Rattle.std.proofs.Math.ListN.{set, get_or, get_or-append}
use Rattle.std.proofs.Math.Seq.{get_or-append_seam}
use Rattle.std.proofs.lemmas.Bool.{cases_eq, cases_lt, eqb-true}
use Rattle.std.proofs.lemmas.Bool.Decides.{nat_tests}
use Rattle.std.proofs.lemmas.List.{get_or-set_same, get_or-set_other, get_or_past, length-set, length-append}
use Rattle.flt_model.specs.declared.event.Event.{Event}
use Rattle.flt_model.specs.declared.event.Event.TheVariants as event
use Rattle.flt_model.specs.declared.event.Object.TheVariants.{Context}
use Rattle.flt_model.specs.Effects.{freed_by_drop, after_unlink}
use Rattle.flt_model.specs.Trace.{gains, loses, frees, of_actor}
use Rattle.flt_model.specs.World as world
use Rattle.flt_model.specs.declared.parts.Link.{Link}
use Rattle.flt_model.specs.World.{Store, no_context, context_at, is_freed, with_context, with_link, add_reference, drop_reference}
use Rattle.flt_sound.proofs.sums.Belonging.{IsOf, Mine, Older, mine_on, new_context, older_more}
use Rattle.flt_sound.proofs.sums.Counts.{counts, of_actor-same, of_actor-other, of_actor-one, of_actor-none, of_actor-more, made_more}
use Rattle.flt_sound.proofs.sums.Differences.{linked}
use Rattle.flt_sound.proofs.sums.Eaches.{within}
use Rattle.flt_sound.proofs.sums.Handovers.{gains-dropped, loses-dropped}
use Rattle.flt_sound.proofs.sums.Ledger.{Ledger, alive, alive_few, chain}

-- ---- a number of one context

-- a context that has a reference is there
there_if : (l : List world.Context) (y : ℕ) → 1 ≤ (get_or l y no_context).references → y < length l
there_if l y h = within l y no_context
    (λ d. let none : (get_or l y no_context).references ≡ 0 = ap (λ (c : world.Context). c.references) d in absurd (omega (arith, none, h)))

-- a number that each context has, after one context changes: the old one goes, the new one comes
put_field : (f : world.Context → ℕ) (l : List world.Context) (y x : ℕ) (c : world.Context) → y < length l →
    f (get_or (set l y c) x no_context) + of_actor y x (f (get_or l y no_context)) ≡ f (get_or l x no_context) + of_actor y x (f c)
put_field f l y x c h =
    let was = f (get_or l y no_context) in
    elim (cases_eq x y) [
      | inl e ↦ rw (e, get_or-set_same l y c no_context h) (omega (arith, of_actor-same y (f c), of_actor-same y was))
      | inr ne ↦ rw (get_or-set_other l y x c no_context ne)
          (omega (arith, of_actor-other y x (f c) (λ e. ne (sym e)), of_actor-other y x was (λ e. ne (sym e))))
    ]

-- no other element changes where one more comes
get_or-other : {X : Type 0} (xs : List X) (x d : X) (i : ℕ) → i ≢ length xs → get_or (xs ++ x ∷ []) i d ≡ get_or xs i d
get_or-other xs x d i ne =
    elim (cases_lt i (length xs)) [
      | inl h ↦ get_or-append xs (x ∷ []) d i h
      | inr h ↦ get_or_past (xs ++ x ∷ []) i d (omega (arith, length-append xs (x ∷ []))) ∙ sym (get_or_past xs i d h)
    ]

-- a number that each context has, after one more context comes
add_field : (f : world.Context → ℕ) (l : List world.Context) (c : world.Context) (x : ℕ) → f no_context ≡ 0 →
    f (get_or (l ++ c ∷ []) x no_context) ≡ f (get_or l x no_context) + of_actor (length l) x (f c)
add_field f l c x none =
    elim (cases_eq x (length l)) [
      | inl e ↦ rw (e, get_or-append_seam l c [] no_context, get_or_past l (length l) no_context (omega arith))
          (omega (arith, none, of_actor-same (length l) (f c)))
      | inr ne ↦ rw (get_or-other l c no_context x ne) (omega (arith, of_actor-other (length l) x (f c) (λ e. ne (sym e))))
    ]

-- ---- one context changes

module _ (s : Store) (y : ℕ) (c : world.Context) (there : y < length s.contexts) (same : c.owner ≡ (context_at s y).owner) where
  older_one : Older s.contexts (set s.contexts y c)
  older_one f x b = record {
    there = rw (length-set s.contexts y c) b.there;
    owner = elim (cases_eq x y) [
      | inl e ↦ rw (e, get_or-set_same s.contexts y c no_context there)
          (same ∙ (ap (λ k. (get_or s.contexts k no_context).owner) (sym e) ∙ b.owner))
      | inr ne ↦ rw (get_or-set_other s.contexts y x c no_context ne) b.owner
    ];
  }

  -- one context changes, by as many references as variables and its link gain and lose
  change_one : (a : ℕ) (es : List Event) → Mine s → ((l : Link) → c.link ≡ Some l → IsOf s.contexts l.filter y) →
      ((x : ℕ) →
      (of_actor y x c.references + loses es a (Context x)) + of_actor y x (linked (context_at s y).link) ≡
      (of_actor y x (context_at s y).references + gains es a (Context x)) + of_actor y x (linked c.link)) →
      ((x : ℕ) → frees es x + of_actor y x (alive c.references) ≡ of_actor y x (alive (context_at s y).references)) →
      Ledger a s (with_context s y c) es
  change_one a es k link h f = record {
    refs = λ x.
        let references = put_field (λ (c : world.Context). c.references) s.contexts y x c there in
        let links = put_field (λ (c : world.Context). linked c.link) s.contexts y x c there in
        omega (arith, references, links, h x);
    freed = λ x.
        let living = put_field (λ (c : world.Context). alive c.references) s.contexts y x c there in
        rw (length-set s.contexts y c) (omega (arith, living, f x));
    older = older_one;
    mine = mine_on s (set s.contexts y c) older_one k
        (λ x l. elim (cases_eq x y) [
          | inl e ↦ rw (e, get_or-set_same s.contexts y c no_context there) (λ h. older_one l.filter y (link l h))
          | inr ne ↦ rw (get_or-set_other s.contexts y x c no_context ne) (λ h. older_one l.filter x (k.links x l h))
        ]);
  }

-- ---- counting up and down

-- where a context that has a reference gets one more, it has one more
counted : (r n : ℕ) → 1 ≤ r → n ≡ r → (if n == 0 then 0 else n + 1) ≡ r + 1
counted r n h same = by (n == 0) refl
  where
    by : (b : Bool) → (n == 0) ≡ b → (if b then 0 else n + 1) ≡ r + 1
    by true e = let z = eqb-true n 0 e in absurd (omega (arith, z, same, h))
    by false e = ap (λ k. k + 1) same

not_one : (n : ℕ) → (suc (suc n) == 1) ≡ false
not_one n = grind (arith, nat_tests)

-- the events of a drop, where the context has r references
abbrev drop_by : ℕ → ℕ → List Event
drop_by y r = if r == 1 then event.Free y ∷ [] else []

-- the last reference's drop frees the context, and no other drop does
drop_frees : (y r x : ℕ) → 1 ≤ r → frees (drop_by y r) x + of_actor y x (alive (r - 1)) ≡ of_actor y x (alive r)
drop_frees y zero x h = absurd (omega arith)
drop_frees y (suc zero) x h = simp counts (omega (arith, of_actor-one y x, of_actor-none y x))
drop_frees y (suc (suc n)) x h =
    let less = ap (λ k. of_actor y x k) (alive_few (suc (suc n) - 1) (omega arith)) in
    let more = ap (λ k. of_actor y x k) (alive_few (suc (suc n)) (omega arith)) in
    rw (not_one n) (simp counts (omega (arith, less, more)))

-- ---- what a call does to a context that has a reference

module _ (a : ℕ) (s : Store) (k : Mine s) where
  -- a variable gets a reference
  pub gets : (y : ℕ) → 1 ≤ (context_at s y).references → Ledger a s (add_reference s y) (event.Gain a (Context y) ∷ [])
  gets y h =
      let r = (context_at s y).references in
      let n = if is_freed (context_at s y) then 0 else r + 1 in
      let v : n ≡ r + 1 = counted r r h refl in
      change_one s y (record (context_at s y) { references = n }) (there_if s.contexts y h) refl a
      (event.Gain a (Context y) ∷ []) k (λ l e. k.links y l e)
      (λ x. simp (counts, of_actor-same) (omega (arith, ap (λ k. of_actor y x k) v, of_actor-more y x r)))
      (λ x. simp counts
      (omega (arith, ap (λ k. of_actor y x k) (alive_few n (omega (arith, v))), ap (λ k. of_actor y x k) (alive_few r h))))

  -- a variable lets its reference go
  pub lets_go : (y : ℕ) → 1 ≤ (context_at s y).references → Ledger a s (drop_reference s y) (event.Lose a (Context y) ∷ freed_by_drop s y)
  lets_go y h =
      let r = (context_at s y).references in
      let v : (r - 1) + 1 ≡ r = omega (arith, h) in
      let c = record (context_at s y) { references = r - 1 } in
      change_one s y c (there_if s.contexts y h) refl a (event.Lose a (Context y) ∷ freed_by_drop s y) k (λ l e. k.links y l e)
      (λ x. simp (counts, of_actor-same)
      (omega (
        arith,
        ap (λ k. of_actor y x k) v,
        of_actor-more y x (r - 1),
        gains-dropped s y a (Context x),
        loses-dropped s y a (Context x),
      )))
      (λ x. simp counts (omega (arith, drop_frees y r x h)))

  -- a link's reference goes to a variable
  pub unlinks : (y : ℕ) (l : Link) → 1 ≤ (context_at s y).references → (context_at s y).link ≡ Some l →
      Ledger a s (with_link s y None) (event.Gain a (Context y) ∷ [])
  unlinks y l h e =
      let one : linked (context_at s y).link ≡ 1 = ap linked e in
      let c = record (context_at s y) { link = None } in
      change_one s y c (there_if s.contexts y h) refl a (event.Gain a (Context y) ∷ []) k (λ l e. absurd (cc))
      (λ x. simp (counts, of_actor-same) (omega (arith, ap (λ k. of_actor y x k) one, of_actor-one y x, of_actor-none y x)))
      (λ x. simp counts (omega arith))

  -- a variable's reference goes to a link
  links_one : (y : ℕ) (l : Link) → 1 ≤ (context_at s y).references → (context_at s y).link ≡ None → IsOf s.contexts l.filter y →
      Ledger a s (with_link s y (Some l)) (event.Lose a (Context y) ∷ [])
  links_one y l h e own =
      let one : linked (context_at s y).link ≡ 0 = ap linked e in
      let c = record (context_at s y) { link = Some l } in
      change_one s y c (there_if s.contexts y h) refl a (event.Lose a (Context y) ∷ []) k
      (λ j e. let same : l ≡ j = cc in subst (λ (l : Link). IsOf s.contexts l.filter y) same own)
      (λ x. simp (counts, of_actor-same) (omega (arith, ap (λ k. of_actor y x k) one, of_actor-one y x, of_actor-none y x)))
      (λ x. simp counts (omega arith))

  -- a context gets another value
  pub values : (y value : ℕ) (es : List Event) → 1 ≤ (context_at s y).references →
      ((x : ℕ) → gains es a (Context x) ≡ loses es a (Context x)) →
      ((x : ℕ) → frees es x ≡ 0) → Ledger a s (with_context s y (record (context_at s y) { value = value })) es
  values y value es h g f =
      change_one s y (record (context_at s y) { value = value }) (there_if s.contexts y h) refl a es k (λ l e. k.links y l e)
      (λ x. omega (arith, g x))
      (λ x. omega (arith, f x))

-- ---- two changes in one

-- a link goes, and its reference with it
pub drops_link : (a : ℕ) (s : Store) → Mine s → (y : ℕ) (l : Link) → 1 ≤ (context_at s y).references → (context_at s y).link ≡ Some l →
    Ledger a s (after_unlink s y None) (freed_by_drop s y)
drops_link a s k y l h e =
    let first = unlinks a s k y l h e in
    let mid = with_link s y None in
    let set_there = get_or-set_same s.contexts y (record (context_at s y) { link = None }) no_context (there_if s.contexts y h) in
    let same : (context_at mid y).references ≡ (context_at s y).references = ap (λ (c : world.Context). c.references) set_there in
    chain first (lets_go a mid first.mine y (omega (arith, same, h))) (freed_by_drop s y)
    (λ x. simp (counts, of_actor-same)
    (omega (
      arith,
      gains-dropped s y a (Context x),
      loses-dropped s y a (Context x),
      gains-dropped mid y a (Context x),
      loses-dropped mid y a (Context x),
    )))
    (λ x. simp counts (omega (arith, ap (λ r. frees (drop_by y r) x) same)))

-- a link takes a reference of its own
pub puts_link : (a : ℕ) (s : Store) → Mine s → (y : ℕ) (l : Link) → 1 ≤ (context_at s y).references → (context_at s y).link ≡ None →
    IsOf s.contexts l.filter y → Ledger a s (with_link (add_reference s y) y (Some l)) []
puts_link a s k y l h e own =
    let r = (context_at s y).references in
    let n = if is_freed (context_at s y) then 0 else r + 1 in
    let mid = add_reference s y in
    let first = gets a s k y h in
    let same = get_or-set_same s.contexts y (record (context_at s y) { references = n }) no_context (there_if s.contexts y h) in
    let many : (context_at mid y).references ≡ n = ap (λ (c : world.Context). c.references) same in
    let free : (context_at mid y).link ≡ None = ap (λ (c : world.Context). c.link) same ∙ e in
    chain first (links_one a mid first.mine y l (omega (arith, many, counted r r h refl, h)) free (first.older l.filter y own)) []
    (λ x. simp (counts, of_actor-same) (omega arith))
    (λ x. simp counts)

-- a new context, which a variable holds
pub allocates : (a : ℕ) (s : Store) → Mine s → (f : ℕ) →
    Ledger a s (record s { contexts = s.contexts ++ new_context f ∷ [] }) (event.Gain a (Context (length s.contexts)) ∷ [])
allocates a s k f =
    let n = length s.contexts in
    let c = new_context f in
    let more = older_more s.contexts c in
    let long : length (s.contexts ++ c ∷ []) ≡ n + 1 = length-append s.contexts (c ∷ []) in
    record {
      refs = λ x.
          let references = add_field (λ (c : world.Context). c.references) s.contexts c x refl in
          let links = add_field (λ (c : world.Context). linked c.link) s.contexts c x refl in
          simp (counts, of_actor-same) (omega (arith, references, links, of_actor-one n x, of_actor-none n x));
      freed = λ x.
          let living = add_field (λ (c : world.Context). alive c.references) s.contexts c x refl in
          rw long (simp counts (omega (arith, living, of_actor-one n x, made_more x n)));
      older = more;
      mine = mine_on s (s.contexts ++ c ∷ []) more k
          (λ x l. elim (cases_eq x n) [
            | inl e ↦ rw (e, get_or-append_seam s.contexts c [] no_context) (λ h. absurd (cc))
            | inr ne ↦ rw (get_or-other s.contexts c no_context x ne) (λ h. more l.filter x (k.links x l h))
          ]);
    }
