-- What links name: a linked context has the link's reference and is of the link's filter, so a call that finds it may give it, and a
-- context that takes a link is another one.
-- p is the program, m the moment, a the activation, s its shadow; l and j are links, x and y contexts.
use Rattle.std.proofs.Common.{◌≡◌, ◌≢◌, ℕ, ◌-◌, ◌≤◌, true, false, List, Option, Some, None, ap, sym, subst, refl, ◌∙◌}
use Rattle.std.specs.Prelude.{◌==◌, is_some}
use Rattle.std.proofs.lemmas.Bool.{and_parts, eqb-true, or_parts}
use Rattle.std.proofs.lemmas.List.Quantifiers.{position-Some}
use Rattle.std.proofs.lemmas.List.{get_or-set_other}
use Rattle.flt_tree.specs.declared.filter.Filter.{Filter}
use Rattle.flt_model.specs.Calls.{cannot_set}
use Rattle.flt_model.specs.declared.event.Object.TheVariants.{Context}
use Rattle.flt_model.specs.Effects.{after_unlink}
use Rattle.flt_model.specs.Runs.{Moment}
use Rattle.flt_model.specs.declared.parts.Link.{Link}
use Rattle.flt_model.specs.World.{Store, no_context, is_linked_to, same_key, with_link, add_reference}
use Rattle.flt_model.specs.World.{drop_reference, actor_at, activation_at, arrival_of, context_at, linked_at}
use Rattle.flt_model.specs.World as world
use Rattle.flt_sound.proofs.sums.Counts.{Has}
use Rattle.flt_sound.proofs.sums.Shadows.{own, Shadow}
use Rattle.flt_sound.proofs.points.Kept.{IsAt, linked_refs, held_one}
use Rattle.flt_sound.proofs.calls.Effects.{own_filter}
use Rattle.flt_sound.proofs.points.Stepping.{Touched, held_refs, alive_fresh}
use Rattle.flt_sound.proofs.sums.Belonging.{IsOf, Older}

-- what passes the test of a link is a link of that link's filter
linked_to : (l : Link) (o : Option Link) → is_linked_to l o ≡ true → (j : Link) × ((o ≡ Some j) × (j.filter ≡ l.filter))
linked_to l None e = absurd (cc)
linked_to l (Some j) e = (j, (refl, sym (eqb-true l.filter j.filter (and_parts (l.filter == j.filter) (same_key l.key j.key) e).0)))

-- an optional link that is some has a value
pub some_link : (o : Option Link) → is_some o ≡ true → (l : Link) × (o ≡ Some l)
some_link None e = absurd (cc)
some_link (Some l) e = (l, refl)

-- an optional link that isn't some is none
pub no_link : (o : Option Link) → is_some o ≡ false → o ≡ None
no_link None e = refl
no_link (Some l) e = absurd (cc)

module _ {p : List Filter} {m : Moment} {a : ℕ} {s : Shadow} (at : IsAt p m a s) where
  -- a context with a reference, of the activation's filter
  pub record IsAvailable (y : ℕ) : Type 0 where
    pub refs : 1 ≤ (context_at m.world.store y).references
    pub own : IsOf m.world.store.contexts (own_filter at) y

  -- a context with a link of the activation's filter
  pub record IsLinked (y : ℕ) : Type 0 where
    pub link : Link
    pub is : (context_at m.world.store y).link ≡ Some link
    pub own : link.filter ≡ own_filter at

  -- a context with a reference and without a link, of the link's filter
  pub record CanLink (x : ℕ) (l : Link) : Type 0 where
    pub refs : 1 ≤ (context_at m.world.store x).references
    pub free : (context_at m.world.store x).link ≡ None
    pub own : IsOf m.world.store.contexts l.filter x

  -- the link of a context has a reference
  pub link_refs : (y : ℕ) (k : IsLinked y) → 1 ≤ (context_at m.world.store y).references
  link_refs y k = linked_refs at.kept y k.link k.is

  -- a linked context is available
  pub link_available : (y : ℕ) → IsLinked y → IsAvailable y
  link_available y k = record {
    refs = link_refs y k;
    own = subst (λ f. IsOf m.world.store.contexts f y) k.own (at.kept.mine.links y k.link k.is);
  }

  -- an available context may be touched by a step that keeps it
  pub available_touch : (store : Store) → Older m.world.store.contexts store.contexts → (y : ℕ) → IsAvailable y → Touched at store a y
  available_touch store older y h = (alive_fresh at y h.refs, older (own_filter at) y h.own)

  -- a context that is found by a link of the filter is linked
  pub found_link : (l : Link) → l.filter ≡ own_filter at → (y : ℕ) → linked_at m.world.store l ≡ Some y → IsLinked y
  found_link l same y e =
      let found = position-Some (λ (c : world.Context). is_linked_to l c.link) m.world.store.contexts y no_context e in
      let k = linked_to l (context_at m.world.store y).link found.1 in
      record { link = k.0; is = k.1.0; own = k.1.1 ∙ same }

  -- a context that is held and can be set may take a link
  pub can_link : (x : ℕ) (l : Link) → Has m.trace a (Context x) → l.filter ≡ own_filter at → cannot_set m.world a x ≡ false → CanLink x l
  can_link x l has own can = record {
    refs = held_refs at x has;
    free = no_link (context_at m.world.store x).link (or_parts _ _ (or_parts _ _ can).1).0;
    own = subst (λ f. IsOf m.world.store.contexts f x) (sym own) (at.kept.owns a x (held_one at.kept a x has));
  }

  -- it isn't a context that is linked already
  pub other_link : (x : ℕ) (l : Link) (y : ℕ) → CanLink x l → IsLinked y → x ≢ y
  other_link x l y can k e = let bad : None ≡ Some k.link = sym can.free
      ∙ (ap (λ z. (context_at m.world.store z).link) e ∙ k.is) in absurd (cc)

  -- it stays as it is where another context's link is removed
  pub unlink_keeps : (x y : ℕ) → x ≢ y → context_at (with_link m.world.store y None) x ≡ context_at m.world.store x
  unlink_keeps x y ne = get_or-set_other m.world.store.contexts y x (record (context_at m.world.store y) { link = None }) no_context ne

  -- it stays as it is where that link's reference is dropped too
  pub drop_keeps : (x y : ℕ) → x ≢ y → context_at (after_unlink m.world.store y None) x ≡ context_at m.world.store x
  drop_keeps x y ne =
      let unlinked = with_link m.world.store y None in
      let dropped = record (context_at unlinked y) { references = (context_at unlinked y).references - 1 } in
      get_or-set_other unlinked.contexts y x dropped no_context ne ∙ unlink_keeps x y ne
