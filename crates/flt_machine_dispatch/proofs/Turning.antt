-- Which move comes next in a teardown, where no frame or nothing at all is left.
use Rattle.std.proofs.Common.{◌≡◌, ℕ, ◌==◌, Bool, true, false, ◌&&◌, ◌||◌, if◌then◌else◌, List, []}
use Rattle.std.proofs.Common.{◌∷◌, get_or, find, is_some, Option, Some, None, refl, sym, ap, arith}
use Rattle.std.specs.Prelude.{position}
use Rattle.std.specs.List.{list_any}
use Rattle.std.proofs.lemmas.Bool.Decides.{nat_tests}
use Rattle.std.proofs.lemmas.List.Folds.{list_any_at}
use Rattle.std.proofs.lemmas.List.Quantifiers.{position-Some}
use Rattle.flt_tree.specs.declared.filter.Filter.{Filter}
use Rattle.flt_model.specs.declared.moves.Key.{Key}
use Rattle.flt_model.specs.declared.moves.Move.TheVariants.{Drain, Detached}
use Rattle.flt_model.specs.Moves.{drain_by, has_frame, is_drained, is_frame_of, is_linked_by}
use Rattle.flt_model.specs.Program.{filter_of}
use Rattle.flt_model.specs.declared.parts.Link.{Link}
use Rattle.flt_model.specs.World.{Context, Frame, Store, World, is_detaching, is_linked_to}
use Rattle.flt_model.specs.World.{linked_at, presence_at, queue_at, no_context, no_route, route_at}
use Rattle.flt_machine_dispatch.specs.Turns.{ComesNextOf, is_enabled}

-- ---- lists

module _ {X : Type 0} (test : X → Bool) where
  found_here : (b : Bool) (x : X) (o : Option X) (rest : Bool) → (rest ≡ true → is_some o ≡ true) → (b || rest) ≡ true →
      is_some (if b then Some x else o) ≡ true
  found_here true x o rest later e = refl
  found_here false x o rest later e = later e

  -- where one passes, one is found
  any_found : (xs : List X) → list_any test xs ≡ true → is_some (find test xs) ≡ true
  any_found [] e = absurd (cc)
  any_found (x ∷ xs) e = found_here (test x) x (find test xs) (list_any test xs) (any_found xs) e

  -- where none passes, there is no first that passes a stronger test
  nowhere : (stronger : X → Bool) (d : X) (xs : List X) → ((x : X) → stronger x ≡ true → test x ≡ true) → list_any test xs ≡ false →
      (o : Option ℕ) → position stronger xs ≡ o → o ≡ None
  nowhere stronger d xs weaker none None e = refl
  nowhere stronger d xs weaker none (Some i) e =
      let at = position-Some stronger xs i d e in
      let is = list_any_at test xs i d at.0 (weaker (get_or xs i d) at.1) in
      absurd (cc)

-- ---- links

by_here : (g f : ℕ) (rest : Bool) → ((f == g) && rest) ≡ true → (g == f) ≡ true
by_here g f rest e = grind (arith, nat_tests)

linked_by : (f : ℕ) (key : Key) (l : Option Link) → is_linked_to (record { filter = f; key = key }) l ≡ true → is_linked_by f l ≡ true
linked_by f key None e = absurd (cc)
linked_by f key (Some m) e = by_here m.filter f _ e

-- where the filter made no link, none is at any key
none_linked : (s : Store) (f : ℕ) → list_any (λ (c : Context). is_linked_by f c.link) s.contexts ≡ false → (key : Key) →
    linked_at s (record { filter = f; key = key }) ≡ None
none_linked s f none key =
    nowhere (λ (c : Context). is_linked_by f c.link) (λ (c : Context). is_linked_to (record { filter = f; key = key }) c.link) no_context
    s.contexts (λ c. linked_by f key c.link) none _ refl

module _ (p : List Filter) (w : World) (altitude f : ℕ) (at : f ≡ filter_of p altitude)
    (detaching : is_detaching (presence_at w.store f) ≡ true) where
  -- ---- a frame is left

  drain_some : (o : ℕ) (frame : Option Frame) → is_some frame ≡ true → is_some (drain_by p w f o frame) ≡ true
  drain_some o None e = absurd (cc)
  drain_some o (Some frame) e = refl

  -- the drain of the first operation with a frame is enabled
  pub drain_enabled : (o : ℕ) → position (has_frame f) w.store.routes ≡ Some o → is_enabled p w (Drain altitude o) ≡ true
  drain_enabled o e =
      let here = position-Some (has_frame f) w.store.routes o no_route e in
      rw (sym at, detaching) (drain_some o _ (any_found (is_frame_of f) (route_at w.store o).frames here.1))

  -- ---- neither a frame nor an entry nor a link is left

  end_enabled : (b : Bool) → is_drained w f ≡ b → is_enabled p w (Detached altitude) ≡ b
  end_enabled true e = rw (sym at, detaching, e) refl
  end_enabled false e = rw (sym at, detaching, e) refl

  module _ (framed : position (has_frame f) w.store.routes ≡ None) (queued : queue_at w.store f ≡ [])
      (unlinked : list_any (λ (c : Context). is_linked_by f c.link) w.store.contexts ≡ false) where
    -- nothing is left at all: the end
    pub ends : is_drained w f ≡ true → ComesNextOf p w altitude (Some (Detached altitude))
    ends e =
        rw (sym at, detaching, framed, queued) (
          none_linked w.store f unlinked,
          ap (λ (b : Bool). if b then Some (Detached altitude) else None) (sym (end_enabled true e)),
        )

    -- something else is left: nothing yet
    pub waits : is_drained w f ≡ false → ComesNextOf p w altitude None
    waits e =
        rw (sym at, detaching, framed, queued) (
          none_linked w.store f unlinked,
          ap (λ (b : Bool). if b then Some (Detached altitude) else None) (sym (end_enabled false e)),
        )
