-- The links of a filter, and the first of them, as the machine has them.
use Rattle.std.proofs.Common.{◌≡◌, ◌≢◌, ℕ, zero, suc, ◌≤◌, ◌||◌, Bool, true, false, List, [], ◌∷◌, Option}
use Rattle.std.proofs.Common.{Some, None, map, option_map, is_some, ap, sym, subst, refl, ◌∙◌}
use Rattle.std.proofs.Math.ListN.{get_or}
use Rattle.std.proofs.lemmas.Bool.{ne_eqb}
use Rattle.std.specs.Prelude.{position}
use Rattle.std.specs.List.{list_any}
use Rattle.flt_ctx.proofs.Algebra.{found_key}
use Rattle.flt_ctx.specs.Contexts as ctx
use Rattle.flt_ctx.specs.declared.key.Key as at
use Rattle.flt_ctx.specs.declared.key.Target.{Target}
use Rattle.flt_ctx.specs.declared.key.Target.TheVariants as target
use Rattle.flt_model.specs.Moves.{is_linked_by}
use Rattle.flt_model.specs.declared.parts.Link.{Link}
use Rattle.flt_model.specs.World.{Context, is_linked_to}
use Rattle.flt_model.specs.declared.moves.Key.{Key}
use Rattle.flt_model.specs.declared.moves.Key.TheVariants as key
use Rattle.flt_machine_store.specs.Parts.{key_of, link_of, context_of}
use Rattle.flt_machine_store.specs.Stores.{order_of}
use Rattle.flt_machine_store.proofs.Reading.{linked_there}

-- whether a context is linked there, in the machine
abbrev pub has_link : ctx.ContextTable → Link → Bool
has_link h l = is_some (position (λ (c : Context). is_linked_to l c.link) (map context_of h.contexts))

-- what has a machine's key for its own
abbrev target_of : Key → Target
target_of (key.Stream f) = target.Stream f
target_of key.Instance = target.Instance

back : (k : Key) → key_of (target_of k) ≡ k
back (key.Stream f) = refl
back key.Instance = refl

orders_same : (t : Target) → order_of (key_of t) ≡ ctx.order_of t
orders_same (target.Stream f) = refl
orders_same target.Instance = refl

some_is : (o : Option ℕ) → is_some o ≡ true → (x : ℕ) × (o ≡ Some x)
some_is None is = absurd (cc)
some_is (Some x) is = (x, refl)

-- where a context is linked in the machine, one is linked there
linked_in : (h : ctx.ContextTable) (f : ℕ) (k : Key) → has_link h (record { filter = f; key = k }) ≡ true →
    (x : ℕ) × ((ctx.context_at h x).link ≡ Some (record { filter = f; target = target_of k }))
linked_in h f k is =
    let here : at.Key = record { filter = f; target = target_of k } in
    let there : is_some (ctx.linked_at h here) ≡ true =
    sym (ap (λ (o : Option ℕ). is_some o) (linked_there h.contexts here)) ∙
    ap (λ (l : Key). has_link h (record { filter = f; key = l })) (back k) ∙ is in
    let found = some_is (ctx.linked_at h here) there in
    (found.0, found_key h here found.0 found.1)

module _ (h : ctx.ContextTable) (f : ℕ) where
  -- at the first key a context is linked
  pub first_linked : (k : at.Key) (r : Key) → r ≡ key_of k.target → k.filter ≡ f → is_some (ctx.linked_at h k) ≡ true →
      has_link h (record { filter = f; key = r }) ≡ true
  first_linked k r is same there =
      (λ i. has_link h (record { filter = sym same i; key = is i })) ∙ ap (λ (o : Option ℕ). is_some o) (linked_there h.contexts k) ∙ there

  -- no other of the filter's comes before it
  pub first_least : (t : Target) (r : Key) → r ≡ key_of t →
      ((x : ℕ) (other : at.Key) → (ctx.context_at h x).link ≡ Some other → other.filter ≡ f → ctx.order_of t ≤ ctx.order_of other.target) →
      (other : Key) → has_link h (record { filter = f; key = other }) ≡ true → order_of r ≤ order_of other
  first_least t r is least other there =
      let found = linked_in h f other there in
      let before : ctx.order_of t ≤ ctx.order_of (target_of other) =
      least found.0 (record { filter = f; target = target_of other }) found.1 refl in
      let mine : order_of r ≡ ctx.order_of t = ap order_of is ∙ orders_same t in
      let others : ctx.order_of (target_of other) ≡ order_of other = sym (orders_same (target_of other)) ∙ ap order_of (back other) in
      subst (λ (n : ℕ). n ≤ order_of other) (sym mine) (subst (λ (n : ℕ). ctx.order_of t ≤ n) others before)

not_by : (f : ℕ) (l : Option at.Key) → ((k : at.Key) → l ≡ Some k → k.filter ≢ f) → is_linked_by f (option_map link_of l) ≡ false
not_by f None none = refl
not_by f (Some k) none = ne_eqb k.filter f (none k refl)

-- where no context has a link of the filter, none has in the machine
pub none_linked : (f : ℕ) (cs : List ctx.Context) → ((x : ℕ) (k : at.Key) → (get_or cs x ctx.no_context).link ≡ Some k → k.filter ≢ f) →
    list_any (λ (c : Context). is_linked_by f c.link) (map context_of cs) ≡ false
none_linked f [] none = refl
none_linked f (c ∷ cs) none =
    ap (λ (b : Bool). b || list_any (λ (d : Context). is_linked_by f d.link) (map context_of cs)) (not_by f c.link (none zero)) ∙
    none_linked f cs (λ x k is. none (suc x) k is)
