-- Calls that set a context: FltSetStreamContext and FltSetInstanceContext. A context that takes a link is held and has none yet; where
-- another one has the link, KEEP_IF_EXISTS gives that, and REPLACE_IF_EXISTS takes the link from it, and its reference.
-- p is the program, m the moment, a the activation, s its shadow; c and old are variables, x is the context that is set, y the one
-- that is there, l the link.
use Rattle.std.proofs.Common.{◌≡◌, ℕ, Bool, true, false, List, [], ◌∷◌, Option, Some, None, refl, arith}
use Rattle.std.specs.Prelude.{if◌then◌else◌}
use Rattle.flt_rules.specs.declared.call.Anchor.{Anchor}
use Rattle.flt_rules.specs.declared.call.Anchor.TheVariants as anchor
use Rattle.flt_rules.specs.declared.call.Call.TheVariants as call
use Rattle.flt_rules.specs.declared.call.Existing.{Existing}
use Rattle.flt_rules.specs.declared.call.Existing.TheVariants.{Keep, Replace}
use Rattle.flt_tree.specs.declared.filter.Callback.{Callback}
use Rattle.flt_tree.specs.declared.filter.FallibleCall.TheVariants as fallible_call
use Rattle.flt_tree.specs.declared.filter.Filter.{Filter}
use Rattle.flt_tree.specs.declared.filter.Statement.{Statement}
use Rattle.flt_tree.specs.declared.variable.ContextVariable.{ContextVariable}
use Rattle.flt_tree.specs.declared.variable.OperationVariable.TheVariants.{Data}
use Rattle.flt_graph.specs.Instruction as graph
use Rattle.flt_abs.specs.Breaks.{may_hold_context, lacks_context, lacks_operation}
use Rattle.flt_abs.specs.Outcome.{put_context as put}
use Rattle.flt_abs.specs.State as status
use Rattle.flt_model.specs.Calls.{put_link, set_there, cannot_set, set_by, set_context}
use Rattle.flt_model.specs.declared.event.Event.{Event}
use Rattle.flt_model.specs.declared.moves.Key.TheVariants.{Stream, Instance}
use Rattle.flt_model.specs.declared.event.Event.TheVariants as event
use Rattle.flt_model.specs.declared.event.Object.TheVariants.{Context, Visit}
use Rattle.flt_model.specs.Effects.{Step, onward, freed_by_drop, after_unlink, goes_on, gives_nothing}
use Rattle.flt_model.specs.Runs.{Moment}
use Rattle.flt_model.specs.Variables.{with_old}
use Rattle.flt_model.specs.declared.parts.Link.{Link}
use Rattle.flt_model.specs.World.{actor_at, arrival_of, linked_at}
use Rattle.flt_sound.proofs.sums.Counts.{gains-nil, loses-nil, frees-nil, Has}
use Rattle.flt_sound.proofs.sums.Ledger as ledger
use Rattle.flt_sound.proofs.sums.Ledger.{Ledger, ledger_behind}
use Rattle.flt_sound.proofs.sums.Shadows.{Owns, own, Shadow}
use Rattle.flt_sound.proofs.points.Kept.{Good, IsAt}
use Rattle.flt_sound.proofs.points.Rows.{before, state_of, owned_operation, operation_is, PlacedAt, AtCall, owned_context, context_is}
use Rattle.flt_sound.proofs.calls.Effects.{GoodBehind, own_filter, has_owned_context, has_owned_visit, unchanged_good}
use Rattle.flt_sound.proofs.calls.Links.{IsLinked, CanLink, link_refs, link_available, available_touch}
use Rattle.flt_sound.proofs.calls.Links.{found_link, can_link, other_link, unlink_keeps, drop_keeps}
use Rattle.flt_sound.proofs.calls.Contexts.{nulls, nothing_given, gets, drops, adds}
use Rattle.flt_sound.proofs.points.Opened.{Opened, opened_use, opened_uses}
use Rattle.flt_sound.proofs.points.Stepping.{same_calm}
use Rattle.std.proofs.lemmas.Bool.{or_parts}
use Rattle.flt_sound.proofs.sums.References as references

module _ {p : List Filter} {m : Moment} {a : ℕ} {s : Shadow} (at : IsAt p m a s) where
  module _ (pre : List Event) (o : Opened at pre) where
    -- the link takes a reference of its own, where no context has the link yet
    takes_link : (old : Option ContextVariable) (list : List Statement) (x : ℕ) (l : Link) → may_hold_context (state_of at) old ≡ false →
        PlacedAt at list (put old (Some status.Null) (before at)) → CanLink at x l →
        GoodBehind at pre (goes_on m.world a (with_old (onward m.world a list) old None) (put_link m.world.store x l) [])
    takes_link old list x l h placed can =
        let store = put_link m.world.store x l in
        nulls at pre o old list store h (same_calm at store refl refl refl refl refl refl)
        (references.puts_link a m.world.store at.kept.mine x l can.refs can.free can.own) placed

    -- KEEP_IF_EXISTS: the context that is there stays, and is given
    keep_good : (old : Option ContextVariable) (granted refused : List Statement) (x : ℕ) (l : Link) →
        may_hold_context (state_of at) old ≡ false →
        PlacedAt at granted (put old (Some status.Null) (before at)) → PlacedAt at refused (put old (Some status.Held) (before at)) →
        CanLink at x l → (y : Option ℕ) → ((z : ℕ) → y ≡ Some z → IsLinked at z) →
        GoodBehind at pre (set_there m.world a Keep old granted refused x l y)
    keep_good old granted refused x l h ok held can None at_link = takes_link old granted x l h ok can
    keep_good None granted refused x l h ok held can (Some y) at_link = unchanged_good at pre refused o held
    keep_good (Some d) granted refused x l h ok held can (Some y) at_link =
        adds at pre o d y refused h (link_available at y (at_link y refl)) held

    -- REPLACE_IF_EXISTS: the context that is there loses its link, whose reference is given, or dropped
    replace_good : (old : Option ContextVariable) (granted refused : List Statement) (x : ℕ) (l : Link) →
        may_hold_context (state_of at) old ≡ false →
        PlacedAt at granted (put old (Some status.Null) (before at)) → PlacedAt at granted (put old (Some status.Held) (before at)) →
        CanLink at x l → (y : Option ℕ) → ((z : ℕ) → y ≡ Some z → IsLinked at z) →
        GoodBehind at pre (set_there m.world a Replace old granted refused x l y)
    replace_good old granted refused x l h ok held can None at_link = takes_link old granted x l h ok can
    replace_good None granted refused x l h ok held can (Some y) at_link =
        let k = at_link y refl in
        let between = after_unlink m.world.store y None in
        let store = put_link between x l in
        let first = references.drops_link a m.world.store at.kept.mine y k.link (link_refs at y k) k.is in
        let same = drop_keeps at x y (other_link at x l y can k) in
        let second = references.puts_link a between first.mine x l (rw same can.refs) (rw same can.free) (first.older l.filter x can.own) in
        let both = ledger.chain first second (freed_by_drop m.world.store y)
        (λ z. omega (arith, gains-nil a (Context z), loses-nil a (Context z))) (λ z. omega (arith, frees-nil z)) in
        drops at pre o y granted store (same_calm at store refl refl refl refl refl refl) both held
    replace_good (Some d) granted refused x l h ok held can (Some y) at_link =
        let k = at_link y refl in
        let between = after_unlink m.world.store y (Some d) in
        let store = put_link between x l in
        let first = references.unlinks a m.world.store at.kept.mine y k.link (link_refs at y k) k.is in
        let same = unlink_keeps at x y (other_link at x l y can k) in
        let second = references.puts_link a between first.mine x l (rw same can.refs) (rw same can.free) (first.older l.filter x can.own) in
        let both = ledger.chain first second (event.Gain a (Context y) ∷ [])
        (λ z. omega (arith, gains-nil a (Context z), loses-nil a (Context z))) (λ z. omega (arith, frees-nil z)) in
        gets at pre o d y granted store h (same_calm at store refl refl refl refl refl refl) both
        (available_touch at store both.older y (link_available at y k)) held

    -- one effect where a test holds, and another where it doesn't
    unless_good : (b : Bool) (bad good : Step) → GoodBehind at pre bad → (b ≡ false → GoodBehind at pre good) →
        GoodBehind at pre (if b then bad else good)
    unless_good true bad good x y = x
    unless_good false bad good x y = y refl

  -- a call that sets a context
  abbrev AtSet : Existing → Anchor → ContextVariable → Option ContextVariable → List Statement → List Statement → Type 0
  AtSet existing on c old granted refused = AtCall at (graph.fallible (fallible_call.SetContext on existing c old)) granted refused

  -- what it does where the context is held and the link known
  set_effect : (existing : Existing) (on : Anchor) (c : ContextVariable) (old : Option ContextVariable)
      (granted refused : List Statement) →
      AtSet existing on c old granted refused → (pre : List Event) → Opened at pre →
      (x : ℕ) (l : Link) → Has m.trace a (Context x) → l.filter ≡ own_filter at →
      GoodBehind at pre (set_by m.world a existing old granted refused (Some x) (Some l))
  set_effect Keep on c old granted refused k pre o x l has own =
      let free = (or_parts _ _ k.fine.r03).0 in
      unless_good pre o (cannot_set m.world a x) (gives_nothing m.world a old refused)
      (set_there m.world a Keep old granted refused x l (linked_at m.world.store l))
      (nothing_given at pre o old refused free (k.fails _ refl false))
      (λ can. keep_good pre o old granted refused x l free (k.ok true) (k.fails _ refl true) (can_link at x l has own can)
      (linked_at m.world.store l) (found_link at l own))
  set_effect Replace on c old granted refused k pre o x l has own =
      let free = (or_parts _ _ k.fine.r03).0 in
      unless_good pre o (cannot_set m.world a x) (gives_nothing m.world a old refused)
      (set_there m.world a Replace old granted refused x l (linked_at m.world.store l))
      (nothing_given at pre o old refused free (k.fails _ refl true))
      (λ can. replace_good pre o old granted refused x l free (k.ok false) (k.ok true) (can_link at x l has own can)
      (linked_at m.world.store l) (found_link at l own))

  -- the context is surely held, whatever becomes of one that exists
  set_held : (existing : Existing) (on : Anchor) (c : ContextVariable) (old : Option ContextVariable)
      (granted refused : List Statement) →
      AtSet existing on c old granted refused → lacks_context (state_of at) (Some c) ≡ false
  set_held Keep on c old granted refused k = k.fine.r01
  set_held Replace on c old granted refused k = k.fine.r01

  -- and so is the operation whose file is the stream
  set_data : (existing : Existing) (c : ContextVariable) (old : Option ContextVariable)
      (granted refused : List Statement) →
      AtSet existing anchor.Stream c old granted refused → lacks_operation (state_of at) (Some Data) ≡ false
  set_data Keep c old granted refused k = k.fine.r04
  set_data Replace c old granted refused k = k.fine.r04

  -- FltSetStreamContext and FltSetInstanceContext are good
  pub set_good : (existing : Existing) (on : Anchor) (c : ContextVariable) (old : Option ContextVariable)
      (granted refused : List Statement) →
      AtSet existing on c old granted refused → Good p m (set_context m.world a on existing c old granted refused)
  set_good existing anchor.Instance c old granted refused k =
      let o = owned_context at c (set_held existing anchor.Instance c old granted refused k) in
      let x = o.object in
      let has = has_owned_context at c o in
      let l : Link = record { filter = (actor_at m.world a).filter; key = Instance } in
      let name = call.SetContext anchor.Instance existing in
      rw (context_is at c (Owns x) o.is)
      (set_effect existing anchor.Instance c old granted refused k (event.Call a name ∷ event.Use a (Context x) ∷ [])
      (opened_use at name (Context x) k.clear refl has) x l has refl)
  set_good existing anchor.Stream c old granted refused k =
      let o = owned_context at c (set_held existing anchor.Stream c old granted refused k) in
      let x = o.object in
      let has = has_owned_context at c o in
      let d = owned_operation at Data (set_data existing c old granted refused k) in
      let v = d.object in
      let l : Link = record { filter = (actor_at m.world a).filter; key = Stream (arrival_of m.world.store v).file } in
      let name = call.SetContext anchor.Stream existing in
      rw (context_is at c (Owns x) o.is, operation_is at Data (Owns v) d.is)
      (set_effect existing anchor.Stream c old granted refused k
      (event.Call a name ∷ event.Use a (Context x) ∷ event.Use a (Visit v) ∷ [])
      (opened_uses at name (Context x) (Visit v) k.clear refl has (has_owned_visit at Data d)) x l has refl)
