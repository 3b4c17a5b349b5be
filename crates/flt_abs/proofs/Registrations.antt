-- The graphs of a filter's callbacks are registered as the callbacks are.
use Rattle.std.proofs.Common.{◌≡◌, Bool, true, false, List, [], ◌∷◌, refl, sym, ap, subst, ◌∙◌}
use Rattle.std.specs.Prelude.{not, ◌&&◌, ◌||◌}
use Rattle.std.specs.List.{list_all}
use Rattle.std.proofs.lemmas.Bool.{and_parts, and_from}
use Rattle.flt_rules.proofs.Operations.{of_all, of_each, same_is, same_itself}
use Rattle.flt_rules.specs.Place.{same_operation}
use Rattle.flt_rules.specs.declared.place.Operation.{Operation}
use Rattle.flt_tree.specs.Filter.{head_place}
use Rattle.flt_tree.specs.Registered as registered
use Rattle.flt_tree.specs.declared.filter.Callback.{Callback}
use Rattle.flt_tree.specs.declared.filter.Head.{Head}
use Rattle.flt_tree.specs.declared.filter.Head.TheVariants as head
use Rattle.flt_graph.specs.Lowering.{AreGraphsOf}
use Rattle.flt_graph.specs.declared.graph.CallbackGraph.{CallbackGraph}
use Rattle.flt_abs.specs.Setting.{is_post_at, is_post_of, has_post, is_paired_at, is_paired, are_paired}

-- ---- post callbacks

-- a place and its head are of a post callback of an operation alike
post_one : (kind : Operation) (h : Head) → is_post_at kind (head_place h) ≡ registered.is_post_of kind h
post_one kind (head.Pre own) = refl
post_one kind (head.Post own) = refl
post_one kind head.Canceled = refl
post_one kind (head.DeferredPre name) = refl
post_one kind (head.DeferredPost name) = refl
post_one kind (head.Generic name) = refl

-- the graphs have the post callbacks of the callbacks
pub posts_agree : (all cs : List Callback) (gs : List CallbackGraph) (kind : Operation) → AreGraphsOf all cs gs →
    has_post gs kind ≡ registered.has_post cs kind
posts_agree all [] [] kind h = refl
posts_agree all [] (g ∷ gs) kind h = absurd h
posts_agree all (c ∷ cs) [] kind h = absurd h
posts_agree all (c ∷ cs) (g ∷ gs) kind h =
    let one : is_post_of kind g ≡ registered.is_post_of kind c.head = ap (is_post_at kind) h.0.place ∙ post_one kind c.head in
    ap (λ b. b || has_post gs kind) one ∙ ap (λ b. registered.is_post_of kind c.head || b) (posts_agree all cs gs kind h.1)

-- ---- pairs

same_answer : (a b : Bool) → (a ≡ true → b ≡ true) → (b ≡ true → a ≡ true) → a ≡ b
same_answer true b f g = sym (f refl)
same_answer false true f g = g refl
same_answer false false f g = refl

or_first : (a b : Bool) → a ≡ true → (a || b) ≡ true
or_first true b e = refl
or_first false b e = cc

or_second : (a b : Bool) → b ≡ true → (a || b) ≡ true
or_second true b e = refl
or_second false b e = e

implied : (a b : Bool) → (not a || b) ≡ true → a ≡ true → b ≡ true
implied true b h e = h
implied false b h e = cc

implied_from : (a b : Bool) → (a ≡ true → b ≡ true) → (not a || b) ≡ true
implied_from true b h = h refl
implied_from false b h = refl

module _ (all : List Callback) (whole : List CallbackGraph) where
  -- a pre callback that is paired has a post callback
  pair_has_post : (kind : Operation) (h : Head) → is_paired_at whole (head_place h) ≡ true → registered.is_pre_of kind h ≡ true →
      has_post whole kind ≡ true
  pair_has_post kind (head.Pre own) e h = subst (λ k. has_post whole k ≡ true) (same_is own kind h) e
  pair_has_post kind (head.Post own) e h = cc
  pair_has_post kind head.Canceled e h = cc
  pair_has_post kind (head.DeferredPre name) e h = cc
  pair_has_post kind (head.DeferredPost name) e h = cc
  pair_has_post kind (head.Generic name) e h = cc

  -- where each graph is paired, an operation with a pre callback has a post callback
  pre_has_post : (kind : Operation) (cs : List Callback) (gs : List CallbackGraph) → AreGraphsOf all cs gs →
      list_all (is_paired whole) gs ≡ true →
      registered.has_pre cs kind ≡ true → has_post whole kind ≡ true
  pre_has_post kind [] gs h e there = cc
  pre_has_post kind (c ∷ cs) [] h e there = absurd h
  pre_has_post kind (c ∷ cs) (g ∷ gs) h e there =
      let parts = and_parts (is_paired whole g) (list_all (is_paired whole) gs) e in
      by_first (registered.is_pre_of kind c.head) (registered.has_pre cs kind) there
      (pair_has_post kind c.head (subst (λ at. is_paired_at whole at ≡ true) h.0.place parts.0)) (pre_has_post kind cs gs h.1 parts.1)
    where
      by_first : (a b : Bool) → (a || b) ≡ true → (a ≡ true → has_post whole kind ≡ true) →
          (b ≡ true → has_post whole kind ≡ true) → has_post whole kind ≡ true
      by_first true b e f g = f refl
      by_first false b e f g = g e

  -- a callback is paired where an operation with its head as a pre callback has a post callback
  head_paired : (h : Head) → ((kind : Operation) → registered.is_pre_of kind h ≡ true → has_post whole kind ≡ true) →
      is_paired_at whole (head_place h) ≡ true
  head_paired (head.Pre own) f = f own (same_itself own)
  head_paired (head.Post own) f = refl
  head_paired head.Canceled f = refl
  head_paired (head.DeferredPre name) f = refl
  head_paired (head.DeferredPost name) f = refl
  head_paired (head.Generic name) f = refl

  -- where each operation with a pre callback has a post callback, each graph is paired
  each_paired : (cs : List Callback) (gs : List CallbackGraph) → AreGraphsOf all cs gs →
      ((kind : Operation) → registered.has_pre cs kind ≡ true → has_post whole kind ≡ true) → list_all (is_paired whole) gs ≡ true
  each_paired [] [] h f = refl
  each_paired [] (g ∷ gs) h f = absurd h
  each_paired (c ∷ cs) [] h f = absurd h
  each_paired (c ∷ cs) (g ∷ gs) h f =
      let one = head_paired c.head (λ kind e. f kind (or_first (registered.is_pre_of kind c.head) (registered.has_pre cs kind) e)) in
      let others = each_paired cs gs h.1 (λ kind e. f kind (or_second (registered.is_pre_of kind c.head) (registered.has_pre cs kind) e)) in
      and_from _ _ (ap (is_paired_at whole) h.0.place ∙ one) others

-- the graphs are paired where the callbacks are
pub pairs_agree : (cs : List Callback) (gs : List CallbackGraph) → AreGraphsOf cs cs gs → are_paired gs ≡ registered.are_paired cs
pairs_agree cs gs h = same_answer (are_paired gs) (registered.are_paired cs) down up
  where
    post : (kind : Operation) → has_post gs kind ≡ registered.has_post cs kind
    post kind = posts_agree cs cs gs kind h

    one : are_paired gs ≡ true → (kind : Operation) → registered.is_paired cs kind ≡ true
    one e kind = implied_from (registered.has_pre cs kind) (registered.has_post cs kind)
        (λ there. sym (post kind) ∙ pre_has_post cs gs kind cs gs h e there)

    down : are_paired gs ≡ true → registered.are_paired cs ≡ true
    down e = of_all (registered.is_paired cs) (one e)

    up : registered.are_paired cs ≡ true → are_paired gs ≡ true
    up e = each_paired cs gs cs gs h (λ kind there. post kind
        ∙ implied (registered.has_pre cs kind) (registered.has_post cs kind) (of_each (registered.is_paired cs) e kind) there)
