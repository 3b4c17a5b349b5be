-- Filters by number: what is read of each is that of its graph.
use Rattle.std.proofs.Common.{◌≡◌, ℕ, zero, suc, ◌+◌, Bool, not, cond, List, [], ◌∷◌, Option}
use Rattle.std.proofs.Common.{Some, None, slice_get, slice_index_or, refl, sym, ap, ◌∙◌, subst}
use Rattle.std.specs.Prelude.{◌||◌}
use Rattle.std.specs.List.{list_any, position_or_len}
use Rattle.std.proofs.lemmas.Option.{none-some, same_Some}
use Rattle.std.proofs.lemmas.List.Folds.{find_at}
use Rattle.flt_rules.specs.declared.place.Operation.{Operation}
use Rattle.flt_rules.specs.declared.place.Place.{Place}
use Rattle.flt_rules.specs.declared.place.Place.TheVariants as place
use Rattle.flt_tree.specs.Filter.{head_place}
use Rattle.flt_tree.specs.Registered.{is_pre_of, is_post_of}
use Rattle.flt_tree.specs.declared.filter.Callback.{Callback}
use Rattle.flt_tree.specs.declared.filter.Filter.{Filter}
use Rattle.flt_tree.specs.declared.filter.Head.{Head}
use Rattle.flt_tree.specs.declared.filter.Head.TheVariants as head
use Rattle.flt_graph.specs.Graph.{no_callback}
use Rattle.flt_graph.specs.Lowering.{AreGraphsOf, IsLowered}
use Rattle.flt_graph.specs.declared.graph.CallbackGraph.{CallbackGraph}
use Rattle.flt_graph.specs.declared.graph.Graph.{Graph}
use Rattle.flt_model.specs.Program.{no_filter, filter_at, body_of, body_at, body_for, place_for, is_canceled}
use Rattle.flt_machine_frames.specs.Loading.{IsLoaded, AreGraphsOfFilters, graph_at, no_graph, callback_for, is_event}

-- ---- graphs

-- a graph is that of the filter of its number
pub loaded_at : (p : List Filter) (gs : List Graph) (n : ℕ) (g : Graph) → AreGraphsOfFilters p gs → slice_get gs n ≡ Some g →
    IsLoaded (filter_at p n) g
loaded_at [] [] n g made is = absurd (none-some g is)
loaded_at (f ∷ p) (h ∷ gs) zero g made is = subst (IsLoaded f) (same_Some h g is) made.0
loaded_at (f ∷ p) (h ∷ gs) (suc n) g made is = loaded_at p gs n g made.1 is
loaded_at [] (h ∷ gs) n g made is = absurd made
loaded_at (f ∷ p) [] n g made is = absurd made

-- where there is no graph there is no filter
pub none_at : (p : List Filter) (gs : List Graph) (n : ℕ) → AreGraphsOfFilters p gs → slice_get gs n ≡ None → filter_at p n ≡ no_filter
none_at [] [] n made is = refl
none_at (f ∷ p) (h ∷ gs) zero made is = absurd (none-some h (sym is))
none_at (f ∷ p) (h ∷ gs) (suc n) made is = none_at p gs n made.1 is
none_at [] (h ∷ gs) n made is = absurd made
none_at (f ∷ p) [] n made is = absurd made

-- a filter has the graph of its number; one that isn't there has one without callbacks
pub lowered_at : (p : List Filter) (gs : List Graph) (n : ℕ) → AreGraphsOfFilters p gs → IsLowered (filter_at p n) (graph_at gs n)
lowered_at [] [] n made = record { locks = refl; callbacks = tt }
lowered_at (f ∷ p) (h ∷ gs) zero made = made.0.lowered
lowered_at (f ∷ p) (h ∷ gs) (suc n) made = lowered_at p gs n made.1
lowered_at [] (h ∷ gs) n made = absurd made
lowered_at (f ∷ p) [] n made = absurd made

-- a graph that isn't there
pub no_graph_at : (gs : List Graph) (n : ℕ) → slice_get gs n ≡ None → graph_at gs n ≡ no_graph
no_graph_at [] n is = refl
no_graph_at (g ∷ gs) zero is = absurd (cc)
no_graph_at (g ∷ gs) (suc n) is = no_graph_at gs n is

-- ---- callbacks

-- a callback runs at the place of its graph
pub places_agree : (all cs : List Callback) (gs : List CallbackGraph) (k : ℕ) → AreGraphsOf all cs gs →
    (slice_index_or gs k no_callback).place ≡ place_for (slice_get cs k)
places_agree all [] [] k made = refl
places_agree all (c ∷ cs) (g ∷ gs) zero made = made.0.place
places_agree all (c ∷ cs) (g ∷ gs) (suc k) made = places_agree all cs gs k made.1
places_agree all [] (g ∷ gs) k made = absurd made
places_agree all (c ∷ cs) [] k made = absurd made

-- a head is for the event of its place
pub pre_agrees : (kind : Operation) (h : Head) → is_event (place.Pre kind) (head_place h) ≡ is_pre_of kind h
pre_agrees kind (head.Pre own) = refl
pre_agrees kind (head.Post own) = refl
pre_agrees kind head.Canceled = refl
pre_agrees kind (head.DeferredPre name) = refl
pre_agrees kind (head.DeferredPost name) = refl
pre_agrees kind (head.Generic name) = refl

-- a callback for what comes after an operation is one by its place just where it is one by its head
pub post_agrees : (kind : Operation) (h : Head) → is_event (place.Post kind) (head_place h) ≡ is_post_of kind h
post_agrees kind (head.Pre own) = refl
post_agrees kind (head.Post own) = refl
post_agrees kind head.Canceled = refl
post_agrees kind (head.DeferredPre name) = refl
post_agrees kind (head.DeferredPost name) = refl
post_agrees kind (head.Generic name) = refl

-- a callback for cancelled operations is one by its place just where it is one by its head
pub canceled_agrees : (h : Head) → is_event place.Canceled (head_place h) ≡ is_canceled h
canceled_agrees (head.Pre own) = refl
canceled_agrees (head.Post own) = refl
canceled_agrees head.Canceled = refl
canceled_agrees (head.DeferredPre name) = refl
canceled_agrees (head.DeferredPost name) = refl
canceled_agrees (head.Generic name) = refl

module _ (event : Place) (test : Head → Bool) (agrees : (h : Head) → is_event event (head_place h) ≡ test h) (all : List Callback) where
  -- a filter has a callback for the event where its graph has
  pub any_agrees : (cs : List Callback) (gs : List CallbackGraph) → AreGraphsOf all cs gs →
      list_any (λ (g : CallbackGraph). is_event event g.place) gs ≡ list_any (λ (c : Callback). test c.head) cs
  any_agrees [] [] made = refl
  any_agrees (c ∷ cs) (g ∷ gs) made =
      let one : is_event event g.place ≡ test c.head = ap (is_event event) made.0.place ∙ agrees c.head in
      ap (λ (b : Bool). b || list_any (λ (g : CallbackGraph). is_event event g.place) gs) one
      ∙ ap (λ (b : Bool). test c.head || b) (any_agrees cs gs made.1)
  any_agrees [] (g ∷ gs) made = absurd made
  any_agrees (c ∷ cs) [] made = absurd made

  -- and the first of them has the same number
  pub first_agrees : (cs : List Callback) (gs : List CallbackGraph) → AreGraphsOf all cs gs →
      position_or_len (λ (g : CallbackGraph). is_event event g.place) gs ≡ callback_for test cs
  first_agrees [] [] made = refl
  first_agrees (c ∷ cs) (g ∷ gs) made =
      let one : is_event event g.place ≡ test c.head = ap (is_event event) made.0.place ∙ agrees c.head in
      ap (λ (b : Bool). cond (not b) (1 + position_or_len (λ (g : CallbackGraph). is_event event g.place) gs) 0) one
      ∙ ap (λ (n : ℕ). cond (not (test c.head)) (1 + n) 0) (first_agrees cs gs made.1)
  first_agrees [] (g ∷ gs) made = absurd made
  first_agrees (c ∷ cs) [] made = absurd made

-- the statements of the first callback for an event
pub body_agrees : (test : Head → Bool) (cs : List Callback) (n : ℕ) → n ≡ callback_for test cs → body_at cs n ≡ body_for test cs
body_agrees test cs n is =
    ap (body_at cs) is ∙ ap (λ (o : Option Callback). body_of o) (sym (find_at (λ (c : Callback). test c.head) cs))
