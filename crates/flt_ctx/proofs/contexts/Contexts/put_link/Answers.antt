use Rattle.std.proofs.Common.{◌≡◌, ◌≢◌, ◌↔◌, ◌⊎◌, ◌<◌, ◌+◌, ℕ, ◌∙◌, ap, sym, subst, None, Some, Option, length, List, arith, refl, inl, inr}
use Rattle.std.proofs.lemmas.List.{get_or_read, length-map, length-set, get_or-set_same, get_or-set_other}
use Rattle.std.proofs.lemmas.Option.{none-some}
use Rattle.std.specs.List.{Contains}
use Rattle.ilist_core.specs.NodeLists.{Sequences, nodes_of}
use Rattle.flt_ctx.specs.Contexts.{ContextTable, Context, linked_at}
use Rattle.flt_ctx.specs.declared.links.Link.{Link}
use Rattle.flt_ctx.specs.declared.links.Row.{Row}
use Rattle.flt_ctx.specs.Rows.{no_row, as_context, key_of, place_of, AreUsed}
use Rattle.flt_ctx.proofs.Rows.{context_is, relinked}
use Rattle.flt_ctx.proofs.Walks.{alone_none}
use Rattle.flt_ctx.proofs.Relinked.{AreLinked-renamed, AreLinked-more, both_in}
use Rattle.std.specs.FinSet.{remove}
use Rattle.flt_ctx.proofs.Used.{AreUsed-more}
use Rattle.flt_ctx.proofs.Indexed.{AreIndexed-kept, AreIndexed-more}
use Rattle.flt_ctx.proofs.contexts.Contexts.put_link.Goals as goal

no_key : (link : Option Link) → key_of link ≡ None → link ≡ None
no_key None is = refl
no_key (Some l) is = absurd (none-some l.key (sym is))

-- what is in no list is in none where the lists are the same
still_out : (now later : List (List ℕ)) (node : ℕ) → later ≡ now → ((list : ℕ) → Contains (nodes_of now list) node → ⊥) →
    (list : ℕ) → Contains (nodes_of later list) node → ⊥
still_out now later node same out list found = out list (subst (λ (ls : List (List ℕ)). Contains (nodes_of ls list) node) same found)

pub invariant_of-self : goal.invariant_of-self
invariant_of-self c = record {
  linked = AreLinked-renamed c.self.inside.rows.items _ c.self.inside.lists _ _ _ c.self.invariant.linked
      c.add_named.ensures.lists c.add_named.ensures.longer (λ list node found. c.in_err-by_target.ensures.refused node);
  used = subst (λ (s : Sequences). AreUsed s) (sym c.in_err-by_target.ensures.unchanged) c.self.invariant.used;
  indexed = c.self.invariant.indexed;
}

pub remove_node-requires-clause-unlinked : goal.remove_node-requires-clause-unlinked
remove_node-requires-clause-unlinked c = still_out _ _ _ c.add_named-2.ensures.lists c.in_ok-by_target.ensures.unlinked

pub push_back-requires-clause-unlinked : goal.push_back-requires-clause-unlinked
push_back-requires-clause-unlinked c = still_out _ _ _ c.add_named-2.ensures.lists c.in_ok-by_target.ensures.unlinked

pub invariant_of-self-in-Err : goal.invariant_of-self-in-Err
invariant_of-self-in-Err c =
    let same : c.remove_node.new.self.lists ≡ c.self.inside.lists.lists =
    ap (λ (s : Sequences). s.lists) c.remove_node.ensures.removed ∙ c.add_named-2.ensures.lists ∙ c.add_named.ensures.lists in
    let whole : c.remove_node.new.self ≡ c.self.inside.lists =
    c.remove_node.ensures.removed
    ∙ ap (λ (s : Sequences). record s {
      nodes = remove s.nodes c.in_ok-by_target.by_target;
      next_node = c.in_ok-by_target.by_target;
    }) c.in-Err.ensures.unchanged
    ∙ c.in_ok-by_target.ensures.undone in
    record {
      linked =
          AreLinked-renamed c.self.inside.rows.items _ c.self.inside.lists _ _ _ c.self.invariant.linked same
          (omega (arith, c.add_named.ensures.longer, c.add_named-2.ensures.longer))
          (λ list node found. c.in-Err.ensures.refused node
          ∙ c.in_ok-by_target.ensures.others node
          (λ here. still_out _ _ _ (sym c.add_named.ensures.lists) c.in_ok-by_target.ensures.unlinked list
          (subst (Contains (nodes_of c.self.inside.lists.lists list)) here found)));
      used = subst (λ (s : Sequences). AreUsed s) (sym whole) c.self.invariant.used;
      indexed = c.self.invariant.indexed;
    }

pub remove_node-requires-in-Err-insert-2-clause-unlinked : goal.remove_node-requires-in-Err-insert-2-clause-unlinked
remove_node-requires-in-Err-insert-2-clause-unlinked c =
    still_out _ _ _ (ap (λ (s : Sequences). s.lists) c.remove_node-in-Err-insert.ensures.removed
    ∙ c.add_named-2.ensures.lists) c.in_ok-by_target.ensures.unlinked

pub invariant_of-self-in-Err-insert : goal.invariant_of-self-in-Err-insert
invariant_of-self-in-Err-insert c =
    let lists : c.add_named-2.new.lists.lists ≡ c.self.inside.lists.lists = c.add_named-2.ensures.lists ∙ c.add_named.ensures.lists in
    let whole : c.remove_node-in-Err-insert-2.new.self ≡ c.self.inside.lists =
    c.remove_node-in-Err-insert-2.ensures.removed
    ∙ ap (λ (s : Sequences). record s {
      nodes = remove s.nodes c.in_ok-by_target.by_target;
      next_node = c.in_ok-by_target.by_target;
    }) (c.remove_node-in-Err-insert.ensures.removed ∙ c.in-Ok.ensures.undone)
    ∙ c.in_ok-by_target.ensures.undone in
    let off_target : (list node : ℕ) → Contains (nodes_of c.self.inside.lists.lists list) node → node ≢ c.in_ok-by_target.by_target =
    λ list node found same. still_out _ _ _ (sym c.add_named.ensures.lists) c.in_ok-by_target.ensures.unlinked list
    (subst (Contains (nodes_of c.self.inside.lists.lists list)) same found) in
    let off_filter : (list node : ℕ) → Contains (nodes_of c.self.inside.lists.lists list) node → node ≢ c.in-Ok.node =
    λ list node found same. still_out _ _ _ (sym lists) c.in-Ok.ensures.unlinked list
    (subst (Contains (nodes_of c.self.inside.lists.lists list)) same found) in
    record {
      linked =
          AreLinked-renamed c.self.inside.rows.items _ c.self.inside.lists _ _ _ c.self.invariant.linked
          (ap (λ (s : Sequences). s.lists) whole) (omega (arith, c.add_named.ensures.longer, c.add_named-2.ensures.longer))
          (λ list node found. c.in-Ok.ensures.others node (off_filter list node found)
          ∙ c.in_ok-by_target.ensures.others node (off_target list node found));
      used = subst (λ (s : Sequences). AreUsed s) (sym whole) c.self.invariant.used;
      indexed = AreIndexed-kept c.self.inside.rows.items _ _ _ (λ x. refl) c.in-Err-insert.ensures.err c.self.invariant.indexed;
    }

pub push_back-requires-2-clause-unlinked : goal.push_back-requires-2-clause-unlinked
push_back-requires-2-clause-unlinked c = λ list found. elim ((c.push_back.ensures.members list c.in-Ok.node).0 found) [
  | inl was ↦ c.in-Ok.ensures.unlinked list was
  | inr new ↦ c.in-Ok.ensures.fresh (rw new.1 c.in_ok-by_target.ensures.there)
]

pub invariant_of-self-2 : goal.invariant_of-self-2
invariant_of-self-2 c =
    let count : c.len.result ≡ length c.self.inside.closed.items = omega arith in
    let there = rw c.unwrap-target.ensures at c.list.ensures.there in
    let target : c.unwrap-target.result ≡ length c.self.inside.closed.items + place_of c.args.key.target = there.0
    ∙ (λ i. count i + c.place_of.ensures.place i) in
    let also = rw c.unwrap-filter.ensures at c.list-2.ensures.there in
    let filter : c.unwrap-filter.result ≡ c.args.key.filter = also.0 in
    let lists : c.add_named-2.new.lists.lists ≡ c.self.inside.lists.lists = c.add_named-2.ensures.lists ∙ c.add_named.ensures.lists in
    let within : c.args.context < length c.self.inside.rows.items =
    omega (
      arith,
      c.requires.there,
      ap (λ (h : ContextTable). length h.contexts) (sym c.self.view_is)
          ∙ length-map c.self.inside.rows.items as_context,
    ) in
    let low : c.args.key.filter < length c.self.inside.closed.items =
    omega (arith, c.requires.open, ap (λ (h : ContextTable). length h.closed) (sym c.self.view_is)) in
    let free = no_key _ (ap (λ (d : Context). d.link)
    (sym (context_is c.self.inside.rows.items c.self.inside.closed.items c.args.self.now c.self.view_is c.args.context))
    ∙ c.requires.free) in
    let differ : c.in_ok-by_target.by_target ≢ c.in-Ok.node =
    λ same. c.in-Ok.ensures.fresh (rw (sym same) c.in_ok-by_target.ensures.there) in
    let off_target : (list node : ℕ) → Contains (nodes_of c.self.inside.lists.lists list) node → node ≢ c.in_ok-by_target.by_target =
    λ list node found same. still_out _ _ _ (sym c.add_named.ensures.lists) c.in_ok-by_target.ensures.unlinked list
    (subst (Contains (nodes_of c.self.inside.lists.lists list)) same found) in
    let off_filter : (list node : ℕ) → Contains (nodes_of c.self.inside.lists.lists list) node → node ≢ c.in-Ok.node =
    λ list node found same. still_out _ _ _ (sym lists) c.in-Ok.ensures.unlinked list
    (subst (Contains (nodes_of c.self.inside.lists.lists list)) same found) in
    let renamed = AreLinked-renamed c.self.inside.rows.items _ c.self.inside.lists c.add_named-2.new.lists _
    c.add_named-2.new.contexts.items c.self.invariant.linked lists
    (omega (arith, c.add_named.ensures.longer, c.add_named-2.ensures.longer))
    (λ list node found. c.in-Ok.ensures.others node (off_filter list node found)
    ∙ c.in_ok-by_target.ensures.others node (off_target list node found)) in
    let l : Link = record { key = c.args.key; by_target = c.in_ok-by_target.by_target; by_filter = c.in-Ok.node } in
    let members = subst (λ (q : ℕ). (list member : ℕ) → Contains (nodes_of c.push_back-2.new.self.lists list) member ↔
    ((Contains (nodes_of c.add_named-2.new.lists.lists list) member
    ⊎ ((list ≡ length c.self.inside.closed.items + place_of c.args.key.target) × (member ≡ c.in_ok-by_target.by_target)))
    ⊎ ((list ≡ q) × (member ≡ c.in-Ok.node)))) filter
    (subst (λ (p : ℕ). (list member : ℕ) → Contains (nodes_of c.push_back-2.new.self.lists list) member ↔
    ((Contains (nodes_of c.add_named-2.new.lists.lists list) member ⊎ ((list ≡ p) × (member ≡ c.in_ok-by_target.by_target)))
    ⊎ ((list ≡ c.unwrap-filter.result) × (member ≡ c.in-Ok.node)))) target
    (both_in c.add_named-2.new.lists c.push_back.new.self c.push_back-2.new.self _ _ _ _ c.push_back.ensures.members
    c.push_back-2.ensures.members)) in
    record {
      linked =
          AreLinked-more c.self.inside.rows.items _ c.add_named-2.new.lists c.add_named-2.new.contexts.items renamed c.args.context l free
          (alone_none c.self.inside.rows.items _ c.self.inside.lists _ c.self.invariant.linked c.args.key
          (ap (λ (h : ContextTable). linked_at h c.args.key) c.self.view_is ∙ c.requires.none))
          low differ
          (omega (arith, c.in_ok-by_target.ensures.within, c.add_named-2.ensures.longer)) c.in-Ok.ensures.within
          (c.in-Ok.ensures.others c.in_ok-by_target.by_target differ ∙ c.in_ok-by_target.ensures.named) c.in-Ok.ensures.named
          c.push_back-2.new.self
          (ap (λ (s : Sequences). length s.lists) c.push_back-2.ensures.pushed ∙ length-set _ _ _
          ∙ ap (λ (s : Sequences). length s.lists) c.push_back.ensures.pushed ∙ length-set _ _ _ ∙ renamed.as_many)
          members
          _
          (ap (λ (r : Row). r.link) (get_or-set_same c.self.inside.rows.items c.args.context _ no_row within))
          (λ y away. ap (λ (r : Row). r.link) (get_or-set_other c.self.inside.rows.items c.args.context y _ no_row away));
      used =
          AreUsed-more c.self.inside.lists c.add_named.new.lists c.add_named-2.new.lists c.push_back-2.new.self _ _ _ _
          c.self.invariant.used
          c.in_ok-by_target.ensures.made c.in-Ok.ensures.made
          (ap (λ (s : Sequences). s.nodes) c.push_back-2.ensures.pushed
          ∙ ap (λ (s : Sequences). s.nodes) c.push_back.ensures.pushed) lists members;
      indexed =
          AreIndexed-more c.self.inside.rows.items _ c.self.invariant.indexed _ c.args.context l free
          (ap (λ (r : Row). r.link) (get_or-set_same c.self.inside.rows.items c.args.context _ no_row within))
          (λ y away. ap (λ (r : Row). r.link) (get_or-set_other c.self.inside.rows.items c.args.context y _ no_row away))
          _ c.in_default.ensures.ok;
    }

pub returns-clause-ok : goal.returns-clause-ok
returns-clause-ok c =
    let within : c.args.context < length c.self.inside.rows.items =
    omega (
      arith,
      c.requires.there,
      ap (λ (h : ContextTable). length h.contexts) (sym c.self.view_is)
          ∙ length-map c.self.inside.rows.items as_context,
    ) in
    relinked c.self.inside.rows.items c.self.inside.closed.items c.args.self.now c.self.view_is c.args.context
    c.index_mut.result.now (get_or_read c.self.inside.rows.items c.args.context _ within c.index_mut.ensures.value no_row)
    (Some (record { key = c.args.key; by_target = c.in_ok-by_target.by_target; by_filter = c.in-Ok.node }))
