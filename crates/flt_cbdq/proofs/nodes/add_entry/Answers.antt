use Rattle.std.proofs.Common.{◌∙◌, ◌++◌, ℕ, List, [], ◌∷◌, ap, sym, subst, get_or, set, Contains}
use Rattle.ilist_core.specs.NodeLists.{Sequences, nodes_of}
use Rattle.flt_cbdq.specs.Kept.{entries_of}
use Rattle.flt_cbdq.proofs.Entries.{entries_kept, entries_pushed}
use Rattle.flt_cbdq.proofs.nodes.add_entry.Goals as goal

pub returns-clause-added : goal.returns-clause-added
returns-clause-added c =
    let same = ap (λ (s : Sequences). s.lists) c.in_ok-node.ensures.made in
    record {
      node = c.in_ok-node.node;
      unlinked = λ other found. c.in_ok-node.ensures.unlinked other
          (subst (λ (ls : List (List ℕ)). Contains (nodes_of ls other) c.in_ok-node.node) (sym same) found);
      lists = ap (λ (s : Sequences). s.lists) c.push_back.ensures.pushed
          ∙ ap (λ (ls : List (List ℕ)). set ls c.args.list (nodes_of ls c.args.list ++ c.in_ok-node.node ∷ [])) same;
      put = c.in_default.ensures.put;
      others = c.in_default.ensures.others;
      here = c.in_default.ensures.noted;
      apart = c.in_default.ensures.apart;
    }

pub returns-clause-seen : goal.returns-clause-seen
returns-clause-seen c =
    ap (λ (s : Sequences). entries_of c.put_entry.new.entries.items s.lists) c.push_back.ensures.pushed
    ∙ entries_pushed c.put_entry.new.entries.items c.args.entries.now.items c.add_node.new.self.lists c.args.list
    c.in_ok-node.node c.args.entry
    (λ list found. c.in_ok-node.ensures.unlinked list found) c.in_default.ensures.put c.in_default.ensures.others
    ∙ ap (λ (s : Sequences). set (entries_of c.args.entries.now.items s.lists) c.args.list
    (get_or (entries_of c.args.entries.now.items s.lists) c.args.list [] ++ c.args.entry ∷ [])) c.in_ok-node.ensures.made

pub returns-in-Err-clause-refused : goal.returns-in-Err-clause-refused
returns-in-Err-clause-refused c = c.remove_node.ensures.removed ∙ c.in_ok-node.ensures.undone

pub returns-in-Err-clause-unseen : goal.returns-in-Err-clause-unseen
returns-in-Err-clause-unseen c =
    ap (λ (s : Sequences). entries_of c.put_entry.new.entries.items s.lists) (returns-in-Err-clause-refused c)
    ∙ entries_kept c.put_entry.new.entries.items c.args.entries.now.items c.args.lists.now.lists
    (λ list node found. c.in-Err.ensures.refused node)
