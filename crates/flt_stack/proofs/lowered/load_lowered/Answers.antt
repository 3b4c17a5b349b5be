use Rattle.std.proofs.Common.{rules, ◌≡◌, List, length, ap, refl, subst, ◌∙◌, sym}
use Rattle.std.proofs.lemmas.List.{length-map}
use Rattle.std.specs.List.{All}
use Rattle.std.specs.Prelude.{◌↔◌, IsTrue}
use Rattle.flt_tree.specs.declared.filter.Filter.{Filter}
use Rattle.flt_tree.specs.declared.tree.Tree.{Tree}
use Rattle.flt_graph.specs.declared.graph.Graph.{Graph}
use Rattle.flt_cert.specs.Spelling.{is_cert}
use Rattle.flt_model.specs.Program.{HasDistinctAltitudes, by_altitude, filters_of}
use Rattle.flt_sound.specs.Progress.{AreOrderly}
use Rattle.flt_sound.specs.Soundness.{AreAccepted}
use Rattle.flt_stack.proofs.Covered.{all_accepted, all_orderly, as_many}
use Rattle.flt_stack.proofs.Ordered.{differ_in_their_order, stays_in_order}
use Rattle.flt_stack.specs.Loading.{IsCount}
use Rattle.flt_stack.specs.Lowered.{AreCovered}
use Rattle.flt_stack.specs.Ordering.{IsOrdered}
use Rattle.flt_stack.proofs.lowered.load_lowered.Goals as goal

pub first_refusal-requires : goal.first_refusal-requires
first_refusal-requires c =
    as_many (λ g k. IsTrue (is_cert k)) c.args.graphs.items c.args.certificates.now c.requires.certificates
    ∙ ap length (sym c.as_slice.ensures.value)

pub invariant_of-loaded : goal.invariant_of-loaded
invariant_of-loaded c =
    let filters = filters_of c.args.trees.items in
    let order : by_altitude filters ≡ filters_of c.in_ok-trees.trees = sym c.in_ok-trees.ensures.ordered in
    let covered : AreCovered c.args.graphs.items c.args.certificates.now =
    subst (λ (gs : List Graph). AreCovered gs c.args.certificates.now) c.as_slice.ensures.value (c.in_default.ensures.covered.0 refl) in
    let all : AreAccepted filters =
    all_accepted c.accepted_certificates_fill_up.ensures.covers filters _ _ c.requires.lowered covered in
    let distinct : HasDistinctAltitudes filters =
    subst (λ (l : List Tree). HasDistinctAltitudes (filters_of l)) c.as_slice-2.ensures.value c.in_default-first_repeated.ensures in
    let known : IsTrue c.in_ok-ordered.ordered ↔ All IsOrdered c.args.graphs.items =
    subst (λ (gs : List Graph). IsTrue c.in_ok-ordered.ordered ↔ All IsOrdered gs) c.as_slice-3.ensures.value c.in_ok-ordered.ensures in
    let those = all_orderly c.one_graph_at_most.ensures filters c.args.graphs.items c.requires.lowered in
    let both = c.orderly_filters_come_to_rest.ensures.ordered filters in
    record {
      distinct = subst HasDistinctAltitudes order (differ_in_their_order filters distinct);
      locks = subst (λ (l : List Filter). IsTrue c.in_ok-ordered.ordered ↔ AreOrderly l) order
          (λ yes. both.0 (those.0 (known.0 yes)), λ orderly. known.1 (those.1 (both.1 orderly)));
      accepted = subst AreAccepted order (c.accepted_journals_break_nothing.ensures.ordered filters all);
      ordered = subst (λ (l : List Filter). by_altitude l ≡ l) order (stays_in_order filters distinct);
      loaded = c.in_ok-trees.ensures.loaded;
    }

pub returns-clause-answer : goal.returns-clause-answer
returns-clause-answer c =
    let counted : IsCount (length c.args.trees.items) = search rules in
    record {
      counted = subst IsCount (sym (length-map c.args.trees.items (λ (t : Tree). t.filter))) counted;
      covered = subst (λ (gs : List Graph). AreCovered gs c.args.certificates.now) c.as_slice.ensures.value
          (c.in_default.ensures.covered.0 refl);
      distinct = subst (λ (l : List Tree). HasDistinctAltitudes (filters_of l)) c.as_slice-2.ensures.value
          c.in_default-first_repeated.ensures;
      ordered = c.in_ok-trees.ensures.ordered;
    }
