use Rattle.std.proofs.Common.{◌≡◌, Err, IfErr, List, Vec, ℕ, Global, length, map, sym, subst, rules, ◌∙◌}
use Rattle.std.proofs.lemmas.List.{length-map}
use Rattle.std.proofs.lemmas.Slice.Zip.{AllZip-long}
use Rattle.std.specs.List.{AllZip}
use Rattle.flt_stack_prepare.proofs.Answered.{all_lowered, have_certificates}
use Rattle.flt_stack_prepare.proofs.Preparation.{altitude_fails}
use Rattle.flt_stack_prepare.specs.Preparing.{Fails, IsScript}
use Rattle.flt_stack_prepare.specs.Texts.{HaveCertificates}
use Rattle.flt_graph.specs.Lowering.{IsLowered}
use Rattle.flt_model.specs.Program.{filters_of}
use Rattle.flt_model.specs.Streams.{Text}
use Rattle.flt_stack.specs.Loading.{IsCount}
use Rattle.flt_syntax.specs.Spelling.{Spells}
use Rattle.flt_tree.specs.declared.tree.Tree.{Tree}
use Rattle.flt_stack_prepare.proofs.preparing.prepare.Goals as goal

pub load_all-requires-clause-count : goal.load_all-requires-clause-count
load_all-requires-clause-count g c =
    let counted : IsCount (length c.args.texts.now) = search rules in
    let many : length c.in_ok-trees.trees.items ≡ length c.args.texts.now =
    sym (length-map c.in_ok-trees.trees.items (λ (t : Tree). t.filter))
    ∙ (AllZip-long Spells _ _ c.in_ok-trees.ensures.ok ∙ length-map c.args.texts.now (λ (t : Vec ℕ Global). t.items)) in
    subst IsCount (sym many) counted

pub load_all-requires-clause-lowered : goal.load_all-requires-clause-lowered
load_all-requires-clause-lowered g c =
    all_lowered c.spelled_is_well_formed.ensures _ _ _ c.in_ok-trees.ensures.ok
    (subst (λ (l : List Tree). AllZip IsLowered (filters_of l) c.in_ok-graphs.graphs.items) c.as_slice-2.ensures.value
    c.in_ok-graphs.ensures.lowered)

pub returns-in_err-loaded-clause-err : goal.returns-in_err-loaded-clause-err
returns-in_err-loaded-clause-err g c =
    let texts = map (λ (t : Vec ℕ Global). t.items) c.args.texts.now in
    let filters = filters_of c.in_ok-trees.trees.items in
    let counted : IsCount (length c.args.texts.now) = search rules in
    let covered : (bytes : List Text) × HaveCertificates filters bytes =
    have_certificates c.accepted_certificates_fill_up.ensures.certificate c.accepted_certificates_fill_up.ensures.covers filters
    c.in_ok-graphs.graphs.items c.in_ok-graphs.certificates.items
    (subst (λ (l : List Tree). AllZip IsLowered (filters_of l) c.in_ok-graphs.graphs.items) c.as_slice-2.ensures.value
    c.in_ok-graphs.ensures.lowered) c.in_ok-graphs.ensures.covered c.in_ok-graphs.ensures.certificates in
    let fails : c.from_residual-in_err-loaded.result ≡ Err c.in_err-loaded.field-0.0 = search rules in
    subst (λ r. IfErr r (Fails c.args.script.now texts)) (sym fails)
    (altitude_fails c.args.script.now texts filters c.in_ok-commands.commands c.in_err-loaded.field-0.0
    (subst IsCount (sym (length-map c.args.texts.now (λ (t : Vec ℕ Global). t.items))) counted) c.in_ok-trees.ensures.ok
    (subst (λ (l : List Tree). IsScript (filters_of l) c.args.script.now c.in_ok-commands.commands) c.as_slice.ensures.value
    c.in_ok-commands.ensures.ok) covered c.in_err-loaded.ensures.fault)

pub returns-clause-ok : goal.returns-clause-ok
returns-clause-ok g c =
    let filters = filters_of c.in_ok-trees.trees.items in
    let counted : IsCount (length c.args.texts.now) = search rules in
    let covered : (bytes : List Text) × HaveCertificates filters bytes =
    have_certificates c.accepted_certificates_fill_up.ensures.certificate c.accepted_certificates_fill_up.ensures.covers filters
    c.in_ok-graphs.graphs.items c.in_ok-graphs.certificates.items
    (subst (λ (l : List Tree). AllZip IsLowered (filters_of l) c.in_ok-graphs.graphs.items) c.as_slice-2.ensures.value
    c.in_ok-graphs.ensures.lowered) c.in_ok-graphs.ensures.covered c.in_ok-graphs.ensures.certificates in
    record {
      counted = subst IsCount (sym (length-map c.args.texts.now (λ (t : Vec ℕ Global). t.items))) counted;
      filters = filters;
      spelled = c.in_ok-trees.ensures.ok;
      read = subst (λ (l : List Tree). IsScript (filters_of l) c.args.script.now c.in_ok-commands.commands) c.as_slice.ensures.value
          c.in_ok-commands.ensures.ok;
      certificates = covered.0;
      covered = covered.1;
      distinct = c.in_ok-loaded.ensures.loaded.0;
      ordered = c.in_ok-loaded.ensures.loaded.1;
    }
