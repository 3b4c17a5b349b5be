use Rattle.std.proofs.Common.{◌≡◌, List, length, map, subst, ◌∙◌, sym}
use Rattle.std.proofs.lemmas.List.{length-map}
use Rattle.flt_tree.specs.declared.tree.Tree.{Tree}
use Rattle.flt_cert.specs.declared.cert.Cert.{Cert}
use Rattle.flt_model.specs.Program.{filters_of}
use Rattle.flt_stack.proofs.Files.{all_certified, all_lowered, as_many_read}
use Rattle.flt_stack.proofs.Judged.{all_covered, read_answers, read_loads}
use Rattle.flt_stack.specs.Loading as spec
use Rattle.flt_stack.specs.Lowered.{Answers, AreCertificates, AreCovered}
use Rattle.flt_stack.proofs.loading.load.Goals as goal

pub first_fault-requires : goal.first_fault-requires
first_fault-requires c = (as_many_read _ _ _ _ c.in-Err.ensures.err.before).certificates

pub load_lowered-requires-clause-lowered : goal.load_lowered-requires-clause-lowered
load_lowered-requires-clause-lowered c = all_lowered c.spelled_is_well_formed.ensures _ _ _ _ c.in_default.ensures.ok

pub load_lowered-requires-clause-certificates : goal.load_lowered-requires-clause-certificates
load_lowered-requires-clause-certificates c =
    subst (λ (ks : List Cert). AreCertificates c.read_all.new.filters.graphs.items ks) (sym c.as_slice.ensures.value)
    (all_certified _ _ _ _ c.in_default.ensures.ok)

pub returns-clause-answer : goal.returns-clause-answer
returns-clause-answer c =
    let filters = c.read_all.new.filters in
    read_answers _ _ _ _ c.in_default.ensures.ok c.load_lowered.result
    (subst (λ (ks : List Cert). Answers (filters_of filters.trees.items) filters.graphs.items ks c.load_lowered.result)
    c.as_slice.ensures.value c.load_lowered.ensures.answer)

pub returns-clause-loads : goal.returns-clause-loads
returns-clause-loads c accepted all distinct counted =
    let read = c.read_all.new.filters in
    let files = map (λ f. spec.file f.0.now f.1.now) c.args.files.now in
    let filters = filters_of read.trees.items in
    let both = all_covered c.spelled_is_well_formed.ensures c.spells_at_most_one.ensures c.one_graph_at_most.ensures
    c.one_certificate_is_spelled.ensures files filters accepted read.graphs.items read.certificates.items c.in_default.ensures.ok all in
    let many : length c.args.files.now ≡ length read.trees.items =
    sym (length-map c.args.files.now (λ f. spec.file f.0.now f.1.now))
    ∙ (sym (as_many_read files filters _ _ c.in_default.ensures.ok).filters
    ∙ length-map read.trees.items (λ (t : Tree). t.filter)) in
    read_loads files filters read.graphs.items read.certificates.items c.in_default.ensures.ok accepted c.load_lowered.result both.0
    distinct
    (subst (λ (ks : List Cert). Answers filters read.graphs.items ks c.load_lowered.result) c.as_slice.ensures.value
    c.load_lowered.ensures.answer)
    (c.load_lowered.ensures.accepts (subst (λ (ks : List Cert). AreCovered read.graphs.items ks) (sym c.as_slice.ensures.value) both.1)
    (subst spec.IsCount many counted))
