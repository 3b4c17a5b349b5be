use Rattle.std.proofs.Common.{None}
use Rattle.flt_commands_explain.specs.Explain.{look_of, search_of, told_name}
use Rattle.flt_commands_explain.proofs.Explaining.{joined_cut, joined_out, joined_told}
use Rattle.flt_commands_explain.proofs.MadeSources.{all_within}
use Rattle.flt_commands_explain.proofs.explain.told_joined.Goals as goal

pub sources_of-requires : goal.sources_of-requires
sources_of-requires g c =
    rw (c.as_slice-2.ensures.value, c.as_slice-3.ensures.value)
    (all_within (told_name c.args.asked.form) c.args.files.now c.args.joined.now c.in_ok-own.own.items c.requires
    (c.in_ok-own.ensures (told_name c.args.asked.form) (rw c.as_slice.ensures.value c.in_ok-names.ensures)))

pub returns-clause-told : goal.returns-clause-told
returns-clause-told g c =
    joined_told c.args.asked.form _ _ _ c.args.files.now c.args.joined.now c.in_ok-own.own.items c.in_ok-drifted.drifted.items
    c.in_ok-sources.sources.items c.requires
    (c.in_ok-own.ensures (told_name c.args.asked.form) (rw c.as_slice.ensures.value c.in_ok-names.ensures))
    c.in_ok-drifted.ensures (rw (c.as_slice-2.ensures.value, c.as_slice-3.ensures.value) at c.in_ok-sources.ensures)
    c.args.unread.now c.explain_after.result
    (rw (c.as_slice-4.ensures.value, c.as_slice-5.ensures.value) at c.explain_after.ensures.told)

pub returns-clause-memory : goal.returns-clause-memory
returns-clause-memory g c =
    joined_cut c.args.asked.form (look_of c.args.asked) _ None c.args.files.now c.args.joined.now c.in_ok-own.own.items
    c.in_ok-drifted.drifted.items c.in_ok-sources.sources.items c.requires
    (c.in_ok-own.ensures (told_name c.args.asked.form) (rw c.as_slice.ensures.value c.in_ok-names.ensures))
    c.in_ok-drifted.ensures (rw (c.as_slice-2.ensures.value, c.as_slice-3.ensures.value) at c.in_ok-sources.ensures)
    c.args.asked.options (search_of c.args.asked.search) _ _ c.explain_after.result
    (rw (c.as_slice-4.ensures.value, c.as_slice-5.ensures.value) at c.explain_after.ensures.memory)

pub returns-clause-cut : goal.returns-clause-cut
returns-clause-cut g c =
    joined_out c.args.asked.form (look_of c.args.asked) _ None c.args.files.now c.args.joined.now c.in_ok-own.own.items
    c.in_ok-drifted.drifted.items c.in_ok-sources.sources.items c.requires
    (c.in_ok-own.ensures (told_name c.args.asked.form) (rw c.as_slice.ensures.value c.in_ok-names.ensures))
    c.in_ok-drifted.ensures (rw (c.as_slice-2.ensures.value, c.as_slice-3.ensures.value) at c.in_ok-sources.ensures)
    c.args.asked.options (search_of c.args.asked.search) _ _ c.explain_after.result
    (rw (c.as_slice-4.ensures.value, c.as_slice-5.ensures.value) at c.explain_after.ensures.cut)
