use Rattle.std.proofs.Common.{map, ap, ◌∙◌}
use Rattle.flt_c_tokens.proofs.Texts.{with_inserted}
use Rattle.flt_c_headers.proofs.Asking.{new_text}
use Rattle.flt_c_headers.proofs.headers.note.Goals.{in-Ok, in-Err}
use Rattle.flt_c_headers.proofs.headers.note.Goals as goal

pub returns-clause-asked : goal.returns-clause-asked
returns-clause-asked c =
    let keys = c.args.asked.now.keys in
    elim c.match-insert_full.branch [
      | in-Ok w ↦ rw w.result-is
          (ap (map (λ t. t.items)) w.in-Ok.ensures.keys
          ∙ (with_inserted (λ t. t.items) c.args.name.now keys c.in_ok-key.key c.in_ok-key.ensures.items
          ∙ new_text (map (λ t. t.items) keys) c.args.name.now c.requires))
      | in-Err w ↦ rw w.result-is tt
    ]
