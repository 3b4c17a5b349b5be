use Rattle.std.proofs.Common.{map, ap, sym, ◌∙◌, ◌++◌, ◌≡◌}
use Rattle.flt_c_tokens.proofs.Texts.{number_inserted, number_there, with_inserted, with_there}
use Rattle.flt_c_tokens.proofs.spellings.add.Goals.{in-Ok, in-Err}
use Rattle.flt_c_tokens.proofs.spellings.add.Goals as goal

pub returns-in-Some-clause-texts : goal.returns-in-Some-clause-texts
returns-in-Some-clause-texts c =
    sym (with_there (λ t. t.items) c.args.text.now c.args.texts.now.keys c.in-Some.ensures.found)

pub returns-in-Some-clause-place : goal.returns-in-Some-clause-place
returns-in-Some-clause-place c =
    number_there (λ t. t.items) c.args.text.now c.args.texts.now.keys c.in-Some.number c.in-Some.ensures.index

pub returns-clause-texts : goal.returns-clause-texts
returns-clause-texts c =
    let key = c.extend_from_slice.new.self in
    let named : key.items ≡ c.args.text.now =
    c.in_ok-extend_from_slice.ensures.items ∙ ap (λ items. items ++ c.args.text.now) c.new-key.ensures.items in
    elim c.match-insert_full.branch [
      | in-Ok w ↦ rw w.result-is
          (ap (map (λ t. t.items)) w.in-Ok.ensures.keys ∙ with_inserted (λ t. t.items) c.args.text.now c.args.texts.now.keys key named)
      | in-Err w ↦ rw w.result-is tt
    ]

pub returns-clause-place : goal.returns-clause-place
returns-clause-place c =
    let key = c.extend_from_slice.new.self in
    let named : key.items ≡ c.args.text.now =
    c.in_ok-extend_from_slice.ensures.items ∙ ap (λ items. items ++ c.args.text.now) c.new-key.ensures.items in
    elim c.match-insert_full.branch [
      | in-Ok w ↦ rw w.result-is
          (number_inserted (λ t. t.items) c.args.text.now c.args.texts.now.keys key w.in-Ok.added.0 named w.in-Ok.ensures.index)
      | in-Err w ↦ rw w.result-is tt
    ]
