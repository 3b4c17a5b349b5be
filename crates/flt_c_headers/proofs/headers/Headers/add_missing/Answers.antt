use Rattle.std.proofs.Common.{map}
use Rattle.flt_c_headers.specs.World.{file_of}
use Rattle.flt_c_headers.proofs.Asking.{with_nothing}
use Rattle.flt_c_headers.proofs.headers.Headers.add_missing.Goals as goal

pub returns-clause-added : goal.returns-clause-added
returns-clause-added c =
    let s = c.self.inside in
    with_nothing (map (λ t. t.items) s.asked.keys) (map (λ t. t.items) c.note.new.asked.keys) s.answers.items c.note.new.answers.items
    (map file_of s.files.items) s.tokens.items c.args.self.now c.args.name.now c.self.view_is c.in_ok-note.ensures.asked
    c.in_ok-note.ensures.answers
