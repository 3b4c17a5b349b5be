use Rattle.std.proofs.Common.{[], ◌∷◌, ◌++◌, ap, map, ◌∙◌}
use Rattle.flt_c_headers.specs.World.{file_of}
use Rattle.flt_c_headers.proofs.Asking.{tokens_added}
use Rattle.flt_c_headers.proofs.headers.Headers.add_tokens.Goals as goal

pub returns : goal.returns
returns c =
    let s = c.self.inside in
    record {
      ok = tokens_added (map (λ t. t.items) s.asked.keys) s.answers.items (map file_of s.files.items) s.tokens.items c.push.new.self.items
          c.args.self.now c.args.tokens.items c.self.view_is
          (c.in_ok-push.ensures.items ∙ ap (λ ts. s.tokens.items ++ ts ∷ []) c.from_vec.ensures);
    }
