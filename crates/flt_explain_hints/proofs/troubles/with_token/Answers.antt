use Rattle.std.proofs.Common.{Bor, IfSome, ap, ◌∙◌, refl, subst}
use Rattle.flt_tree.specs.Names.{Text}
use Rattle.flt_explain_hints.specs.Meant.{hint_at, meant_by}
use Rattle.flt_explain_hints.specs.OpenCall.{open_call}
use Rattle.flt_explain_hints.specs.Trial.{MayStand}
use Rattle.flt_explain_hints.proofs.troubles.with_token.Goals as goal

pub returns : goal.returns
returns c =
    let s = c.args.spot in
    let t = c.args.token in
    record {
      spot = refl;
      choices = record {
        choices = c.in_ok-choices.ensures;
        meant = subst (λ g. IfSome c.in_ok-meant.meant (λ (w : Bor Text). MayStand g w.now)) c.gap_at-gap.ensures
            c.in_ok-meant.ensures.stands;
        explained = record {
          meant = c.in_ok-meant.ensures.word
              ∙ ap (λ g. meant_by g s.fault.kind t.word.kind s.bytes.now c.in_ok-choices.choices) c.gap_at-gap.ensures;
          open_call = c.open_call-open_call.ensures ∙ ap (λ ts. open_call s.fault.kind ts t c.in_ok-choices.choices) c.requires.tokens;
          hint = c.in_ok-hint.ensures
              ∙ ap (λ ts. hint_at c.args.text.now ts s.fault.kind t s.bytes.now c.in_ok-choices.choices c.in_ok-meant.meant)
              c.requires.tokens;
        };
      };
      left_out = record { none = c.in_ok-meant.ensures.left_out };
    }
