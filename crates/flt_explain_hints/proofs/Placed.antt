-- What is said of a text, put together from where it is refused and what may stand there.
use Rattle.std.proofs.Common.{◌≡◌, Some, None, Result, Ok, Err, sym, ap, subst, ◌∙◌}
use Rattle.std.specs.Prelude.{IfOk}
use Rattle.std.specs.declared.alloc.AllocError.{AllocError}
use Rattle.flt_syntax.specs.declared.token.Token.{Token}
use Rattle.flt_tree.specs.Names.{Text}
use Rattle.flt_explain_hints.specs.Spot.{IsSpot}
use Rattle.flt_explain_hints.specs.Trouble.{AreNone, AreFor, AreOf, IsNotMistaken, IsPlaced, IsTrouble}
use Rattle.flt_explain_hints.specs.declared.spot.Spot.{Spot}
use Rattle.flt_explain_hints.specs.declared.troubles.Trouble.{Trouble}

-- what is said where there is a token
pub with_token : (text : Text) (s : Spot) (token : Token) (t : Trouble) → IsSpot text s → s.token ≡ Some token → IsPlaced text s token t →
    IsTrouble text t
with_token text s token t h e p =
    record {
      spot = subst (IsSpot text) (sym p.spot) h;
      choices = subst (AreOf text t) (sym (ap (λ (x : Spot). x.token) p.spot ∙ e))
          (subst (λ (x : Spot). AreFor x.fault.kind text token t) (sym p.spot) p.choices);
      left_out = subst (λ (x : Spot). IsNotMistaken x t) (sym p.spot) p.left_out;
    }

-- the same of an answer
pub with_token_if : (text : Text) (s : Spot) (token : Token) (r : Result Trouble AllocError) → IsSpot text s → s.token ≡ Some token →
    IfOk r (IsPlaced text s token) →
    IfOk r (IsTrouble text)
with_token_if text s token (Ok t) h e p = with_token text s token t h e p
with_token_if text s token (Err x) h e p = tt

-- what is said where there is none
pub without_token : (text : Text) (s : Spot) (t : Trouble) → IsSpot text s → s.token ≡ None → t.spot ≡ s → AreNone t → IsTrouble text t
without_token text s t h e p q =
    record {
      spot = subst (IsSpot text) (sym p) h;
      choices = subst (AreOf text t) (sym (ap (λ (x : Spot). x.token) p ∙ e)) q;
      left_out = record { none = λ named. q.meant };
    }
