-- A text that has tokens isn't too large.
use Rattle.std.proofs.Common.{◌≡◌, ◌≤◌, Bool, true, false, Some, None, length, refl, sym, ◌∙◌, arith}
use Rattle.std.proofs.lemmas.Bool.Decides.{nat_tests}
use Rattle.std.specs.Prelude.{nat_lt}
use Rattle.std.specs.List.{find}
use Rattle.flt_syntax.specs.declared.token.Token.{Token}
use Rattle.flt_rules.specs.Limits.{max_text}
use Rattle.flt_tree.specs.Names.{Text}
use Rattle.flt_explain_hints.specs.Spot.{IsSpot, stands_at, tokens_of}
use Rattle.flt_explain_hints.specs.declared.spot.Spot.{Spot}

within : (text : Text) (p : Token → Bool) (t : Token) (b : Bool) → nat_lt max_text (length text) ≡ b → find p (tokens_of text) ≡ Some t →
    length text ≤ max_text
within text p t true large found = absurd (let e : None ≡ Some t = rw large at found in cc)
within text p t false large found = grind (arith, nat_tests)

-- a text in which there is a token where its fault is isn't too large
pub has_tokens : (text : Text) (s : Spot) (t : Token) → IsSpot text s → s.token ≡ Some t → length text ≤ max_text
has_tokens text s t h e = within text (stands_at s.fault) t (nat_lt max_text (length text)) refl (sym h.token ∙ e)
