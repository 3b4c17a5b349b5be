-- Steps of what is written.
use Rattle.std.proofs.Common.{◌≡◌, ◌++◌, append_assoc, ap, ◌∙◌}
use Rattle.flt_explain_html.specs.Escaping.{Text}

-- a text, and one more
pub text_after : (a b c x y : Text) → b ≡ a ++ x → c ≡ b ++ y → c ≡ a ++ (x ++ y)
text_after a b c x y e f = f ∙ ap (λ z. z ++ y) e ∙ append_assoc a x y
