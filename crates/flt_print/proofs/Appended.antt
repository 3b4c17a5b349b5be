-- A call is written as its word, and then its operands.
use Rattle.std.proofs.Common.{◌≡◌, ℕ, List, ◌∷◌, ◌++◌, Result, Ok, Err, ap, ◌∙◌, append_assoc}
use Rattle.std.specs.Prelude.{OnOk}
use Rattle.flt_print.specs.CallWords.{operand_words}
use Rattle.flt_print.specs.Line.{indentation, spaced, begun}
use Rattle.flt_print.specs.Operands.{Operands}
use Rattle.flt_print.specs.Vocabulary.{spelling}
use Rattle.flt_syntax.specs.declared.shape.Slot.{Slot}
use Rattle.flt_syntax.specs.declared.shape.Tail.{Tail}
use Rattle.flt_syntax.specs.declared.token.Kind.{Kind}
use Rattle.flt_tree.specs.Names.{Text}

same_operands : (x y : Operands) (ss us : List Slot) (t u : Tail) → x ≡ y → ss ≡ us → t ≡ u →
    spaced (operand_words x ss t) ≡ spaced (operand_words y us u)
same_operands x y ss us t u ex es et =
    ap (λ z. spaced (operand_words z ss t)) ex ∙ ap (λ z. spaced (operand_words y z t)) es ∙ ap (λ z. spaced (operand_words y us z)) et

-- what is written before a call's operands, and then they, where they are those of the call
pub call_written : {U E : Type 0} (r : Result U E) (front : Kind → Text) (a b c : Text) (k l : Kind) (x y : Operands) (ss us : List Slot)
    (t u : Tail) → k ≡ l → x ≡ y → ss ≡ us → t ≡ u → b ≡ a ++ front k → OnOk r (c ≡ b ++ spaced (operand_words x ss t)) →
    OnOk r (c ≡ a ++ (front l ++ spaced (operand_words y us u)))
call_written (Ok v) front a b c k l x y ss us t u ek ex es et e h =
    h ∙ ap (λ z. z ++ spaced (operand_words x ss t)) e ∙ append_assoc a (front k) (spaced (operand_words x ss t))
    ∙ ap (λ z. a ++ (front z ++ spaced (operand_words x ss t))) ek
    ∙ ap (λ z. a ++ (front l ++ z)) (same_operands x y ss us t u ex es et)
call_written (Err f) front a b c k l x y ss us t u ek ex es et e h = h

from_left : {U E : Type 0} (r : Result U E) (a c i w z : Text) → OnOk r (c ≡ a ++ ((i ++ w) ++ z)) → OnOk r (c ≡ a ++ (i ++ (w ++ z)))
from_left (Ok v) a c i w z h = h ∙ ap (λ y. a ++ y) (append_assoc i w z)
from_left (Err f) a c i w z h = h

-- the same at the beginning of a line
pub line_written : {U E : Type 0} (r : Result U E) (level : ℕ) (a b c : Text) (k l : Kind) (x y : Operands) (ss us : List Slot)
    (t u : Tail) → k ≡ l → x ≡ y → ss ≡ us → t ≡ u → b ≡ a ++ (indentation level ++ spelling k) →
    OnOk r (c ≡ b ++ spaced (operand_words x ss t)) → OnOk r (c ≡ a ++ begun level (spelling l ∷ operand_words y us u))
line_written r level a b c k l x y ss us t u ek ex es et e h =
    from_left r a c (indentation level) (spelling l) (spaced (operand_words y us u))
    (call_written r (λ z. indentation level ++ spelling z) a b c k l x y ss us t u ek ex es et e h)
