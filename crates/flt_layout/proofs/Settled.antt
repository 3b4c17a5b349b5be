-- What is settled stays: laying out once more changes nothing.
use Rattle.std.proofs.Common.{◌≡◌, Bool, true, false, List, [], ◌∷◌, ◌++◌, refl, ap, ◌∙◌}
use Rattle.std.specs.Prelude.{◌||◌}
use Rattle.flt_syntax.specs.Lex.{is_fault}
use Rattle.flt_layout.specs.Items.{Item, a_token, a_comment, items, comments_of}
use Rattle.flt_layout.specs.Laws.{KeepsItems, IsLaidOutOnce, KeepsComments, words_among}
use Rattle.flt_layout.specs.Layout.{past_token, past_comment, begins, is_comment, on_line}
use Rattle.flt_layout.specs.Layout.{placed, depth, gap, text_from, settled, start, laid_out}
use Rattle.flt_layout.specs.declared.space.Space.{Space}
use Rattle.flt_layout.specs.declared.space.Space.TheVariants as space
use Rattle.flt_layout.specs.declared.state.State.{State}

stays : (own : Bool) (x : Space) → on_line own (on_line own x) ≡ on_line own x
stays own space.First = refl
stays true space.Beside = refl
stays true space.Below = refl
stays true space.Apart = refl
stays false space.Beside = refl
stays false space.Below = refl
stays false space.Apart = refl

same_text : (s : State) (is : List Item) → text_from s (settled s is) ≡ text_from s is
same_text s [] = refl
same_text s (a_token x v w ∷ is) =
    ap (λ y. gap y (depth s v.kind) ++ (w ++ text_from (past_token s v.kind) (settled (past_token s v.kind) is)))
    (stays (begins s v.kind || is_comment s.place) x)
    ∙ ap (λ z. gap (placed s v.kind x) (depth s v.kind) ++ (w ++ z)) (same_text (past_token s v.kind) is)
same_text s (a_comment x c ∷ is) = ap (λ z. gap x s.level ++ (c ++ z)) (same_text (past_comment s) is)

-- settled items have the comments that the items have
same_comments : (s : State) (is : List Item) → comments_of (settled s is) ≡ comments_of is
same_comments s [] = refl
same_comments s (a_token x v w ∷ is) = same_comments (past_token s v.kind) is
same_comments s (a_comment x c ∷ is) = ap (λ cs. (x, c) ∷ cs) (same_comments (past_comment s) is)

-- settled items have the tokens that the items have
pub same_words : (fault : Bool) (s : State) (is : List Item) → words_among fault (settled s is) ≡ words_among fault is
same_words fault s [] = refl
same_words fault s (a_token x v w ∷ is) = ap (λ ws. (v, w) ∷ ws) (same_words (is_fault v.kind) (past_token s v.kind) is)
same_words fault s (a_comment x c ∷ is) = same_words fault (past_comment s) is

-- laying out twice is laying out once
pub laid_out_once : KeepsItems → IsLaidOutOnce
unfolding laid_out
laid_out_once kept z = ap (text_from start) (kept z) ∙ same_text start (items z)

-- the comments of a layout are those of the text
pub keeps_comments : KeepsItems → KeepsComments
keeps_comments kept z = ap comments_of (kept z) ∙ same_comments start (items z)
