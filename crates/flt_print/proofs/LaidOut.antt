-- The text of lines consists of their words, with blanks and line feeds between them.
use Rattle.std.proofs.Common.{◌≡◌, ℕ, zero, suc, List, [], ◌∷◌, ◌++◌, refl, sym, ap, subst, ◌∙◌, append_assoc}
use Rattle.flt_tree.specs.Names.{Text}
use Rattle.flt_print.specs.Line.{Line, indentation, spaced, joined, line_text, lines_text}
use Rattle.flt_syntax.specs.declared.token.Word.{Word}
use Rattle.flt_syntax.specs.Written.{blank, feed, Pieces, none, more, Written, done, gap, said}
use Rattle.flt_print.proofs.SaidStatements.{words_of}

indented : {ws : List Text} {vs : List Word} {z : Text} (level : ℕ) → Written ws vs z → Written ws vs (indentation level ++ z)
indented zero w = w
indented (suc level) w = gap blank (gap blank (indented level w))

words_out : (w : Text) (ws : List Text) (vs : List Word) (after : List Text) (ys : List Word) (z : Text) → Pieces (w ∷ ws) vs →
    Written after ys z →
    Written (w ∷ (ws ++ after)) (vs ++ ys) (w ++ (spaced ws ++ 10 ∷ z))
words_out w _ _ after ys z (more p none) r = said p feed r
words_out w _ _ after ys z (more {v = v} p (more {w = u} {v = x} {ws = us} {vs = xs} q ps)) r =
    subst (λ l. Written (w ∷ u ∷ (us ++ after)) (v ∷ x ∷ (xs ++ ys)) (w ++ 32 ∷ l)) (sym (append_assoc u (spaced us) (10 ∷ z)))
    (said p blank (words_out u us (x ∷ xs) after ys z (more q ps) r))

line_out : (ws : List Text) (vs : List Word) (after : List Text) (ys : List Word) (z : Text) → Pieces ws vs → Written after ys z →
    Written (ws ++ after) (vs ++ ys) (joined ws ++ 10 ∷ z)
line_out _ _ after ys z none r = gap feed r
line_out (w ∷ ws) vs after ys z (more p ps) r =
    subst (λ l. Written (w ∷ (ws ++ after)) (vs ++ ys) l) (sym (append_assoc w (spaced ws) (10 ∷ z)))
    (words_out w ws vs after ys z (more p ps) r)

record Cut (ws us : List Text) (vs : List Word) : Type 0 where
  front : List Word
  back : List Word
  here : Pieces ws front
  behind : Pieces us back
  whole : front ++ back ≡ vs

cut : (ws us : List Text) (vs : List Word) → Pieces (ws ++ us) vs → Cut ws us vs
cut [] us vs p = record { front = []; back = vs; here = none; behind = p; whole = refl }
cut (w ∷ ws) us _ (more {v = v} {vs = vs} p ps) =
    let c = cut ws us vs ps in
    record { front = v ∷ c.front; back = c.back; here = more p c.here; behind = c.behind; whole = ap (λ l. v ∷ l) c.whole }

layout : (l : Line) (z : Text) → indentation l.level ++ (joined l.words ++ 10 ∷ z) ≡ line_text l ++ z
layout l z =
    sym (append_assoc (indentation l.level ++ joined l.words) (10 ∷ []) z ∙ append_assoc (indentation l.level) (joined l.words) (10 ∷ z))

-- lines whose words are pieces are written as those words, with blanks and line feeds between them
pub laid_out : (ls : List Line) (vs : List Word) → Pieces (words_of ls) vs → Written (words_of ls) vs (lines_text ls)
laid_out [] _ none = done
laid_out (l ∷ ls) vs p =
    let c = cut l.words (words_of ls) vs p in
    subst (λ x. Written (l.words ++ words_of ls) x (line_text l ++ lines_text ls)) c.whole
    (subst (λ x. Written (l.words ++ words_of ls) (c.front ++ c.back) x) (layout l (lines_text ls))
    (indented l.level (line_out l.words c.front (words_of ls) c.back (lines_text ls) c.here (laid_out ls c.back c.behind))))
