-- What is laid out is read back item by item.
use Rattle.std.proofs.Common.{◌≡◌, ℕ, zero, suc, ◌-◌, Bool, true, false, List, [], ◌∷◌, ◌++◌, length, refl, sym, ap, subst, ◌∙◌, arith}
use Rattle.std.proofs.Math.Seq.{take-append_seam}
use Rattle.std.proofs.lemmas.Bool.{false≢true}
use Rattle.std.specs.Prelude.{◌==◌, ◌||◌, not, if◌then◌else◌}
use Rattle.flt_tree.specs.Names.{Text}
use Rattle.flt_print.specs.Line.{indentation}
use Rattle.flt_syntax.specs.Lex.{is_blank, is_fault, token}
use Rattle.flt_syntax.specs.Written.{Gap, blank, feed}
use Rattle.flt_syntax.specs.declared.token.Word.{Word}
use Rattle.flt_layout.specs.Items.{Item, a_token, a_comment, fed, moved, items_from, items}
use Rattle.flt_layout.specs.declared.space.Space.{Space}
use Rattle.flt_layout.specs.declared.space.Space.TheVariants as space
use Rattle.flt_layout.specs.declared.state.Place.{Place}
use Rattle.flt_layout.specs.declared.state.Place.TheVariants as place
use Rattle.flt_layout.specs.declared.state.State.{State}
use Rattle.flt_layout.specs.Layout.{past_token, past_comment, begins, is_comment, on_line, placed}
use Rattle.flt_layout.specs.Layout.{depth, gap, ending, text_from, settled, start, laid_out}
use Rattle.flt_layout.specs.Laws.{KeepsItems}
use Rattle.flt_layout.proofs.Comments as comments
use Rattle.flt_layout.proofs.Comments.{IsComment, one_line}
use Rattle.flt_layout.proofs.Fronts.{IsWord, whole, token_word_is}

-- ---- the items of a text

-- where an item may be after another: a line feed follows each comment
abbrev fits : Place → Space → Bool
fits place.Nothing space.First = true
fits place.Nothing _ = false
fits place.Token space.First = false
fits place.Token _ = true
fits place.Comment space.Below = true
fits place.Comment space.Apart = true
fits place.Comment _ = false

fits_fed : (p : Place) (x : Space) → fits p x ≡ true → fits p (fed x) ≡ true
fits_fed place.Nothing space.First e = refl
fits_fed place.Nothing space.Beside e = e
fits_fed place.Nothing space.Below e = e
fits_fed place.Nothing space.Apart e = e
fits_fed place.Token space.First e = e
fits_fed place.Token space.Beside e = refl
fits_fed place.Token space.Below e = refl
fits_fed place.Token space.Apart e = refl
fits_fed place.Comment space.First e = e
fits_fed place.Comment space.Beside e = refl
fits_fed place.Comment space.Below e = refl
fits_fed place.Comment space.Apart e = refl

fits_if : (p : Place) (x : Space) (c : Bool) → fits p x ≡ true → fits p (if c then fed x else x) ≡ true
fits_if p x true e = fits_fed p x e
fits_if p x false e = e

fits_inside : (p : Place) (x : Space) (c : Bool) → fits p (fed x) ≡ true →
    fits p (if not c then fed (if c then fed x else x) else (if c then fed x else x)) ≡ true
fits_inside p x true e = e
fits_inside p x false e = e

-- each of the items is read back by itself, after an item of the kind
data AreItems : Place → List Item → Type 0 where
  none : {p : Place} → AreItems p []
  one_token : {p : Place} {x : Space} {v : Word} {w : Text} {is : List Item} → fits p x ≡ true → IsWord v w →
      (is_fault v.kind ≡ true → is ≡ []) → AreItems place.Token is → AreItems p (a_token x v w ∷ is)
  one_comment : {p : Place} {x : Space} {c : Text} {is : List Item} → fits p x ≡ true → IsComment c →
      AreItems place.Comment is → AreItems p (a_comment x c ∷ is)

items_if : {p : Place} (c : Bool) (is js : List Item) → (c ≡ true → AreItems p is) → (c ≡ false → AreItems p js) →
    AreItems p (if c then is else js)
items_if true is js p q = p refl
items_if false is js p q = q refl

ends_if : (c : Bool) (is : List Item) → c ≡ true → (if c then [] else is) ≡ []
ends_if c is e = rw e refl

are_items : (z : Text) (left : ℕ) (inside : Bool) (x : Space) (p : Place) → fits p (if inside then fed x else x) ≡ true →
    AreItems p (items_from left inside x z)
are_items [] left inside x p h = none
are_items (b ∷ z) (suc left) inside x p h = are_items z left inside x p h
are_items (b ∷ z) zero true x p h = are_items z zero (not (b == 10)) (moved b x) p (fits_inside p x (b == 10) h)
are_items (b ∷ z) zero false x p h =
    let t = token (b ∷ z) in
    items_if (b == 35) _ _
    (λ e. one_comment h (comments.is_comment b z e) (are_items z zero true space.Beside place.Comment refl))
    (λ e. items_if (is_blank b) _ _
    (λ _. are_items z zero false (moved b x) p (fits_if p x (b == 10) h))
    (λ n. one_token h (token_word_is b z e n) (ends_if (is_fault t.0.kind) (items_from (t.1 - 1) false space.Beside z))
    (items_if (is_fault t.0.kind) _ _ (λ _. none) (λ _. are_items z (t.1 - 1) false space.Beside place.Token refl))))

-- ---- the text of items

-- a text after an item is read as items
abbrev Reads : Place → List Item → Text → Type 0
Reads place.Nothing is t = items_from zero false space.First t ≡ is
Reads place.Token is t = (g : ℕ) × (y : Text) × Gap g × (t ≡ g ∷ y) × (items_from zero false space.Beside t ≡ is)
Reads place.Comment is t = (y : Text) × (t ≡ 10 ∷ y) × (items_from zero false space.Below y ≡ is)

suc_less : (n : ℕ) → suc n - 1 ≡ n
suc_less n = omega arith

skip : (w y : Text) → items_from (length w) false space.Beside (w ++ y) ≡ items_from zero false space.Beside y
skip [] y = refl
skip (c ∷ w) y = skip w y

first : (c : ℕ) (w y : Text) (v : Word) (x : Space) → (c == 35) ≡ false → is_blank c ≡ false →
    token (c ∷ (w ++ y)) ≡ (v, suc (length w)) →
    items_from zero false x (c ∷ (w ++ y))
    ≡ a_token x v (c ∷ w) ∷ (if is_fault v.kind then [] else items_from (length w) false space.Beside (w ++ y))
first c w y v x e1 e2 e3 =
    rw (e1, e2, e3, suc_less (length w))
    (ap (λ u. a_token x v (c ∷ u) ∷ (if is_fault v.kind then [] else items_from (length w) false space.Beside (w ++ y)))
    (take-append_seam w y))

rest_by : (c : Bool) (is js : List Item) → (c ≡ true → is ≡ []) → js ≡ is → (if c then [] else js) ≡ is
rest_by true is js f e = sym (f refl)
rest_by false is js f e = e

token_read : (v : Word) (w : Text) (is js : List Item) (t : Text) (x : Space) → IsWord v w → (is_fault v.kind ≡ true → js ≡ []) →
    Reads place.Token js t → items_from zero false x (w ++ t) ≡ a_token x v w ∷ js
token_read v _ is js t x (whole {c} {w} e h f) ends r =
    subst (λ t. items_from zero false space.Beside t ≡ js → items_from zero false x (c ∷ (w ++ t)) ≡ a_token x v (c ∷ w) ∷ js) (sym r.3)
    (λ same. first c w (r.0 ∷ r.1) v x e h (f r.0 r.1 r.2)
    ∙ ap (λ js. a_token x v (c ∷ w) ∷ js) (rest_by (is_fault v.kind) js _ ends (skip w (r.0 ∷ r.1) ∙ same))) r.4

comment_read : (c : Text) (is : List Item) (t : Text) (x : Space) → IsComment c → Reads place.Comment is t →
    items_from zero false x (c ++ t) ≡ a_comment x c ∷ is
comment_read _ is t x (one_line {c} e h) r =
    subst (λ t. items_from zero false x (35 ∷ (c ++ t)) ≡ a_comment x (35 ∷ c) ∷ is) (sym r.1)
    (ap (λ u. a_comment x u ∷ items_from zero true space.Beside (c ++ 10 ∷ r.0)) (e r.0)
    ∙ ap (λ js. a_comment x (35 ∷ c) ∷ js) (h r.0 ∙ r.2))

indented : (n : ℕ) (x : Space) (t : Text) → items_from zero false x (indentation n ++ t) ≡ items_from zero false x t
indented zero x t = refl
indented (suc n) x t = indented n x t

-- what is written before an item is read as its space
after_gap : (p : Place) (x : Space) (n : ℕ) (t : Text) (is : List Item) → fits p x ≡ true → items_from zero false x t ≡ is →
    Reads p is (gap x n ++ t)
after_gap place.Nothing space.First n t is h r = r
after_gap place.Nothing space.Beside n t is h r = absurd (false≢true h)
after_gap place.Nothing space.Below n t is h r = absurd (false≢true h)
after_gap place.Nothing space.Apart n t is h r = absurd (false≢true h)
after_gap place.Token space.First n t is h r = absurd (false≢true h)
after_gap place.Token space.Beside n t is h r = (32, t, blank, refl, r)
after_gap place.Token space.Below n t is h r = (10, indentation n ++ t, feed, refl, indented n space.Below t ∙ r)
after_gap place.Token space.Apart n t is h r = (10, 10 ∷ (indentation n ++ t), feed, refl, indented n space.Apart t ∙ r)
after_gap place.Comment space.First n t is h r = absurd (false≢true h)
after_gap place.Comment space.Beside n t is h r = absurd (false≢true h)
after_gap place.Comment space.Below n t is h r = (indentation n ++ t, refl, indented n space.Below t ∙ r)
after_gap place.Comment space.Apart n t is h r = (10 ∷ (indentation n ++ t), refl, indented n space.Apart t ∙ r)

-- where a token is laid it may be
fits_laid : (p : Place) (own : Bool) (x : Space) → (is_comment p ≡ true → own ≡ true) → fits p x ≡ true → fits p (on_line own x) ≡ true
fits_laid place.Nothing own space.First f h = refl
fits_laid place.Nothing own space.Beside f h = absurd (false≢true h)
fits_laid place.Nothing own space.Below f h = absurd (false≢true h)
fits_laid place.Nothing own space.Apart f h = absurd (false≢true h)
fits_laid place.Token own space.First f h = h
fits_laid place.Token true space.Beside f h = refl
fits_laid place.Token true space.Below f h = refl
fits_laid place.Token true space.Apart f h = refl
fits_laid place.Token false space.Beside f h = refl
fits_laid place.Token false space.Below f h = refl
fits_laid place.Token false space.Apart f h = refl
fits_laid place.Comment own space.First f h = h
fits_laid place.Comment true space.Beside f h = refl
fits_laid place.Comment true space.Below f h = refl
fits_laid place.Comment true space.Apart f h = refl
fits_laid place.Comment false space.Beside f h = absurd (false≢true (f refl))
fits_laid place.Comment false space.Below f h = absurd (false≢true (f refl))
fits_laid place.Comment false space.Apart f h = absurd (false≢true (f refl))

or_last : (a b : Bool) → b ≡ true → (a || b) ≡ true
or_last true b e = refl
or_last false b e = e

ended : (p : Place) → Reads p [] (ending p)
ended place.Nothing = refl
ended place.Token = (10, [], feed, refl, refl)
ended place.Comment = ([], refl, refl)

settled_none : (s : State) (is : List Item) → is ≡ [] → settled s is ≡ []
settled_none s is e = ap (settled s) e

reads : (p : Place) (is : List Item) (s : State) → s.place ≡ p → AreItems p is → Reads s.place (settled s is) (text_from s is)
reads p _ s e none = ended s.place
reads p _ s e (one_token {x = x} {v} {w} {is} h word ends r) =
    let t = reads place.Token is (past_token s v.kind) refl r in
    after_gap s.place (placed s v.kind x) (depth s v.kind) (w ++ text_from (past_token s v.kind) is) _
    (fits_laid s.place (begins s v.kind || is_comment s.place) x (or_last (begins s v.kind) (is_comment s.place))
    (subst (λ q. fits q x ≡ true) (sym e) h))
    (token_read v w is (settled (past_token s v.kind) is) (text_from (past_token s v.kind) is) (placed s v.kind x) word
    (λ f. settled_none (past_token s v.kind) is (ends f)) t)
reads p _ s e (one_comment {x = x} {c} {is} h line r) =
    let t = reads place.Comment is (past_comment s) refl r in
    after_gap s.place x s.level (c ++ text_from (past_comment s) is) _ (subst (λ q. fits q x ≡ true) (sym e) h)
    (comment_read c (settled (past_comment s) is) (text_from (past_comment s) is) x line t)

-- the layout of a text is read as the items that it lays
pub keeps_items : KeepsItems
unfolding laid_out items
keeps_items z = reads place.Nothing (items z) start refl (are_items z zero false space.First place.Nothing refl)
