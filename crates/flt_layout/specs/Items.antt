-- What a text consists of, from left to right: its tokens and its comments.
use Rattle.std.specs.Prelude.{ℕ, zero, suc, ◌-◌, Bool, true, false, not, ◌&&◌, if◌then◌else◌, ◌==◌, List, [], ◌∷◌, take}
use Rattle.flt_tree.specs.Names.{Text}
use Rattle.flt_syntax.specs.Lex.{is_blank, is_fault, token}
use Rattle.flt_syntax.specs.declared.token.Word.{Word}
use Rattle.flt_layout.specs.declared.space.Space.{Space}
use Rattle.flt_layout.specs.declared.space.Space.TheVariants as space

-- a token or a comment: where it is from the item before, and its bytes
pub data Item : Type 0 where
  a_token : Space → Word → Text → Item
  a_comment : Space → Text → Item

-- a line feed further on
abbrev pub fed : Space → Space
fed space.First = space.First
fed space.Beside = space.Below
fed space.Below = space.Apart
fed space.Apart = space.Apart

-- a byte further on
abbrev pub moved : ℕ → Space → Space
moved b x = if b == 10 then fed x else x

-- whether a text has no byte
abbrev pub is_none : Text → Bool
is_none [] = true
is_none (b ∷ z) = false

-- a byte before a text, unless it is a blank at the end
abbrev pub before : ℕ → Text → Text
before b z = if is_blank b && is_none z then [] else b ∷ z

-- the comment at the front of a text: up to the line feed, without the blanks at its end
unfoldable pub comment : Text → Text
comment [] = []
comment (b ∷ z) = if b == 10 then [] else before b (comment z)

-- The items of a text. The number counts the bytes that are left of a token, the choice says whether a comment is being read, and the
-- space is that since the item before. After a fault nothing is read.
abbrev pub items_from : ℕ → Bool → Space → Text → List Item
items_from left inside x [] = []
items_from (suc left) inside x (b ∷ z) = items_from left inside x z
items_from zero true x (b ∷ z) = items_from zero (not (b == 10)) (moved b x) z
items_from zero false x (b ∷ z) =
    if b == 35 then a_comment x (comment (b ∷ z)) ∷ items_from zero true space.Beside z
    else (if is_blank b then items_from zero false (moved b x) z
    else (let t = token (b ∷ z) in
    a_token x t.0 (take t.1 (b ∷ z)) ∷ (if is_fault t.0.kind then [] else items_from (t.1 - 1) false space.Beside z)))

-- the items of a text
unfoldable pub items : Text → List Item
items z = items_from zero false space.First z

-- the comments among items, each with where it is
abbrev pub comments_of : List Item → List (Space × Text)
comments_of [] = []
comments_of (a_token x v w ∷ is) = comments_of is
comments_of (a_comment x c ∷ is) = (x, c) ∷ comments_of is
