-- Pictures in SVG, to the letter. This project's own program.
use Rattle.std.specs.Char.{encode_utf8}
use Rattle.std.specs.Fmt.{decimal}
use Rattle.std.specs.Prelude.{◌≡◌, ℕ, ◌==◌, List, [], ◌∷◌, ◌++◌, Result, OnOk, codes, flat_map, string_bytes, if◌then◌else◌}
use Rattle.std.specs.Str.{chars}
use Rattle.flt_explain_picture.specs.declared.element.Area.{Area}
use Rattle.flt_explain_picture.specs.declared.element.Colour.{Colour}
use Rattle.flt_explain_picture.specs.declared.element.Colour.TheVariants as colours
use Rattle.flt_explain_picture.specs.declared.element.Element.{Element}
use Rattle.flt_explain_picture.specs.declared.element.Element.TheVariants as elements
use Rattle.flt_explain_picture.specs.declared.element.Look.{Look}
use Rattle.flt_explain_picture.specs.declared.element.Look.TheVariants as looks

abbrev pub Text : Type 0
Text = List ℕ

-- this text stands after what was written
abbrev pub Puts : {E : Type 0} → Result (Unit {0}) E → Text → Text → Text → Type 0
Puts r old new text = OnOk r (new ≡ old ++ text)

-- ---- words

-- a letter, or its name where it would be markup
abbrev pub escaped_letter : ℕ → Text
escaped_letter c =
    if c == 60 then codes "&lt;" else (if c == 62 then codes "&gt;" else (if c == 38 then codes "&amp;" else encode_utf8 c))

-- words without markup
unfoldable pub escaped : Text → Text
escaped words = flat_map escaped_letter (chars words)

-- a title, which is shown while a pointer is over what it stands in
unfoldable pub title_of : Text → Text
title_of title = codes "<title>" ++ escaped title ++ codes "</title>"

-- a hint; nothing where it has no letters
abbrev pub hint_of : Text → Text
hint_of [] = []
hint_of (c ∷ hint) = title_of (c ∷ hint)

-- ---- elements

-- a colour, as red, green and blue
abbrev pub colour_word : Colour → Text
colour_word colours.Blue = codes "#3465a4"
colour_word colours.Grey = codes "#909090"
colour_word colours.Orange = codes "#c07818"
colour_word colours.Green = codes "#4e8a3a"
colour_word colours.Purple = codes "#7a5a9a"
colour_word colours.Pink = codes "#fde3e6"
colour_word colours.White = codes "#ffffff"

-- what words look like
abbrev pub look_words : Look → Text
look_words looks.Plain = codes "fill=\"#202020\""
look_words looks.Faint = codes "fill=\"#808080\""
look_words looks.Before = codes "fill=\"#808080\" text-anchor=\"end\""
look_words looks.Bad = codes "fill=\"#b00020\" font-weight=\"bold\""
look_words looks.Inside = codes "fill=\"#ffffff\" text-anchor=\"middle\""
look_words looks.Above = codes "fill=\"#808080\" text-anchor=\"middle\""
look_words looks.Title = codes "fill=\"#202020\" font-weight=\"bold\""

-- an attribute that is a number, behind a blank
unfoldable pub attribute : Text → ℕ → Text
attribute name number = codes " " ++ name ++ codes "=\"" ++ decimal number ++ codes "\""

-- an attribute that is a word, behind a blank
unfoldable pub setting : Text → Text → Text
setting name word = codes " " ++ name ++ codes "=\"" ++ word ++ codes "\""

-- where a box is, and how large
unfoldable pub area_of : Area → Text
area_of area =
    attribute (codes "x") area.x ++ attribute (codes "y") area.y
    ++ attribute (codes "width") area.width ++ attribute (codes "height") area.height

-- a filled box
unfoldable pub fill : Area → Colour → Text
fill area colour =
    codes "<rect" ++ area_of area ++ attribute (codes "rx") 3 ++ setting (codes "fill") (colour_word colour) ++ codes "/>\n"

-- a line from one height to another
unfoldable pub rule : ℕ → ℕ → ℕ → Text
rule x top bottom =
    codes "<line" ++ attribute (codes "x1") x ++ attribute (codes "y1") top ++ attribute (codes "x2") x ++ attribute (codes "y2") bottom
    ++ setting (codes "stroke") (codes "#a0a0a0") ++ attribute (codes "stroke-width") 2 ++ codes "/>\n"

-- where words begin, and what they look like
unfoldable pub place : ℕ → ℕ → Look → Text
place x y look = codes "<text" ++ attribute (codes "x") x ++ attribute (codes "y") y ++ codes " " ++ look_words look ++ codes ">"

-- words with a hint, both without markup
unfoldable pub words_at : ℕ → ℕ → Look → Text → Text → Text
words_at x y look words hint = place x y look ++ hint_of hint ++ escaped words ++ codes "</text>\n"

-- a shape, or words
abbrev pub written : Element → Text
written (elements.Fill area colour) = fill area colour
written (elements.Rule x top bottom) = rule x top bottom
written (elements.Words x y look words hint) = words_at x y look (string_bytes words) (string_bytes hint)

-- ---- the picture

-- the beginning of a picture of some size
unfoldable pub sized : ℕ → ℕ → Text
sized width height =
    codes "<svg xmlns=\"http://www.w3.org/2000/svg\" role=\"img\" font-family=\"monospace\" font-size=\"12\""
    ++ (attribute (codes "width") width ++ (attribute (codes "height") height ++ codes ">\n"))

-- a box under all of it
abbrev pub ground : ℕ → ℕ → Area
ground width height = record { x = 0; y = 0; width = width; height = height }

-- the beginning of a picture with a title: this, a white ground, and the title in the first line
unfoldable pub opening : ℕ → ℕ → Text → Text
opening width height title =
    sized width height ++ title_of title ++ codes "\n" ++ fill (ground width height) colours.White
    ++ words_at 35 16 looks.Title title []

-- the picture of some size that has this title and these elements
unfoldable pub picture : ℕ → ℕ → Text → List Element → Text
picture width height title elements = opening width height title ++ flat_map written elements ++ codes "</svg>"

-- a picture that has this title
abbrev pub IsPicture : Text → Text → Type 0
IsPicture title text = (width height : ℕ) × (elements : List Element) × (text ≡ picture width height title elements)
