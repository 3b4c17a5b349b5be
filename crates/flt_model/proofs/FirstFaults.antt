-- A text has one first fault at most, and a journal's text has none.
use Rattle.std.proofs.Common.{◌≡◌, ℕ, suc, [], ◌∷◌, ◌++◌, inl, inr, ap, sym, refl, ◌∙◌, append_assoc, append-nil}
use Rattle.std.proofs.lemmas.List.{append_cancel_left}
use Rattle.std.specs.Prelude.{◌⊎◌, ◌≢◌}
use Rattle.flt_model.specs.Streams.{Text}
use Rattle.flt_model.specs.JournalText.{Entries, IsJournal, IsFirstFault, line_ends, spelling}

-- all but the first byte
abbrev but_first : Text → Text
but_first [] = []
but_first (b ∷ text) = text

-- a text goes on with `more` behind the bytes of a fault, of which a byte in front begins no journal
record Goes (text given left : Text) : Type 0 where
  more : Text
  parts : text ≡ given ++ more
  behind : left ≡ but_first more
  wrong : (b : ℕ) (rest others : Text) (entries : Entries) → IsJournal entries → more ≡ b ∷ rest → spelling entries ≢ given ++ b ∷ others

goes : (text : Text) (line : ℕ) (left : Text) → (f : IsFirstFault text line left) → Goes text f.given left
goes text line left f = by f.stopped
  where
    by : ((b : ℕ) × (text ≡ f.given ++ b ∷ left)
        × ((entries : Entries) → IsJournal entries → (others : Text) → spelling entries ≢ f.given ++ b ∷ others))
        ⊎ ((text ≡ f.given) × (left ≡ []) × ((entries : Entries) → IsJournal entries → spelling entries ≢ f.given)) → Goes text f.given left
    by (inl x) =
        record {
          more = x.0 ∷ left;
          parts = x.1;
          behind = refl;
          wrong = λ b rest others entries good e h. x.2 entries good others
              (let same : b ≡ x.0 = cc in h ∙ ap (λ c. f.given ++ c ∷ others) same);
        }
    by (inr x) =
        record { more = []; parts = x.0 ∙ sym (append-nil f.given); behind = x.1; wrong = λ b rest others entries good e h. absurd (cc) }

-- of two fronts of a text one goes on with the other
data Fronts (g h u v : Text) : Type 0 where
  first : (w : Text) → h ≡ g ++ w → u ≡ w ++ v → Fronts g h u v
  second : (w : Text) → g ≡ h ++ w → v ≡ w ++ u → Fronts g h u v

fronts_more : (a b : ℕ) (g h u v : Text) → a ≡ b → Fronts g h u v → Fronts (a ∷ g) (b ∷ h) u v
fronts_more a b g h u v e (first w p q) = first w (cc) q
fronts_more a b g h u v e (second w p q) = second w (cc) q

fronts : (g h u v : Text) → g ++ u ≡ h ++ v → Fronts g h u v
fronts [] h u v e = first h refl e
fronts (a ∷ g) [] u v e = second (a ∷ g) refl (sym e)
fronts (a ∷ g) (b ∷ h) u v e =
    let head : a ≡ b = cc in
    let tail : g ++ u ≡ h ++ v = cc in
    fronts_more a b g h u v head (fronts g h u v tail)

-- bytes that begin a journal don't go past a fault
not_past : (text given left w rest : Text) (entries : Entries) → (f : Goes text given left) → IsJournal entries →
    spelling entries ≡ (given ++ w) ++ rest → (v : Text) → f.more ≡ w ++ v → w ≡ []
not_past text given left [] rest entries f good begun v e = refl
not_past text given left (b ∷ w) rest entries f good begun v e =
    absurd (f.wrong b (w ++ v) (w ++ rest) entries good e (begun ∙ append_assoc given (b ∷ w) rest))

-- the bytes before two faults of a text are the same
same_given : (text : Text) (line : ℕ) (left : Text) (other_line : ℕ) (other_left : Text) → (f : IsFirstFault text line left) →
    (g : IsFirstFault text other_line other_left) → f.given ≡ g.given
same_given text line left other_line other_left f g =
    by (fronts f.given g.given (goes text line left f).more (goes text other_line other_left g).more
    (sym (goes text line left f).parts ∙ (goes text other_line other_left g).parts))
  where
    by : Fronts f.given g.given (goes text line left f).more (goes text other_line other_left g).more → f.given ≡ g.given
    by (first w p q) =
        let none : w ≡ [] =
        not_past text f.given left w g.rest g.whose (goes text line left f) g.journal (g.begun ∙ ap (λ z. z ++ g.rest) p) _ q in
        sym (p ∙ ap (λ z. f.given ++ z) none ∙ append-nil f.given)
    by (second w p q) =
        let none : w ≡ [] =
        not_past text g.given other_left w f.rest f.whose (goes text other_line other_left g) f.journal
        (f.begun ∙ ap (λ z. z ++ f.rest) p) _ q in
        p ∙ ap (λ z. g.given ++ z) none ∙ append-nil g.given

-- two first faults of a text are one
pub same_fault : (text : Text) (line : ℕ) (left : Text) (other_line : ℕ) (other_left : Text) → IsFirstFault text line left →
    IsFirstFault text other_line other_left → (line ≡ other_line) × (left ≡ other_left)
same_fault text line left other_line other_left f g =
    let a = goes text line left f in
    let b = goes text other_line other_left g in
    let given = same_given text line left other_line other_left f g in
    let more : a.more ≡ b.more =
    append_cancel_left f.given a.more b.more (sym a.parts ∙ b.parts ∙ ap (λ z. z ++ b.more) (sym given)) in
    (f.number ∙ ap (λ z. suc (line_ends z)) given ∙ sym g.number, a.behind ∙ ap but_first more ∙ sym b.behind)

-- the text of a journal has no fault
pub no_fault : (entries : Entries) (line : ℕ) (left : Text) → IsJournal entries → IsFirstFault (spelling entries) line left → ⊥
no_fault entries line left good f = by f.stopped
  where
    by : ((b : ℕ) × (spelling entries ≡ f.given ++ b ∷ left)
        × ((more : Entries) → IsJournal more → (others : Text) → spelling more ≢ f.given ++ b ∷ others))
        ⊎ ((spelling entries ≡ f.given) × (left ≡ []) × ((more : Entries) → IsJournal more → spelling more ≢ f.given)) → ⊥
    by (inl x) = x.2 entries good left x.1
    by (inr x) = x.2 entries good x.0
