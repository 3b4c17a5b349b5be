-- What words say, wherever they are read: the words are pieces, and their tokens are as a production asks.
use Rattle.std.proofs.Common.{◌≡◌, ℕ, ◌<◌, ◌^◌, true, List, [], ◌∷◌, ◌++◌, sym, ap, subst, ◌∙◌}
use Rattle.std.proofs.lemmas.List.{append-nil}
use Rattle.std.specs.Prelude.{Option, Some, decimal}
use Rattle.flt_syntax.specs.Cursor as cursor
use Rattle.flt_syntax.specs.Cursor.{Input, bytes_of}
use Rattle.flt_tree.specs.Names.{Text, is_name}
use Rattle.flt_syntax.specs.Lex.{word, keyword}
use Rattle.flt_print.specs.Vocabulary.{spelling}
use Rattle.flt_syntax.specs.Words as words
use Rattle.flt_syntax.specs.Words.{Next, Meant, NameAt, NumberAt}
use Rattle.flt_syntax.specs.declared.token.Kind.{Kind}
use Rattle.flt_syntax.specs.declared.token.Token.{Token}
use Rattle.flt_syntax.specs.declared.token.Word.{Word}
use Rattle.flt_syntax.specs.Written.{Piece, Pieces, none, more, Tells, told, tell}
use Rattle.flt_print.proofs.Pieces.{reads_back, spelled, named, named_word, numeral, decimal_piece}

-- from where to where
abbrev pub Span : Type 1
Span = Input → Input → Type 0

-- one behind the other
abbrev pub Both : Span → Span → Span
Both P Q = λ i o. (j : Input) × P i j × Q j o

pub record Says (text : Text) (ws : List Text) (P : Span) : Type 0 where
  pub vs : List Word
  pub pieces : Pieces ws vs
  pub reads : (i o : Input) → Tells text ws vs i o → P i o

pieces_append : {ws us : List Text} {vs ys : List Word} → Pieces ws vs → Pieces us ys → Pieces (ws ++ us) (vs ++ ys)
pieces_append none q = q
pieces_append (more p ps) q = more p (pieces_append ps q)

split : (text : Text) (ws us : List Text) (vs ys : List Word) → Pieces ws vs → (i o : Input) → Tells text (ws ++ us) (vs ++ ys) i o →
    Both (Tells text ws vs) (Tells text us ys) i o
split text _ us _ ys none i o t = (i, told, t)
split text _ us _ ys (more {ws = ws} {vs} p ps) _ o (tell {i = i} e h t) =
    let r = split text ws us vs ys ps i o t in (r.0, tell e h r.1, r.2)

module _ {text : Text} where
  -- words that say one thing and words that say another say both, one after the other
  pub says_both : {ws us : List Text} {P Q : Span} → Says text ws P → Says text us Q → Says text (ws ++ us) (Both P Q)
  says_both {ws} {us} a b =
      record {
        vs = a.vs ++ b.vs;
        pieces = pieces_append a.pieces b.pieces;
        reads = λ i o t. let r = split text ws us a.vs b.vs a.pieces i o t in (r.0, a.reads i r.0 r.1, b.reads r.0 o r.2);
      }

  -- words that say something say what follows from it
  pub says_by : {ws : List Text} {P Q : Span} → Says text ws P → ((i o : Input) → P i o → Q i o) → Says text ws Q
  says_by a f = record { vs = a.vs; pieces = a.pieces; reads = λ i o t. f i o (a.reads i o t) }

  -- equal words say the same
  pub says_same : {P : Span} (ws us : List Text) → us ≡ ws → Says text ws P → Says text us P
  says_same {P} ws us e a = subst (λ x. Says text x P) (sym e) a

  -- words say what they say with nothing behind them
  pub says_line : {P : Span} (ws : List Text) → Says text ws P → Says text (ws ++ []) P
  says_line ws a = says_same ws (ws ++ []) (append-nil ws) a

  read_none : (P : Span) → ((i : Input) → P i i) → (i o : Input) → Tells text [] [] i o → P i o
  read_none P f _ _ (told {i}) = f i

  -- no words say what needs none
  pub says_none : {P : Span} → ((i : Input) → P i i) → Says text [] P
  says_none f = record { vs = []; pieces = none; reads = read_none _ f }

  read_word : (P : Span) (w : Text) (v : Word) → ((t : Token) (o : Input) → t.word ≡ v → bytes_of text t ≡ w → P (t ∷ o) o) →
      (i o : Input) → Tells text (w ∷ []) (v ∷ []) i o → P i o
  read_word P w v f _ _ (tell {t = t} e h (told {i})) = f t i e h

  pub says_word : {P : Span} (w : Text) (v : Word) → Piece w v →
      ((t : Token) (o : Input) → t.word ≡ v → bytes_of text t ≡ w → P (t ∷ o) o) →
      Says text (w ∷ []) P
  says_word w v p f = record { vs = v ∷ []; pieces = more p none; reads = read_word _ w v f }

  -- the spelling of a kind says that kind, where it is read as one word
  pub says_next : (kd : Kind) → Piece (spelling kd) (word kd) → Says text (spelling kd ∷ []) (Next kd)
  says_next kd p = says_word (spelling kd) (word kd) p (λ t o e h. words.next (ap (λ w. w.kind) e))

  -- the spelling of a kind that reads back says that kind
  pub says_kind : (kd : Kind) → reads_back kd ≡ true → Says text (spelling kd ∷ []) (Next kd)
  says_kind kd e = says_next kd (spelled kd e)

  -- the spelling of a kind says what the kind stands for in a table
  pub says_meant : {A : Type 0} (table : Kind → Option A) (kd : Kind) (a : A) → reads_back kd ≡ true → table kd ≡ Some a →
      Says text (spelling kd ∷ []) (λ i o. Meant table i a o)
  says_meant table kd a e h = says_word (spelling kd) (word kd) (spelled kd e) (λ t o f l. words.meant (ap (λ w. table w.kind) f ∙ h))

  -- a name says itself
  pub says_name : (w : Text) → is_name w ≡ true → Says text (w ∷ []) (λ i o. NameAt text i w o)
  says_name w e =
      says_word w (keyword w) (named w e) (λ t o f h. subst (λ x. NameAt text (t ∷ o) x o) h
      (words.name (ap (λ x. cursor.is_word x.kind) f ∙ named_word w e)))

  -- a number below 2^64 says itself
  pub says_number : (n : ℕ) → n < 2 ^ 64 → Says text (decimal n ∷ []) (λ i o. NumberAt i n o)
  says_number n fits =
      says_word (decimal n) (numeral n) (decimal_piece n fits) (λ t o f h. subst (λ x. NumberAt (t ∷ o) x o) (ap (λ x. x.value) f)
      (words.number (ap (λ x. x.kind) f)))
