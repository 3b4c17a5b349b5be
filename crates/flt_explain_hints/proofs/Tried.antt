-- What is tried by the reader may stand: where the text with it there fails, it fails past it.
use Rattle.std.proofs.Common.{◌≡◌, ◌↔◌, Bool, true, false, List, [], ◌∷◌, ◌++◌, Result, Ok, Err, map, refl, sym, ap, ◌∙◌, subst}
use Rattle.std.proofs.lemmas.Bool.{true≢false}
use Rattle.std.specs.List.{filter}
use Rattle.flt_syntax.specs.File.{filter_of}
use Rattle.flt_syntax.specs.TextFails.{Fails}
use Rattle.flt_syntax.specs.Vocabulary.{vocabulary}
use Rattle.flt_syntax.specs.declared.fault.SyntaxFault.{SyntaxFault}
use Rattle.flt_syntax.specs.declared.token.Kind.{Kind}
use Rattle.flt_tree.specs.Names.{Text}
use Rattle.flt_tree.specs.declared.filter.Filter.{Filter}
use Rattle.flt_explain_hints.specs.Choices.{AreChoices, ArePossible, none, may, may_not, TakesName}
use Rattle.flt_explain_hints.specs.Choices.{entry_of, one, possible, possible_names, symbols}
use Rattle.flt_explain_hints.specs.Names.{IsNew, declared_names}
use Rattle.flt_explain_hints.specs.Trial.{Gap, MayStand, is_past, line_behind, may_stand, reads_on, tried}
use Rattle.flt_explain_hints.specs.declared.choices.Choices.{Choices}

-- the reader reports where a text fails
abbrev TheFaultIsTold : Type 0
TheFaultIsTold = (text : Text) (f : SyntaxFault) → (filter_of text ≡ Err f) ↔ Fails text f

module _ (told : TheFaultIsTold) (gap : Gap) (word : Text) where
  -- what was read past the word fails nowhere else
  past : (r : Result Filter SyntaxFault) → filter_of (tried gap word) ≡ r → reads_on (line_behind gap.before) r ≡ true → MayStand gap word
  past (Ok x) read on f h = absurd (cc (read, (told (tried gap word) f).1 h))
  past (Err e) read on f h =
      let same : e ≡ f = cc (read, (told (tried gap word) f).1 h) in
      subst (λ g. is_past (line_behind gap.before) g ≡ true) same on

  -- what wasn't fails before its end
  before : (r : Result Filter SyntaxFault) → filter_of (tried gap word) ≡ r → MayStand gap word → reads_on (line_behind gap.before) r ≡ true
  before (Ok x) read h = refl
  before (Err e) read h = h e ((told (tried gap word) e).0 read)

  -- a word that is tried may stand
  pub tried_may : may_stand gap word ≡ true → MayStand gap word
  unfolding may_stand
  tried_may on = past (filter_of (tried gap word)) refl on

  -- and one that may stand is read
  pub may_tried : MayStand gap word → may_stand gap word ≡ true
  unfolding may_stand
  may_tried h = before (filter_of (tried gap word)) refl h

  -- where the text with it there fails, that says whether it may
  pub tried_fails : (f : SyntaxFault) → Fails (tried gap word) f → (b : Bool) →
      b ≡ is_past (line_behind gap.before) f → b ≡ may_stand gap word
  unfolding may_stand
  tried_fails f h b same = same ∙ sym (ap (reads_on (line_behind gap.before)) ((told (tried gap word) f).1 h))

  pub whether : (b : Bool) → b ≡ may_stand gap word → (b ≡ true) ↔ MayStand gap word
  whether b same = ((λ on. tried_may (sym same ∙ on)), (λ h. same ∙ may_tried h))

module _ (told : TheFaultIsTold) (gap : Gap) where
  -- of words that are tried one by one, those that are read may stand there, and no other
  module _ {A : Type 0} (word : A → Text) where
    by_trial : (e : A) (es : List A) (b : Bool) → may_stand gap (word e) ≡ b →
        ArePossible gap word es (filter (λ x. may_stand gap (word x)) es) →
        ArePossible gap word (e ∷ es) (filter (λ x. may_stand gap (word x)) (e ∷ es))
    by_trial e es true on rest = rw on (may (tried_may told gap (word e) on) rest)
    by_trial e es false on rest = rw on (may_not (λ h. true≢false (sym (may_tried told gap (word e) h) ∙ on)) rest)

    filtered : (es : List A) → ArePossible gap word es (filter (λ x. may_stand gap (word x)) es)
    filtered [] = none
    filtered (e ∷ es) = by_trial e es (may_stand gap (word e)) refl (filtered es)

    and_then : (a b c d : List A) → ArePossible gap word a b → ArePossible gap word c d → ArePossible gap word (a ++ c) (b ++ d)
    and_then [] [] c d none q = q
    and_then [] (g ∷ b) c d p q = elim p [ ]
    and_then (e ∷ a) (g ∷ b) c d (may h p) q = may h (and_then a b c d p q)
    and_then (e ∷ a) b c d (may_not h p) q = may_not h (and_then a b c d p q)

  possible_there : (table : List (Text × Kind)) → ArePossible gap (λ e. e.0) table (possible gap table)
  unfolding possible
  possible_there table = filtered (λ e. e.0) table

  names_there : (names : List Text) → ArePossible gap (λ n. n) names (possible_names gap names)
  unfolding possible_names
  names_there names = filtered (λ n. n) names

  -- a name that is new to a text says whether one may stand there
  pub takes_name : (text name : Text) (b : Bool) → IsNew text name → b ≡ may_stand gap name → TakesName text gap b
  takes_name text name b new same = record { name = name; new = new; taken = whether told gap name b same }

  -- what is tried to stand in a place are the choices there
  pub are_choices : (text : Text) (c : Choices) → map entry_of c.expected ≡ possible gap vocabulary ++ possible gap symbols →
      c.takes_number ≡ may_stand gap one → TakesName text gap c.takes_name →
      map (λ n. n.now) c.names ≡ possible_names gap (declared_names text) → AreChoices text gap c
  are_choices text c expected number name names = record {
    expected = rw expected (and_then (λ e. e.0) vocabulary _ symbols _ (possible_there vocabulary) (possible_there symbols));
    number = whether told gap one c.takes_number number;
    name = name;
    names = rw names (names_there (declared_names text));
  }

  -- a word that is tried with success may stand
  pub it_may : (word : Text) (b : Bool) → b ≡ may_stand gap word → b ≡ true → MayStand gap word
  it_may word b same on = tried_may told gap word (sym same ∙ on)
