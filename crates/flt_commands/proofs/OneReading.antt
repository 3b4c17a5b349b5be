-- Where the inputs give one thing for each name: the texts that are read are one list, or one name is the first that can't be read.
use Rattle.std.proofs.Common.{◌≡◌, ◌≢◌, ℕ, ◌+◌, ◌≤◌, Bool, true, false, ◌&&◌, ◌||◌, List, [], ◌∷◌, ◌++◌, Some}
use Rattle.std.proofs.Common.{None, Result, Err, refl, sym, ap, ◌∙◌, subst, arith, inl, inr, cond, count_by}
use Rattle.std.proofs.lemmas.Bool.{and_parts}
use Rattle.std.proofs.lemmas.List.Sums.{sum_by-append, sum_by-cons}
use Rattle.std.proofs.lemmas.Option.{none-some, same_Some}
use Rattle.std.specs.List.{list_any}
use Rattle.flt_files.proofs.OnePlace.{Places, same, earlier, later, places, zipped_at, zipped_once}
use Rattle.flt_files.specs.Inputs.{AreGiven, Giving, IsMissing, IsUnread, IsUnreadable}
use Rattle.flt_files.specs.Inputs.{NamesFail, Says, unread, given, Text, is_standard}
use Rattle.flt_commands.specs.Answer.{answered}
use Rattle.flt_commands.specs.Single.{AreSame, GivesOne, SaysOne, told}
use Rattle.flt_commands.specs.declared.answer.Answer.{Answer}
use Rattle.flt_files.specs.declared.failure.Failure.{Failure}
use Rattle.flt_files.specs.declared.failure.Failure.TheVariants.{CannotRead, OutOfMemory}

-- ---- counting

module _ {X : Type 0} (p : X → Bool) where
  one_of : (b : Bool) (n : ℕ) (rest : Bool) → (b || rest) ≡ true → (rest ≡ true → 1 ≤ n) → 1 ≤ cond b 1 0 + n
  one_of true n rest h more = omega arith
  one_of false n rest h more = let e = more h in omega arith

  some_counted : (xs : List X) → list_any p xs ≡ true → 1 ≤ count_by p xs
  some_counted [] h = absurd (cc h)
  some_counted (x ∷ xs) h =
      let first : count_by p (x ∷ xs) ≡ cond (p x) 1 0 + count_by p xs = sum_by-cons (λ z. cond (p z) 1 0) x xs in
      rw first (one_of (p x) (count_by p xs) (list_any p xs) h (some_counted xs))

  counted_on : (b : Bool) (n : ℕ) → b ≡ true → 1 ≤ cond b 1 0 + n
  counted_on true n h = omega arith
  counted_on false n h = absurd (cc h)

  -- one that passes behind one that passes makes two
  pub counts_two : (before after : List X) (x : X) → p x && list_any p before ≡ true → count_by p (before ++ x ∷ after) ≤ 1 → ⊥
  counts_two before after x h once =
      let parts = and_parts (p x) (list_any p before) h in
      let all : count_by p (before ++ x ∷ after) ≡ count_by p before + count_by p (x ∷ after) =
      sum_by-append (λ z. cond (p z) 1 0) before (x ∷ after) in
      let first : count_by p (x ∷ after) ≡ cond (p x) 1 0 + count_by p after = sum_by-cons (λ z. cond (p z) 1 0) x after in
      let front = some_counted before parts.1 in
      let back = counted_on (p x) (count_by p after) parts.0 in
      absurd (omega arith)

-- ---- the first name that can't be read

-- why a name can't be read
abbrev pub unread_name : Text → Failure
unread_name name = CannotRead (record { ref_ptr = (0, 0); now = name })

-- a name that can't be read is told by its failure
pub told_unread : (name : Text) (f : Failure) → IsUnread name f → told f ≡ unread_name name
told_unread name (CannotRead given_name) h = ap unread_name h
told_unread name f h = absurd h

unreadable : (gives : Giving) (names : List Text) (f : Failure) → f ≢ OutOfMemory → NamesFail gives names f → IsUnreadable gives names f
unreadable gives names OutOfMemory other fails = absurd (other refl)
unreadable gives names f other fails = fails

module _ (gives : Giving) (one : GivesOne gives) where
  -- the bytes of names are one list
  texts_once : (names texts others : List Text) → AreGiven gives names texts → AreGiven gives names others → texts ≡ others
  texts_once names texts others a b =
      zipped_once (λ name text. gives name (Some text))
      (λ name x y h k. same_Some x y (one name (Some x) (Some y) h k)) names texts others a.each b.each

  -- none of the names that are given is missing
  not_missing : (before after : List Text) (name : Text) (texts : List Text) → AreGiven gives (before ++ name ∷ after) texts →
      IsMissing gives before name → ⊥
  not_missing before after name texts there (inl again) = counts_two is_standard before after name again there.once
  not_missing before after name texts there (inr none) =
      let found = zipped_at (λ name text. gives name (Some text)) before after name texts there.each in
      none-some found.0 (one name None (Some found.0) none found.1)

  -- what is read isn't missing
  all_or_none : (names : List Text) (f : Failure) (texts : List Text) → IsUnreadable gives names f → AreGiven gives names texts → ⊥
  all_or_none names f texts fails there =
      not_missing fails.before fails.after fails.name texts (subst (λ ns. AreGiven gives ns texts) fails.parts there) fails.missing

  same_name : (names : List Text) (f h : Failure) (a : IsUnreadable gives names f) (b : IsUnreadable gives names h) →
      Places a.before a.name b.before b.name → a.name ≡ b.name
  same_name names f h a b (same before name) = name
  same_name names f h a b (earlier between before) =
      absurd (not_missing a.before between a.name b.texts (subst (λ ns. AreGiven gives ns b.texts) before b.given) a.missing)
  same_name names f h a b (later between before) =
      absurd (not_missing b.before between b.name a.texts (subst (λ ns. AreGiven gives ns a.texts) before a.given) b.missing)

  unread_once : (names : List Text) (f h : Failure) → IsUnreadable gives names f → IsUnreadable gives names h → told f ≡ told h
  unread_once names f h a b =
      let name = same_name names f h a b (places a.before a.after b.before b.after a.name b.name (sym a.parts ∙ b.parts)) in
      told_unread a.name f a.told ∙ ap unread_name name ∙ sym (told_unread b.name h b.told)

  -- what is said where names are read is one thing, if it is for what they give
  pub says_once : {A : Type 0} (kind : A → Answer) (names : List Text) (IsSaidOf : List Text → Result A Failure → Type 0) →
      SaysOne kind IsSaidOf → (texts more : List Text) (a b : Result A Failure) → Says gives names IsSaidOf texts a →
      Says gives names IsSaidOf more b → AreSame (answered kind a) (answered kind b)
  says_once kind names IsSaidOf once texts more _ _ (unread f fails) (unread h others) p q =
      ap Err (unread_once names f h (unreadable gives names f (λ e. p (ap Err e)) fails)
      (unreadable gives names h (λ e. q (ap Err e)) others))
  says_once kind names IsSaidOf once texts more _ _ (unread f fails) (given b there said) p q =
      absurd (all_or_none names f more (unreadable gives names f (λ e. p (ap Err e)) fails) there)
  says_once kind names IsSaidOf once texts more _ _ (given a there said) (unread h others) p q =
      absurd (all_or_none names h texts (unreadable gives names h (λ e. q (ap Err e)) others) there)
  says_once kind names IsSaidOf once texts more _ _ (given a there said) (given b also other) p q =
      once texts a b said (subst (λ ts. IsSaidOf ts b) (sym (texts_once names texts more there also)) other) p q
