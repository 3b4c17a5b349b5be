-- The turns that a machine takes are enough: nothing is left to be read.
use Rattle.std.proofs.Common.{◌≡◌, ℕ, zero, suc, ◌+◌, ◌-◌, ◌<◌, ◌≤◌, Bool, true, false, List, [], ◌∷◌, ◌++◌, length, take, drop}
use Rattle.std.proofs.Common.{refl, ap, ◌∙◌, sym, subst, arith, length-append, length-drop}
use Rattle.std.proofs.lemmas.List.{length-map}
use Rattle.std.specs.Prelude.{Option, Some, None, nat_lt, not, ◌||◌, ◌==◌, if◌then◌else◌}
use Rattle.flt_c_tokens.specs.declared.token.Token.{Token}
use Rattle.flt_c_macros.specs.declared.arguments.Search.{Search}
use Rattle.flt_c_macros.specs.declared.arguments.Stage.{Stage}
use Rattle.flt_c_macros.specs.declared.arguments.Stage.TheVariants.{Before, Within, Absent, Closed}
use Rattle.flt_c_macros.specs.declared.item.Item.{Item}
use Rattle.flt_c_macros.specs.declared.item.Item.TheVariants.{Read, End}
use Rattle.flt_c_macros.specs.declared.item.Word.{Word}
use Rattle.flt_c_macros.specs.declared.machine.Machine.{Machine}
use Rattle.flt_c_macros.specs.declared.machine.Prepared.{Prepared}
use Rattle.flt_c_macros.specs.declared.macros.Macro.{Macro}
use Rattle.flt_c_macros.specs.declared.macros.Macro.TheVariants.{Undefined, Plain, WithParameters, Undecided}
use Rattle.flt_c_macros.specs.declared.note.NoteKind.{NoteKind}
use Rattle.flt_c_macros.specs.declared.note.NoteKind.TheVariants as note
use Rattle.flt_c_macros.specs.Arguments.{are_given, commas_of, passed, unclosed}
use Rattle.flt_c_macros.specs.Bodies.{apart, filled, has_name, has_sign, words_of}
use Rattle.flt_c_macros.specs.Items.{colored, items_of, plain}
use Rattle.flt_c_macros.specs.Macros.{Known}
use Rattle.flt_c_macros.specs.Machines as machines
use Rattle.flt_c_macros.specs.Uses as spec
use Rattle.flt_c_macros.proofs.Uses.{read_turns, turns_over, words_length}

-- what is put in is paid, and a word is written at most
abbrev IsPaid : Machine → Machine → Type 0
IsPaid m v = (machines.size v ≤ machines.size m) × (v.left ≤ m.left) × (length v.written ≤ suc (length m.written))

-- a word is written
writes : (w : Word) (m v : Machine) → v.items ≡ m.items → v.left ≤ m.left → v.written ≡ m.written ++ w ∷ [] → IsPaid m v
writes w m v items left written =
    let e : length v.items ≡ length m.items = ap length items in
    let long : length v.written ≡ length m.written + 1 = ap length written ∙ length-append m.written (w ∷ []) in
    (omega (arith, e, left), left, omega (arith, long))

-- a name stays
stays : (t : Token) (m v : Machine) → v.items ≡ m.items → v.left ≤ m.left →
    v.written ≡ m.written ++ record { token = t; is_painted = true } ∷ [] → IsPaid m v
stays t m v items left written = writes (record { token = t; is_painted = true }) m v items left written

if_paid : (b : Bool) (m x y : Machine) → (b ≡ true → IsPaid m x) → (b ≡ false → IsPaid m y) → IsPaid m (if b then x else y)
if_paid true m x y left right = left refl
if_paid false m x y left right = right refl

within : (a b : ℕ) → nat_lt a b ≡ false → b ≤ a
within a b not_less = grind (arith, not_less)

room : (count names left : ℕ) → machines.is_large count names left ≡ false → count < left
room count names left fits = grind (arith, fits)

-- a body for which a machine has paid
entered : (name : ℕ) (words : List Word) (m v : Machine) → machines.size v + length words + 1 ≤ machines.size m → v.left ≤ m.left →
    v.written ≡ m.written → IsPaid m (machines.entered name words v)
entered name words m v few left written =
    let long : length (items_of words ++ End ∷ v.items) ≡ length words + suc (length v.items) =
    length-append (items_of words) (End ∷ v.items) ∙ ap (λ n. n + suc (length v.items)) (length-map words (λ w. Read w)) in
    let e : length v.written ≡ length m.written = ap length written in
    (omega (arith, long, few), left, omega (arith, e))

opened : (t : Token) (body : List Token) (m : Machine) → IsPaid m (machines.opened t body m)
opened t body m =
    let v = machines.paid (length body) m in
    if_paid (machines.is_large (length body) (length m.busy) m.left) m (machines.left_alone note.Large t m)
    (machines.entered t.word (words_of t body) v) (λ large. stays t m (machines.left_alone note.Large t m) refl (omega arith) refl)
    (λ fits. let few : length body < m.left = room (length body) (length m.busy) m.left fits in
    entered t.word (words_of t body) m v (omega (arith, words_length t body, few)) (omega arith) refl)

-- a body with its arguments: so many of its words are paid
put_in : (t : Token) (s : Search) (p : Prepared) (count : ℕ) (words : List Word) (m : Machine) → count < m.left →
    p.left ≤ m.left - (count + 1) → IsPaid m (spec.put_in t s p count words (machines.paid count m))
put_in t s p count words m some few =
    let v = machines.paid count m in
    let failed = machines.failed note.Large t s (record v { left = p.left }) in
    let passed_by = machines.passed_by s (p.left - (length words - count)) p.notes v in
    let short : length (drop (passed s) m.items) ≡ length m.items - passed s = length-drop (passed s) m.items in
    if_paid (nat_lt (p.left + count) (length words)) m failed (machines.entered t.word words passed_by)
    (λ large. stays t m failed refl (omega (arith, few)) refl)
    (λ fits. let most : length words ≤ p.left + count = within (p.left + count) (length words) fits in
    entered t.word words m passed_by (omega (arith, short, most, some, few)) (omega (arith, few)) refl)

-- arguments are put only in a body for which enough is left
given_room : (given deepest : Bool) (count names left : ℕ) →
    (if not given then Some note.Arguments else (if deepest || machines.is_large count names left then Some note.Large else None)) ≡ None →
    count < left
given_room given deepest count names left none = grind (arith, none)

module _ (read : Machine → Machine) (pays : (v : Machine) → (read v).left ≤ v.left) where
  chosen : (busy : List ℕ) (name : ℕ) (a : List Word) (p : Prepared) (b : Bool) →
      (if b then machines.with_argument name a (read (machines.alone busy a p.left)) p else machines.with_unread name a p).left ≤ p.left
  chosen busy name a p true = pays (machines.alone busy a p.left)
  chosen busy name a p false = omega arith

  prepared : (busy : List ℕ) (tokens : List Token) (names : List ℕ) (arguments : List (List Word)) (p : Prepared) →
      (spec.prepared read busy tokens names arguments p).left ≤ p.left
  prepared busy tokens [] arguments p = omega arith
  prepared busy tokens (name ∷ names) [] p = prepared busy tokens names [] (machines.with_unread name [] p)
  prepared busy tokens (name ∷ names) (a ∷ arguments) p =
      let first = chosen busy name a p (has_name name tokens) in
      omega (
        arith,
        first,
        prepared busy tokens names arguments
            (if has_name name tokens then machines.with_argument name a (read (machines.alone busy a p.left)) p
            else machines.with_unread name a p),
      )

  given_called : (t : Token) (names : List ℕ) (rest : Option ℕ) (body tokens : List Token) (s : Search) (m : Machine) →
      length body < m.left → IsPaid m (spec.given_called read t names rest body tokens s (machines.paid (length body) m))
  unfolding spec.given_called
  given_called t names rest body tokens s m some =
      let v = machines.paid (length body) m in
      let p = spec.prepared read (take s.names v.busy) tokens names s.arguments (machines.unprepared v.left) in
      let words = filled p.given rest t 0 body in
      if_paid (has_sign tokens) m (machines.failed note.Parameters t s v) (spec.put_in t s p (length body) words v)
      (λ sign. stays t m (machines.failed note.Parameters t s v) refl (omega arith) refl)
      (λ none. put_in t s p (length body) words m some
      (prepared (take s.names v.busy) tokens names s.arguments (machines.unprepared v.left)))

  called_by : (t : Token) (names : List ℕ) (rest : Option ℕ) (body : List Token) (s : Search) (why : Option NoteKind) (m : Machine) →
      (why ≡ None → length body < m.left) → IsPaid m (spec.called_by read t names rest body s why m)
  called_by t names rest body s (Some kind) m some = stays t m (machines.failed kind t s m) refl (omega arith) refl
  called_by t names rest body s None m some = given_called t names rest body (apart rest 0 body) s m (some refl)

  called_at : (depth : ℕ) (t : Token) (names : List ℕ) (rest : Option ℕ) (body : List Token) (s : Search) (stage : Stage) (m : Machine) →
      IsPaid m (spec.called_at depth read t names rest body s stage m)
  called_at depth t names rest body s Before m = writes (plain t) m (machines.wrote (plain t) m) refl (omega arith) refl
  called_at depth t names rest body s Absent m = writes (plain t) m (machines.wrote (plain t) m) refl (omega arith) refl
  called_at depth t names rest body s (Within more) m = stays t m (machines.failed (unclosed s) t s m) refl (omega arith) refl
  called_at depth t names rest body s Closed m =
      called_by t names rest body s (spec.refusal depth names rest body s m.left) m
      (given_room (are_given names rest s.arguments) (depth == 0) (length body) s.names m.left)

  called : (depth : ℕ) (source : List Token) (t : Token) (names : List ℕ) (rest : Option ℕ) (body : List Token) (m : Machine) →
      IsPaid m (spec.called depth read source t names rest body m)
  unfolding spec.called
  called depth source t names rest body m =
      let s = machines.searched source (commas_of names rest) m in
      if_paid (nat_lt m.after m.quiet) m (spec.called_at depth read t names rest body s s.stage m) (machines.wrote (plain t) m)
      (λ loud. called_at depth t names rest body s s.stage m)
      (λ quiet. writes (plain t) m (machines.wrote (plain t) m) refl (omega arith) refl)

  expanded : (depth : ℕ) (source : List Token) (w : Word) (what : Option Macro) (m : Machine) →
      IsPaid m (spec.expanded depth read source w what m)
  expanded depth source w (Some (Plain body)) m = opened w.token body m
  expanded depth source w (Some (WithParameters names rest body)) m = called depth source w.token names rest body m
  expanded depth source w (Some Undecided) m = stays w.token m (machines.left_alone note.Undecided w.token m) refl (omega arith) refl
  expanded depth source w (Some Undefined) m =
      writes (colored m.busy w) m (machines.wrote (colored m.busy w) m) refl (omega arith) refl
  expanded depth source w None m = writes (colored m.busy w) m (machines.wrote (colored m.busy w) m) refl (omega arith) refl

  stepped : (kept : List Bool) (macros : Known) (depth : ℕ) (source : List Token) (x : Item) (m : Machine) →
      IsPaid m (spec.stepped kept macros depth read source x m)
  stepped kept macros depth source End m = (omega arith, omega arith, omega arith)
  stepped kept macros depth source (Read w) m = expanded depth source w (spec.found kept macros m.busy w) m

-- ---- turns

nothing : (xs : List Item) → length xs ≤ 0 → xs ≡ []
nothing [] none = refl
nothing (x ∷ xs) none = absurd (omega (arith, none))

module _ (step : Item → Machine → Machine) (pays : (x : Item) (m : Machine) → IsPaid m (step x m)) where
  turn_pays : (xs : List Item) (m : Machine) → (spec.turn_by step xs m).left ≤ m.left
  turn_pays [] m = omega arith
  turn_pays (x ∷ xs) m = (pays x (record m { items = xs })).1

  turns_pay : (n : ℕ) (m : Machine) → (spec.turns step n m).left ≤ m.left
  turns_pay zero m = omega arith
  turns_pay (suc n) m =
      let first = turn_pays m.items m in omega (arith, first, turns_pay n (spec.turn_by step m.items m))

  -- a turn writes no more than it takes away
  turn_writes : (xs : List Item) (m : Machine) → m.items ≡ xs →
      length (spec.turn_by step xs m).written + machines.size (spec.turn_by step xs m) ≤ length m.written + machines.size m
  turn_writes [] m at = omega arith
  turn_writes (x ∷ xs) m at =
      let long : length m.items ≡ suc (length xs) = ap length at in
      let paid = pays x (record m { items = xs }) in
      omega (arith, long, paid.0, paid.2)

  turns_write : (n : ℕ) (m : Machine) →
      length (spec.turns step n m).written + machines.size (spec.turns step n m) ≤ length m.written + machines.size m
  turns_write zero m = omega arith
  turns_write (suc n) m =
      let first = turn_writes m.items m refl in omega (arith, first, turns_write n (spec.turn_by step m.items m))

  turn_ends : (n : ℕ) → ((v : Machine) → machines.size v ≤ n → (spec.turns step n v).items ≡ []) → (xs : List Item) (m : Machine) →
      m.items ≡ xs → machines.size m ≤ suc n → (spec.turns step n (spec.turn_by step xs m)).items ≡ []
  turn_ends n end [] m at few = ap (λ v. v.items) (turns_over step n m at) ∙ at
  turn_ends n end (x ∷ xs) m at few =
      let long : length m.items ≡ suc (length xs) = ap length at in
      let paid = (pays x (record m { items = xs })).0 in
      end (step x (record m { items = xs })) (omega (arith, long, paid, few))

  turns_end : (n : ℕ) (m : Machine) → machines.size m ≤ n → (spec.turns step n m).items ≡ []
  turns_end zero m few = nothing m.items (omega (arith, few))
  turns_end (suc n) m few = turn_ends n (turns_end n) m.items m refl few

module _ (kept : List Bool) (macros : Known) where
  pub read_pays : (depth : ℕ) (source : List Token) (m : Machine) → (spec.read kept macros depth source m).left ≤ m.left
  unfolding spec.read
  read_pays zero source m =
      turns_pay (spec.stepped kept macros zero (λ v. v) source)
      (stepped (λ v. v) (λ v. omega arith) kept macros zero source) (machines.size m) m
  read_pays (suc depth) source m =
      turns_pay (spec.stepped kept macros (suc depth) (spec.read kept macros depth []) source)
      (stepped (spec.read kept macros depth []) (read_pays depth []) kept macros (suc depth) source) (machines.size m) m

  again_pays : (depth : ℕ) (m : Machine) → (spec.again kept macros depth m).left ≤ m.left
  again_pays zero m = omega arith
  again_pays (suc depth) m = read_pays depth [] m

  -- what is written is read before, or paid
  pub read_writes : (depth : ℕ) (source : List Token) (m : Machine) →
      length (spec.read kept macros depth source m).written + machines.size (spec.read kept macros depth source m)
      ≤ length m.written + machines.size m
  read_writes depth source m =
      subst (λ v. length v.written + machines.size v ≤ length m.written + machines.size m) (sym (read_turns kept macros depth source m))
      (turns_write (spec.stepped kept macros depth (spec.again kept macros depth) source)
      (stepped (spec.again kept macros depth) (again_pays depth) kept macros depth source) (machines.size m) m)

  -- all items are read
  pub read_ends : (depth : ℕ) (source : List Token) (m : Machine) → (spec.read kept macros depth source m).items ≡ []
  read_ends depth source m =
      ap (λ v. v.items) (read_turns kept macros depth source m)
      ∙ turns_end (spec.stepped kept macros depth (spec.again kept macros depth) source)
      (stepped (spec.again kept macros depth) (again_pays depth) kept macros depth source) (machines.size m) m (omega arith)
