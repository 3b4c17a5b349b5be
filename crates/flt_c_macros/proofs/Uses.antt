-- Items that are read in turn, arguments that are looked for, and bodies that are put in.
use Rattle.std.proofs.Common.{◌≡◌, ℕ, zero, suc, ◌+◌, ◌-◌, ◌<◌, ◌≤◌, Bool, true, false, List, [], ◌∷◌, ◌++◌, length, take, drop}
use Rattle.std.proofs.Common.{refl, ap, ◌∙◌, sym, arith, lt-ltb}
use Rattle.std.specs.Prelude.{Option, Some, not, ◌||◌, ◌&&◌, ◌==◌, if◌then◌else◌}
use Rattle.flt_c_tokens.specs.declared.token.Kind.{Kind}
use Rattle.flt_c_tokens.specs.declared.token.Kind.TheVariants as k
use Rattle.flt_c_tokens.specs.declared.token.Token.{Token}
use Rattle.flt_c_macros.specs.declared.arguments.Search.{Search}
use Rattle.flt_c_macros.specs.declared.arguments.Stage.{Stage}
use Rattle.flt_c_macros.specs.declared.arguments.Stage.TheVariants.{Before, Within, Absent, Closed}
use Rattle.flt_c_macros.specs.declared.item.Item.{Item}
use Rattle.flt_c_macros.specs.declared.item.Item.TheVariants.{Read, End}
use Rattle.flt_c_macros.specs.declared.item.Word.{Word}
use Rattle.flt_c_macros.specs.declared.machine.Machine.{Machine}
use Rattle.flt_c_macros.specs.declared.machine.Prepared.{Prepared}
use Rattle.flt_c_macros.specs.declared.macros.Macro.TheVariants.{WithParameters}
use Rattle.flt_c_macros.specs.Arguments.{IsNested, commas_of, depth_of, is_found, is_over, looked, seen, seen_within, seen_word}
use Rattle.flt_c_macros.specs.Bodies.{filled, has_sign, words_of}
use Rattle.flt_c_macros.specs.Items.{colored}
use Rattle.flt_c_macros.specs.Kinds.{same_kind}
use Rattle.flt_c_macros.specs.Macros.{Known}
use Rattle.flt_c_macros.specs.Machines.{searched, size, unprepared}
use Rattle.flt_c_macros.specs.Uses as spec
use Rattle.flt_c_macros.specs.Uses.{again, read, stepped, turn_by, turns}

-- ---- lists

pub drop_next : {A : Type 0} (n : ℕ) (x : A) (xs : List A) → 0 < n → drop n (x ∷ xs) ≡ drop (n - 1) xs
drop_next zero x xs some = absurd (omega arith)
drop_next (suc n) x xs some = let e : suc n - 1 ≡ n = omega arith in rw e refl

pub drop_nothing : {A : Type 0} (n : ℕ) → drop {A = A} n [] ≡ []
drop_nothing zero = refl
drop_nothing (suc n) = refl

pub words_length : (at : Token) (body : List Token) → length (words_of at body) ≡ length body
words_length at [] = refl
words_length at (b ∷ body) = ap suc (words_length at body)

-- ---- turns

pub turns_over : (step : Item → Machine → Machine) (n : ℕ) (m : Machine) → m.items ≡ [] → turns step n m ≡ m
turns_over step zero m none = refl
turns_over step (suc n) m none = ap (λ xs. turns step n (turn_by step xs m)) none ∙ turns_over step n m none

pub turns_none : (step : Item → Machine → Machine) (n : ℕ) (m : Machine) → n ≡ 0 → turns step n m ≡ m
turns_none step zero m none = refl
turns_none step (suc n) m none = absurd (omega arith)

pub turns_step : (step : Item → Machine → Machine) (at n : ℕ) (m : Machine) (x : Item) (xs : List Item) → at < n → m.items ≡ x ∷ xs →
    turns step (n - at) m ≡ turns step (n - (at + 1)) (step x (record m { items = xs }))
turns_step step at n m x xs below next =
    let e : n - at ≡ suc (n - (at + 1)) = omega arith in rw e (ap (λ ys. turns step (n - (at + 1)) (turn_by step ys m)) next)

module _ (kept : List Bool) (macros : Known) where
  pub read_turns : (depth : ℕ) (source : List Token) (m : Machine) →
      read kept macros depth source m ≡ turns (stepped kept macros depth (again kept macros depth) source) (size m) m
  unfolding read
  read_turns zero source m = refl
  read_turns (suc n) source m = refl

-- ---- uses

-- a name of a macro with parameters, where brackets are looked for
pub called_is : (depth : ℕ) (reader : Machine → Machine) (source : List Token) (t : Token)
    (names : List ℕ) (rest : Option ℕ) (body : List Token)
    (m : Machine) (s : Search) → m.after < m.quiet → s ≡ searched source (commas_of names rest) m →
    spec.called_at depth reader t names rest body s s.stage m ≡ spec.called depth reader source t names rest body m
unfolding spec.called
called_is depth reader source t names rest body m s loud is =
    rw (lt-ltb m.after m.quiet loud) (ap (λ q. spec.called_at depth reader t names rest body q q.stage m) is)

module _ (kept : List Bool) (macros : Known) where
  -- a word that names a macro with parameters
  pub stepped_called : (depth : ℕ) (reader : Machine → Machine) (source : List Token) (x : Item) (w : Word) (m : Machine) (busy : List ℕ)
      (names : List ℕ) (rest : Option ℕ) (body : List Token) → x ≡ Read w → busy ≡ m.busy →
      Some (WithParameters names rest body) ≡ spec.found kept macros busy w →
      spec.called depth reader source w.token names rest body m ≡ stepped kept macros depth reader source x m
  stepped_called depth reader source x w m busy names rest body is busy_is found_is =
      sym (ap (λ y. stepped kept macros depth reader source y m) is
      ∙ ap (λ what. spec.expanded depth reader source w what m)
      (ap (λ b. spec.found kept macros b w) (sym busy_is) ∙ sym found_is))

  again_is : (depth : ℕ) → 0 < depth → again kept macros depth ≡ read kept macros (depth - 1) []
  again_is zero some = absurd (omega arith)
  again_is (suc n) some = let e : suc n - 1 ≡ n = omega arith in rw e refl

  -- a use whose arguments are given
  pub call_done : (depth : ℕ) (t : Token) (names : List ℕ) (rest : Option ℕ) (body tokens : List Token) (s : Search) (m : Machine)
      (p : Prepared) (work : List ℕ) (arguments : List (List Word)) → has_sign tokens ≡ false → 0 < depth →
      work ≡ take s.names m.busy → arguments ≡ s.arguments →
      p ≡ spec.prepared (read kept macros (depth - 1) []) work tokens names arguments (unprepared m.left) →
      spec.put_in t s p (length body) (filled p.given rest t 0 body) m
      ≡ spec.given_called (again kept macros depth) t names rest body tokens s m
  unfolding spec.given_called
  call_done depth t names rest body tokens s m p work arguments none deep work_is arguments_are is =
      let inner = read kept macros (depth - 1) [] in
      let reader = again kept macros depth in
      let first = take s.names m.busy in
      let made : p ≡ spec.prepared reader first tokens names s.arguments (unprepared m.left) =
      is ∙ (ap (λ b. spec.prepared inner b tokens names arguments (unprepared m.left)) work_is
      ∙ (ap (λ a. spec.prepared inner first tokens names a (unprepared m.left)) arguments_are
      ∙ ap (λ r. spec.prepared r first tokens names s.arguments (unprepared m.left)) (sym (again_is depth deep)))) in
      rw none (ap (λ q. spec.put_in t s q (length body) (filled q.given rest t 0 body) m) made)

-- ---- searches

pub looked_over : (busy : List ℕ) (xs : List Item) (s : Search) → is_over s ≡ true → looked busy xs s ≡ s
looked_over busy [] s over = refl
looked_over busy (x ∷ xs) s over = rw over refl

pub looked_append : (busy : List ℕ) (xs ys : List Item) (s : Search) → looked busy (xs ++ ys) s ≡ looked busy ys (looked busy xs s)
looked_append busy [] ys s = refl
looked_append busy (x ∷ xs) ys s = by (is_over s) refl (looked_append busy xs ys (seen busy x s))
  where
    by : (b : Bool) → is_over s ≡ b → looked busy (xs ++ ys) (seen busy x s) ≡ looked busy ys (looked busy xs (seen busy x s)) →
        looked busy (x ∷ xs ++ ys) s ≡ looked busy ys (looked busy (x ∷ xs) s)
    by true e same = rw e (sym (looked_over busy ys s e))
    by false e same = rw e same

-- ---- how deep in brackets a search is

or_zero : (b : Bool) (n : ℕ) → b || n == 0 ≡ false → 0 < n
or_zero b (suc n) going = omega arith
or_zero true zero going = grind (arith, going)
or_zero false zero going = grind (arith, going)

-- a search that goes on may pass an item
pub some_room : (s : Search) → is_over s ≡ false → 0 < s.room
some_room s going = or_zero (is_found s.stage) s.room going

pub some_depth : (s : Search) → is_over s ≡ false → IsNested s → depth_of s.stage < 4096
some_depth s going few = let some : 0 < s.room = some_room s going in omega (arith, few, some)

nested_if : (b : Bool) (x y : Search) → IsNested x → IsNested y → IsNested (if b then x else y)
nested_if true x y left right = left
nested_if false x y left right = right

nested_within : (depth : ℕ) (w : Word) (kind : Kind) (s : Search) → depth + s.room + 1 ≤ 4096 → IsNested (seen_within depth w kind s)
nested_within depth w kind s few =
    nested_if (same_kind kind k.OpenParen) _ _ (omega (arith, few))
    (nested_if (same_kind kind k.CloseParen) _ _ (nested_if (depth == 0) _ _ (omega (arith, few)) (omega (arith, few)))
    (nested_if (same_kind kind k.Comma && depth == 0 && not (s.commas == 0)) _ _ (omega (arith, few)) (omega (arith, few))))

nested_word : (stage : Stage) (w : Word) (s : Search) → s.stage ≡ stage → depth_of stage + s.room + 1 ≤ 4096 →
    IsNested (seen_word stage w s)
nested_word Before w s at few = by (same_kind w.token.kind k.OpenParen)
  where
    by : (b : Bool) → IsNested (record s { stage = if b then Within 0 else Absent })
    by true = omega (arith, few)
    by false = omega (arith, few)
nested_word (Within depth) w s at few = nested_within depth w w.token.kind s few
nested_word Absent w s at few = rw at (omega (arith, few))
nested_word Closed w s at few = rw at (omega (arith, few))

pub seen_nested : (busy : List ℕ) (x : Item) (s : Search) → is_over s ≡ false → IsNested s → IsNested (seen busy x s)
seen_nested busy End s going few = omega (arith, few)
seen_nested busy (Read w) s going few =
    let some : 0 < s.room = some_room s going in
    nested_word s.stage (colored (take s.names busy) w) (record s { room = s.room - 1 }) refl (omega (arith, few, some))
