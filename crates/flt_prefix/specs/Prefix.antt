-- What a fault says of other texts. With the tokens up to the one at fault, that one among them, no filter is spelled. The tokens before
-- a fault E03 begin one, with two exceptions. Both speak of token lists: the names in them are those of one text.
use Rattle.std.specs.Prelude.{◌≡◌, ◌≢◌, ◌≤◌, ◌++◌, [], ◌∷◌, ℕ, Bool, true, false, List, is_some, Option, Some}
use Rattle.flt_syntax.specs.FileFails.{CallbacksFails, FileFails}
use Rattle.flt_syntax.specs.TextFails.{Reads, Fails}
use Rattle.flt_syntax.specs.CallGrammar.{PlainAt}
use Rattle.flt_syntax.specs.FirstWords.{has_blocks}
use Rattle.flt_syntax.specs.Cursor.{Input, front, kind, fault, fault_at}
use Rattle.flt_syntax.specs.Grammar.{StatementAt, StatementsAt, HeadAt, LocksAt, QueueAt}
use Rattle.flt_syntax.specs.Lex.{tokens}
use Rattle.flt_syntax.specs.Scope.{Scope}
use Rattle.flt_syntax.specs.Tables.{plain_shape_of}
use Rattle.flt_syntax.specs.Words.{Next, NameAt, NumberAt}
use Rattle.flt_syntax.specs.declared.shape.PlainShape.{PlainShape}
use Rattle.flt_syntax.specs.declared.shape.PlainShape.TheVariants as shapes
use Rattle.flt_syntax.specs.declared.token.Kind.{Kind}
use Rattle.flt_syntax.specs.declared.token.Kind.TheVariants as k
use Rattle.flt_syntax.specs.declared.token.Token.{Token}
use Rattle.flt_rules.specs.Limits.{max_altitude, max_repeats}
use Rattle.flt_tree.specs.declared.filter.Callback.{Callback}
use Rattle.flt_tree.specs.declared.filter.Head.{Head}
use Rattle.flt_tree.specs.declared.filter.Lock.{Lock}
use Rattle.flt_tree.specs.declared.filter.PlainCall.{PlainCall}
use Rattle.flt_tree.specs.declared.filter.Position.{Position}
use Rattle.flt_tree.specs.declared.filter.Statement.{Statement}
use Rattle.flt_syntax.specs.declared.fault.FaultKind.TheVariants.{E01, E02, E03, E04}
use Rattle.flt_syntax.specs.declared.fault.FaultKind.{FaultKind}
use Rattle.flt_syntax.specs.declared.fault.SyntaxFault.{SyntaxFault}
use Rattle.flt_tree.specs.Names.{Text}
use Rattle.flt_tree.specs.declared.filter.Filter.{Filter}

-- ---- with the token at fault nothing goes on

-- the kinds of fault that are a token's: where it stands behind the same tokens, the fault is the same
abbrev pub is_of_token : FaultKind → Bool
is_of_token E01 = true
is_of_token E02 = true
is_of_token E03 = true
is_of_token E04 = true
is_of_token _ = false

-- the fault is at a token, and no tokens that begin with those before it and with it spell a filter
pub record BeginsNone (text : Text) (i : Input) (f : SyntaxFault) : Type 0 where
  pub before : Input
  pub rest : Input
  pub parts : i ≡ before ++ rest
  pub place : f ≡ fault_at f.kind rest
  pub none : (z : Input) → front z ≡ front rest → (filter : Filter) → Reads text (before ++ z) filter → ⊥

-- of any tokens
abbrev pub NothingGoesOn : Type 0
NothingGoesOn = (text : Text) (i : Input) (f : SyntaxFault) → FileFails text i f → is_of_token f.kind ≡ true → BeginsNone text i f

-- Of a text. Its E04 may also be of a routine that isn't there, which a callback further on could declare.
abbrev pub NothingGoesOnInTexts : Type 0
NothingGoesOnInTexts =
    (text : Text) (f : SyntaxFault) → Fails text f → is_of_token f.kind ≡ true → f.kind ≢ E04 → BeginsNone text (tokens text) f

-- ---- the tokens before a fault E03 begin callbacks, if blocks may nest however deep, and unless a lock's name must stand there

-- the shape of a call that takes or releases a lock
abbrev pub names_lock : Option PlainShape → Bool
names_lock (Some (shapes.Lock call)) = true
names_lock _ = false

-- the words of the calls that take or release a lock
abbrev pub is_lock_word : Kind → Bool
is_lock_word kind = names_lock (plain_shape_of kind)

-- the fault doesn't stand behind the word of such a call, where a lock's name must stand
abbrev pub AsksNoLock : Input → SyntaxFault → Type 0
AsksNoLock i f =
    (before : Input) (t : Token) (rest : Input) → i ≡ before ++ t ∷ rest → is_lock_word t.word.kind ≡ true → f ≡ fault_at E03 rest → ⊥

-- head block, in which blocks may nest however deep
pub data AnyCallbackAt (scope : Scope) : Input → Input → Type 0 where
  callback : {d : ℕ} {i a b l o : Input} {h : Head} {body : List Statement} → HeadAt scope.text i h a → Next k.OpenBrace a b →
      StatementsAt scope d max_repeats b body l → Next k.CloseBrace l o → AnyCallbackAt scope i o

-- callback { callback }
pub data AnyCallbacksAt (scope : Scope) : Input → Input → Type 0 where
  last : {i o : Input} → AnyCallbackAt scope i o → AnyCallbacksAt scope i o
  more : {i j o : Input} → AnyCallbackAt scope i j → AnyCallbacksAt scope j o → AnyCallbacksAt scope i o

-- the fault is at a token, and with others in its place the tokens before it are callbacks, whatever stands behind them
pub record BeginsCallbacks (scope : Scope) (i : Input) (f : SyntaxFault) : Type 0 where
  pub before : Input
  pub rest : Input
  pub parts : i ≡ before ++ rest
  pub place : f ≡ fault_at E03 rest
  pub finish : Input
  pub spells : (o : Input) → AnyCallbacksAt scope (before ++ (finish ++ o)) o

abbrev pub CallbacksBegin : Type 0
CallbacksBegin = (scope : Scope) (found : List Callback) (i : Input) (f : SyntaxFault) →
    CallbacksFails scope found i f → f.kind ≡ E03 → AsksNoLock i f → BeginsCallbacks scope i f

-- ---- the tokens before a fault E03 begin a file

-- a file, in which blocks may nest however deep
pub data AnyFileAt (text : Text) : Input → Type 0 where
  file : {i a b c d e l o : Input} {name : Text} {n : ℕ} {ls : List Lock} {q : Option Position} → Next k.Filter i a → NameAt text a name b →
      Next k.Altitude b c → NumberAt c n d → 1 ≤ n → n ≤ max_altitude → LocksAt text d ls e → QueueAt e q l →
      AnyCallbacksAt (record { text = text; locks = ls; queue = is_some q }) l o → kind o ≡ k.End → AnyFileAt text i

-- the fault is at a token, and with others in its place the tokens before it are a file
pub record BeginsFile (text : Text) (i : Input) (f : SyntaxFault) : Type 0 where
  pub before : Input
  pub rest : Input
  pub parts : i ≡ before ++ rest
  pub place : f ≡ fault_at E03 rest
  pub finish : Input
  pub spells : AnyFileAt text (before ++ finish)

-- of any tokens
abbrev pub FileBegins : Type 0
FileBegins = (text : Text) (i : Input) (f : SyntaxFault) → FileFails text i f → f.kind ≡ E03 → AsksNoLock i f → BeginsFile text i f

-- of a text
abbrev pub FileBeginsInTexts : Type 0
FileBeginsInTexts =
    (text : Text) (f : SyntaxFault) → Fails text f → f.kind ≡ E03 → AsksNoLock (tokens text) f → BeginsFile text (tokens text) f

-- ---- both at one place

-- The fault is at a token. The tokens before it begin a file, unless it stands behind the word of a lock's call; with it they begin none.
pub record Cuts (text : Text) (i : Input) (f : SyntaxFault) : Type 0 where
  pub before : Input
  pub token : Token
  pub rest : Input
  pub parts : i ≡ before ++ token ∷ rest
  pub place : f ≡ fault E03 token.position
  pub none : (z : Input) (filter : Filter) → Reads text (before ++ token ∷ z) filter → ⊥
  pub begins : AsksNoLock i f → (finish : Input) × AnyFileAt text (before ++ finish)

abbrev pub ViablePrefix : Type 0
ViablePrefix = (text : Text) (f : SyntaxFault) → Fails text f → f.kind ≡ E03 → Cuts text (tokens text) f

-- ---- the two exceptions

-- where no lock is declared, no call begins with the word of a lock's call
abbrev pub NoLockCall : Type 0
NoLockCall = (scope : Scope) (i o : Input) (c : PlainCall) → scope.locks ≡ [] → is_lock_word (kind i) ≡ true → PlainAt scope i c o → ⊥

-- where no block may stand, no statement begins with `if` or `repeat`
abbrev pub NoBlock : Type 0
NoBlock = (scope : Scope) (r : ℕ) (i o : Input) (s : Statement) → has_blocks (kind i) ≡ true → StatementAt scope 0 r i s o → ⊥
