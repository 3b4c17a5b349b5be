-- What goes out of JSON, from what goes out of its parts.
use Rattle.std.proofs.Common.{◌≡◌, ℕ, List, [], ◌∷◌, ◌++◌, Result, Ok, Err, OnOk, append-nil, append_assoc, ◌∙◌, ap, refl, sym}
use Rattle.std.specs.declared.alloc.AllocError.{AllocError}
use Rattle.json.specs.Token.{Token, begin_object, end_object, begin_array, end_array, key, string, number, boolean, null, bad}
use Rattle.flt_server_session.specs.Outgoing.{AreShownTokens, AreTokensFor, IsShownToken, IsTokenFor}

-- what is written of a token goes out of it
pub one_put : (r : Result (Unit {0}) AllocError) (t out : Token) (old new : List Token) → IsTokenFor t out →
    OnOk r (new ≡ old ++ out ∷ []) → OnOk r ((x : Token) × IsTokenFor t x × (new ≡ old ++ x ∷ []))
one_put (Ok u) t out old new is put = (out, is, put)
one_put (Err e) t out old new is put = tt

-- what goes out of a token is shown
pub one_shown : (t out : Token) → IsTokenFor t out → IsShownToken out
one_shown begin_object out is = rw is tt
one_shown end_object out is = rw is tt
one_shown begin_array out is = rw is tt
one_shown end_array out is = rw is tt
one_shown (key text) out is = rw is.2 is.1.0
one_shown (string text) out is = rw is.2 is.1.0
one_shown (number text) out is = rw is tt
one_shown (boolean b) out is = rw is tt
one_shown null out is = rw is tt
one_shown bad out is = absurd is

-- a token goes out before others
pub one_before : (t u : Token) (ts us : List Token) → IsTokenFor t u → AreTokensFor ts us → AreTokensFor (t ∷ ts) (u ∷ us)
one_before begin_object u ts us is are = (is, are)
one_before end_object u ts us is are = (is, are)
one_before begin_array u ts us is are = (is, are)
one_before end_array u ts us is are = (is, are)
one_before (key text) u ts us is are = (is, are)
one_before (string text) u ts us is are = (is, are)
one_before (number text) u ts us is are = (is, are)
one_before (boolean b) u ts us is are = (is, are)
one_before null u ts us is are = (is, are)
one_before bad u ts us is are = absurd is

-- some tokens have gone out of the first ones of some, and these are left
pub record GoneOut (all rest old new : List Token) : Type 0 where
  pub out : List Token
  pub put : new ≡ old ++ out
  pub shown : AreShownTokens out
  pub goes : (more : List Token) → AreTokensFor rest more → AreTokensFor all (out ++ more)

pub none_gone : (all old : List Token) → GoneOut all all old old
none_gone all old = record { out = []; put = sym (append-nil old); shown = tt; goes = λ more are. are }

shown_behind : (us : List Token) (u : Token) → AreShownTokens us → IsShownToken u → AreShownTokens (us ++ u ∷ [])
shown_behind [] u are is = (is, tt)
shown_behind (v ∷ us) u are is = (are.0, shown_behind us u are.1 is)

-- one more goes out
pub one_gone : (all rest old mid new : List Token) (t u : Token) → GoneOut all (t ∷ rest) old mid → IsTokenFor t u → new ≡ mid ++ u ∷ [] →
    GoneOut all rest old new
one_gone all rest old mid new t u gone is put = record {
  out = gone.out ++ u ∷ [];
  put = put ∙ ap (λ ts. ts ++ u ∷ []) gone.put ∙ append_assoc old gone.out (u ∷ []);
  shown = shown_behind gone.out u gone.shown (one_shown t u is);
  goes = λ more are. rw (append_assoc gone.out (u ∷ []) more) (gone.goes (u ∷ more) (one_before t u rest more is are));
}

-- all have gone out, up to what is no JSON
pub all_gone : (all rest old new : List Token) → GoneOut all rest old new → AreTokensFor rest [] →
    (out : List Token) × AreTokensFor all out × AreShownTokens out × (new ≡ old ++ out)
all_gone all rest old new gone ends =
    let whole : AreTokensFor all (gone.out ++ []) = gone.goes [] ends in
    (gone.out, rw (append-nil gone.out) at whole, gone.shown, gone.put)

-- nothing goes out of no token, and of what is no JSON
pub none_left : (rest : List Token) → rest ≡ [] → AreTokensFor rest []
none_left rest is = rw is refl

pub no_json_left : (t : Token) (rest ts : List Token) → rest ≡ t ∷ ts → t ≡ bad → AreTokensFor rest []
no_json_left t rest ts is ill = rw (is, ill) refl

-- ---- tokens behind others

-- what is written behind what was written is written behind both
pub then : (old mid new a b : List Token) → mid ≡ old ++ a → new ≡ mid ++ b → new ≡ old ++ (a ++ b)
then old mid new a b e f = f ∙ ap (λ ts. ts ++ b) e ∙ append_assoc old a b

pub then_if : (r : Result (Unit {0}) AllocError) (old mid new a b : List Token) → mid ≡ old ++ a → OnOk r (new ≡ mid ++ b) →
    OnOk r (new ≡ old ++ (a ++ b))
then_if (Ok u) old mid new a b e f = then old mid new a b e f
then_if (Err e) old mid new a b e' f = tt
