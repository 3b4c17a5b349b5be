-- Parsers that stop at the first byte that no spelling goes on with.
use Rattle.std.proofs.Common.{◌≡◌, ℕ, Bool, true, false, [], ◌∷◌, ◌++◌, refl, sym, ap, subst, ◌∙◌, append_assoc}
use Rattle.std.specs.Prelude.{◌==◌, if◌then◌else◌, Ok, Err}
use Rattle.std.proofs.lemmas.Bool.{eqb-true, eq-eqb}
use Rattle.flt_model.specs.Streams.{Text}
use Rattle.flt_model.specs.JournalTextReading.{Outcome, Parser, and_then, ◌>>=◌, ◌>>◌, pure, byte, exactly}

-- how a text begins, as a parser sees it: with a spelling; with the front of one and a byte that goes on none; or it
-- ends within one
pub data Seen {A : Type 0} (Is : Text → A → Type 0) (p : Parser A) (text : Text) : Outcome A → Type 0 where
  took : (c : Text) (a : A) (left : Text) → text ≡ c ++ left → Is c a → ((s : Text) → p (c ++ s) ≡ Ok (a, s)) →
      Seen Is p text (Ok (a, left))
  stopped : (c : Text) (b : ℕ) (left w : Text) (a : A) → text ≡ c ++ b ∷ left → ((s : Text) → p (c ++ b ∷ s) ≡ Err s) →
      Is (c ++ w) a → Seen Is p text (Err left)
  missing : (c w : Text) (a : A) → text ≡ c → Is (c ++ w) a → Seen Is p text (Err [])

-- a parser of what has a spelling
pub record Online {A : Type 0} (Is : Text → A → Type 0) (p : Parser A) : Type 0 where
  pub spelled : Text
  pub value : A
  pub some : Is spelled value
  pub seen : (text : Text) → Seen Is p text (p text)

-- the same parser of what is said in other words
pub said : {A : Type 0} (Is Js : Text → A → Type 0) (p : Parser A) → ((c : Text) (a : A) → Is c a → Js c a) → Online Is p → Online Js p
said {A = A} Is Js p f o = record {
  spelled = o.spelled;
  value = o.value;
  some = f o.spelled o.value o.some;
  seen = λ text. go text (p text) (o.seen text);
}
  where
    go : (text : Text) (out : Outcome A) → Seen Is p text out → Seen Js p text out
    go text _ (took c a left e h l) = took c a left e (f c a h) l
    go text _ (stopped c b left w a e l h) = stopped c b left w a e l (f (c ++ w) a h)
    go text _ (missing c w a e h) = missing c w a e (f (c ++ w) a h)

-- what is read of no bytes stops at none
pub pure_online : {A : Type 0} (Is : Text → A → Type 0) (a : A) → Is [] a → Online Is (pure a)
pure_online Is a h = record { spelled = []; value = a; some = h; seen = λ text. took [] a text refl h (λ s. refl) }

-- one parser, then another
pub then_online : {A B : Type 0} (Is : Text → A → Type 0) (Js : Text → B → Type 0) (p : Parser A) (k : A → Parser B) → Online Is p →
    ((c : Text) (a : A) → Is c a → Online (λ w b. Js (c ++ w) b) (k a)) → Online Js (p >>= k)
then_online {A = A} {B = B} Is Js p k o g =
    let more = g o.spelled o.value o.some in
    record { spelled = o.spelled ++ more.spelled; value = more.value; some = more.some; seen = λ text. first text (p text) (o.seen text) }
  where
    back : (c d w : Text) (b : B) → Js (c ++ (d ++ w)) b → Js ((c ++ d) ++ w) b
    back c d w b h = subst (λ z. Js z b) (sym (append_assoc c d w)) h

    second : (text c : Text) (a : A) (left : Text) (out : Outcome B) → text ≡ c ++ left → ((s : Text) → p (c ++ s) ≡ Ok (a, s)) →
        Seen (λ w b. Js (c ++ w) b) (k a) left out → Seen Js (p >>= k) text out
    second text c a left _ e l (took d b r e2 h l2) =
        took (c ++ d) b r (e ∙ ap (λ z. c ++ z) e2 ∙ sym (append_assoc c d r)) h (λ s. rw (append_assoc c d s, l (d ++ s)) (l2 s))
    second text c a left _ e l (stopped d b r w x e2 l2 h) =
        stopped (c ++ d) b r w x (e ∙ ap (λ z. c ++ z) e2 ∙ sym (append_assoc c d (b ∷ r)))
        (λ s. rw (append_assoc c d (b ∷ s), l (d ++ b ∷ s)) (l2 s)) (back c d w x h)
    second text c a left _ e l (missing d w x e2 h) = missing (c ++ d) w x (e ∙ ap (λ z. c ++ z) e2) (back c d w x h)

    first : (text : Text) (out : Outcome A) → Seen Is p text out → Seen Js (p >>= k) text (and_then out (λ q. k q.0 q.1))
    first text _ (took c a left e h l) = second text c a left (k a left) e l ((g c a h).seen left)
    first text _ (stopped c b left w a e l h) =
        let more = g (c ++ w) a h in
        stopped c b left (w ++ more.spelled) more.value e (λ s. rw (l s) refl)
        (subst (λ z. Js z more.value) (append_assoc c w more.spelled) more.some)
    first text _ (missing c w a e h) =
        let more = g (c ++ w) a h in
        missing c (w ++ more.spelled) more.value e (subst (λ z. Js z more.value) (append_assoc c w more.spelled) more.some)

-- what may follow a byte
pub data Choice {A : Type 0} (Is : Text → A → Type 0) (p : Parser A) : Type 0 where
  live : Online Is p → Choice Is p
  dead : ((text : Text) → p text ≡ Err text) → Choice Is p

-- a byte, one of which goes on
pub node : {A : Type 0} (Is : Text → A → Type 0) (sel : ℕ → Parser A) (b : ℕ) → Online (λ w a. Is (b ∷ w) a) (sel b) →
    ((b : ℕ) → Choice (λ w a. Is (b ∷ w) a) (sel b)) → Online Is (byte >>= sel)
node {A = A} Is sel d o f = record { spelled = d ∷ o.spelled; value = o.value; some = o.some; seen = at }
  where
    go : (b : ℕ) (text : Text) (out : Outcome A) → Seen (λ w a. Is (b ∷ w) a) (sel b) text out → Seen Is (byte >>= sel) (b ∷ text) out
    go b text _ (took c a left e h l) = took (b ∷ c) a left (ap (λ z. b ∷ z) e) h l
    go b text _ (stopped c e left w a h l k) = stopped (b ∷ c) e left w a (ap (λ z. b ∷ z) h) l k
    go b text _ (missing c w a e h) = missing (b ∷ c) w a (ap (λ z. b ∷ z) e) h

    choice : (b : ℕ) (text : Text) → Choice (λ w a. Is (b ∷ w) a) (sel b) → Seen Is (byte >>= sel) (b ∷ text) (sel b text)
    choice b text (live l) = go b text (sel b text) (l.seen text)
    choice b text (dead h) = subst (λ z. Seen Is (byte >>= sel) (b ∷ text) z) (sym (h text))
        (stopped [] b text (d ∷ o.spelled) o.value refl h o.some)

    at : (text : Text) → Seen Is (byte >>= sel) text ((byte >>= sel) text)
    at [] = missing [] (d ∷ o.spelled) o.value refl o.some
    at (b ∷ text) = choice b text (f b)

-- this byte, or another
pub pick : {A : Type 0} (Is : Text → A → Type 0) (b d : ℕ) (p q : Parser A) → Online (λ w a. Is (d ∷ w) a) p →
    ((b == d) ≡ false → Choice (λ w a. Is (b ∷ w) a) q) → Choice (λ w a. Is (b ∷ w) a) (if b == d then p else q)
pick {A = A} Is b d p q l c = go (b == d) refl
  where
    go : (x : Bool) → (b == d) ≡ x → Choice (λ w a. Is (b ∷ w) a) (if x then p else q)
    go true e = live (subst (λ z. Online (λ w a. Is (z ∷ w) a) p) (sym (eqb-true b d e)) l)
    go false e = c e

-- what may follow a byte, and what is read after it, stop together at the first byte that no spelling goes on with
pub choice_then : {A B : Type 0} (Is : Text → A → Type 0) (Js : Text → B → Type 0) (p : Parser A) (k : A → Parser B) → Choice Is p →
    ((c : Text) (a : A) → Is c a → Online (λ w b. Js (c ++ w) b) (k a)) → Choice Js (p >>= k)
choice_then Is Js p k (live l) g = live (then_online Is Js p k l g)
choice_then Is Js p k (dead h) g = dead (λ text. rw (h text) refl)

-- these bytes
pub exactly_online : (front : Text) → Online (λ c x. c ≡ front) (exactly front)
exactly_online [] = pure_online (λ c x. c ≡ []) tt refl
exactly_online (d ∷ front) =
    let shifted : Online (λ w x. (d ∷ w) ≡ d ∷ front) (exactly front) =
    said (λ c x. c ≡ front) (λ w x. (d ∷ w) ≡ d ∷ front) (exactly front) (λ c x e. ap (λ z. d ∷ z) e) (exactly_online front) in
    node (λ c x. c ≡ d ∷ front) (λ b. if b == d then exactly front else (λ text. Err text)) d (same d front shifted)
    (λ b. pick (λ c x. c ≡ d ∷ front) b d (exactly front) (λ text. Err text) shifted (λ e. dead (λ text. refl)))
  where
    same : (d : ℕ) (front : Text) → Online (λ w x. (d ∷ w) ≡ d ∷ front) (exactly front) →
        Online (λ w x. (d ∷ w) ≡ d ∷ front) (if d == d then exactly front else (λ text. Err text))
    same d front o = go (d == d) refl
      where
        go : (x : Bool) → (d == d) ≡ x → Online (λ w x. (d ∷ w) ≡ d ∷ front) (if x then exactly front else (λ text. Err text))
        go true e = o
        go false e = let right : (d == d) ≡ true = eq-eqb d d refl in cc

-- these bytes, then what follows them
pub after : {B : Type 0} (Js : Text → B → Type 0) (front : Text) (q : Parser B) → Online (λ w b. Js (front ++ w) b) q →
    Online Js (exactly front >> q)
after Js front q o =
    then_online (λ c x. c ≡ front) Js (exactly front) (λ x. q) (exactly_online front)
    (λ c x e. subst (λ z. Online (λ w b. Js (z ++ w) b) q) (sym e) o)
