-- How the layout is written item by item, beside the tokens that are left.
use Rattle.std.proofs.Common.{◌≡◌, ◌≢◌, ℕ, zero, suc, ◌+◌, ◌-◌, ◌≤◌, ◌<◌, Bool, true, false, List, [], ◌∷◌}
use Rattle.std.proofs.Common.{◌++◌, length, take, drop, refl, sym, ap, subst, ◌∙◌, arith, append_assoc}
use Rattle.std.proofs.lemmas.Bool.{eqb-true, ne_eqb}
use Rattle.std.proofs.Math.Seq.{take-length}
use Rattle.std.specs.Prelude.{◌==◌, not, if◌then◌else◌, slice_index}
use Rattle.flt_tree.specs.Names.{Text}
use Rattle.flt_tree.specs.declared.filter.Position.{Position}
use Rattle.flt_syntax.specs.Cursor.{Input, kind, next, front}
use Rattle.flt_syntax.specs.Lex.{past, is_blank, is_fault, token, tokens_from, tokens, after_comment}
use Rattle.flt_syntax.specs.declared.token.Kind.{Kind}
use Rattle.flt_syntax.specs.declared.token.Token.{Token}
use Rattle.flt_layout.specs.Items.{Item, a_token, a_comment, fed, moved, comment, items_from, items}
use Rattle.flt_layout.specs.Layout.{past_token, past_comment, placed, depth, opens, closes, ending, gap, text_from, laid_out, start}
use Rattle.flt_layout.specs.declared.space.Space.{Space}
use Rattle.flt_layout.specs.declared.space.Space.TheVariants as space
use Rattle.flt_layout.specs.declared.state.State.{State}

-- what is written before a token
abbrev pub laid_gap : State → Space → Kind → Text
laid_gap s x kd = gap (placed s kd x) (depth s kd)

-- what is written, and then the layout of what is left, is the layout of the text; and the tokens that are left are those of what is left
pub record IsSoFar (text out : Text) (s : State) (x : Space) (rest : Text) (left : Input) : Type 0 where
  pub told : out ++ text_from s (items_from zero false x rest) ≡ laid_out text
  pub last : ℕ
  pub at : Position
  pub off : ℕ
  pub same : tokens_from zero false last at off rest ≡ left
  pub fits : s.level + length rest ≤ length text

pub begun : (text : Text) (left : Input) → left ≡ tokens text → IsSoFar text [] start space.First text left
unfolding laid_out items tokens
begun text left e =
    record { told = refl; last = 0; at = record { line = 1; column = 0 }; off = 0; same = sym e; fits = omega arith }

-- ---- blanks

blank_items : (b : ℕ) (z : Text) (x : Space) → (b == 35) ≡ false → is_blank b ≡ true →
    items_from zero false x (b ∷ z) ≡ items_from zero false (moved b x) z
blank_items b z x e h = rw (e, h) refl

blank_tokens : (b : ℕ) (z : Text) (last : ℕ) (at : Position) (off : ℕ) → (b == 35) ≡ false → is_blank b ≡ true →
    tokens_from zero false last at off (b ∷ z) ≡ tokens_from zero false b (past last at) (off + 1) z
blank_tokens b z last at off e h = rw (e, h) refl

pub blank_step : (text out : Text) (s : State) (x : Space) (b : ℕ) (z : Text) (left : Input) →
    IsSoFar text out s x (b ∷ z) left → (b == 35) ≡ false → is_blank b ≡ true →
    IsSoFar text out s (moved b x) z left
blank_step text out s x b z left i e h =
    let f = i.fits in
    record {
      told = ap (λ is. out ++ text_from s is) (sym (blank_items b z x e h)) ∙ i.told;
      last = b;
      at = past i.last i.at;
      off = i.off + 1;
      same = sym (blank_tokens b z i.last i.at i.off e h) ∙ i.same;
      fits = omega (arith, f);
    }

-- ---- comments

comment_items : (b : ℕ) (z : Text) (x : Space) → (b == 35) ≡ true →
    items_from zero false x (b ∷ z) ≡ a_comment x (comment (b ∷ z)) ∷ items_from zero true space.Beside z
comment_items b z x e = rw e refl

comment_tokens : (b : ℕ) (z : Text) (last : ℕ) (at : Position) (off : ℕ) → (b == 35) ≡ true →
    tokens_from zero false last at off (b ∷ z) ≡ tokens_from zero true b (past last at) (off + 1) z
comment_tokens b z last at off e = rw e refl

-- what follows a comment
record Over (last : ℕ) (at : Position) (off : ℕ) (z : Text) : Type 0 where
  then_last : ℕ
  then_at : Position
  then_off : ℕ
  tokens_same : tokens_from zero true last at off z ≡ tokens_from zero false then_last then_at then_off (after_comment z)
  items_same : items_from zero true space.Beside z ≡ items_from zero false space.Beside (after_comment z)
  shorter : length (after_comment z) ≤ length z

over : (z : Text) (last : ℕ) (at : Position) (off : ℕ) → Over last at off z
over [] last at off =
    record { then_last = last; then_at = at; then_off = off; tokens_same = refl; items_same = refl; shorter = omega arith }
over (b ∷ z) last at off = by (b == 10) refl (over z b (past last at) (off + 1))
  where
    ended : (b : ℕ) → b ≡ 10 → after_comment (b ∷ z) ≡ b ∷ z
    ended b e = rw e refl

    on : (b == 10) ≡ false → after_comment (b ∷ z) ≡ after_comment z
    on e = rw e refl

    by : (x : Bool) → (b == 10) ≡ x → Over b (past last at) (off + 1) z → Over last at off (b ∷ z)
    by true e r =
        let same = eqb-true b 10 e in
        let f = ended b same in
        record {
          then_last = last;
          then_at = at;
          then_off = off;
          tokens_same =
              subst (λ c. tokens_from zero true last at off (c ∷ z) ≡ tokens_from zero false last at off (c ∷ z)) (sym same) refl
              ∙ ap (tokens_from zero false last at off) (sym f);
          items_same =
              subst (λ c. items_from zero true space.Beside (c ∷ z) ≡ items_from zero false space.Beside (c ∷ z)) (sym same) refl
              ∙ ap (items_from zero false space.Beside) (sym f);
          shorter = subst (λ y. length y ≤ suc (length z)) (sym f) (omega arith);
        }
    by false e r =
        let f = on e in
        let h = r.shorter in
        record {
          then_last = r.then_last;
          then_at = r.then_at;
          then_off = r.then_off;
          tokens_same = ap (λ x. tokens_from zero (not x) b (past last at) (off + 1) z) e
              ∙ r.tokens_same ∙ ap (tokens_from zero false r.then_last r.then_at r.then_off) (sym f);
          items_same = ap (λ x. items_from zero (not x) (if x then fed space.Beside else space.Beside) z) e ∙ r.items_same
              ∙ ap (items_from zero false space.Beside) (sym f);
          shorter = subst (λ y. length y ≤ suc (length z)) (sym f) (omega (arith, h));
        }

pub comment_step : (text out : Text) (s : State) (x : Space) (b : ℕ) (z : Text) (left : Input) →
    IsSoFar text out s x (b ∷ z) left → (b == 35) ≡ true →
    IsSoFar text ((out ++ gap x s.level) ++ comment (b ∷ z)) (past_comment s) space.Beside (after_comment z) left
comment_step text out s x b z left i e =
    let r = over z b (past i.last i.at) (i.off + 1) in
    let f = i.fits in
    let h = r.shorter in
    record {
      told =
          append_assoc (out ++ gap x s.level) (comment (b ∷ z)) (text_from (past_comment s) (items_from zero false space.Beside
          (after_comment z)))
          ∙ append_assoc out (gap x s.level) (comment (b ∷ z) ++ text_from (past_comment s) (items_from zero false space.Beside
          (after_comment z)))
          ∙ ap (λ is. out ++ text_from s (a_comment x (comment (b ∷ z)) ∷ is)) (sym r.items_same)
          ∙ ap (λ is. out ++ text_from s is) (sym (comment_items b z x e)) ∙ i.told;
      last = r.then_last;
      at = r.then_at;
      off = r.then_off;
      same = sym r.tokens_same ∙ sym (comment_tokens b z i.last i.at i.off e) ∙ i.same;
      fits = omega (arith, f, h);
    }

-- ---- tokens

token_items : (b : ℕ) (z : Text) (x : Space) → (b == 35) ≡ false → is_blank b ≡ false →
    items_from zero false x (b ∷ z)
    ≡ a_token x (token (b ∷ z)).0 (take (token (b ∷ z)).1 (b ∷ z))
    ∷ (if is_fault (token (b ∷ z)).0.kind then [] else items_from ((token (b ∷ z)).1 - 1) false space.Beside z)
token_items b z x e h = rw (e, h) refl

abbrev token_at : ℕ → Text → ℕ → Position → ℕ → Token
token_at b z last at off =
    record { word = (token (b ∷ z)).0; position = past last at; start = off; end = off + (token (b ∷ z)).1 }

token_tokens : (b : ℕ) (z : Text) (last : ℕ) (at : Position) (off : ℕ) → (b == 35) ≡ false → is_blank b ≡ false →
    tokens_from zero false last at off (b ∷ z)
    ≡ token_at b z last at off
    ∷ (if is_fault (token (b ∷ z)).0.kind then [] else tokens_from ((token (b ∷ z)).1 - 1) false b (past last at) (off + 1) z)
token_tokens b z last at off e h = rw (e, h) refl

items_skip : (n : ℕ) (z : Text) → items_from n false space.Beside z ≡ items_from zero false space.Beside (drop n z)
items_skip zero z = refl
items_skip (suc n) [] = refl
items_skip (suc n) (b ∷ z) = items_skip n z

record Skipped (n last : ℕ) (at : Position) (off : ℕ) (z : Text) : Type 0 where
  then_last : ℕ
  then_at : Position
  then_off : ℕ
  skipped : tokens_from n false last at off z ≡ tokens_from zero false then_last then_at then_off (drop n z)
  fewer : length (drop n z) ≤ length z

skip : (n last : ℕ) (at : Position) (off : ℕ) (z : Text) → Skipped n last at off z
skip zero last at off z = record { then_last = last; then_at = at; then_off = off; skipped = refl; fewer = omega arith }
skip (suc n) last at off [] = record { then_last = last; then_at = at; then_off = off; skipped = refl; fewer = omega arith }
skip (suc n) last at off (b ∷ z) =
    let r = skip n b (past last at) (off + 1) z in
    let h = r.fewer in
    record { then_last = r.then_last; then_at = r.then_at; then_off = r.then_off; skipped = r.skipped; fewer = omega (arith, h) }

level_if : (o c : Bool) (n : ℕ) → (if o then n + 1 else (if c then n - 1 else n)) ≤ n + 1
level_if true c n = omega arith
level_if false true n = omega arith
level_if false false n = omega arith

len_is : (off n : ℕ) → off + n - off ≡ n
len_is off n = omega arith

-- the next token, where there is one
pub record IsNext (b : ℕ) (z : Text) (kd : Kind) (len : ℕ) : Type 0 where
  pub kind_is : kd ≡ (token (b ∷ z)).0.kind
  pub len_same : len ≡ (token (b ∷ z)).1

pub next_is : (text out : Text) (s : State) (x : Space) (b : ℕ) (z : Text) (left : Input) (kd : Kind) (len : ℕ) →
    IsSoFar text out s x (b ∷ z) left → (b == 35) ≡ false → is_blank b ≡ false → kd ≡ kind left →
    len ≡ (front left).end - (front left).start → IsNext b z kd len
next_is text out s x b z left kd len i e h k l =
    let q = sym i.same ∙ token_tokens b z i.last i.at i.off e h in
    record {
      kind_is = k ∙ ap kind q;
      len_same = l ∙ ap (λ (j : Input). (front j).end - (front j).start) q ∙ len_is i.off (token (b ∷ z)).1;
    }

told_on : (text out : Text) (s : State) (x : Space) (b : ℕ) (z : Text) (left : Input) (kd : Kind) (len : ℕ) →
    (i : IsSoFar text out s x (b ∷ z) left) → (b == 35) ≡ false → is_blank b ≡ false → IsNext b z kd len → (is : List Item) →
    is ≡ (if is_fault (token (b ∷ z)).0.kind then [] else items_from ((token (b ∷ z)).1 - 1) false space.Beside z) →
    ((out ++ laid_gap s x kd) ++ take len (b ∷ z)) ++ text_from (past_token s kd) is ≡ laid_out text
told_on text out s x b z left kd len i e h w is same =
    let t = token (b ∷ z) in
    append_assoc (out ++ laid_gap s x kd) (take len (b ∷ z)) (text_from (past_token s kd) is)
    ∙ append_assoc out (laid_gap s x kd) (take len (b ∷ z) ++ text_from (past_token s kd) is)
    ∙ ap (λ q. out ++ (laid_gap s x q ++ (take len (b ∷ z) ++ text_from (past_token s q) is))) w.kind_is
    ∙ ap (λ n. out ++ (laid_gap s x t.0.kind ++ (take n (b ∷ z) ++ text_from (past_token s t.0.kind) is))) w.len_same
    ∙ ap (λ js. out ++ text_from s (a_token x t.0 (take t.1 (b ∷ z)) ∷ js)) same
    ∙ ap (λ js. out ++ text_from s js) (sym (token_items b z x e h)) ∙ i.told

if_true : {X : Type 0} (c : Bool) (x y : X) → c ≡ true → (if c then x else y) ≡ x
if_true c x y e = rw e refl

if_false : {X : Type 0} (c : Bool) (x y : X) → c ≡ false → (if c then x else y) ≡ y
if_false c x y e = rw e refl

pub fault_step : (text out : Text) (s : State) (x : Space) (b : ℕ) (z : Text) (left : Input) (kd : Kind) (len : ℕ) →
    IsSoFar text out s x (b ∷ z) left → (b == 35) ≡ false → is_blank b ≡ false → IsNext b z kd len → is_fault kd ≡ true →
    ((out ++ laid_gap s x kd) ++ take len (b ∷ z)) ++ ending (past_token s kd).place ≡ laid_out text
fault_step text out s x b z left kd len i e h w f =
    told_on text out s x b z left kd len i e h w [] (sym (if_true _ _ _ (ap is_fault (sym w.kind_is) ∙ f)))

pub token_step : (text out : Text) (s : State) (x : Space) (b : ℕ) (z : Text) (left : Input) (kd : Kind) (len : ℕ) →
    IsSoFar text out s x (b ∷ z) left → (b == 35) ≡ false → is_blank b ≡ false → IsNext b z kd len → is_fault kd ≡ false →
    IsSoFar text ((out ++ laid_gap s x kd) ++ take len (b ∷ z)) (past_token s kd) space.Beside (drop (len - 1) z) (next left)
token_step text out s x b z left kd len i e h w f =
    let t = token (b ∷ z) in
    let r = skip (len - 1) b (past i.last i.at) (i.off + 1) z in
    let no = ap is_fault (sym w.kind_is) ∙ f in
    let small = level_if (opens kd) (closes kd) s.level in
    let fewer = r.fewer in
    let fits = i.fits in
    record {
      told =
          told_on text out s x b z left kd len i e h w (items_from zero false space.Beside (drop (len - 1) z))
          (sym (items_skip (len - 1) z) ∙ ap (λ n. items_from (n - 1) false space.Beside z) w.len_same ∙ sym (if_false _ _ _ no));
      last = r.then_last;
      at = r.then_at;
      off = r.then_off;
      same =
          sym r.skipped ∙ ap (λ n. tokens_from (n - 1) false b (past i.last i.at) (i.off + 1) z) w.len_same
          ∙ sym (if_false (is_fault t.0.kind) [] (tokens_from (t.1 - 1) false b (past i.last i.at) (i.off + 1) z) no)
          ∙ ap next (sym (token_tokens b z i.last i.at i.off e h) ∙ i.same);
      fits = omega (arith, small, fewer, fits);
    }

-- ---- as the code says it

-- at the beginning nothing is written, and all tokens are left
pub begun_by : (text out : Text) (left : Input) → out ≡ [] → left ≡ tokens text → IsSoFar text out start space.First text left
begun_by text out left o e = subst (λ z. IsSoFar text z start space.First text left) (sym o) (begun text left e)

after_fewer : (z : Text) → length (after_comment z) ≤ length z
after_fewer z = (over z 0 (record { line = 1; column = 0 }) 0).shorter

less_one : (n : ℕ) → suc n - 1 ≡ n
less_one n = omega arith

after_first : (b : ℕ) (z : Text) → take (length (b ∷ z) - 1) (drop 1 (b ∷ z)) ≡ z
after_first b z = ap (λ n. take n z) (less_one (length z)) ∙ take-length z

-- after a comment fewer bytes are left
pub smaller_by : (rest y : Text) → 1 ≤ length rest → y ≡ after_comment (take (length rest - 1) (drop 1 rest)) → length y < length rest
smaller_by [] y some e = absurd (omega (arith, some))
smaller_by (b ∷ z) y some e =
    let h = after_fewer z in
    let q : length y ≡ length (after_comment z) = ap length (e ∙ ap after_comment (after_first b z)) in
    omega (arith, q, h)

-- one more comment is written, with the gap before it
pub comment_by : (text out out2 out3 : Text) (s s2 : State) (x : Space) (rest found y : Text) (left : Input) →
    IsSoFar text out s x rest left → 1 ≤ length rest → slice_index rest 0 ≡ 35 → out2 ≡ out ++ gap x s.level →
    found ≡ comment rest → out3 ≡ out2 ++ found → s2 ≡ past_comment s → y ≡ after_comment (take (length rest - 1) (drop 1 rest)) →
    IsSoFar text out3 s2 space.Beside y left
comment_by text out out2 out3 s s2 x [] found y left i some b a c d e f = absurd (omega (arith, some))
comment_by text out out2 out3 s s2 x (b ∷ z) found y left i some h a c d e f =
    subst (λ y. IsSoFar text out3 s2 space.Beside y left) (sym (f ∙ ap after_comment (after_first b z)))
    (subst (λ q. IsSoFar text out3 q space.Beside (after_comment z) left) (sym e)
    (subst (λ o. IsSoFar text o (past_comment s) space.Beside (after_comment z) left)
    (sym (d ∙ ap (λ o. o ++ found) a ∙ ap (λ w. (out ++ gap x s.level) ++ w) c))
    (comment_step text out s x b z left i (ap (λ c. c == 35) h))))

-- what is written before a token, by where it is laid and how deep
pub gap_by : (out out2 : Text) (s : State) (x y : Space) (kd : Kind) (n : ℕ) → out2 ≡ out ++ gap y n → y ≡ placed s kd x → n ≡ depth s kd →
    out2 ≡ out ++ laid_gap s x kd
gap_by out out2 s x y kd n e h k = e ∙ ap (λ z. out ++ gap z n) h ∙ ap (λ m. out ++ gap (placed s kd x) m) k

-- one more token is written, with the gap before it
pub token_by : (text out out2 out3 : Text) (s s2 : State) (x : Space) (rest word y : Text) (left more : Input) (kd : Kind) (len : ℕ) →
    IsSoFar text out s x rest left → 1 ≤ length rest → slice_index rest 0 ≢ 35 → is_blank (slice_index rest 0) ≡ false →
    kd ≡ kind left → len ≡ (front left).end - (front left).start → is_fault kd ≡ false →
    out2 ≡ out ++ laid_gap s x kd → word ≡ take len rest → out3 ≡ out2 ++ word → s2 ≡ past_token s kd →
    y ≡ drop (len - 1) (take (length rest - 1) (drop 1 rest)) →
    more ≡ next left → IsSoFar text out3 s2 space.Beside y more
token_by text out out2 out3 s s2 x [] word y left more kd len i some e h k l f a c d g m n = absurd (omega (arith, some))
token_by text out out2 out3 s s2 x (b ∷ z) word y left more kd len i some e h k l f a c d g m n =
    subst (IsSoFar text out3 s2 space.Beside y) (sym n)
    (subst (λ y. IsSoFar text out3 s2 space.Beside y (next left)) (sym (m ∙ ap (drop (len - 1)) (after_first b z)))
    (subst (λ q. IsSoFar text out3 q space.Beside (drop (len - 1) z) (next left)) (sym g)
    (subst (λ o. IsSoFar text o (past_token s kd) space.Beside (drop (len - 1) z) (next left))
    (sym (d ∙ ap (λ o. o ++ word) a ∙ ap (λ w. (out ++ laid_gap s x kd) ++ w) c))
    (token_step text out s x b z left kd len i (ne_eqb b 35 e) h (next_is text out s x b z left kd len i (ne_eqb b 35 e) h k l) f))))
