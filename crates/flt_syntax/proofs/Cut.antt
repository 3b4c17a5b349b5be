-- The tokens of a text by the line in which reading stands, and by how many bytes were left where it begins: reading goes on
-- over blanks, comments and tokens, none of which ends a line but the line feed.
use Rattle.std.proofs.Common.{◌≡◌, ◌≢◌, ℕ, zero, suc, ◌+◌, ◌-◌, ◌≤◌, ◌<◌, Bool, true, false, List, [], ◌∷◌, ◌++◌}
use Rattle.std.proofs.Common.{length, take, drop, get_or, refl, sym, ap, subst, ◌∙◌, arith, append_assoc}
use Rattle.std.proofs.lemmas.Bool.{eqb-true, eqb-false, and_parts}
use Rattle.std.proofs.lemmas.List.{append-nil, length-drop, take_all}
use Rattle.std.proofs.Math.Seq.{take-length}
use Rattle.std.specs.List.{prefix_len}
use Rattle.std.specs.Prelude.{◌==◌, ◌&&◌, not, nat_lt, slice_index, if◌then◌else◌}
use Rattle.flt_syntax.specs.Cursor.{Input}
use Rattle.flt_syntax.specs.Lex.{past, one_column_on, end_of, word, is_blank, is_fault, after_spaces, after_comment}
use Rattle.flt_syntax.specs.Lex.{run, pair_or, token, IsWithin, token_of, step_of, tokens_from, tokens}
use Rattle.flt_syntax.specs.declared.token.Kind.{Kind}
use Rattle.flt_syntax.specs.declared.token.Kind.TheVariants as k
use Rattle.flt_syntax.specs.declared.token.Token.{Token}
use Rattle.flt_syntax.specs.declared.token.Word.{Word}
use Rattle.flt_syntax.proofs.TokenKinds.{differ}
use Rattle.flt_tree.specs.Names.{Text, is_word}
use Rattle.flt_tree.specs.declared.filter.Position.{Position}

-- ---- bytes that end no line

-- whether none of the first bytes is a line feed
abbrev plain : ℕ → Text → Bool
plain zero z = true
plain (suc n) [] = true
plain (suc n) (b ∷ z) = not (b == 10) && plain n z

no_feed : (b : ℕ) (f : ℕ → Bool) → f 10 ≡ false → f b ≡ true → (b == 10) ≡ false
no_feed b f none e = by (b == 10) refl
  where
    by : (x : Bool) → (b == 10) ≡ x → x ≡ false
    by true h = elim (differ (sym none ∙ (ap f (sym (eqb-true b 10 h)) ∙ e))) [ ]
    by false h = refl

plain_one : (b : ℕ) (z : Text) → (b == 10) ≡ false → plain 1 (b ∷ z) ≡ true
plain_one b z e = rw e refl

plain_two : (b c : ℕ) (z : Text) → (b == 10) ≡ false → (c == 10) ≡ false → plain 2 (b ∷ (c ∷ z)) ≡ true
plain_two b c z e h = rw (e, h) refl

run_on : (b : ℕ) (z : Text) (x : Bool) → is_word b ≡ x → plain (prefix_len is_word z) z ≡ true →
    plain (prefix_len is_word (b ∷ z)) (b ∷ z) ≡ true
run_on b z true e h =
    let longer : prefix_len is_word (b ∷ z) ≡ suc (prefix_len is_word z) =
    let n : 1 + prefix_len is_word z ≡ suc (prefix_len is_word z) = omega arith in rw (e, n) refl in
    ap (λ n. plain n (b ∷ z)) longer ∙ rw (no_feed b is_word refl e) h
run_on b z false e h = rw e refl

plain_run : (z : Text) → plain (prefix_len is_word z) z ≡ true
plain_run [] = refl
plain_run (b ∷ z) = run_on b z (is_word b) refl (plain_run z)

either : (z : Text) (c : Bool) (p q : Word × ℕ) → (c ≡ true → plain p.1 z ≡ true) → (c ≡ false → plain q.1 z ≡ true) →
    plain (if c then p else q).1 z ≡ true
either z true p q f g = f refl
either z false p q f g = g refl

second : (b : ℕ) (z : Text) → (b == 10) ≡ false → (nat_lt 1 (length (b ∷ z)) && slice_index (b ∷ z) 1 == 61) ≡ true →
    plain 2 (b ∷ z) ≡ true
second b [] e h = rw e refl
second b (c ∷ z) e h =
    plain_two b c z e
    (no_feed c (λ x. x == 61) refl (and_parts (nat_lt 1 (length (b ∷ (c ∷ z)))) (slice_index (b ∷ (c ∷ z)) 1 == 61) h).1)

plain_pair : (pair one : Kind) (b : ℕ) (z : Text) → (b == 10) ≡ false → plain (pair_or pair one (b ∷ z)).1 (b ∷ z) ≡ true
unfolding pair_or
plain_pair pair one b z e =
    either (b ∷ z) (nat_lt 1 (length (b ∷ z)) && slice_index (b ∷ z) 1 == 61) (word pair, 2) (word one, 1)
    (λ h. second b z e h) (λ _. plain_one b z e)

-- the bytes of a token end no line
plain_token : (b : ℕ) (z : Text) → (b == 10) ≡ false → plain (token (b ∷ z)).1 (b ∷ z) ≡ true
unfolding token run
plain_token b z e =
    let one : plain 1 (b ∷ z) ≡ true = plain_one b z e in
    either (b ∷ z) (b == 123) _ _ (λ _. one) (λ _.
    either (b ∷ z) (b == 125) _ _ (λ _. one) (λ _.
    either (b ∷ z) (b == 60) _ _ (λ _. one) (λ _.
    either (b ∷ z) (b == 43) _ _ (λ _. one) (λ _.
    either (b ∷ z) (b == 45) _ _ (λ _. one) (λ _.
    either (b ∷ z) (b == 61) _ _ (λ _. plain_pair k.Equal k.Assign b z e) (λ _.
    either (b ∷ z) (b == 33) _ _ (λ _. plain_pair k.NotEqual k.Stray b z e) (λ _.
    either (b ∷ z) (is_word b) _ _ (λ _. plain_run (b ∷ z)) (λ _. one))))))))

-- ---- a table of bytes

abbrev alike : Bool → Bool → Bool
alike true x = x
alike false x = not x

abbrev agrees : List Bool → Bool → ℕ → Bool
agrees table d zero = true
agrees table d (suc n) = alike (get_or table n d) (is_word n) && agrees table d n

are_alike : (x y : Bool) → alike x y ≡ true → x ≡ y
are_alike true true e = refl
are_alike true false e = elim (differ e) [ ]
are_alike false true e = elim (differ e) [ ]
are_alike false false e = refl

agree_by : (table : List Bool) (d : Bool) (n b : ℕ) (x : Bool) → (b == n) ≡ x → b < suc n → get_or table n d ≡ is_word n →
    (b < n → get_or table b d ≡ is_word b) → get_or table b d ≡ is_word b
agree_by table d n b true e h here below = subst (λ m. get_or table m d ≡ is_word m) (sym (eqb-true b n e)) here
agree_by table d n b false e h here below = let other : b ≡ n → ⊥ = eqb-false b n e in below (omega (arith, other))

-- a table that says of each number below another whether it is the code of a letter, a digit or `_`
pub table_agrees : (table : List Bool) (d : Bool) (n b : ℕ) → b < n → agrees table d n ≡ true → get_or table b d ≡ is_word b
table_agrees table d zero b h e = absurd (omega arith)
table_agrees table d (suc n) b h e =
    let p = and_parts (alike (get_or table n d) (is_word n)) (agrees table d n) e in
    agree_by table d n b (b == n) refl h (are_alike _ _ p.0) (λ less. table_agrees table d n b less p.1)

-- ---- over bytes of one line

-- the tokens `i` that are left of `z`, which stands behind `last`, are those that are left of `y`, further on in the line
record Beyond (i : Input) (last : ℕ) (at : Position) (off : ℕ) (z y : Text) : Type 0 where
  then_last : ℕ
  then_at : Position
  then_off : ℕ
  same : i ≡ tokens_from zero false then_last then_at then_off y
  counted : then_off + length y ≡ off + length z
  same_line : (past then_last then_at).line ≡ (past last at).line
  column : (past then_last then_at).column + length y ≡ (past last at).column + length z
  inside : one_column_on then_at ≡ past then_last then_at

here : (i : Input) (last : ℕ) (at : Position) (off : ℕ) (z : Text) → i ≡ tokens_from zero false last at off z →
    one_column_on at ≡ past last at →
    Beyond i last at off z z
here i last at off z e h =
    record { then_last = last; then_at = at; then_off = off; same = e; counted = refl; same_line = refl; column = refl; inside = h }

one_on : (b : ℕ) (at : Position) → (b == 10) ≡ false → one_column_on at ≡ past b at
one_on b at e = rw e refl

plus_more : (n m : ℕ) → n + 1 + m ≡ n + suc m
plus_more n m = omega arith

before : (i : Input) (b last : ℕ) (at : Position) (off : ℕ) (z y : Text) → (b == 10) ≡ false → Beyond i b (past last at) (off + 1) z y →
    Beyond i last at off (b ∷ z) y
before i b last at off z y e r =
    let p = one_on b (past last at) e in
    record {
      then_last = r.then_last;
      then_at = r.then_at;
      then_off = r.then_off;
      same = r.same;
      counted = r.counted ∙ plus_more off (length z);
      same_line = r.same_line ∙ ap (λ (q : Position). q.line) (sym p);
      column = r.column ∙ (ap (λ (q : Position). q.column + length z) (sym p) ∙ plus_more (past last at).column (length z));
      inside = r.inside;
    }

-- over the rest of a token
over : (n : ℕ) (last : ℕ) (at : Position) (off : ℕ) (z : Text) → one_column_on at ≡ past last at → n ≤ length z → plain n z ≡ true →
    Beyond (tokens_from n false last at off z) last at off z (drop n z)
over zero last at off z h fits e = here _ last at off z refl h
over (suc n) last at off [] h fits e = absurd (omega arith)
over (suc n) last at off (b ∷ z) h fits e =
    let p = and_parts (not (b == 10)) (plain n z) e in
    let f = is_not (b == 10) p.0 in
    before _ b last at off z (drop n z) f (over n b (past last at) (off + 1) z (one_on b (past last at) f) (omega arith) p.1)
  where
    is_not : (x : Bool) → not x ≡ true → x ≡ false
    is_not true h = elim (differ h) [ ]
    is_not false h = refl

-- over spaces
space : (b last : ℕ) (at : Position) (off : ℕ) (z : Text) → b ≡ 32 →
    tokens_from zero false last at off (b ∷ z) ≡ tokens_from zero false b (past last at) (off + 1) z
space b last at off z e = rw e refl

no_other : (b a : ℕ) → b ≡ a → (a == 10) ≡ false → (b == 10) ≡ false
no_other b a e h = rw e h

space_more : (b : ℕ) (z : Text) → (b == 32) ≡ true → after_spaces (b ∷ z) ≡ after_spaces z
space_more b z e = rw e refl

space_none : (b : ℕ) (z : Text) → (b == 32) ≡ false → after_spaces (b ∷ z) ≡ b ∷ z
space_none b z e = rw e refl

over_space : (b last : ℕ) (at : Position) (off : ℕ) (z : Text) (x : Bool) → (b == 32) ≡ x → one_column_on at ≡ past last at →
    ((b == 10) ≡ false → Beyond (tokens_from zero false b (past last at) (off + 1) z) b (past last at) (off + 1) z (after_spaces z)) →
    Beyond (tokens_from zero false last at off (b ∷ z)) last at off (b ∷ z) (after_spaces (b ∷ z))
over_space b last at off z true e h more =
    let s : b ≡ 32 = eqb-true b 32 e in
    let n : (b == 10) ≡ false = no_other b 32 s refl in
    subst (Beyond (tokens_from zero false last at off (b ∷ z)) last at off (b ∷ z)) (sym (space_more b z e))
    (subst (λ (i : Input). Beyond i last at off (b ∷ z) (after_spaces z)) (sym (space b last at off z s))
    (before _ b last at off z (after_spaces z) n (more n)))
over_space b last at off z false e h more =
    subst (Beyond (tokens_from zero false last at off (b ∷ z)) last at off (b ∷ z)) (sym (space_none b z e))
    (here (tokens_from zero false last at off (b ∷ z)) last at off (b ∷ z) refl h)

over_spaces : (last : ℕ) (at : Position) (off : ℕ) (z : Text) → one_column_on at ≡ past last at →
    Beyond (tokens_from zero false last at off z) last at off z (after_spaces z)
over_spaces last at off [] h = here _ last at off [] refl h
over_spaces last at off (b ∷ z) h =
    over_space b last at off z (b == 32) refl h
    (λ n. over_spaces b (past last at) (off + 1) z (one_on b (past last at) n))

-- over a comment
comment_at_feed : (b last : ℕ) (at : Position) (off : ℕ) (z : Text) → b ≡ 10 →
    tokens_from zero true last at off (b ∷ z) ≡ tokens_from zero false last at off (b ∷ z)
comment_at_feed b last at off z e = rw e refl

comment_on : (b : ℕ) (z : Text) → (b == 10) ≡ false → after_comment (b ∷ z) ≡ after_comment z
comment_on b z e = rw e refl

comment_ends : (b : ℕ) (z : Text) → (b == 10) ≡ true → after_comment (b ∷ z) ≡ b ∷ z
comment_ends b z e = rw e refl

comment_first : (b last : ℕ) (at : Position) (off : ℕ) (z : Text) → (b == 10) ≡ false →
    tokens_from zero true last at off (b ∷ z) ≡ tokens_from zero true b (past last at) (off + 1) z
comment_first b last at off z e = ap (λ x. tokens_from zero (not x) b (past last at) (off + 1) z) e

over_one : (b last : ℕ) (at : Position) (off : ℕ) (z : Text) (x : Bool) → (b == 10) ≡ x → one_column_on at ≡ past last at →
    ((b == 10) ≡ false → Beyond (tokens_from zero true b (past last at) (off + 1) z) b (past last at) (off + 1) z (after_comment z)) →
    Beyond (tokens_from zero true last at off (b ∷ z)) last at off (b ∷ z) (after_comment (b ∷ z))
over_one b last at off z true e h more =
    subst (Beyond (tokens_from zero true last at off (b ∷ z)) last at off (b ∷ z)) (sym (comment_ends b z e))
    (here (tokens_from zero true last at off (b ∷ z)) last at off (b ∷ z) (comment_at_feed b last at off z (eqb-true b 10 e)) h)
over_one b last at off z false e h more =
    subst (Beyond (tokens_from zero true last at off (b ∷ z)) last at off (b ∷ z)) (sym (comment_on b z e))
    (subst (λ (i : Input). Beyond i last at off (b ∷ z) (after_comment z)) (sym (comment_first b last at off z e))
    (before _ b last at off z (after_comment z) e (more e)))

over_comment : (last : ℕ) (at : Position) (off : ℕ) (z : Text) → one_column_on at ≡ past last at →
    Beyond (tokens_from zero true last at off z) last at off z (after_comment z)
over_comment last at off [] h = here _ last at off [] refl h
over_comment last at off (b ∷ z) h =
    over_one b last at off z (b == 10) refl h
    (λ n. over_comment b (past last at) (off + 1) z (one_on b (past last at) n))

-- ---- where reading stands

-- behind the tokens that were found the text goes on with `rest`, in a line at whose start `from` bytes were left; if the text
-- ends where the line starts, it ends at `end`
pub record IsCut (text : Text) (found : Input) (line from : ℕ) (end : Position) (rest : Text) : Type 0 where
  last : ℕ
  at : Position
  off : ℕ
  same : tokens text ≡ found ++ tokens_from zero false last at off rest
  counted : off + length rest ≡ length text
  in_line : (past last at).line ≡ line
  column : (past last at).column + length rest ≡ from + 1
  pub within : length rest ≤ from
  pub small : from ≤ length text
  pub lines : line + length rest ≤ length text + 1
  fresh : from ≡ length rest → one_column_on at ≡ end
  inside : length rest < from → one_column_on at ≡ past last at

position_is : (p : Position) (l c : ℕ) → p.line ≡ l → p.column ≡ c → p ≡ record { line = l; column = c }
position_is p l c e h = rw (← e, ← h) refl

here_is : {text : Text} {found : Input} {line from : ℕ} {end : Position} {rest : Text} (r : IsCut text found line from end rest) →
    past r.last r.at ≡ record { line = line; column = from - length rest + 1 }
here_is {from = from} {rest = rest} r =
    let h : (past r.last r.at).column ≡ from - length rest + 1 = omega (arith, r.column, r.within) in
    position_is (past r.last r.at) _ _ r.in_line h

pub starts : (text : Text) → IsCut text [] 1 (length text) (record { line = 1; column = 1 }) text
unfolding tokens
starts text =
    record {
      last = 0;
      at = record { line = 1; column = 0 };
      off = 0;
      same = refl;
      counted = omega arith;
      in_line = refl;
      column = omega arith;
      within = omega arith;
      small = omega arith;
      lines = omega arith;
      fresh = λ _. refl;
      inside = λ h. absurd (omega (arith, h));
    }

-- over bytes of the line, with a token or none that is found
goes_on : {text : Text} {found : Input} {line from : ℕ} {end : Position} (b : ℕ) (z y : Text) (r : IsCut text found line from end (b ∷ z))
    (i more : Input) → tokens_from zero false r.last r.at r.off (b ∷ z) ≡ more ++ i →
    length y ≤ length z → Beyond i b (past r.last r.at) (r.off + 1) z y →
    (b == 10) ≡ false →
    IsCut text (found ++ more) line from end y
goes_on {text} {found} {line} {from} {end} b z y r i more e fits s n =
    let t = before i b r.last r.at r.off z y n s in
    record {
      last = t.then_last;
      at = t.then_at;
      off = t.then_off;
      same = r.same ∙ (ap (λ x. found ++ x) (e ∙ ap (λ x. more ++ x) t.same) ∙ sym (append_assoc found more _));
      counted = t.counted ∙ r.counted;
      in_line = t.same_line ∙ r.in_line;
      column = t.column ∙ r.column;
      within = omega (arith, r.within);
      small = r.small;
      lines = omega (arith, r.lines);
      fresh = λ h. absurd (omega (arith, h, r.within));
      inside = λ _. t.inside;
    }

-- ---- the steps of reading

shorter_space : (b : ℕ) (z : Text) (x : Bool) → (b == 32) ≡ x → length (after_spaces z) ≤ length z →
    length (after_spaces (b ∷ z)) ≤ length (b ∷ z)
shorter_space b z true e h = rw e (omega (arith, h))
shorter_space b z false e h = rw e (omega arith)

shorter_spaces : (z : Text) → length (after_spaces z) ≤ length z
shorter_spaces [] = omega arith
shorter_spaces (b ∷ z) = shorter_space b z (b == 32) refl (shorter_spaces z)

shorter_one : (b : ℕ) (z : Text) (x : Bool) → (b == 10) ≡ x → length (after_comment z) ≤ length z →
    length (after_comment (b ∷ z)) ≤ length (b ∷ z)
shorter_one b z true e h = rw e (omega arith)
shorter_one b z false e h = rw e (omega (arith, h))

shorter_comment : (z : Text) → length (after_comment z) ≤ length z
shorter_comment [] = omega arith
shorter_comment (b ∷ z) = shorter_one b z (b == 10) refl (shorter_comment z)

one_in : (last : ℕ) (at : Position) (b : ℕ) → (b == 10) ≡ false → one_column_on (past last at) ≡ past b (past last at)
one_in last at b e = one_on b (past last at) e

-- over a line feed
pub feeds : {text : Text} {found : Input} {line from : ℕ} {end : Position} (b : ℕ) (z : Text) → IsCut text found line from end (b ∷ z) →
    b ≡ 10 → IsCut text found (line + 1) (length z) (record { line = line; column = from - length z + 1 }) z
feeds {text} {found} {line} {from} {end} b z r e =
    let h = here_is r in
    record {
      last = b;
      at = past r.last r.at;
      off = r.off + 1;
      same = r.same ∙ ap (λ x. found ++ x) (fed b r.last r.at r.off z e);
      counted = plus_more r.off (length z) ∙ r.counted;
      in_line = ap (λ (p : Position). p.line) (past_feed b (past r.last r.at) e) ∙ ap (λ n. n + 1) r.in_line;
      column = ap (λ (p : Position). p.column + length z) (past_feed b (past r.last r.at) e) ∙ one_and (length z);
      within = omega arith;
      small = omega (arith, r.within, r.small);
      lines = omega (arith, r.lines);
      fresh = λ _. ap one_column_on h ∙ ap (λ n. record { line = line; column = n }) (one_less from (length z) r.within);
      inside = λ x. absurd (omega (arith, x));
    }
  where
    fed : (b last : ℕ) (at : Position) (off : ℕ) (z : Text) → b ≡ 10 →
        tokens_from zero false last at off (b ∷ z) ≡ tokens_from zero false b (past last at) (off + 1) z
    fed b last at off z e = rw e refl

    past_feed : (b : ℕ) (at : Position) → b ≡ 10 → past b at ≡ record { line = at.line + 1; column = 1 }
    past_feed b at e = rw e refl

    one_and : (n : ℕ) → 1 + n ≡ n + 1
    one_and n = omega arith

    one_less : (m n : ℕ) → suc n ≤ m → m - suc n + 1 + 1 ≡ m - n + 1
    one_less m n h = omega arith

blank_first : (b last : ℕ) (at : Position) (off : ℕ) (z : Text) → is_blank b ≡ true → (b == 35) ≡ false →
    tokens_from zero false last at off (b ∷ z) ≡ tokens_from zero false b (past last at) (off + 1) z
blank_first b last at off z e h = rw (h, e) refl

no_hash : (b : ℕ) → is_blank b ≡ true → (b == 35) ≡ false
no_hash b e = by (b == 35) refl
  where
    by : (x : Bool) → (b == 35) ≡ x → x ≡ false
    by true h = elim (differ (ap is_blank (sym (eqb-true b 35 h)) ∙ e)) [ ]
    by false h = refl

-- over a blank that is no line feed, and the spaces behind it
pub blanks : {text : Text} {found : Input} {line from : ℕ} {end : Position} (b : ℕ) (z : Text) → IsCut text found line from end (b ∷ z) →
    (b == 10) ≡ false → is_blank b ≡ true → IsCut text found line from end (after_spaces z)
blanks {text} {found} {line} {from} {end} b z r n e =
    let at = past r.last r.at in
    subst (λ f. IsCut text f line from end (after_spaces z)) (append-nil found)
    (goes_on b z (after_spaces z) r (tokens_from zero false b at (r.off + 1) z) [] (blank_first b r.last r.at r.off z e (no_hash b e))
    (shorter_spaces z) (over_spaces b at (r.off + 1) z (one_in r.last r.at b n)) n)

hash_first : (b last : ℕ) (at : Position) (off : ℕ) (z : Text) → b ≡ 35 →
    tokens_from zero false last at off (b ∷ z) ≡ tokens_from zero true b (past last at) (off + 1) z
hash_first b last at off z e = rw e refl

-- over a comment
pub comments : {text : Text} {found : Input} {line from : ℕ} {end : Position} (b : ℕ) (z : Text) → IsCut text found line from end (b ∷ z) →
    b ≡ 35 → IsCut text found line from end (after_comment z)
comments {text} {found} {line} {from} {end} b z r e =
    let at = past r.last r.at in
    let n = no_other b 35 e refl in
    subst (λ f. IsCut text f line from end (after_comment z)) (append-nil found)
    (goes_on b z (after_comment z) r (tokens_from zero true b at (r.off + 1) z) [] (hash_first b r.last r.at r.off z e)
    (shorter_comment z) (over_comment b at (r.off + 1) z (one_in r.last r.at b n)) n)

-- the token at the front, where it stands
abbrev pub token_here : Text → ℕ → ℕ → Text → Token
token_here text line from z = token_of (record { number = line; from = from; total = length text }) z (token z)

token_first : (b last : ℕ) (at : Position) (off : ℕ) (z : Text) → is_blank b ≡ false → (b == 35) ≡ false →
    tokens_from zero false last at off (b ∷ z)
    ≡ record { word = (token (b ∷ z)).0; position = past last at; start = off; end = off + (token (b ∷ z)).1 }
    ∷ (if is_fault (token (b ∷ z)).0.kind then [] else tokens_from ((token (b ∷ z)).1 - 1) false b (past last at) (off + 1) z)
token_first b last at off z e h = rw (h, e) refl

here_token : {text : Text} {found : Input} {line from : ℕ} {end : Position} (b : ℕ) (z : Text)
    (r : IsCut text found line from end (b ∷ z)) →
    let t = token (b ∷ z) in
    record { word = t.0; position = past r.last r.at; start = r.off; end = r.off + t.1 } ≡ token_here text line from (b ∷ z)
here_token {text} {line = line} {from} b z r =
    let e : r.off ≡ length text - length (b ∷ z) = omega (arith, r.counted) in
    let t = token (b ∷ z) in
    ap (λ p. record { word = t.0; position = p; start = r.off; end = r.off + t.1 }) (here_is r)
    ∙ ap (λ n. record { word = t.0; position = record { line = line; column = from - length (b ∷ z) + 1 }; start = n; end = n + t.1 }) e

no_line : (b : ℕ) → is_blank b ≡ false → (b == 10) ≡ false
no_line b e = by (b == 10) refl
  where
    by : (x : Bool) → (b == 10) ≡ x → x ≡ false
    by true h = elim (differ (sym e ∙ ap is_blank (eqb-true b 10 h))) [ ]
    by false h = refl

less_one : (n : ℕ) → suc n - 1 ≡ n
less_one n = omega arith

-- over a token
pub takes : {text : Text} {found : Input} {line from : ℕ} {end : Position} (b : ℕ) (z : Text) → IsCut text found line from end (b ∷ z) →
    is_blank b ≡ false → (b == 35) ≡ false → 1 ≤ (token (b ∷ z)).1 → (token (b ∷ z)).1 ≤ length (b ∷ z) →
    is_fault (token (b ∷ z)).0.kind ≡ false →
    IsCut text (found ++ token_here text line from (b ∷ z) ∷ []) line from end (drop (token (b ∷ z)).1 (b ∷ z))
takes {text} {found} {line} {from} {end} b z r e h some fits good =
    by (token (b ∷ z)).1 refl some fits
  where
    n : (b == 10) ≡ false
    n = no_line b e

    stands : (len : ℕ) → (token (b ∷ z)).1 ≡ suc len →
        record { word = (token (b ∷ z)).0; position = past r.last r.at; start = r.off; end = r.off + (token (b ∷ z)).1 }
        ∷ (if is_fault (token (b ∷ z)).0.kind then [] else tokens_from ((token (b ∷ z)).1 - 1) false b (past r.last r.at) (r.off + 1) z)
        ≡ token_here text line from (b ∷ z) ∷ [] ++ tokens_from len false b (past r.last r.at) (r.off + 1) z
    stands len is =
        ap (λ (t : Token). t ∷
        (if is_fault (token (b ∷ z)).0.kind then [] else tokens_from ((token (b ∷ z)).1 - 1) false b (past r.last r.at) (r.off + 1) z))
        (here_token b z r)
        ∙ ap (λ (i : Input). token_here text line from (b ∷ z) ∷ i)
        (ap (λ x. if x then [] else tokens_from ((token (b ∷ z)).1 - 1) false b (past r.last r.at) (r.off + 1) z) good
        ∙ ap (λ m. tokens_from m false b (past r.last r.at) (r.off + 1) z) (ap (λ m. m - 1) is ∙ less_one len))

    plain_rest : (len : ℕ) → (token (b ∷ z)).1 ≡ suc len → plain len z ≡ true
    plain_rest len is = (and_parts (not (b == 10)) (plain len z) (subst (λ m. plain m (b ∷ z) ≡ true) is (plain_token b z n))).1

    by : (len : ℕ) → (token (b ∷ z)).1 ≡ len → 1 ≤ len → len ≤ length (b ∷ z) →
        IsCut text (found ++ token_here text line from (b ∷ z) ∷ []) line from end (drop len (b ∷ z))
    by zero is some fits = absurd (omega arith)
    by (suc len) is some fits =
        let at = past r.last r.at in
        goes_on b z (drop len z) r (tokens_from len false b at (r.off + 1) z) (token_here text line from (b ∷ z) ∷ [])
        (token_first b r.last r.at r.off z e h ∙ stands len is)
        (omega (arith, length-drop len z))
        (over len b at (r.off + 1) z (one_in r.last r.at b n) (omega arith) (plain_rest len is))
        n

-- the last token is none
pub faults : {text : Text} {found : Input} {line from : ℕ} {end : Position} (b : ℕ) (z : Text) → IsCut text found line from end (b ∷ z) →
    is_blank b ≡ false → (b == 35) ≡ false → is_fault (token (b ∷ z)).0.kind ≡ true →
    tokens text ≡ found ++ token_here text line from (b ∷ z) ∷ []
faults {text} {found} {line} {from} {end} b z r e h bad =
    r.same
    ∙ ap (λ x. found ++ x)
    (token_first b r.last r.at r.off z e h
    ∙ (ap (λ (t : Token). t ∷
    (if is_fault (token (b ∷ z)).0.kind then [] else tokens_from ((token (b ∷ z)).1 - 1) false b (past r.last r.at) (r.off + 1) z))
    (here_token b z r)
    ∙ ap (λ x. token_here text line from (b ∷ z) ∷
    (if x then [] else tokens_from ((token (b ∷ z)).1 - 1) false b (past r.last r.at) (r.off + 1) z)) bad))

end_is : {text : Text} {found : Input} {line from : ℕ} {end : Position} (r : IsCut text found line from end []) →
    one_column_on r.at ≡ end_of line from end
end_is {line = line} {from} {end} r = by (from == 0) refl
  where
    by : (x : Bool) → (from == 0) ≡ x → one_column_on r.at ≡ (if x then end else record { line = line; column = from + 1 })
    by true e = r.fresh (eqb-true from 0 e)
    by false e =
        let other : from ≡ 0 → ⊥ = eqb-false from 0 e in
        let all : from - 0 ≡ from = omega arith in
        r.inside (omega (arith, other)) ∙ here_is r
        ∙ ap (λ n. record { line = line; column = n + 1 }) all

-- the end of the text
pub ends : {text : Text} {found : Input} {line from : ℕ} {end : Position} → IsCut text found line from end [] →
    tokens text
    ≡ found ++ record { word = word k.End; position = end_of line from end; start = length text; end = length text } ∷ []
ends {text} {found} {line} {from} {end} r =
    let e : r.off ≡ length text = omega (arith, r.counted) in
    r.same
    ∙ ap (λ x. found ++ x)
    (ap (λ p. record { word = word k.End; position = p; start = r.off; end = r.off } ∷ []) (end_is r)
    ∙ ap (λ n. record { word = word k.End; position = end_of line from end; start = n; end = n } ∷ []) e)

-- over spaces, if there are some
pub spaces : {text : Text} {found : Input} {line from : ℕ} {end : Position} (z : Text) → IsCut text found line from end z →
    IsCut text found line from end (after_spaces z)
spaces [] r = r
spaces {text} {found} {line} {from} {end} (b ∷ z) r = by (b == 32) refl
  where
    by : (x : Bool) → (b == 32) ≡ x → IsCut text found line from end (after_spaces (b ∷ z))
    by true e =
        let s : b ≡ 32 = eqb-true b 32 e in
        subst (IsCut text found line from end) (sym (space_more b z e)) (blanks b z r (no_other b 32 s refl) (rw s refl))
    by false e = subst (IsCut text found line from end) (sym (space_none b z e)) r

-- ---- the same of what the loop reads: the first byte of what is left, and the bytes behind it

not_equal : (b a : ℕ) → b ≢ a → (b == a) ≡ false
not_equal b a other = by (b == a) refl
  where
    by : (x : Bool) → (b == a) ≡ x → x ≡ false
    by true h = absurd (other (eqb-true b a h))
    by false h = refl

after_first : (b : ℕ) (z : Text) → take (length (b ∷ z) - 1) (drop 1 (b ∷ z)) ≡ z
after_first b z = ap (λ n. take n z) (less_one (length z)) ∙ take-length z

all_after : (n : ℕ) (z : Text) → take (length z - n) (drop n z) ≡ drop n z
all_after n z = take_all (length z - n) (drop n z) (omega (arith, length-drop n z))

-- a text is cut before its first byte, where no token has been found
pub init_step : (text : Text) (found : Input) (end : Position) → found ≡ [] → end ≡ record { line = 1; column = 0 - 0 + 1 } →
    IsCut text found 1 (length text) end text
init_step text found end e h =
    subst (λ (i : Input). IsCut text i 1 (length text) end text) (sym e)
    (subst (λ (p : Position). IsCut text [] 1 (length text) p text) (sym h) (starts text))

pub feed_step : (text : Text) (found : Input) (line from : ℕ) (end at : Position) (rest : Text) → IsCut text found line from end rest →
    1 ≤ length rest → slice_index rest 0 ≡ 10 →
    at ≡ record { line = line; column = from - length (take (length rest - 1) (drop 1 rest)) + 1 } →
    IsCut text found (line + 1) (length (take (length rest - 1) (drop 1 rest))) at (take (length rest - 1) (drop 1 rest))
feed_step text found line from end at [] r h e p = absurd (omega arith)
feed_step text found line from end at (b ∷ z) r h e p =
    let same : take (length (b ∷ z) - 1) (drop 1 (b ∷ z)) ≡ z = after_first b z in
    let place : at ≡ record { line = line; column = from - length z + 1 } =
    p ∙ ap (λ (y : Text). record { line = line; column = from - length y + 1 }) same in
    subst (λ (y : Text). IsCut text found (line + 1) (length y) at y) (sym same)
    (subst (λ (q : Position). IsCut text found (line + 1) (length z) q z) (sym place) (feeds b z r e))

-- a line feed, and the blanks after it, begin a line
pub feed_spaces_step : (text : Text) (found : Input) (line from : ℕ) (end at : Position) (rest y : Text) →
    IsCut text found line from end rest →
    1 ≤ length rest → slice_index rest 0 ≡ 10 →
    at ≡ record { line = line; column = from - length (take (length rest - 1) (drop 1 rest)) + 1 } →
    y ≡ after_spaces (take (length rest - 1) (drop 1 rest)) →
    IsCut text found (line + 1) (length (take (length rest - 1) (drop 1 rest))) at y
feed_spaces_step text found line from end at rest y r h e p s =
    subst (IsCut text found (line + 1) (length (take (length rest - 1) (drop 1 rest))) at) (sym s)
    (spaces (take (length rest - 1) (drop 1 rest)) (feed_step text found line from end at rest r h e p))

-- a blank, and the blanks after it, stay in the line
pub blank_step : (text : Text) (found : Input) (line from : ℕ) (end : Position) (rest y : Text) → IsCut text found line from end rest →
    1 ≤ length rest → slice_index rest 0 ≢ 10 → is_blank (slice_index rest 0) ≡ true →
    y ≡ after_spaces (take (length rest - 1) (drop 1 rest)) →
    IsCut text found line from end y
blank_step text found line from end [] y r h n e s = absurd (omega arith)
blank_step text found line from end (b ∷ z) y r h n e s =
    subst (IsCut text found line from end) (sym (s ∙ ap after_spaces (after_first b z))) (blanks b z r (not_equal b 10 n) e)

-- a blank leaves fewer bytes to be read
pub less_by_spaces : (rest y : Text) → 1 ≤ length rest → y ≡ after_spaces (take (length rest - 1) (drop 1 rest)) → length y < length rest
less_by_spaces [] y h s = absurd (omega arith)
less_by_spaces (b ∷ z) y h s =
    let e : length y ≡ length (after_spaces z) = ap length (s ∙ ap after_spaces (after_first b z)) in
    omega (arith, e, shorter_spaces z)

-- a comment is read to the end of its line
pub comment_step : (text : Text) (found : Input) (line from : ℕ) (end : Position) (rest y : Text) → IsCut text found line from end rest →
    1 ≤ length rest → slice_index rest 0 ≡ 35 →
    y ≡ after_comment (take (length rest - 1) (drop 1 rest)) →
    IsCut text found line from end y
comment_step text found line from end [] y r h e s = absurd (omega arith)
comment_step text found line from end (b ∷ z) y r h e s =
    subst (IsCut text found line from end) (sym (s ∙ ap after_comment (after_first b z))) (comments b z r e)

-- a comment leaves fewer bytes to be read
pub less_by_comment : (rest y : Text) → 1 ≤ length rest → y ≡ after_comment (take (length rest - 1) (drop 1 rest)) → length y < length rest
less_by_comment [] y h s = absurd (omega arith)
less_by_comment (b ∷ z) y h s =
    let e : length y ≡ length (after_comment z) = ap length (s ∙ ap after_comment (after_first b z)) in
    omega (arith, e, shorter_comment z)

is_one : (t : Word × ℕ) (len : ℕ) → len ≡ step_of t → len ≢ 0 → is_fault t.0.kind ≡ false
is_one t len e some = by (is_fault t.0.kind) refl
  where
    by : (x : Bool) → is_fault t.0.kind ≡ x → x ≡ false
    by true h = absurd (some (e ∙ ap (λ x. if x then 0 else t.1) h))
    by false h = refl

is_none : (t : Word × ℕ) (len : ℕ) → len ≡ step_of t → len ≡ 0 → 1 ≤ t.1 → is_fault t.0.kind ≡ true
is_none t len e none some = by (is_fault t.0.kind) refl
  where
    by : (x : Bool) → is_fault t.0.kind ≡ x → x ≡ true
    by true h = refl
    by false h = let same : len ≡ t.1 = e ∙ ap (λ x. if x then 0 else t.1) h in absurd (omega (arith, same, none, some))

leads : (t : Word × ℕ) (len : ℕ) → len ≡ step_of t → len ≢ 0 → len ≡ t.1
leads t len e some = e ∙ ap (λ x. if x then 0 else t.1) (is_one t len e some)

-- over a token, by the length that is told of it
token_step : (text : Text) (found more : Input) (line from : ℕ) (end : Position) (rest : Text) (len : ℕ) →
    IsCut text found line from end rest → 1 ≤ length rest → is_blank (slice_index rest 0) ≡ false → slice_index rest 0 ≢ 35 →
    more ≡ found ++ token_here text line from rest ∷ [] → len ≡ step_of (token rest) → len ≢ 0 → IsWithin rest (token rest) →
    IsCut text more line from end (take (length rest - len) (drop len rest))
token_step text found more line from end [] len r h e n m is some fits = absurd (omega arith)
token_step text found more line from end (b ∷ z) len r h e n m is some fits =
    let t = token (b ∷ z) in
    subst (λ (i : Input). IsCut text i line from end (take (length (b ∷ z) - len) (drop len (b ∷ z)))) (sym m)
    (subst (λ (n : ℕ). IsCut text (found ++ token_here text line from (b ∷ z) ∷ []) line from end
    (take (length (b ∷ z) - n) (drop n (b ∷ z)))) (sym (leads t len is some))
    (subst (λ (y : Text). IsCut text (found ++ token_here text line from (b ∷ z) ∷ []) line from end y) (sym (all_after t.1 (b ∷ z)))
    (takes b z r e (not_equal b 35 n) fits.0 fits.1 (is_one t len is some))))

-- and over the spaces behind it
pub token_spaces_step : (text : Text) (found more : Input) (line from : ℕ) (end : Position) (rest y : Text) (len : ℕ) →
    IsCut text found line from end rest → 1 ≤ length rest → is_blank (slice_index rest 0) ≡ false → slice_index rest 0 ≢ 35 →
    more ≡ found ++ token_here text line from rest ∷ [] → len ≡ step_of (token rest) → len ≢ 0 → IsWithin rest (token rest) →
    y ≡ after_spaces (take (length rest - len) (drop len rest)) →
    IsCut text more line from end y
token_spaces_step text found more line from end rest y len r h e n m is some fits s =
    subst (IsCut text more line from end) (sym s)
    (spaces (take (length rest - len) (drop len rest)) (token_step text found more line from end rest len r h e n m is some fits))

-- a token leaves fewer bytes to be read
pub less_by_token : (rest y : Text) (len : ℕ) → len ≡ step_of (token rest) → len ≢ 0 → IsWithin rest (token rest) →
    y ≡ after_spaces (take (length rest - len) (drop len rest)) → length y < length rest
less_by_token rest y len is some fits s =
    let e : length y ≡ length (after_spaces (drop len rest)) = ap length (s ∙ ap after_spaces (all_after len rest)) in
    let n : len ≡ (token rest).1 = leads (token rest) len is some in
    omega (arith, e, n, fits.0, fits.1, shorter_spaces (drop len rest), length-drop len rest)

-- a byte that begins no token is the last thing found, and ends the text's tokens
pub fault_step : (text : Text) (found more : Input) (line from : ℕ) (end : Position) (rest : Text) (len : ℕ) →
    IsCut text found line from end rest → 1 ≤ length rest → is_blank (slice_index rest 0) ≡ false → slice_index rest 0 ≢ 35 →
    more ≡ found ++ token_here text line from rest ∷ [] → len ≡ step_of (token rest) → len ≡ 0 → IsWithin rest (token rest) →
    more ≡ tokens text
fault_step text found more line from end [] len r h e n m is none fits = absurd (omega arith)
fault_step text found more line from end (b ∷ z) len r h e n m is none fits =
    m ∙ sym (faults b z r e (not_equal b 35 n) (is_none (token (b ∷ z)) len is none fits.0))

-- where no byte is left, the end of the text is the last token
pub end_step : (text : Text) (found more : Input) (line from : ℕ) (end at : Position) (rest : Text) (w : Word) →
    IsCut text found line from end rest → length rest < 1 → w ≡ word k.End → at ≡ end_of line from end →
    more ≡ found ++ record { word = w; position = at; start = length text; end = length text } ∷ [] →
    more ≡ tokens text
end_step text found more line from end at [] w r h e p m =
    m
    ∙ (ap (λ (v : Word). found ++ record { word = v; position = at; start = length text; end = length text } ∷ []) e
    ∙ (ap (λ (q : Position). found ++ record { word = word k.End; position = q; start = length text; end = length text } ∷ []) p ∙
    sym (ends r)))
end_step text found more line from end at (b ∷ z) w r h e p m = absurd (omega arith)
