-- Lines: what is read is spelled so, and a wrong byte goes on no line.
use Rattle.std.proofs.Common.{◌≡◌, ◌<◌, ◌^◌, ℕ, Bool, true, false, [], ◌∷◌, ◌++◌, refl, sym, ap, subst, ◌∙◌, append-nil}
use Rattle.std.specs.Prelude.{Option, Some, None, codes}
use Rattle.flt_rules.specs.declared.place.Mode.{Mode}
use Rattle.flt_rules.specs.declared.place.Mode.TheVariants.{Irp, Fast}
use Rattle.flt_model.specs.Streams.{Text}
use Rattle.flt_model.specs.JournalText.{IsKey, IsMove, IsEntry, number_text, operation_text, mode_text}
use Rattle.flt_model.specs.JournalText.{key_text, grant_text, move_line, entry_line, last_line}
use Rattle.flt_model.specs.JournalTextReading.{Parser, ◌>>=◌, ◌>>◌, pure, exactly, number, line, operation}
use Rattle.flt_model.specs.JournalTextReading.{mode, key, grant, numbered, twice_numbered, arrive, pre_or_post, cancel_or_canceled}
use Rattle.flt_model.specs.JournalTextReading.{detach_or_detached, detach_or_drain, unlink, go, move_by}
use Rattle.flt_model.specs.declared.moves.JournalEntry.{JournalEntry}
use Rattle.flt_model.specs.declared.moves.JournalEntry.TheVariants as entries
use Rattle.flt_model.specs.declared.moves.Key.{Key}
use Rattle.flt_model.specs.declared.moves.Key.TheVariants.{Stream, Instance}
use Rattle.flt_model.specs.declared.moves.Move.{Move}
use Rattle.flt_model.specs.declared.moves.Move.TheVariants as moves
use Rattle.flt_model.proofs.Online.{Online, Choice, dead, said, pure_online, then_online, choice_then, node, pick, after}
use Rattle.flt_model.proofs.OperationSteps.{operation_online}
use Rattle.flt_model.proofs.Numbers.{Whole, number_online, with_number}

-- a line that a number ends
ends : {A : Type 0} (Js : Text → A → Type 0) (make : ℕ → A) → ((n : ℕ) → n < 2 ^ 32 → Js (number_text n 10) (make n)) →
    Online Js (number 10 >>= λ n. pure (make n))
ends Js make h = with_number Js 10 (λ n. pure (make n)) (λ n small. pure_online (λ w b. Js (number_text n 10 ++ w) b) (make n)
    (subst (λ z. Js z (make n)) (sym (append-nil (number_text n 10))) (h n small)))

-- a word
word : {A : Type 0} (Js : Text → A → Type 0) (front : Text) (a : A) → Js front a → Online Js (exactly front >> pure a)
word Js front a h = after Js front (pure a) (pure_online (λ w b. Js (front ++ w) b) a (subst (λ z. Js z a) (sym (append-nil front)) h))

-- one of the words of an operation, a mode or an answer, then what follows it
named : {A B : Type 0} (text_of : A → Text) (Js : Text → B → Type 0) (p : Parser A) (k : A → Parser B) → Online (λ c a. c ≡ text_of a) p →
    ((a : A) → Online (λ w b. Js (text_of a ++ w) b) (k a)) → Online Js (p >>= k)
named text_of Js p k o f = then_online (λ c a. c ≡ text_of a) Js p k o
    (λ c a e. subst (λ z. Online (λ w b. Js (z ++ w) b) (k a)) (sym e) (f a))

-- ---- modes, keys and answers

abbrev Mo : Text → Mode → Type 0
Mo c m = c ≡ mode_text m

irp_online : Online (λ w a. Mo (105 ∷ w) a) (exactly (codes "rp ") >> pure Irp)
irp_online = word (λ w a. Mo (105 ∷ w) a) (codes "rp ") Irp refl

fast_online : Online (λ w a. Mo (102 ∷ w) a) (exactly (codes "ast ") >> pure Fast)
fast_online = word (λ w a. Mo (102 ∷ w) a) (codes "ast ") Fast refl

mode_online : Online Mo mode
unfolding mode
mode_online = node Mo _ 105 irp_online (λ b. pick Mo b 105 _ _ irp_online (λ e. pick Mo b 102 _ _ fast_online (λ e. dead (λ text. refl))))

abbrev Ke : Text → Key → Type 0
Ke c k = (c ≡ key_text k) × IsKey k

stream_online : Online (λ w a. Ke (115 ∷ w) a) (exactly (codes "tream ") >> (number 10 >>= λ file. pure (Stream file)))
stream_online = after (λ w a. Ke (115 ∷ w) a) (codes "tream ") (number 10 >>= λ file. pure (Stream file))
    (ends (λ w a. Ke (codes "stream " ++ w) a) Stream (λ n small. (refl, small)))

instance_online : Online (λ w a. Ke (105 ∷ w) a) (exactly (codes "nstance" ++ 10 ∷ []) >> pure Instance)
instance_online = word (λ w a. Ke (105 ∷ w) a) (codes "nstance" ++ 10 ∷ []) Instance (refl, tt)

key_online : Online Ke key
unfolding key
key_online = node Ke _ 115 stream_online
    (λ b. pick Ke b 115 _ _ stream_online (λ e. pick Ke b 105 _ _ instance_online (λ e. dead (λ text. refl))))

abbrev Gr : Text → Bool → Type 0
Gr c g = c ≡ grant_text g

yes_online : Online (λ w a. Gr (121 ∷ w) a) (exactly (codes "es" ++ 10 ∷ []) >> pure true)
yes_online = word (λ w a. Gr (121 ∷ w) a) (codes "es" ++ 10 ∷ []) true refl

no_online : Online (λ w a. Gr (110 ∷ w) a) (exactly (codes "o" ++ 10 ∷ []) >> pure false)
no_online = word (λ w a. Gr (110 ∷ w) a) (codes "o" ++ 10 ∷ []) false refl

grant_online : Online Gr grant
unfolding grant
grant_online = node Gr _ 121 yes_online (λ b. pick Gr b 121 _ _ yes_online (λ e. pick Gr b 110 _ _ no_online (λ e. dead (λ text. refl))))

-- ---- moves

-- the line of a move behind its front
abbrev pub Behind : Text → Text → Move → Type 0
Behind front c m = (front ++ c ≡ move_line m) × IsMove m

arrive_online : Online (Behind (codes "a")) arrive
unfolding arrive
arrive_online = after (Behind (codes "a")) (codes "rrive ") _
    (named operation_text (Behind (codes "arrive ")) operation _ operation_online (λ o.
    named mode_text (λ w m. Behind (codes "arrive ") (operation_text o ++ w) m) mode _ mode_online (λ x.
    ends (λ w m. Behind (codes "arrive ") (operation_text o ++ (mode_text x ++ w)) m) (moves.Arrive o x) (λ n small. (refl, small)))))

-- the rest of a word, and a number
abbrev pub Numbered : Text → Text → ℕ → Type 0
Numbered front c n = (c ≡ front ++ number_text n 10) × (n < 2 ^ 32)

-- a number after a word is read up to the first byte that no spelling goes on with
pub numbered_online : (front : Text) → Online (Numbered front) (numbered front)
unfolding numbered
numbered_online front = after (Numbered front) front (number 10)
    (said (Whole 10) (λ c n. Numbered front (front ++ c) n) (number 10) (λ c n h. (ap (λ z. front ++ z) h.0, h.1)) (number_online 10))

-- the rest of a word, and two numbers
abbrev TwiceNumbered : Text → Text → ℕ × ℕ → Type 0
TwiceNumbered front c q = (c ≡ front ++ (number_text q.0 32 ++ number_text q.1 10)) × ((q.0 < 2 ^ 32) × (q.1 < 2 ^ 32))

twice_numbered_online : (front : Text) → Online (TwiceNumbered front) (twice_numbered front)
unfolding twice_numbered
twice_numbered_online front = after (TwiceNumbered front) front _ (with_number (λ w q. TwiceNumbered front (front ++ w) q) 32 _ (λ a low.
    ends (λ w q. TwiceNumbered front (front ++ (number_text a 32 ++ w)) q) (λ n. (a, n)) (λ n small. (refl, (low, small)))))

-- the line of a move with a number
by_number : (start front : Text) (make : ℕ → Move) → ((n : ℕ) → n < 2 ^ 32 → Behind start (front ++ number_text n 10) (make n)) →
    Online (Behind start) (numbered front >>= λ n. pure (make n))
by_number start front make h = then_online (Numbered front) (Behind start) (numbered front) _ (numbered_online front) (λ c n e.
    pure_online (λ w m. Behind start (c ++ w) m) (make n) (subst (λ z. Behind start z (make n)) (sym (append-nil c ∙ e.0)) (h n e.1)))

-- the line of a move with two numbers
by_two_numbers : (start front : Text) (make : ℕ → ℕ → Move) →
    ((a n : ℕ) → a < 2 ^ 32 → n < 2 ^ 32 → Behind start (front ++ (number_text a 32 ++ number_text n 10)) (make a n)) →
    Online (Behind start) (twice_numbered front >>= λ q. pure (make q.0 q.1))
by_two_numbers start front make h =
    then_online (TwiceNumbered front) (Behind start) (twice_numbered front) _ (twice_numbered_online front) (λ c q e.
    pure_online (λ w m. Behind start (c ++ w) m) (make q.0 q.1)
    (subst (λ z. Behind start z (make q.0 q.1)) (sym (append-nil c ∙ e.0)) (h q.0 q.1 e.1.0 e.1.1)))

pre_online : Online (Behind (codes "pr")) (numbered (codes "e ") >>= λ serial. pure (moves.Pre serial))
pre_online = by_number (codes "pr") (codes "e ") moves.Pre (λ n small. (refl, small))

post_online : Online (Behind (codes "po")) (numbered (codes "st ") >>= λ serial. pure (moves.Post serial))
post_online = by_number (codes "po") (codes "st ") moves.Post (λ n small. (refl, small))

pre_or_post_online : Online (Behind (codes "p")) pre_or_post
unfolding pre_or_post
pre_or_post_online = node (Behind (codes "p")) _ 114 pre_online
    (λ b. pick (Behind (codes "p")) b 114 _ _ pre_online (λ e. pick (Behind (codes "p")) b 111 _ _ post_online (λ e. dead (λ text. refl))))

skip_online : Online (Behind (codes "s")) (numbered (codes "kip ") >>= λ serial. pure (moves.Skip serial))
skip_online = by_number (codes "s") (codes "kip ") moves.Skip (λ n small. (refl, small))

lower_online : Online (Behind (codes "l")) (numbered (codes "ower ") >>= λ serial. pure (moves.Lower serial))
lower_online = by_number (codes "l") (codes "ower ") moves.Lower (λ n small. (refl, small))

work_online : Online (Behind (codes "w")) (numbered (codes "ork ") >>= λ item. pure (moves.Work item))
work_online = by_number (codes "w") (codes "ork ") moves.Work (λ n small. (refl, small))

cancel_end : Online (Behind (codes "cancel ")) (number 10 >>= λ serial. pure (moves.Cancel serial))
cancel_end = ends (Behind (codes "cancel ")) moves.Cancel (λ n small. (refl, small))

canceled_end : Online (Behind (codes "cancele")) (twice_numbered (codes "d ") >>= λ q. pure (moves.Canceled q.0 q.1))
canceled_end = by_two_numbers (codes "cancele") (codes "d ") moves.Canceled (λ a n low small. (refl, (low, small)))

cancel_or_canceled_online : Online (Behind (codes "c")) cancel_or_canceled
unfolding cancel_or_canceled
cancel_or_canceled_online = after (Behind (codes "c")) (codes "ancel") _ (node (Behind (codes "cancel")) _ 32 cancel_end (λ b.
    pick (Behind (codes "cancel")) b 32 _ _ cancel_end
    (λ e. pick (Behind (codes "cancel")) b 101 _ _ canceled_end (λ e. dead (λ text. refl)))))

detach_end : Online (Behind (codes "detach ")) (number 10 >>= λ altitude. pure (moves.Detach altitude))
detach_end = ends (Behind (codes "detach ")) moves.Detach (λ n small. (refl, small))

detached_end : Online (Behind (codes "detache")) (numbered (codes "d ") >>= λ altitude. pure (moves.Detached altitude))
detached_end = by_number (codes "detache") (codes "d ") moves.Detached (λ n small. (refl, small))

detach_or_detached_online : Online (Behind (codes "de")) detach_or_detached
unfolding detach_or_detached
detach_or_detached_online = after (Behind (codes "de")) (codes "tach") _ (node (Behind (codes "detach")) _ 32 detach_end (λ b.
    pick (Behind (codes "detach")) b 32 _ _ detach_end
    (λ e. pick (Behind (codes "detach")) b 101 _ _ detached_end (λ e. dead (λ text. refl)))))

drain_online : Online (Behind (codes "dr")) (twice_numbered (codes "ain ") >>= λ q. pure (moves.Drain q.0 q.1))
drain_online = by_two_numbers (codes "dr") (codes "ain ") moves.Drain (λ a n low small. (refl, (low, small)))

detach_or_drain_online : Online (Behind (codes "d")) detach_or_drain
unfolding detach_or_drain
detach_or_drain_online = node (Behind (codes "d")) _ 101 detach_or_detached_online (λ b.
    pick (Behind (codes "d")) b 101 _ _ detach_or_detached_online
    (λ e. pick (Behind (codes "d")) b 114 _ _ drain_online (λ e. dead (λ text. refl))))

unlink_online : Online (Behind (codes "u")) unlink
unfolding unlink
unlink_online = after (Behind (codes "u")) (codes "nlink ") _ (with_number (Behind (codes "unlink ")) 32 _ (λ a low.
    then_online Ke (λ w m. Behind (codes "unlink ") (number_text a 32 ++ w) m) key _ key_online (λ c k h.
    pure_online (λ w m. Behind (codes "unlink ") (number_text a 32 ++ (c ++ w)) m) (moves.Unlink a k)
    (ap (λ z. codes "unlink " ++ (number_text a 32 ++ z)) (append-nil c ∙ h.0), (low, h.1)))))

-- ---- lines

-- a line: an entry, or the last one
abbrev pub line_text : Option JournalEntry → Text
line_text None = last_line
line_text (Some entry) = entry_line entry

abbrev pub IsLine : Option JournalEntry → Type 0
IsLine None = Unit {0}
IsLine (Some entry) = IsEntry entry

abbrev pub Line : Text → Option JournalEntry → Type 0
Line c x = (c ≡ line_text x) × IsLine x

end_online : Online (λ w x. Line (101 ∷ w) x) (exactly (codes "nd" ++ 10 ∷ []) >> pure None)
end_online = word (λ w x. Line (101 ∷ w) x) (codes "nd" ++ 10 ∷ []) None (refl, tt)

abbrev BehindGo : Text → JournalEntry → Type 0
BehindGo c e = (codes "g" ++ c ≡ entry_line e) × IsEntry e

go_online : Online BehindGo go
unfolding go
go_online = after BehindGo (codes "o ") _ (with_number (λ w e. BehindGo (codes "o " ++ w) e) 32 _ (λ a low.
    with_number (λ w e. BehindGo (codes "o " ++ (number_text a 32 ++ w)) e) 32 _ (λ n small.
    named grant_text (λ w e. BehindGo (codes "o " ++ (number_text a 32 ++ (number_text n 32 ++ w))) e) grant _ grant_online (λ x.
    pure_online (λ w e. BehindGo (codes "o " ++ (number_text a 32 ++ (number_text n 32 ++ (grant_text x ++ w)))) e) (entries.Go a n x)
    (ap (λ z. codes "go " ++ (number_text a 32 ++ (number_text n 32 ++ z))) (append-nil (grant_text x)), (low, small))))))

go_line_online : Online (λ w x. Line (103 ∷ w) x) (go >>= λ entry. pure (Some entry))
go_line_online = then_online BehindGo (λ w x. Line (103 ∷ w) x) go _ go_online (λ c e h.
    pure_online (λ w x. Line (103 ∷ (c ++ w)) x) (Some e) (ap (λ z. 103 ∷ z) (append-nil c) ∙ h.0, h.1))

-- after its first byte a move is read up to the first byte that no spelling goes on with, or no move begins so
pub move_choice : (b : ℕ) → Choice (λ w m. Behind [] (b ∷ w) m) (move_by b)
unfolding move_by
move_choice b =
    pick (Behind []) b 97 _ _ arrive_online
    (λ e. pick (Behind []) b 112 _ _ pre_or_post_online (λ e. pick (Behind []) b 115 _ _ skip_online (λ e.
    pick (Behind []) b 108 _ _ lower_online
    (λ e. pick (Behind []) b 99 _ _ cancel_or_canceled_online (λ e. pick (Behind []) b 119 _ _ work_online (λ e.
    pick (Behind []) b 100 _ _ detach_or_drain_online (λ e. pick (Behind []) b 117 _ _ unlink_online (λ e. dead (λ text. refl)))))))))

move_line_choice : (b : ℕ) → Choice (λ w x. Line (b ∷ w) x) (move_by b >>= λ move. pure (Some (entries.Move move)))
move_line_choice b = choice_then (λ w m. Behind [] (b ∷ w) m) (λ w x. Line (b ∷ w) x) (move_by b) _ (move_choice b) (λ c m h.
    pure_online (λ w x. Line (b ∷ (c ++ w)) x) (Some (entries.Move m)) (ap (λ z. b ∷ z) (append-nil c) ∙ h.0, h.1))

-- a line is read up to the first byte that no spelling goes on with
pub line_online : Online Line line
unfolding line
line_online = node Line _ 101 end_online
    (λ b. pick Line b 101 _ _ end_online (λ e. pick Line b 103 _ _ go_line_online (λ e. move_line_choice b)))
