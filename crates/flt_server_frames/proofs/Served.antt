-- A server answers one frame after the other.
use Rattle.std.proofs.Common.{◌≡◌, ◌≢◌, ◌+◌, ◌-◌, ◌^◌, ◌++◌, ◌∷◌, ◌∙◌, [], ℕ, List, Option, Some}
use Rattle.std.proofs.Common.{None, Result, Ok, Err, IfErr, ap, sym, subst, refl, length}
use Rattle.std.proofs.KnownBytes.{Appends-nil, Appends-trans, Consumes-nil, Consumes-trans}
use Rattle.std.proofs.lemmas.Grind.{flat_map-append}
use Rattle.std.proofs.lemmas.List.{append_assoc, append-nil, length-append}
use Rattle.std.specs.Io.KnownBytes.{Appends, Consumes}
use Rattle.std.specs.List.{flat_map}
use Rattle.flt_server_frames.specs.Frames.{AreFrames, Ending, Gives, IsFrame, ended, ends, ends_cut}
use Rattle.flt_server_frames.specs.Frames.{ends_malformed, framed, front_of, whole}
use Rattle.flt_server_frames.specs.Handling.{AreAnswers, EndWith, IsOver, IsServed, IsServedSoFar}
use Rattle.flt_server_frames.specs.Handling.{Reply, full, messages_of, over, said, sent_for}
use Rattle.flt_server_frames.specs.Line.{Text}
use Rattle.flt_server_frames.specs.declared.fault.ServeFault.{ServeFault}
use Rattle.flt_server_frames.specs.declared.fault.ServeFault.TheVariants as fault
use Rattle.flt_server_frames.specs.declared.frame.Frame.{Frame}
use Rattle.flt_server_frames.specs.declared.frame.Frame.TheVariants as frame

-- one more body is answered
answers_more : {H : Type 0} (answers : H → Text → Reply → H → Type 0) (bodies : List Text) (replies : List Reply) (first mid last : H)
    (body : Text) (reply : Reply) → AreAnswers answers bodies replies first mid → answers mid body reply last →
    AreAnswers answers (bodies ++ body ∷ []) (replies ++ reply ∷ []) first last
answers_more answers [] [] first mid last body reply before next = (last, subst (λ h. answers h body reply last) (sym before) next, refl)
answers_more answers [] (r ∷ rs) first mid last body reply before next = absurd before
answers_more answers (b ∷ bs) [] first mid last body reply before next = absurd before
answers_more answers (b ∷ bs) (r ∷ rs) first mid last body reply before next =
    (before.0, before.1, answers_more answers bs rs before.0 mid last body reply before.2 next)

-- one more reply, which says how the server ends
ends_more : (replies : List Reply) (reply : Reply) (status : Option ℕ) → EndWith replies None → reply.ends ≡ status →
    EndWith (replies ++ reply ∷ []) status
ends_more [] reply status before is = is
ends_more (r ∷ []) reply status before is = (before, is)
ends_more (r ∷ s ∷ rs) reply status before is = (before.0, ends_more (s ∷ rs) reply status before.1 is)

-- what goes out for one more reply
sent_more : (replies : List Reply) (reply : Reply) → sent_for (replies ++ reply ∷ []) ≡ sent_for replies ++ flat_map framed
    (messages_of reply)
sent_more replies reply =
    ap (flat_map framed) (flat_map-append messages_of replies (reply ∷ []))
    ∙ flat_map-append framed (flat_map messages_of replies) (messages_of reply ++ [])
    ∙ ap (λ l. sent_for replies ++ flat_map framed l) (append-nil (messages_of reply))

-- frames of these bodies are at the front, whatever comes after them
abbrev pub ComeFirst : List Text → Text → Type 0
ComeFirst bodies bytes = (others : List Text) (ending : Ending) (more : Text) → AreFrames others ending more →
    AreFrames (bodies ++ others) ending (bytes ++ more)

-- a server has answered so many frames
pub record HasServed {H : Type 0} (answers : H → Text → Reply → H → Type 0) (first last : H) (had left old new : Option Text) (count : ℕ) :
    Type 0 where
  pub bytes : Text
  pub bodies : List Text
  pub replies : List Reply
  pub read : Consumes had left bytes
  pub whole : ComeFirst bodies bytes
  pub answered : AreAnswers answers bodies replies first last
  pub sent : Appends old new (sent_for replies)
  pub goes_on : EndWith replies None
  pub counted : length bodies ≡ count

-- a body was answered
abbrev pub OneAnswered : {H : Type 0} → (H → Text → Reply → H → Type 0) → H → H → Option Text → Option Text → Text → Option ℕ → Type 0
OneAnswered answers mid last old new body status =
    (reply : Reply) × answers mid body reply last × (reply.ends ≡ status) × Appends old new (flat_map framed (messages_of reply))

come_more : (bodies : List Text) (bytes part body : Text) → ComeFirst bodies bytes →
    ((more : Text) → front_of (part ++ more) ≡ whole body more) → ComeFirst (bodies ++ body ∷ []) (bytes ++ part)
come_more bodies bytes part body before next others ending more rest =
    let all : AreFrames (bodies ++ (body ∷ others)) ending (bytes ++ (part ++ more)) =
    before (body ∷ others) ending (part ++ more) (more, next more, rest) in
    subst (λ bs. AreFrames bs ending ((bytes ++ part) ++ more)) (sym (append_assoc bodies (body ∷ []) others))
    (subst (AreFrames (bodies ++ (body ∷ others)) ending) (sym (append_assoc bytes part more)) all)

-- how the frames end, where they are all
come_all : (bodies : List Text) (bytes more : Text) (ending : Ending) → ComeFirst bodies bytes → front_of more ≡ ended ending →
    AreFrames bodies ending (bytes ++ more)
come_all bodies bytes more ending before end =
    subst (λ bs. AreFrames bs ending (bytes ++ more)) (append-nil bodies) (before [] ending more end)

come_whole : (bodies : List Text) (bytes : Text) → ComeFirst bodies bytes → AreFrames bodies ends bytes
come_whole bodies bytes before = subst (AreFrames bodies ends) (append-nil bytes) (come_all bodies bytes [] ends before refl)

module _ {H : Type 0} (answers : H → Text → Reply → H → Type 0) where
  -- nothing was read yet
  pub none_served : (first : H) (had old : Option Text) → HasServed answers first first had had old old 0
  none_served first had old = record {
    bytes = [];
    bodies = [];
    replies = [];
    read = Consumes-nil had;
    whole = λ others ending more rest. rest;
    answered = refl;
    sent = Appends-nil old;
    goes_on = refl;
    counted = refl;
  }

  -- one frame more is answered
  pub one_served : (first mid last : H) (had between left old mids new : Option Text) (count : ℕ) (body : Text) →
      HasServed answers first mid had between old mids count → Gives between left (whole body) →
      OneAnswered answers mid last mids new body None → HasServed answers first last had left old new (count + 1)
  one_served first mid last had between left old mids new count body before given one = record {
    bytes = before.bytes ++ given.0;
    bodies = before.bodies ++ body ∷ [];
    replies = before.replies ++ one.0 ∷ [];
    read = Consumes-trans _ _ _ _ _ before.read given.1;
    whole = come_more before.bodies before.bytes given.0 body before.whole given.2;
    answered = answers_more answers before.bodies before.replies first mid last body one.0 before.answered one.1;
    sent = subst (Appends old new) (sym (sent_more before.replies one.0)) (Appends-trans _ _ _ _ _ before.sent one.3);
    goes_on = ends_more before.replies one.0 None before.goes_on one.2;
    counted = length-append before.bodies (body ∷ []) ∙ ap (λ n. n + 1) before.counted;
  }

  -- the last reply ends the server
  pub end_said : (first mid last : H) (had between left old mids new : Option Text) (count status : ℕ) (body : Text) →
      HasServed answers first mid had between old mids count → Gives between left (whole body) →
      OneAnswered answers mid last mids new body (Some status) → IsServed answers first last had left old new status
  end_said first mid last had between left old mids new count status body before given one =
      let come = come_more before.bodies before.bytes given.0 body before.whole given.2 in
      record {
        bytes = before.bytes ++ given.0;
        bodies = before.bodies ++ body ∷ [];
        replies = before.replies ++ one.0 ∷ [];
        read = Consumes-trans _ _ _ _ _ before.read given.1;
        answered = answers_more answers before.bodies before.replies first mid last body one.0 before.answered one.1;
        sent = subst (Appends old new) (sym (sent_more before.replies one.0)) (Appends-trans _ _ _ _ _ before.sent one.3);
        why = said (ends_more before.replies one.0 (Some status) before.goes_on one.2) (come_whole _ _ come);
      }

  served_over : (first last : H) (had between left old new : Option Text) (count : ℕ) (part : Text) (ending : Ending) →
      HasServed answers first last had between old new count → Consumes between left part → front_of part ≡ ended ending →
      IsOver ending left → IsServed answers first last had left old new 1
  served_over first last had between left old new count part ending before taken end is = record {
    bytes = before.bytes ++ part;
    bodies = before.bodies;
    replies = before.replies;
    read = Consumes-trans _ _ _ _ _ before.read taken;
    answered = before.answered;
    sent = before.sent;
    why = over ending before.goes_on (come_all before.bodies before.bytes part ending before.whole end) is refl;
  }

  -- no frame comes
  pub none_comes : (first last : H) (had between left old new : Option Text) (count : ℕ) (found : Frame) →
      HasServed answers first last had between old new count → IsFrame between left found →
      ((body : _) → found ≢ frame.Body body) → found ≢ frame.TooLong → IsServed answers first last had left old new 1
  none_comes first last had between left old new count (frame.Body body) before is not_body not_long = absurd (not_body body refl)
  none_comes first last had between left old new count frame.TooLong before is not_body not_long = absurd (not_long refl)
  none_comes first last had between left old new count frame.End before is not_body not_long =
      served_over first last had between left old new count is.0 ends before is.1 is.3 is.2
  none_comes first last had between left old new count frame.Malformed before is not_body not_long =
      served_over first last had between left old new count (is.0 ++ []) ends_malformed before
      (subst (Consumes between left) (sym (append-nil is.0)) is.1) (is.2 []) tt
  none_comes first last had between left old new count frame.Cut before is not_body not_long =
      served_over first last had between left old new count is.0 ends_cut before is.1 is.3 is.2

  -- there were as many frames as are counted
  pub all_served : (first last : H) (had left old new : Option Text) (count : ℕ) → HasServed answers first last had left old new count →
      count ≡ 2 ^ 64 - 1 → IsServed answers first last had left old new 1
  all_served first last had left old new count before many = record {
    bytes = before.bytes;
    bodies = before.bodies;
    replies = before.replies;
    read = before.read;
    answered = before.answered;
    sent = before.sent;
    why = full before.goes_on (come_whole _ _ before.whole) (before.counted ∙ many) refl;
  }

  -- the server stops before the next answer
  pub stopped : (first last : H) (had left old new : Option Text) (count : ℕ) → HasServed answers first last had left old new count →
      IsServedSoFar answers first had old new
  stopped first last had left old new count before = record {
    bytes = before.bytes;
    left = left;
    bodies = before.bodies;
    replies = before.replies;
    last = last;
    read = before.read;
    whole = come_whole _ _ before.whole;
    answered = before.answered;
    sent = before.sent;
    goes_on = before.goes_on;
  }

-- whatever a server stopped for, this holds
pub still : {X Q : Type 0} (r : Result X ServeFault) → Q → IfErr r (λ e. e ≢ fault.Write → Q)
still (Ok x) q = tt
still (Err e) q = λ other. q
