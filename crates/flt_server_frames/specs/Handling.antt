-- How a server answers the bodies of messages, and what it sends. This project's own rule.
use Rattle.std.specs.Io.KnownBytes.{Appends, Consumes, IsAtEnd}
use Rattle.std.specs.List.{flat_map}
use Rattle.std.specs.Prelude.{◌≡◌, ◌-◌, ◌^◌, ◌++◌, [], ◌∷◌, ⊤, ℕ, List, Option, Some, None, length, map, option_map, option_to_list}
use Rattle.flt_server_frames.specs.Frames.{AreFrames, Ending, ends, ends_cut, ends_malformed, framed}
use Rattle.flt_server_frames.specs.Line.{Text}
use Rattle.flt_server_frames.specs.declared.handler.MessageAnswer.{MessageAnswer}

-- an answer to a message's body, without where it lies in memory
pub record Reply : Type 0 where
  pub response : Option Text
  pub notifications : List Text
  pub ends : Option ℕ

-- what was answered
abbrev pub reply_of : MessageAnswer → Reply
reply_of a = record {
  response = option_map (λ v. v.items) a.response;
  notifications = map (λ v. v.items) a.notifications.items;
  ends = a.ends;
}

-- the messages of a reply: the response, and the notifications after it
abbrev pub messages_of : Reply → List Text
messages_of reply = option_to_list reply.response ++ reply.notifications

-- all that goes out for some replies
abbrev pub sent_for : List Reply → Text
sent_for replies = flat_map framed (flat_map messages_of replies)

-- some bodies are answered so, one after the other, from the first state to the last
abbrev pub AreAnswers : {H : Type 0} → (H → Text → Reply → H → Type 0) → List Text → List Reply → H → H → Type 0
AreAnswers answers [] [] first last = first ≡ last
AreAnswers answers [] (reply ∷ replies) first last = ⊥
AreAnswers answers (body ∷ bodies) [] first last = ⊥
AreAnswers {H} answers (body ∷ bodies) (reply ∷ replies) first last =
    (next : H) × answers first body reply next × AreAnswers answers bodies replies next last

-- only the last reply may end the server, and it does so with this status, if there is one
abbrev pub EndWith : List Reply → Option ℕ → Type 0
EndWith [] status = status ≡ None
EndWith (reply ∷ []) status = reply.ends ≡ status
EndWith (reply ∷ other ∷ replies) status = (reply.ends ≡ None) × EndWith (other ∷ replies) status

-- no frame comes: the stream has ended, or its next bytes are no header
abbrev pub IsOver : Ending → Option Text → Type 0
IsOver ends new = IsAtEnd new
IsOver ends_cut new = IsAtEnd new
IsOver ends_malformed new = ⊤

-- why a server ended with a status, after frames of these bodies and these replies: the last reply says so, or no frame comes, or there
-- were 2^64 - 1 frames
pub data Why (bodies : List Text) (replies : List Reply) (bytes : Text) (left : Option Text) (status : ℕ) : Type 0 where
  said : EndWith replies (Some status) → AreFrames bodies ends bytes → Why bodies replies bytes left status
  over : (ending : Ending) → EndWith replies None → AreFrames bodies ending bytes → IsOver ending left → status ≡ 1 →
      Why bodies replies bytes left status
  full : EndWith replies None → AreFrames bodies ends bytes → length bodies ≡ 2 ^ 64 - 1 → status ≡ 1 →
      Why bodies replies bytes left status

-- a server ended with a status. The bytes that it read are frames of some bodies; it answered these one after the other, and sent the
-- messages of the replies as frames, and nothing else
pub record IsServed {H : Type 0} (answers : H → Text → Reply → H → Type 0) (first last : H) (had left old new : Option Text) (status : ℕ) :
    Type 0 where
  pub bytes : Text
  pub bodies : List Text
  pub replies : List Reply
  pub read : Consumes had left bytes
  pub answered : AreAnswers answers bodies replies first last
  pub sent : Appends old new (sent_for replies)
  pub why : Why bodies replies bytes left status

-- a server answered frames at the front of what it could read, and sent the messages of the replies as frames, and nothing else
pub record IsServedSoFar {H : Type 0} (answers : H → Text → Reply → H → Type 0) (first : H) (had old new : Option Text) : Type 0 where
  pub bytes : Text
  pub left : Option Text
  pub bodies : List Text
  pub replies : List Reply
  pub last : H
  pub read : Consumes had left bytes
  pub whole : AreFrames bodies ends bytes
  pub answered : AreAnswers answers bodies replies first last
  pub sent : Appends old new (sent_for replies)
  pub goes_on : EndWith replies None
