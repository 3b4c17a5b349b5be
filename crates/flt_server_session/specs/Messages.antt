-- The messages of clients: requests, notifications and responses of JSON-RPC 2.0.
use Rattle.std.specs.Prelude.{ℕ, List, ◌||◌, codes, if◌then◌else◌, is_some, ⊤, Option, Some, None, option_and_then}
use Rattle.json.specs.Find.{as_str, get}
use Rattle.json.specs.Json.{Json, null, boolean, number, string, array, object}
use Rattle.json.specs.Tree.{HasNumbers}
use Rattle.json.specs.Value.{value_view}
use Rattle.flt_server_session.specs.declared.message.Message as declared
use Rattle.flt_server_session.specs.declared.message.Message.TheVariants as variants

-- a message: none, a response, what is notified, or the number or the text of a request and what is asked
pub data Message : Type 0 where
  malformed : Message
  reply : Message
  notification : List ℕ → Message
  request : Json → List ℕ → Message

-- a message with this method and this member `id`: only a number or a text makes it a request
abbrev pub with_method : List ℕ → Option Json → Message
with_method method None = notification method
with_method method (Some (number s)) = request (number s) method
with_method method (Some (string s)) = request (string s) method
with_method method (Some null) = malformed
with_method method (Some (boolean b)) = malformed
with_method method (Some (array js)) = malformed
with_method method (Some (object ms)) = malformed

-- a message without a method: a response has a result or an error
abbrev pub without_method : Json → Message
without_method j = if is_some (get (codes "result") j) || is_some (get (codes "error") j) then reply else malformed

-- the method of a message, if that is a text
abbrev pub method_of : Json → Option (List ℕ)
method_of j = option_and_then as_str (get (codes "method") j)

abbrev pub message_by : Json → Option (List ℕ) → Message
message_by j (Some method) = with_method method (get (codes "id") j)
message_by j None = without_method j

-- the message that a value is
abbrev pub message_of : Json → Message
message_of j = message_by j (method_of j)

-- the message that a value of the code stands for
abbrev pub view_of : declared.Message → Message
view_of variants.Malformed = malformed
view_of variants.Response = reply
view_of (variants.Notification method) = notification method.now
view_of (variants.Request id method) = request (value_view id.now) method.now

-- the number or the text by which it is answered can be written
abbrev pub IsWritable : declared.Message → Type 0
IsWritable variants.Malformed = ⊤
IsWritable variants.Response = ⊤
IsWritable (variants.Notification method) = ⊤
IsWritable (variants.Request id method) = HasNumbers (value_view id.now)
