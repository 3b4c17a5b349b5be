-- Headers byte by byte. This project's own rule.
use Rattle.std.specs.Prelude.{◌≡◌, ℕ, Option, Some, None}
use Rattle.flt_server_frames.specs.Line.{Text}
use Rattle.flt_server_frames.specs.Frames.{Front, body_of, in_header, malformed}
use Rattle.flt_server_frames.specs.declared.header.Head.{Head}
use Rattle.flt_server_frames.specs.declared.header.Head.TheVariants as head
use Rattle.flt_server_frames.specs.declared.header.Part.{Part}

-- this is at the front after the last byte of a header, before more bytes
abbrev pub Ends : Head → Text → Front → Type 0
Ends (head.Length n) more front = front ≡ body_of n more
Ends head.Malformed more front = front ≡ malformed
Ends head.Cut more front = ⊥
Ends head.End more front = ⊥

-- a header ends so; or it goes on, with room for so many bytes
abbrev pub Goes : Option Head → Part → ℕ → Text → Front → Type 0
Goes None part room more front = front ≡ in_header room part.line.items part.length more
Goes (Some head) part room more front = Ends head more front
