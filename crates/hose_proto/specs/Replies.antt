-- Replies that are written one after the other.
use Rattle.std.specs.Prelude.{◌≡◌, ℕ, ◌<◌, List, [], ◌∷◌, ◌++◌, length, take, Option}
use Rattle.std.specs.List.{flat_map}
use Rattle.hose_io.specs.Stream.{Grows}
use Rattle.hose_graph.specs.Network.{Network}
use Rattle.hose_graph.specs.declared.command.Reply.{Reply}
use Rattle.hose_proto.specs.ReplyText.{line_of, reply_text}

-- the texts of replies, a line each
abbrev pub texts_of : Network → List Reply → List ℕ
texts_of network replies = flat_map (λ reply. line_of (reply_text network reply)) replies

-- A text is out, and of a further one a part that is not all of it.
abbrev pub GrowsShort : Option (List ℕ) → Option (List ℕ) → List ℕ → List ℕ → Type 0
GrowsShort before after text more =
    (count : ℕ) × (count < length more) × Grows before after (text ++ take count more)

-- the replies are out, but for a part of the last
abbrev pub CutsLast : Network → Option (List ℕ) → Option (List ℕ) → List Reply → Type 0
CutsLast network before after replies =
    (whole : List Reply) × (reply : Reply) × (replies ≡ whole ++ reply ∷ [])
    × GrowsShort before after (texts_of network whole) (line_of (reply_text network reply))
