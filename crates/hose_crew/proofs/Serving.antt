-- A session that was served over the ends of a connection, as a connection that ended.
use Rattle.std.proofs.Common.{◌≡◌, ◌∙◌, IfSome, inl, inr, ℕ, List, [], ◌∷◌, ◌++◌, length, Option, None, Some, refl, subst}
use Rattle.hose_io.specs.Connections.{Connection}
use Rattle.hose_io.specs.steps.Connections.{HasEnded, IsConnection, connection_of}
use Rattle.hose_io.specs.Stream.{Gives, Grows, Stream}
use Rattle.hose_io.specs.declared.sink.Sink.{Ghosts as SinkGhosts}
use Rattle.hose_io.specs.declared.source.Source.{Ghosts as SourceGhosts}
use Rattle.hose_graph.specs.Network.{Network}
use Rattle.hose_graph.specs.declared.entry.Entry.{Entry}
use Rattle.hose_graph.specs.declared.command.Reply.{Reply}
use Rattle.hose_law.specs.Transcript.{SessionLine}
use Rattle.hose_session.specs.Accounts.{AccountFor}
use Rattle.hose_session.specs.steps.Accounts.{ComeTo}
use Rattle.hose_session.specs.Session.{IsSession, Telling}
use Rattle.hose_session.specs.steps.Session.{ServesSession}
use Rattle.hose_session.specs.declared.ending.SessionEnd.{SessionEnd}
use Rattle.hose_session.specs.declared.ending.SessionEnd.TheVariants as session_end
use Rattle.hose_turn.specs.declared.view.Tried.{Tried}
use Rattle.hose_turn.specs.Known.{Known}

-- what grows from a text that is told is told
grown : (old : List ℕ) (before new : Option (List ℕ)) (text : List ℕ) → before ≡ Some old → Grows before new text → (given : List ℕ) × (new ≡ Some given)
grown old None new text told grows = cc told
grown old (Some was) None text told grows = absurd grows
grown old (Some was) (Some given) text told grows = (given, refl)

-- whatever ended a session, what its output was given is told
session_given : (network : Network) (history : List Entry) (from : ℕ) (tells : Telling SessionLine) (cut : List ℕ → List ℕ → List ℕ → Type 0) (old : List ℕ) (before new : Option (List ℕ)) (R W : Type 0) (end : SessionEnd) (replies : List Reply) (own : List ℕ) (tries : List Tried)
    → before ≡ Some old → IsSession network history from tells cut before new R W end replies own tries → (given : List ℕ) × (new ≡ Some given)
session_given network history from tells cut old before new R W session_end.End replies own tries told is = grown old before new _ told is.out
session_given network history from tells cut old before new R W session_end.Bye replies own tries told is = grown old before new _ told is.out
session_given network history from tells cut old before new R W session_end.NoHello replies own tries told (inl is) = grown old before new _ told is.out
session_given network history from tells cut old before new R W session_end.NoHello replies own tries told (inr is) = grown old before new _ told is.out
session_given network history from tells cut old before new R W session_end.Read replies own tries told is = grown old before new _ told is.0.out
session_given network history from tells cut old before new R W session_end.TooLong replies own tries told is = grown old before new _ told is.out
session_given network history from tells cut old before new R W session_end.Write replies own tries told is = grown old before new _ told is.0.out.3.2

module _ {S O : Type 0} (source : SourceGhosts S) (sink : SinkGhosts O) (input input' : S) (output output' : O) (ends : IsConnection source sink input output) where
  -- the streams come to a connection, which is told
  come_to : (bytes taken asked : List ℕ) (content : Option Stream) (given : List ℕ) → source.content input ≡ Some (record { taken = []; left = bytes }) → sink.content output ≡ Some [] → source.content input' ≡ content → sink.content output' ≡ Some given
      → Gives (Some (record { taken = []; left = bytes })) content taken → ((was : S) → source.went was input' → IfSome (source.content was) (λ stream. asked ≡ stream.left))
      → (connection : Connection) × (connection_of asked (source.content input') (sink.content output') (source.frame input').faults (sink.frame output').faults ≡ Some connection)
      × ComeTo source sink input input' output output' connection
  come_to bytes taken asked None given unread empty served out gives was = absurd gives
  come_to bytes taken asked (Some now) given unread empty served out gives was = (
    record { taken = now.taken; left = now.left; asked = asked; given = given; reading = (source.frame input').faults; writing = (sink.frame output').faults },
    rw (served, out) refl,
    record {
      fresh = rw (unread, gives.left, gives.taken) refl;
      served = served;
      empty = empty;
      given = out;
      asked = was;
      unread = ends.unread;
      reading = refl;
      unwritten = ends.unwritten;
      writing = refl;
    },
  )

  -- one more connection accounts for the pass along which it was served
  pub one_more : (connections : List Connection) (network : Network) (old new : Known) (end : SessionEnd) (taken : List ℕ) (done : Option Connection) → HasEnded source sink input' output' done → (bytes : List ℕ) × (source.content input ≡ Some (record { taken = []; left = bytes })) × (sink.content output ≡ Some [])
      → Gives (source.content input) (source.content input') taken → ServesSession source sink network input input' output output' old new end
      → ((connection : Connection) → ComeTo source sink input input' output output' connection → AccountFor (connections ++ connection ∷ []) new)
      → (connection : Connection) × (done ≡ Some connection) × AccountFor (connections ++ connection ∷ []) new
  one_more connections network old new end taken done ended told gives serves law =
      let given = session_given network new.seen (length old.seen) _ _ [] (sink.content output) (sink.content output') _ _ end serves.replies serves.own serves.tries told.2 serves.session in
      let come = come_to told.0 taken ended.asked (source.content input') given.0 told.1 told.2 refl given.1 (subst (λ (content : Option Stream). Gives content (source.content input') taken) told.1 gives) ended.was in
      (come.0, ended.is ∙ come.1, law come.0 come.2)
