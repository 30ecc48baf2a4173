-- Connections that account for a pass.
use Rattle.std.proofs.Common.{◌≡◌, ◌↔◌, ◌⊎◌, inl, inr, ℕ, ◌+◌, ◌<◌, ◌≤◌, List, [], ◌∷◌, ◌++◌, length, IfSome, IsSomeAnd, None, Option, Some, refl, sym, subst, arith, append-nil, append_assoc}
use mathlib.Core.List.{IsPrefix}
use Rattle.hose_io.specs.Connections.{Connection}
use Rattle.hose_io.specs.Frame.{Frame, Rose}
use Rattle.hose_io.specs.Stream.{Gives, Stream}
use Rattle.hose_io.specs.declared.source.Source.{Ghosts as SourceGhosts}
use Rattle.hose_io.specs.declared.sink.Sink.{Ghosts as SinkGhosts}
use Rattle.hose_words.specs.declared.lines.TheConstants.{INPUT_LIMIT}
use Rattle.hose_graph.specs.Network.{Network}
use Rattle.hose_graph.specs.declared.entry.Entry.{Entry}
use Rattle.hose_graph.specs.declared.command.Reply.{Reply}
use Rattle.hose_law.specs.Script.{disks_in}
use Rattle.hose_law.proofs.Fronts.{prefix_length, prefix_same}
use Rattle.hose_turn.specs.declared.view.Tried.{Tried}
use Rattle.hose_turn.specs.Known.{Known}
use Rattle.hose_turn.specs.declared.view.Origin.{Origin}
use Rattle.hose_session.specs.Accounts.{AccountFor, AreServedAlong, none_served, one_served, IsServedAlong}
use Rattle.hose_session.specs.steps.Accounts.{ComeTo}
use Rattle.hose_session.specs.Session.{IsSession}
use Rattle.hose_session.specs.steps.Session.{ServesSession}
use Rattle.hose_greeting.specs.SessionLines.{SaysAfter}
use Rattle.hose_talk.specs.Talk.{IsCutNear, IsLeftNear, Telling, TellsOf}
use Rattle.hose_words.specs.Asking.{IsWithinLines}
use Rattle.hose_words.proofs.OnReading.{WhereTold-map}
use Rattle.hose_law.specs.Transcript.{SessionLine}
use Rattle.hose_session.specs.declared.ending.SessionEnd.{SessionEnd}
use Rattle.hose_session.specs.declared.ending.SessionEnd.TheVariants as session_end
use Rattle.hose_session.proofs.Completing.{session_moved}

-- what the input of a connection says
abbrev says_of : Network → Connection → Telling SessionLine
says_of network connection = TellsOf (SaysAfter network) (Some (record { taken = []; left = connection.taken ++ connection.left })) (Some (record { taken = connection.taken; left = connection.left }))

-- how its input stands where the output fails
abbrev pub cut_of : Connection → List ℕ → List ℕ → List ℕ → Type 0
cut_of connection text rest left = IsLeftNear text rest left × IsWithinLines text rest connection.asked

-- ---- a longer history

module _ (network : Network) (history longer : List Entry) (prefix : IsPrefix history longer) where
  served_longer : (since : ℕ) (connection : Connection) (replies : List Reply) (own : List ℕ) (tries : List Tried) → IsServedAlong network history since connection replies own tries → IsServedAlong network longer since connection replies own tries
  served_longer since connection replies own tries is = record {
    from = is.from;
    later = is.later;
    end = is.end;
    session = session_moved network history longer prefix is.from (says_of network connection) (says_of network connection) (λ stops lines says. says) (cut_of connection) (cut_of connection) (λ lines says. says) (Some []) (Some connection.given) _ _ _ _ (λ rose. rose) (λ rose. rose) is.end replies own tries
        is.session;
    too_long = is.too_long;
  }

  all_longer : (since : ℕ) {connections : List Connection} {own : List ℕ} {tries : List Tried} {disks : ℕ} → AreServedAlong network history since connections own tries disks → AreServedAlong network longer since connections own tries disks
  all_longer since none_served = none_served
  all_longer since (one_served connection replies added more before is) = one_served connection replies added more (all_longer since before) (served_longer since connection replies added more is)

-- ---- one list after the other

module _ (network : Network) (history : List Entry) (since : ℕ) where
  abbrev All : List Connection → List ℕ → List Tried → ℕ → Type 0
  All = AreServedAlong network history since

  same_all : (connections others : List Connection) (own its : List ℕ) (tries tried : List Tried) (disks more : ℕ) → connections ≡ others → own ≡ its → tries ≡ tried → disks ≡ more → All connections own tries disks → All others its tried more
  same_all connections others own its tries tried disks more same_connections same_own same_tries same_disks all =
      subst (λ (c : List Connection). All c its tried more) same_connections (subst (λ (o : List ℕ). All connections o tried more) same_own (subst (λ (t : List Tried). All connections own t more) same_tries (subst (λ (d : ℕ). All connections own tries d) same_disks all)))

  all_joined : (connections : List Connection) (own : List ℕ) (tries : List Tried) (disks : ℕ) → All connections own tries disks → {others : List Connection} {its : List ℕ} {tried : List Tried} {more : ℕ} → All others its tried more → All (connections ++ others) (own ++ its) (tries ++ tried) (disks + more)
  all_joined connections own tries disks all none_served = same_all connections (connections ++ []) own (own ++ []) tries (tries ++ []) disks (disks + 0) (sym (append-nil connections)) (sym (append-nil own)) (sym (append-nil tries)) (omega arith) all
  all_joined connections own tries disks all (one_served {connections = others} {own = its} {tries = tried} {disks = more} connection replies added last before is) =
      same_all ((connections ++ others) ++ connection ∷ []) (connections ++ (others ++ connection ∷ [])) ((own ++ its) ++ added) (own ++ (its ++ added)) ((tries ++ tried) ++ last) (tries ++ (tried ++ last)) ((disks + more) + disks_in replies) (disks + (more + disks_in replies)) (append_assoc connections others (connection ∷ []))
      (append_assoc own its added) (append_assoc tries tried last) (omega arith) (one_served connection replies added last (all_joined connections own tries disks all before) is)

-- ---- passes

-- what accounts for a pass, in the words of its first list
account : (connections : List Connection) (origin : Origin) (pass : Known) (own : List ℕ) (tries : List Tried) (disks : ℕ) → pass.origin ≡ origin → pass.own ≡ own → pass.tried ≡ tries → AreServedAlong origin.network pass.seen (length origin.since) connections own tries disks → disks ≤ pass.faults
    → AccountFor connections pass
account connections origin pass own tries disks same_origin same_own same_tries served told = record {
  disks = disks;
  served = subst (λ (o : Origin). AreServedAlong o.network pass.seen (length o.since) connections pass.own pass.tried disks) (sym same_origin)
      (subst (λ (o : List ℕ). AreServedAlong origin.network pass.seen (length origin.since) connections o pass.tried disks) (sym same_own)
      (subst (λ (t : List Tried). AreServedAlong origin.network pass.seen (length origin.since) connections own t disks) (sym same_tries) served));
  told = told;
}

pub none_accounts : (pass : Known) → pass.own ≡ [] → pass.tried ≡ [] → AccountFor [] pass
none_accounts pass none untried = account [] pass.origin pass [] [] 0 refl none untried none_served (omega arith)

failed_once : (before after : Frame) (faults : ℕ) → before.faults ≡ 0 → after.faults ≡ faults → Rose before after → 0 < faults
failed_once before after faults none count rose = at rose.rose
  where
    at : (before.faults < after.faults) ⊎ (18446744073709551615 ≤ after.faults) → 0 < faults
    at (inl more) = omega (arith, more, count)
    at (inr most) = omega (arith, most, count)

-- one connection more
pub one_accounts : {S O : Type 0} (source : SourceGhosts S) (sink : SinkGhosts O) (connections : List Connection) (connection : Connection) (old new : Known) (input input' : S) (output output' : O) (end : SessionEnd) (bytes : List ℕ)
    → IsPrefix old.origin.since old.seen → AccountFor connections old → ComeTo source sink input input' output output' connection → ServesSession source sink old.origin.network input input' output output' old new end
    → Gives (source.content input) (source.content input') bytes → (end ≡ session_end.TooLong) ↔ (INPUT_LIMIT < length bytes) → AccountFor (connections ++ connection ∷ []) new
one_accounts source sink connections connection old new input input' output output' end bytes began accounts is serves gives too_long =
    account (connections ++ connection ∷ []) old.origin new (old.own ++ serves.own) (old.tried ++ serves.tries) (accounts.disks + disks_in serves.replies) serves.same.origin serves.owns serves.tried
    (one_served connection serves.replies serves.own serves.tries (all_longer network old.seen new.seen serves.same.seen (length old.origin.since) accounts.served) served) (omega (arith, accounts.told, serves.disks))
  where
    network : Network
    network = old.origin.network

    fresh : Option Stream
    fresh = Some (record { taken = []; left = connection.taken ++ connection.left })

    ended : Option Stream
    ended = Some (record { taken = connection.taken; left = connection.left })

    -- what the input had left when it was asked last is the connection's
    asked_then : (text rest : List ℕ) (was : Option Stream) → IfSome was (λ stream. connection.asked ≡ stream.left) → IsSomeAnd was (λ stream. IsWithinLines text rest stream.left) → IsWithinLines text rest connection.asked
    asked_then text rest None same within = absurd within
    asked_then text rest (Some stream) same within = subst (IsWithinLines text rest) (sym same) within

    cuts : (lines : List SessionLine) → TellsOf (SaysAfter network) (source.content input) (source.content input') (IsCutNear source input') lines → TellsOf (SaysAfter network) (source.content input) (source.content input') (cut_of connection) lines
    cuts lines said = WhereTold-map (source.content input) (source.content input') _ _ said
        (λ text left told. (told.0, told.1, (told.2.0, asked_then text told.0 (source.content told.2.1.0) (is.asked told.2.1.0 told.2.1.1) told.2.1.2)))

    session : IsSession network new.seen (length old.seen) (TellsOf (SaysAfter network) (source.content input) (source.content input')) (cut_of connection) (Some []) (Some connection.given) (0 < connection.reading) (0 < connection.writing) end serves.replies serves.own serves.tries
    session = session_moved network new.seen new.seen (prefix_same new.seen) (length old.seen) (TellsOf (SaysAfter network) (source.content input) (source.content input')) (TellsOf (SaysAfter network) (source.content input) (source.content input')) (λ stops lines says. says) (IsCutNear source input') (cut_of connection) cuts (Some []) (Some connection.given) _ _ _ _
        (failed_once (source.frame input) (source.frame input') connection.reading is.unread is.reading) (failed_once (sink.frame output) (sink.frame output') connection.writing is.unwritten is.writing) end serves.replies serves.own serves.tries
        (subst (λ (o : Option (List ℕ)). IsSession network new.seen (length old.seen) (TellsOf (SaysAfter network) (source.content input) (source.content input')) (IsCutNear source input') o (Some connection.given) (Rose (source.frame input) (source.frame input')) (Rose (sink.frame output) (sink.frame output')) end serves.replies serves.own serves.tries) is.empty
        (subst (λ (o : Option (List ℕ)). IsSession network new.seen (length old.seen) (TellsOf (SaysAfter network) (source.content input) (source.content input')) (IsCutNear source input') (sink.content output) o (Rose (source.frame input) (source.frame input')) (Rose (sink.frame output) (sink.frame output')) end serves.replies serves.own serves.tries) is.given serves.session))

    given : Gives fresh ended bytes
    given = subst (λ (s : Option Stream). Gives fresh s bytes) is.served (subst (λ (s : Option Stream). Gives s (source.content input') bytes) is.fresh gives)

    served : IsServedAlong network new.seen (length old.origin.since) connection serves.replies serves.own serves.tries
    served = record {
      from = length old.seen;
      later = prefix_length old.origin.since old.seen began;
      end = end;
      session = subst (λ (s : Option Stream). IsSession network new.seen (length old.seen) (TellsOf (SaysAfter network) fresh s) (cut_of connection) (Some []) (Some connection.given) (0 < connection.reading) (0 < connection.writing) end serves.replies serves.own serves.tries) is.served
          (subst (λ (s : Option Stream). IsSession network new.seen (length old.seen) (TellsOf (SaysAfter network) s (source.content input')) (cut_of connection) (Some []) (Some connection.given) (0 < connection.reading) (0 < connection.writing) end serves.replies serves.own serves.tries) is.fresh session);
      too_long = subst (λ (b : List ℕ). (end ≡ session_end.TooLong) ↔ (INPUT_LIMIT < length b)) (sym given.taken) too_long;
    }

-- two passes that are joined
pub joined_account : (connections others : List Connection) (one other both : Known) → AccountFor connections one → AccountFor others other → other.origin ≡ one.origin → both.origin ≡ one.origin → IsPrefix one.seen both.seen → IsPrefix other.seen both.seen
    → both.own ≡ one.own ++ other.own → both.tried ≡ one.tried ++ other.tried → both.faults ≡ one.faults + other.faults → AccountFor (connections ++ others) both
joined_account connections others one other both first second same_origin whole seen seen' own tried faults =
    let theirs = subst (λ (o : Origin). AreServedAlong o.network other.seen (length o.since) others other.own other.tried second.disks) same_origin second.served in
    account (connections ++ others) one.origin both (one.own ++ other.own) (one.tried ++ other.tried) (first.disks + second.disks) whole own tried
    (all_joined one.origin.network both.seen (length one.origin.since) connections one.own one.tried first.disks (all_longer one.origin.network one.seen both.seen seen (length one.origin.since) first.served)
    (all_longer one.origin.network other.seen both.seen seen' (length one.origin.since) theirs)) (omega (arith, first.told, second.told, faults))
