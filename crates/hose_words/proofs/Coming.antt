-- How far a call of `next` has come, and what it answers from there.
use Rattle.std.proofs.Common.{◌≡◌, ◌≢◌, ◌⊎◌, ℕ, ◌+◌, ◌^◌, ◌<◌, ◌≤◌, Bool, true, false, IsTrue, IsFalse, nat_lt, eqb, cond, List, [], ◌∷◌, ◌++◌, length, sym, ap, ◌∙◌, refl, arith, inl, inr, ⊎_elim, Option, None, Some, IfSome, OnSome, Ok, Err, MatchBool, All, Contains}
use Rattle.std.specs.Bool.{OnTrue}
use Rattle.std.specs.List.{position_or_len}
use Rattle.std.proofs.lemmas.List.{append-nil, append_assoc, length-append, length-drop, nil_from_length}
use Rattle.std.proofs.lemmas.Bool.{ltb-true, ltb-false, eqb-true, eqb-false, cases_lt}
use Rattle.std.proofs.lemmas.List.Elements.{All-contains, Contains-append_left}
use Rattle.hose_io.proofs.Calling.{HasGone-once, HasGone-then}
use Rattle.hose_io.proofs.Frames.{Stays-same}
use Rattle.hose_io.proofs.Streams.{Gives-append, Gives-nil, Gives-none}
use Rattle.hose_io.specs.steps.Calls.{HasGone, call_more, none_yet}
use Rattle.hose_io.specs.Stream.{Stream, Gives, IsAtEnd}
use Rattle.hose_io.specs.steps.Stream.{Appends}
use Rattle.hose_io.specs.declared.source.Source.{Ghosts}
use Rattle.hose_words.specs.steps.Buffer.{CutsLine}
use Rattle.hose_words.specs.steps.Intake.{found_of, found_at_end, ShowsFound, TakesBytes, MeetsEnd, IsIntake}
use Rattle.hose_words.specs.Lines.{is_line_feed, IsAfterLines, PassesOver, StopsAt}
use Rattle.hose_words.specs.steps.Lines.{Reader, GivesLine, IsAskedInLine, IsDropped, IsNext, WhereAsked}
use Rattle.hose_words.specs.declared.intake.FoundLine.TheVariants as found
use Rattle.hose_words.specs.declared.lines.Line.{Line}
use Rattle.hose_words.specs.declared.lines.LineFault.{LineFault}
use Rattle.hose_words.specs.declared.lines.LineFault.TheVariants.{Read, TooLong}
use Rattle.hose_words.proofs.FirstLine.{IsPlain, IsPlain-append, All-from_IsPlain, before_first-found, after_first-found, before_first-plain, after_first-plain, line_feed_found, shows_found, GivesLine-shown}

-- ---- what sources give

-- what holds of all that may be left, where a source tells what it gave
pub told : (o n : Option Stream) (bytes : List ℕ) (P : List ℕ → List ℕ → Type 0) → Gives o n bytes → ((rest : List ℕ) → P (bytes ++ rest) rest) → IfSome o (λ before. IfSome n (λ after. P before.left after.left))
told None n bytes P gives holds = tt
told (Some o) None bytes P gives holds = tt
told (Some o) (Some n) bytes P gives holds = rw gives.left (holds n.left)

-- the same, of a source that was asked then
told_then : (o n : Option Stream) (bytes : List ℕ) (P : List ℕ → List ℕ → Type 0) → Gives o n bytes → ((rest : List ℕ) → P (bytes ++ rest) rest) → WhereAsked o n P
told_then None n bytes P gives holds = tt
told_then (Some o) None bytes P gives holds = absurd gives
told_then (Some o) (Some n) bytes P gives holds = rw gives.left (holds n.left)

-- what holds of all that may be left holds of nothing, where a source met its end
pub told_at_end : (o m n : Option Stream) (bytes : List ℕ) (P : List ℕ → List ℕ → Type 0) → Gives o m bytes → IsAtEnd m → n ≡ m → P (bytes ++ []) [] → IfSome o (λ before. IfSome n (λ after. P before.left after.left))
told_at_end None m n bytes P gives end same holds = tt
told_at_end (Some o) None n bytes P gives end same holds = absurd gives
told_at_end (Some o) (Some m) n bytes P gives end same holds = rw (same, gives.left, end) holds

-- ---- the last line of a text

last_by : (is_none : Bool) (pending : List ℕ) (shown : Option Line) → eqb (length pending) 0 ≡ is_none → IsPlain pending → ShowsFound (cond is_none found.End (found_of false pending)) pending shown → GivesLine shown pending []
last_by true pending None none plain shows = (nil_from_length pending (eqb-true (length pending) 0 none), refl)
last_by true pending (Some l) none plain shows = absurd shows
last_by false pending shown none plain shows =
    let some : length pending ≡ 0 → ⊥ = eqb-false (length pending) 0 none in
    GivesLine-shown shown pending [] pending (shows_found false [] pending shown refl shows) (omega (arith, some)) (before_first-plain pending plain) (sym (after_first-plain pending plain))

GivesLine-last : (is_long : Bool) (dropped pending : List ℕ) (shown : Option Line) → IsPlain (dropped ++ pending) → MatchBool is_long (4096 < length dropped) (dropped ≡ []) → ShowsFound (found_at_end is_long pending) pending shown → GivesLine shown (dropped ++ pending) []
GivesLine-last true dropped pending shown plain long shows =
    let text = dropped ++ pending in
    GivesLine-shown shown text [] text (shows_found true dropped pending shown long shows) (omega (arith, length-append dropped pending)) (before_first-plain text plain) (sym (after_first-plain text plain))
GivesLine-last false dropped pending shown plain none shows =
    rw none (last_by (eqb (length pending) 0) pending shown refl (rw none at plain) shows)

OnSome-from : (shown : Option Line) (P : Type 0) → P → OnSome shown P
OnSome-from None P holds = tt
OnSome-from (Some l) P holds = holds

-- a line that is shown has bytes or a line feed
OnSome-line : (shown : Option Line) (text rest : List ℕ) (P : Type 0) → GivesLine shown text rest → (0 < length text → P) → OnSome shown P
OnSome-line None text rest P gives holds = tt
OnSome-line (Some l) text rest P gives holds =
    ⊎_elim holds (λ none. absurd (gives.0 (nil_from_length text (omega arith)))) (cases_lt 0 (length text))

-- ---- how far a call has come

module _ {S : Type 0} (source : Ghosts S) where
  -- The source gave these bytes since the call began, and of the line that is being read some were dropped.
  pub record HasCome (old now : Reader S) (is_long : Bool) : Type 0 where
    pub bytes : List ℕ
    pub dropped : List ℕ
    pub gives : Gives (source.content old.source) (source.content now.source) bytes
    pub taken : now.taken ≡ old.taken + length bytes
    pub split : old.pending ++ bytes ≡ dropped ++ now.pending
    pub plain : IsPlain dropped
    pub long : MatchBool is_long (4096 < length dropped) (dropped ≡ [])
    pub limit : now.taken ≤ 2 ^ 30
    pub was : old.fault ≡ None
    pub fault : now.fault ≡ None
    pub ended : now.ended ≡ old.ended
    pub at_end : OnTrue now.ended (IsAtEnd (source.content now.source))
    pub frame : source.frame now.source ≡ source.frame old.source
    pub gone : HasGone source old.source now.source
    -- nothing was asked for where a line was pending whole, or after the end
    pub whole_pending : Contains old.pending 10 → now.source ≡ old.source
    pub after_end : IsTrue old.ended → now.source ≡ old.source
    pub asked : (now.source ≡ old.source) ⊎ IsAskedInLine source old now

  -- the source that was asked is the one that there is now
  asked_there : (old r now : Reader S) → now.source ≡ r.source → (r.source ≡ old.source) ⊎ IsAskedInLine source old r → (now.source ≡ old.source) ⊎ IsAskedInLine source old now
  asked_there old r now source' (inl same) = inl (source' ∙ same)
  asked_there old r now source' (inr is) = inr (record { asked = is.asked; went = rw source' is.went; part = is.part })

  -- a call begins
  pub HasCome-none : (reader : Reader S) → reader.fault ≡ None → reader.taken ≤ 2 ^ 30 → OnTrue reader.ended (IsAtEnd (source.content reader.source)) → HasCome reader reader false
  HasCome-none reader none limit at_end = record {
    bytes = [];
    dropped = [];
    gives = Gives-nil (source.content reader.source);
    taken = omega arith;
    split = append-nil reader.pending;
    plain = refl;
    long = refl;
    limit = limit;
    was = none;
    fault = none;
    ended = refl;
    at_end = at_end;
    frame = refl;
    gone = none_yet;
    whole_pending = λ _. refl;
    after_end = λ _. refl;
    asked = inl refl;
  }

  -- no line is pending whole, and what was too long was dropped
  pub record HasPassed (old now : Reader S) (is_long : Bool) : Type 0 where
    pub come : HasCome old now is_long
    pub plain : IsPlain now.pending
    pub short : length now.pending ≤ 4096

  -- Only the buffer changed: of the line that is being read, this front was dropped by now.
  HasCome-dropped : (old r now : Reader S) (was is_long : Bool) (dropped : List ℕ) (h : HasCome old r was) → old.pending ++ h.bytes ≡ dropped ++ now.pending → IsPlain dropped
      → MatchBool is_long (4096 < length dropped) (dropped ≡ []) → now.source ≡ r.source → now.taken ≡ r.taken → now.fault ≡ r.fault → now.ended ≡ r.ended → HasCome old now is_long
  HasCome-dropped old r now was is_long dropped h split plain long source' taken fault ended = record {
    bytes = h.bytes;
    dropped = dropped;
    gives = rw source' h.gives;
    taken = taken ∙ h.taken;
    split = split;
    plain = plain;
    long = long;
    limit = rw taken h.limit;
    was = h.was;
    fault = fault ∙ h.fault;
    ended = ended ∙ h.ended;
    at_end = rw (source', ended) h.at_end;
    frame = rw source' h.frame;
    gone = rw source' h.gone;
    whole_pending = λ line. source' ∙ h.whole_pending line;
    after_end = λ over. source' ∙ h.after_end over;
    asked = asked_there old r now source' h.asked;
  }

  pub HasPassed-from : (old r now : Reader S) (was is_long is_over : Bool) (pending : List ℕ) → HasCome old r was → IsPlain r.pending → pending ≡ r.pending
      → nat_lt 4096 (length pending) ≡ is_over → MatchBool is_over ((is_long ≡ true) × (now.pending ≡ [])) ((is_long ≡ was) × (now.pending ≡ pending))
      → now.source ≡ r.source → now.taken ≡ r.taken → now.fault ≡ r.fault → now.ended ≡ r.ended → HasPassed old now is_long
  HasPassed-from old r now was is_long true pending h plain same over drops source' taken fault ended =
      let all = h.dropped ++ r.pending in
      let long : 4096 < length all = omega (arith, ltb-true 4096 (length pending) over, ap length same, length-append h.dropped r.pending) in
      rw drops.0 (record {
        come = HasCome-dropped old r now was true all h (rw (drops.1, append-nil) h.split) (IsPlain-append h.dropped r.pending h.plain plain) long source' taken fault ended;
        plain = rw drops.1 refl;
        short = rw drops.1 (omega arith);
      })
  HasPassed-from old r now was is_long false pending h plain same over drops source' taken fault ended =
      let kept : now.pending ≡ r.pending = drops.1 ∙ same in
      rw drops.0 (record {
        come = HasCome-dropped old r now was was h.dropped h (rw kept h.split) h.plain h.long source' taken fault ended;
        plain = rw kept plain;
        short = rw drops.1 (ltb-false 4096 (length pending) over);
      })

  seen : (old r : Reader S) (is_long : Bool) (p : HasPassed old r is_long) → All (λ byte. byte ≢ 10) (old.pending ++ p.come.bytes)
  seen old r is_long p =
      All-from_IsPlain (old.pending ++ p.come.bytes) (rw p.come.split (IsPlain-append p.come.dropped r.pending p.come.plain p.plain))

  -- where more is asked for, no line was pending whole
  none_whole : (old r : Reader S) (is_long : Bool) → HasPassed old r is_long → Contains old.pending 10 → ⊥
  none_whole old r is_long p line =
      All-contains (λ byte. byte ≢ 10) _ 10 (seen old r is_long p) (Contains-append_left _ p.come.bytes _ line) refl

  -- a front of a line was dropped, or nothing
  IsDropped-from : (is_long : Bool) (dropped : List ℕ) → MatchBool is_long (4096 < length dropped) (dropped ≡ []) → IsDropped dropped
  IsDropped-from true dropped long = inr long
  IsDropped-from false dropped none = inl none

  -- where more is asked for, no line of what was to come had ended
  asked_now : (old r now : Reader S) (is_long : Bool) → HasPassed old r is_long → source.went r.source now.source → IsAskedInLine source old now
  asked_now old r now is_long p went = record {
    asked = r.source;
    went = went;
    part = told_then (source.content old.source) (source.content r.source) p.come.bytes (λ before left. PassesOver (old.pending ++ before) left) p.come.gives
        (λ rest. (old.pending ++ p.come.bytes, sym (append_assoc old.pending p.come.bytes rest), seen old r is_long p));
  }

  asked_or_not : (old r now : Reader S) (is_long : Bool) → HasPassed old r is_long → (now.source ≡ r.source) ⊎ source.went r.source now.source → (now.source ≡ old.source) ⊎ IsAskedInLine source old now
  asked_or_not old r now is_long p (inl same) = asked_there old r now same p.come.asked
  asked_or_not old r now is_long p (inr went) = inr (asked_now old r now is_long p went)

  pub HasCome-more : (old r now : Reader S) (is_long : Bool) → HasPassed old r is_long → TakesBytes source r now → HasCome old now is_long
  HasCome-more old r now is_long p t =
      let h = p.come in
      record {
        bytes = h.bytes ++ t.bytes;
        dropped = h.dropped;
        gives = Gives-append _ _ _ h.bytes t.bytes h.gives t.gives;
        taken = omega (arith, h.taken, t.taken, length-append h.bytes t.bytes);
        split = sym (append_assoc old.pending h.bytes t.bytes) ∙ (ap (λ l. l ++ t.bytes) h.split
            ∙ (append_assoc h.dropped r.pending t.bytes ∙ ap (λ l. h.dropped ++ l) (sym t.pending)));
        plain = h.plain;
        long = h.long;
        limit = t.limit;
        was = h.was;
        fault = t.fault;
        ended = t.before_end.1 ∙ (sym t.before_end.0 ∙ h.ended);
        at_end = rw t.before_end.1 tt;
        frame = t.frame ∙ h.frame;
        gone = call_more h.gone t.went;
        whole_pending = λ line. absurd (none_whole old r is_long p line);
        after_end = λ over. absurd (cc (over, h.ended, t.before_end.0));
        asked = inr (asked_now old r now is_long p t.went);
      }

  -- a source that was asked gave nothing
  pub MeetsEnd-now : (old new : Reader S) (count : ℕ) → Appends (source.content old.source) (source.content new.source) old.pending new.pending count → count ≡ 0 → IsAtEnd (source.content old.source)
      → new.taken ≡ old.taken → new.fault ≡ None → IsTrue new.ended → source.frame new.source ≡ source.frame old.source → source.went old.source new.source → IsFalse old.ended → MeetsEnd source old new
  MeetsEnd-now old new count appends none at_end taken fault ended frame went before =
      let empty : appends.bytes ≡ [] = nil_from_length appends.bytes (omega (arith, appends.counted, none)) in
      record {
        content = Gives-none _ _ (rw empty at appends.gives);
        at_end = at_end;
        pending = appends.pending ∙ (ap (λ l. old.pending ++ l) empty ∙ append-nil old.pending);
        taken = taken;
        fault = fault;
        ended = ended;
        frame = frame;
        gone = HasGone-once source went;
        asked = inr went;
        not_asked = λ over. absurd (cc (over, before));
      }

  -- ---- what a call answers

  -- what stands before the rest of the text ends with the line feed that was found
  behind_found : (old r now : Reader S) (is_long : Bool) (line : List ℕ) (h : HasCome old r is_long) → CutsLine true r.pending line now.pending
      → (rest : List ℕ) → old.pending ++ (h.bytes ++ rest) ≡ (h.dropped ++ line) ++ 10 ∷ (now.pending ++ rest)
  behind_found old r now is_long line h cut rest =
      sym (append_assoc old.pending h.bytes rest)
      ∙ (ap (λ l. l ++ rest) (h.split ∙ ap (λ l. h.dropped ++ l) (line_feed_found r.pending cut.0))
      ∙ rw (cut.1, cut.2, append_assoc, append_assoc, append_assoc) refl)

  pub IsNext-line : (old r now : Reader S) (is_long : Bool) (line : List ℕ) (shown : Option Line) → HasCome old r is_long → CutsLine true r.pending line now.pending
      → now.source ≡ r.source → now.taken ≡ r.taken → now.fault ≡ r.fault → now.ended ≡ r.ended → ShowsFound (found_of is_long line) line shown → IsNext source old now (Ok shown)
  IsNext-line old r now is_long line shown h cut source' taken fault ended shows =
      let n = position_or_len is_line_feed r.pending in
      let gives : Gives (source.content old.source) (source.content now.source) h.bytes = rw source' h.gives in
      let is_shown = shows_found is_long h.dropped line shown h.long shows in
      let text : (rest : List ℕ) → GivesLine shown (old.pending ++ (h.bytes ++ rest)) (now.pending ++ rest) = λ rest.
      let same : old.pending ++ (h.bytes ++ rest) ≡ h.dropped ++ (r.pending ++ rest) =
      sym (append_assoc old.pending h.bytes rest) ∙ (ap (λ l. l ++ rest) h.split ∙ append_assoc h.dropped r.pending rest) in
      let some : 0 < length (h.dropped ++ (r.pending ++ rest)) = omega (arith, length-append h.dropped (r.pending ++ rest), length-append r.pending rest, cut.0) in
      let before = before_first-found h.dropped r.pending rest h.plain cut.0 ∙ ap (λ l. h.dropped ++ l) (sym cut.1) in
      let after = ap (λ l. l ++ rest) cut.2 ∙ sym (after_first-found h.dropped r.pending rest h.plain cut.0) in
      rw same (GivesLine-shown shown _ _ (h.dropped ++ line) is_shown some before after) in
      record {
        after_fault = rw h.was tt;
        answer = λ _. told (source.content old.source) (source.content now.source) h.bytes (λ before after. GivesLine shown (old.pending ++ before) (now.pending ++ after)) gives text;
        whole = λ _. told (source.content old.source) (source.content now.source) h.bytes (λ before after. IsAfterLines (old.pending ++ before) (now.pending ++ after)) gives (λ rest.
            inr (h.dropped ++ line, behind_found old r now is_long line h cut rest));
        ended = λ false'. sym h.ended ∙ (sym ended ∙ false');
        before_end = λ _ err. absurd (cc err);
        takes = (h.bytes, gives, taken ∙ h.taken, λ _. tt);
        whole_pending = λ line. source' ∙ h.whole_pending line;
        after_end = λ over. source' ∙ h.after_end over;
        limit = omega (arith, taken, h.limit);
        too_long = (λ e. absurd (cc e), λ over. absurd (omega (arith, taken, h.limit)));
        read = λ e. absurd (cc e);
        fault = (h.was, fault ∙ h.fault);
        progress = OnSome-from shown _ (omega (arith, cut.0, ap length cut.2, length-drop (n + 1) r.pending, ap length h.split, length-append old.pending h.bytes, length-append h.dropped r.pending, taken, h.taken));
        stays = Stays-same (rw source' h.frame);
        unfailed = λ _. rw source' h.frame;
        gone = rw source' h.gone;
        asked = asked_there old r now source' h.asked;
      }

  pub IsNext-last : (old r m now : Reader S) (is_long : Bool) (shown : Option Line) → HasPassed old r is_long → IsIntake source r m (Ok false)
      → now ≡ record { source = m.source; pending = []; taken = m.taken; fault = m.fault; ended = m.ended } → ShowsFound (found_at_end is_long m.pending) m.pending shown → IsNext source old now (Ok shown)
  IsNext-last old r m now is_long shown p end same shows =
      let h = p.come in
      let whole : IsPlain (h.dropped ++ r.pending) = IsPlain-append h.dropped r.pending h.plain p.plain in
      let all : GivesLine shown (h.dropped ++ r.pending) [] =
      GivesLine-last is_long h.dropped r.pending shown whole h.long (rw end.pending at shows) in
      let text : old.pending ++ (h.bytes ++ []) ≡ h.dropped ++ r.pending = ap (λ l. old.pending ++ l) (append-nil h.bytes) ∙ h.split in
      rw same (record {
        after_fault = rw h.was tt;
        answer = λ _. told_at_end (source.content old.source) (source.content r.source) (source.content m.source) h.bytes (λ before after. GivesLine shown (old.pending ++ before) ([] ++ after)) h.gives end.at_end end.content (rw text all);
        whole = λ before. absurd (cc (end.ended, before));
        ended = λ before. absurd (cc (end.ended, before));
        before_end = λ _ err. absurd (cc err);
        takes = (h.bytes, rw end.content h.gives, end.taken ∙ h.taken, λ _. tt);
        whole_pending = λ line. absurd (none_whole old r is_long p line);
        after_end = λ over. end.not_asked (h.ended ∙ over) ∙ h.after_end over;
        limit = omega (arith, end.taken, h.limit);
        too_long = (λ e. absurd (cc e), λ over. absurd (omega (arith, end.taken, h.limit)));
        read = λ e. absurd (cc e);
        fault = (h.was, end.fault);
        progress = OnSome-line shown (h.dropped ++ r.pending) [] _ all (λ some. omega (arith, some, ap length h.split, length-append old.pending h.bytes, length-append h.dropped r.pending, end.taken, h.taken));
        stays = Stays-same (end.frame ∙ h.frame);
        unfailed = λ _. end.frame ∙ h.frame;
        gone = HasGone-then h.gone end.gone;
        asked = asked_or_not old r (record { source = m.source; pending = []; taken = m.taken; fault = m.fault; ended = m.ended }) is_long p end.asked;
      })

  pub IsNext-fault : (old r now : Reader S) (is_long : Bool) (fault : LineFault) → HasPassed old r is_long → IsIntake source r now (Err fault) → IsNext source old now (Err fault)
  IsNext-fault old r now is_long Read p met =
      let h = p.come in
      let gives : Gives (source.content old.source) (source.content now.source) h.bytes = rw met.0 h.gives in
      record {
        after_fault = rw h.was tt;
        answer = λ _. told (source.content old.source) (source.content now.source) h.bytes (λ before after. StopsAt Read (old.pending ++ before) after) gives (λ rest.
            (old.pending ++ h.bytes, sym (append_assoc old.pending h.bytes rest), seen old r is_long p));
        whole = tt;
        ended = λ _. sym h.ended ∙ met.6.0;
        before_end = λ _ _. sym h.ended ∙ met.6.0;
        whole_pending = λ line. absurd (none_whole old r is_long p line);
        after_end = λ over. absurd (cc (over, h.ended, met.6.0));
        takes = (h.bytes, gives, met.1 ∙ h.taken, λ _. (h.dropped, IsDropped-from is_long h.dropped h.long, rw met.3 h.split));
        limit = omega (arith, met.1, h.limit);
        too_long = (λ e. absurd (cc e), λ over. absurd (omega (arith, met.1, h.limit)));
        read = λ _. inr (rw h.frame at met.5);
        fault = met.2;
        progress = tt;
        stays = rw h.frame at met.4;
        unfailed = λ other. absurd (other refl);
        gone = call_more h.gone met.7;
        asked = inr (asked_now old r now is_long p met.7);
      }
  IsNext-fault old r now is_long TooLong p met =
      let h = p.come in
      let byte = met.0.0 in
      let all = h.bytes ++ byte ∷ [] in
      let gives = Gives-append _ _ _ h.bytes (byte ∷ []) h.gives met.0.1 in
      record {
        after_fault = rw h.was tt;
        answer = λ _. told (source.content old.source) (source.content now.source) all (λ before after. StopsAt TooLong (old.pending ++ before) after) gives (λ rest.
            (byte, (old.pending ++ h.bytes, ap (λ l. old.pending ++ l) (append_assoc h.bytes (byte ∷ []) rest) ∙ sym (append_assoc old.pending h.bytes (byte ∷ rest)), seen old r is_long p)));
        whole = tt;
        ended = λ _. sym h.ended ∙ met.6.0;
        before_end = λ _ _. sym h.ended ∙ met.6.0;
        whole_pending = λ line. absurd (none_whole old r is_long p line);
        after_end = λ over. absurd (cc (over, h.ended, met.6.0));
        takes = (
          all,
          gives,
          omega (arith, met.1, met.2, h.taken, length-append h.bytes (byte ∷ [])),
          λ _. (
            h.dropped,
            byte,
            IsDropped-from is_long h.dropped h.long,
            sym (append_assoc old.pending h.bytes (byte ∷ [])) ∙ (ap (λ l. l ++ byte ∷ []) h.split ∙ (append_assoc h.dropped r.pending (byte ∷ []) ∙ ap (λ l. h.dropped ++ (l ++ byte ∷ [])) (sym met.4))),
          ),
        );
        limit = omega (arith, met.2);
        too_long = (λ _. omega (arith, met.2), λ _. refl);
        read = λ e. absurd (cc e);
        fault = met.3;
        progress = tt;
        stays = Stays-same (met.5 ∙ h.frame);
        unfailed = λ _. met.5 ∙ h.frame;
        gone = call_more h.gone met.7;
        asked = inr (asked_now old r now is_long p met.7);
      }
