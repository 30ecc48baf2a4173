-- Laws of a text that goes through a gatherer, for callers that add to it many times and finish it once.
use Rattle.std.proofs.Common.{◌≡◌, ◌≢◌, ℕ, ◌+◌, ◌≤◌, ◌<◌, Bool, true, false, IsTrue, IsFalse, List, [], ◌∷◌, ◌++◌, length, get_or, take, Option, Result, Ok, Err, OnOk, refl, sym, ◌∙◌, ap, append_assoc, append-nil, length-append, arith}
use Rattle.std.proofs.lemmas.Bool.{false≢true}
use Rattle.std.proofs.lemmas.List.{take_more}
use Rattle.std.proofs.lemmas.Grind.{flat_map-append}
use Rattle.std.specs.List.{flat_map}
use Rattle.hose_io.specs.Count.{one_more}
use Rattle.hose_io.specs.steps.Gather.{Gathered, GoesOut, IsCutShort, IsAdded, IsFinished}
use Rattle.hose_io.specs.Stream.{Grows}
use Rattle.hose_io.specs.Writing.{GrowsInPart}
use Rattle.hose_io.specs.steps.Writing.{IsPut}
use Rattle.hose_io.specs.declared.Failed.{Failed}
use Rattle.hose_io.specs.declared.gather.TheConstants.{GATHER_LIMIT}
use Rattle.hose_io.specs.declared.sink.Sink.{Ghosts}
use Rattle.hose_io.proofs.Frames.{Rose-later, Stays-none, Stays-next}
use Rattle.hose_io.proofs.Streams.{Grows-nil, Grows-append, GrowsInPart-append, GrowsInPart-after}

-- ---- what goes out

-- all that was held and all that is new went out
pub GoesOut-all : (old mid new : Option (List ℕ)) (held more rest : List ℕ) → Grows old mid held → Grows mid new more → rest ≡ [] → GoesOut old new (held ++ more) rest
GoesOut-all old mid new held more rest p q none = record {
  given = held ++ more;
  grows = Grows-append old mid new held more p q;
  whole = rw none (sym (append-nil (held ++ more)));
}

-- more was added to a text
GoesOut-add : (old mid new : Option (List ℕ)) (text held more held' : List ℕ) → GoesOut old mid text held → GoesOut mid new (held ++ more) held' → GoesOut old new (text ++ more) held'
GoesOut-add old mid new text held more held' p q = record {
  given = p.given ++ q.given;
  grows = Grows-append old mid new p.given q.given p.grows q.grows;
  whole = ap (λ s. s ++ more) p.whole ∙ append_assoc p.given held more ∙ ap (λ s. p.given ++ s) q.whole ∙ sym (append_assoc p.given q.given held');
}

-- the sink failed where more was added to a text
GoesOut-cut : (old mid new : Option (List ℕ)) (text held more : List ℕ) → GoesOut old mid text held → GrowsInPart mid new (held ++ more) → GrowsInPart old new (text ++ more)
GoesOut-cut old mid new text held more p part =
    rw (p.whole, append_assoc) (GrowsInPart-after old mid new p.given (held ++ more) p.grows part)

-- a text was given to the end
GoesOut-flush : (old mid new : Option (List ℕ)) (text held : List ℕ) → GoesOut old mid text held → Grows mid new held → Grows old new text
GoesOut-flush old mid new text held p q = rw p.whole (Grows-append old mid new p.given held p.grows q)

-- the sink failed at the end of a text
GoesOut-flush_cut : (old mid new : Option (List ℕ)) (text held : List ℕ) → GoesOut old mid text held → GrowsInPart mid new held → GrowsInPart old new text
GoesOut-flush_cut old mid new text held p part = rw p.whole (GrowsInPart-after old mid new p.given held p.grows part)

-- ---- texts that are added one after the other

-- nothing was added
pub IsAdded-none : {S : Type 0} (sink : Ghosts S) (g : Gathered) (s : S) → IsAdded sink g s g s []
IsAdded-none sink g s = record {
  idle = λ _. (refl, refl);
  whole = λ _. record { given = []; grows = Grows-nil (sink.content s); whole = append-nil g.held };
  cut = λ fresh broken. cc;
  stays = Stays-none (sink.frame s);
  unbroken = λ _. refl;
  fits = λ _. (refl, λ _. rw append-nil refl);
}

-- the sink failed at the first of two texts, or at the second
IsCutShort-next : {S : Type 0} {sink : Ghosts S} {g0 g1 g2 : Gathered} {s0 s1 s2 : S} {first more : List ℕ} (broke : Bool) → g1.broke ≡ broke → IsAdded sink g0 s0 g1 s1 first → IsAdded sink g1 s1 g2 s2 more → IsFalse g0.broke → IsTrue g2.broke → IsCutShort sink s0 s2 (g0.held ++ (first ++ more))
IsCutShort-next {g0 = g0} {first = first} {more = more} true is p q fresh broken =
    let broke = p.cut fresh is in
    rw ((q.idle is).1, ← append_assoc g0.held first more)
    (record { part = GrowsInPart-append _ _ (g0.held ++ first) more broke.part; rose = broke.rose })
IsCutShort-next {sink = sink} {g0 = g0} {g1 = g1} {s0 = s0} {s1 = s1} {s2 = s2} {first = first} {more = more} false is p q fresh broken =
    let broke = q.cut is broken in
    rw (← append_assoc g0.held first more)
    (record {
      part = GoesOut-cut _ _ _ (g0.held ++ first) g1.held more (p.whole is) broke.part;
      rose = Rose-later _ _ _ p.stays broke.rose;
    })

-- two texts went out or are held
GoesOut-next : {S : Type 0} {sink : Ghosts S} {g0 g1 g2 : Gathered} {s0 s1 s2 : S} {first more : List ℕ} (broke : Bool) → g1.broke ≡ broke → IsAdded sink g0 s0 g1 s1 first → IsAdded sink g1 s1 g2 s2 more → IsFalse g2.broke → GoesOut (sink.content s0) (sink.content s2) (g0.held ++ (first ++ more)) g2.held
GoesOut-next {g2 = g2} true is p q fresh = absurd (false≢true (sym fresh ∙ ap (λ (g : Gathered). g.broke) (q.idle is).0 ∙ is))
GoesOut-next {g0 = g0} {g1 = g1} {g2 = g2} {first = first} {more = more} false is p q fresh =
    rw (← append_assoc g0.held first more) (GoesOut-add _ _ _ (g0.held ++ first) g1.held more g2.held (p.whole is) (q.whole fresh))

-- where two texts went out the sink did not fail
unbroken-next : {S : Type 0} {sink : Ghosts S} {g0 g1 g2 : Gathered} {s0 s1 s2 : S} {first more : List ℕ} (broke : Bool) → g1.broke ≡ broke → IsAdded sink g0 s0 g1 s1 first → IsAdded sink g1 s1 g2 s2 more → IsFalse g2.broke → sink.frame s2 ≡ sink.frame s0
unbroken-next true is p q fresh = absurd (false≢true (sym fresh ∙ ap (λ (g : Gathered). g.broke) (q.idle is).0 ∙ is))
unbroken-next false is p q fresh = q.unbroken fresh ∙ p.unbroken is

-- two texts that fit are held
fits-next : {S : Type 0} {sink : Ghosts S} {g0 g1 g2 : Gathered} {s0 s1 s2 : S} {first more : List ℕ} (broke : Bool) → g0.broke ≡ broke → IsAdded sink g0 s0 g1 s1 first → IsAdded sink g1 s1 g2 s2 more → length (g0.held ++ (first ++ more)) ≤ GATHER_LIMIT → (s2 ≡ s0) × (IsFalse g0.broke → g2 ≡ record g0 { held = g0.held ++ (first ++ more) })
fits-next {g1 = g1} true is p q limit =
    let still = q.idle (ap (λ (g : Gathered). g.broke) (p.idle is).0 ∙ is) in
    (still.1 ∙ (p.idle is).1, λ fresh. absurd (false≢true (sym fresh ∙ is)))
fits-next {g0 = g0} {g1 = g1} {first = first} {more = more} false is p q limit =
    let whole = length-append g0.held (first ++ more) in
    let both = length-append first more in
    let one = p.fits (omega (arith, limit, whole, both, length-append g0.held first)) in
    let held = one.1 is in
    let two = q.fits (rw held (omega (arith, limit, whole, both, length-append (g0.held ++ first) more, length-append g0.held first))) in
    (two.0 ∙ one.0, λ fresh. two.1 (ap (λ (g : Gathered). g.broke) held ∙ is) ∙ rw (held, append_assoc) refl)

-- one text was added after another
pub IsAdded-next : {S : Type 0} {sink : Ghosts S} {g0 g1 g2 : Gathered} {s0 s1 s2 : S} {first more : List ℕ} → IsAdded sink g0 s0 g1 s1 first → IsAdded sink g1 s1 g2 s2 more → IsAdded sink g0 s0 g2 s2 (first ++ more)
IsAdded-next {g0 = g0} {g1 = g1} p q = record {
  idle = λ broken.
      let still = q.idle (ap (λ (g : Gathered). g.broke) (p.idle broken).0 ∙ broken) in
      (still.0 ∙ (p.idle broken).0, still.1 ∙ (p.idle broken).1);
  whole = GoesOut-next g1.broke refl p q;
  cut = IsCutShort-next g1.broke refl p q;
  stays = Stays-next p.stays q.stays;
  unbroken = unbroken-next g1.broke refl p q;
  fits = fits-next g0.broke refl p q;
}

-- two texts were added after another
pub IsAdded-two : {S : Type 0} {sink : Ghosts S} {g0 g1 g2 : Gathered} {s0 s1 s2 : S} {first : List ℕ} (words number : List ℕ) → IsAdded sink g0 s0 g1 s1 first → IsAdded sink g1 s1 g2 s2 (words ++ number) → IsAdded sink g0 s0 g2 s2 (first ++ words ++ number)
IsAdded-two {first = first} words number p q = rw (append_assoc first words number) (IsAdded-next p q)

-- the text of one item more
pub flat_map-take : {X : Type 0} (f : X → List ℕ) (xs : List X) (i : ℕ) (d : X) → i < length xs → flat_map f (take (i + 1) xs) ≡ flat_map f (take i xs) ++ f (get_or xs i d)
flat_map-take f xs i d lt =
    ap (flat_map f) (take_more xs i d lt) ∙ flat_map-append f (take i xs) (get_or xs i d ∷ []) ∙ ap (λ s. flat_map f (take i xs) ++ s) (append-nil (f (get_or xs i d)))

-- the text of one item more was added, after a text that was added first
pub IsAdded-item : {S X : Type 0} {sink : Ghosts S} {g0 g1 g2 : Gathered} {s0 s1 s2 : S} (first : List ℕ) (f : X → List ℕ) (xs : List X) (i : ℕ) (d : X) → i < length xs
    → IsAdded sink g0 s0 g1 s1 (first ++ flat_map f (take i xs)) → IsAdded sink g1 s1 g2 s2 (f (get_or xs i d)) → IsAdded sink g0 s0 g2 s2 (first ++ flat_map f (take (i + 1) xs))
IsAdded-item first f xs i d lt p q =
    rw (flat_map-take f xs i d lt, ← append_assoc first (flat_map f (take i xs)) (f (get_or xs i d))) (IsAdded-next p q)

-- ---- a text that is finished

-- the gatherer before the first text
abbrev pub none_gathered : Gathered
none_gathered = record { held = []; broke = false }

-- the sink failed before the end, or at the end
IsCutShort-finished : {S T : Type 0} {sink : Ghosts S} {g : Gathered} {s0 s1 s2 : S} {text : List ℕ} (error : Failed) (broke : Bool) → g.broke ≡ broke → IsAdded sink none_gathered s0 g s1 text → IsFinished {T = T} sink g s1 s2 (Err error) → IsCutShort sink s0 s2 text
IsCutShort-finished error true is p q = rw (q.idle is).1 (p.cut refl is)
IsCutShort-finished {sink = sink} {g = g} {s0 = s0} {s1 = s1} {s2 = s2} {text = text} error false is p q =
    let broke = q.cut is in
    record {
      part = GoesOut-flush_cut _ _ _ text g.held (p.whole is) broke.part;
      rose = Rose-later _ _ _ p.stays broke.rose;
    }

-- a text was added and finished without a failure
Grows-finished : {S T : Type 0} {sink : Ghosts S} {g : Gathered} {s0 s1 s2 : S} {text : List ℕ} (value : T) (broke : Bool) → g.broke ≡ broke → IsAdded sink none_gathered s0 g s1 text → IsFinished sink g s1 s2 (Ok value) → Grows (sink.content s0) (sink.content s2) text × (sink.frame s2 ≡ sink.frame s0)
Grows-finished value true is p q = absurd (false≢true (q.idle is).0)
Grows-finished {g = g} {text = text} value false is p q =
    (GoesOut-flush _ _ _ text g.held (p.whole is) q.whole, q.ok ∙ p.unbroken is)

-- a text was added to a new gatherer, which was then finished
pub IsPut-finished : {S T : Type 0} {sink : Ghosts S} {g : Gathered} {s0 s1 s2 : S} {text : List ℕ} (result : Result T Failed) → IsAdded sink none_gathered s0 g s1 text → IsFinished sink g s1 s2 result → IsPut sink s0 s2 text result
IsPut-finished {g = g} (Ok value) p q =
    let out = Grows-finished value g.broke refl p q in
    record {
      ok = out.0;
      err = tt;
      met = record { stays = Stays-next p.stays q.stays; failed = λ failed. absurd (false≢true failed); ok = out.1 };
    }
IsPut-finished {g = g} (Err error) p q =
    let cut = IsCutShort-finished error g.broke refl p q in
    record {
      ok = tt;
      err = cut.part;
      met = record { stays = Stays-next p.stays q.stays; failed = λ _. cut.rose; ok = tt };
    }

-- a text that fits into a gatherer goes out as one piece
pub one_piece-finished : {S T : Type 0} {sink : Ghosts S} {g : Gathered} {s0 s1 s2 : S} {text : List ℕ} (result : Result T Failed) → IsAdded sink none_gathered s0 g s1 text → IsFinished sink g s1 s2 result
    → text ≢ [] → length text ≤ GATHER_LIMIT → OnOk result (sink.pieces s2 ≡ one_more (sink.pieces s0))
one_piece-finished {sink = sink} {g = g} {s1 = s1} {s2 = s2} {text = text} result p q some limit =
    let one = p.fits limit in
    let held : g.held ≡ text = ap (λ (g : Gathered). g.held) (one.1 refl) in
    rw one.0 at (q.one_piece (λ none. some (sym held ∙ none)))
