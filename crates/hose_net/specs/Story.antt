-- The story of a host: what happened at its connections, and what it answered.
use Rattle.std.specs.Prelude.{◌≡◌, ◌≢◌, ℕ, ◌-◌, ◌^◌, Bool, true, false, ⊤, ◌==◌, if◌then◌else◌, nat_lt, ◌+◌, ◌<◌, ◌≤◌, List, [], ◌∷◌, ◌++◌, Option, None, Some, All}
use Rattle.std.specs.List.{flat_map, fold}
use Rattle.hose_net.specs.Happening.{Came, Closed, Gave, Got, Happening, Late, Left, LinkStep, Linked, Opened, Refused, Sent, Stopped, Took}
use Rattle.hose_net.specs.declared.hold.Hold.{Hold}
use Rattle.hose_net.specs.declared.hold.Hold.TheVariants.{Alone, Upto}
use Rattle.hose_net.specs.declared.hold.Parting.{Parting}
use Rattle.hose_net.specs.declared.hold.Parting.TheVariants as parting

-- a line that was answered: the place and the door of who gave it, whether it is the first line of
-- its connection, its bytes without the line feed, what they say, the reply, and how much has to be
-- heard of a standby before it is sent: how many entries, or the answer behind how many lines
pub record Exchange (L R : Type 0) : Type 0 where
  pub place : ℕ
  pub door : ℕ
  pub first : Bool
  pub line : List ℕ
  pub said : L
  pub reply : R
  pub needs : ℕ

-- a step of a story: something happens, a line is answered, or from now on replies are held so
pub data Step (L R : Type 0) : Type 0 where
  Happens : Happening → Step L R
  Answers : Exchange L R → Step L R
  Holds : Hold → Step L R

-- all exchanges of a story, of all connections, in order
abbrev pub exchanges : {L R : Type 0} → List (Step L R) → List (Exchange L R)
exchanges [] = []
exchanges (Happens happening ∷ story) = exchanges story
exchanges (Answers exchange ∷ story) = exchange ∷ exchanges story
exchanges (Holds hold ∷ story) = exchanges story

-- what there was of one connection: the door by which it came, the bytes that it gave, its own
-- exchanges, the bytes that it was sent, whether it is there still, and whether it would take no
-- more since it was last sent some
pub record Life (L R : Type 0) : Type 0 where
  pub door : ℕ
  pub given : List ℕ
  pub own : List (Exchange L R)
  pub sent : List ℕ
  pub here : Bool
  pub refused : Bool

-- where no one was yet
abbrev pub nobody : {L R : Type 0} → Life L R
nobody = record { door = 0; given = []; own = []; sent = []; here = false; refused = false }

-- who just came by a door
abbrev pub newcomer : {L R : Type 0} → ℕ → Life L R
newcomer door = record nobody { door = door; here = true }

-- what there was of whoever is at a place, after a step
abbrev pub lives : {L R : Type 0} → ℕ → Life L R → Step L R → Life L R
lives place life (Happens (Came door at)) = if at == place then newcomer door else life
lives place life (Happens (Got at bytes)) =
    if at == place then record life { given = life.given ++ bytes } else life
lives place life (Happens (Sent at bytes)) =
    if at == place then record life { sent = life.sent ++ bytes; refused = false } else life
lives place life (Happens (Refused at)) =
    if at == place then record life { refused = true } else life
lives place life (Happens (Left at)) = if at == place then record life { here = false } else life
lives place life (Happens (Linked step)) = life
lives place life (Happens Stopped) = life
lives place life (Answers exchange) =
    if exchange.place == place then record life { own = life.own ++ exchange ∷ [] } else life
lives place life (Holds hold) = life

-- what there was of whoever is at a place, after a story
abbrev pub life : {L R : Type 0} → ℕ → List (Step L R) → Life L R
life place story = fold (lives place) nobody story

-- ---- a standby

-- what there was of the link to a standby: whether it is there, the bytes that it gave, and those
-- that it was sent; how many lines were answered until now; and, for each number, the bytes that it
-- was sent while fewer lines than these were answered
pub record Link : Type 0 where
  pub here : Bool
  pub given : List ℕ
  pub sent : List ℕ
  pub answered : ℕ
  pub early : ℕ → List ℕ

-- where there was none yet
abbrev pub no_link : Link
no_link = record { here = false; given = []; sent = []; answered = 0; early = λ many. [] }

-- a link that was just opened, where so many lines were answered
abbrev pub new_link : ℕ → Link
new_link lines = record no_link { here = true; answered = lines }

-- a link that was sent more
abbrev pub link_took : Link → List ℕ → Link
link_took link bytes = record link {
  sent = link.sent ++ bytes;
  early = λ many. if nat_lt link.answered many then link.early many ++ bytes else link.early many;
}

-- what there was of the link, after something happened there
abbrev pub link_after : Link → LinkStep → Link
link_after link (Opened path) = new_link link.answered
link_after link (Gave bytes) = record link { given = link.given ++ bytes }
link_after link (Took bytes) = link_took link bytes
link_after link Closed = record link { here = false }
link_after link Late = link

-- what there was of the link, after one more line was answered
abbrev pub link_answered : Link → Link
link_answered link = record link { answered = link.answered + 1 }

-- what there was of the link, after a step
abbrev pub links : {L R : Type 0} → Link → Step L R → Link
links link (Happens (Came door place)) = link
links link (Happens (Got place bytes)) = link
links link (Happens (Sent place bytes)) = link
links link (Happens (Refused place)) = link
links link (Happens (Left place)) = link
links link (Happens (Linked step)) = link_after link step
links link (Happens Stopped) = link
links link (Answers exchange) = link_answered link
links link (Holds hold) = link

-- what there was of the link, after a story
abbrev pub link_in : {L R : Type 0} → List (Step L R) → Link
link_in story = fold links no_link story

-- how replies are held, after a step
abbrev pub holds : {L R : Type 0} → Hold → Step L R → Hold
holds hold (Happens happening) = hold
holds hold (Answers exchange) = hold
holds hold (Holds now) = now

-- how replies are held, after a story
abbrev pub hold_in : {L R : Type 0} → List (Step L R) → Hold
hold_in story = fold holds (Upto 0) story

-- whether it was told how replies are held since a link was opened last, after a step
abbrev pub joined_after : {L R : Type 0} → Bool → Step L R → Bool
joined_after was (Happens (Came door place)) = was
joined_after was (Happens (Got place bytes)) = was
joined_after was (Happens (Sent place bytes)) = was
joined_after was (Happens (Refused place)) = was
joined_after was (Happens (Left place)) = was
joined_after was (Happens (Linked (Opened path))) = false
joined_after was (Happens (Linked (Gave bytes))) = was
joined_after was (Happens (Linked (Took bytes))) = was
joined_after was (Happens (Linked Closed)) = was
joined_after was (Happens (Linked Late)) = was
joined_after was (Happens Stopped) = was
joined_after was (Answers exchange) = was
joined_after was (Holds hold) = true

-- and after a story, at whose beginning no link was opened
abbrev pub joined_in : {L R : Type 0} → List (Step L R) → Bool
joined_in story = fold joined_after true story

-- how much a reply may need that is sent; no reply needs more than the first of these
abbrev pub bound_of : Hold → ℕ
bound_of Alone = 2 ^ 64 - 1
bound_of (Upto count) = count

-- how much a reply may need that is sent, after a story
abbrev pub bound_in : {L R : Type 0} → List (Step L R) → ℕ
bound_in story = bound_of (hold_in story)

-- ---- one connection

-- a list has nothing in it
abbrev pub is_empty : {T : Type 0} → List T → Bool
is_empty [] = true
is_empty (first ∷ rest) = false

-- an exchange of who came by a door
abbrev pub IsByDoor : {L R : Type 0} → ℕ → Exchange L R → Type 0
IsByDoor door exchange = (exchange.door ≡ door) × All (λ byte. byte ≢ 10) exchange.line

-- the lines of exchanges, each with its line feed
abbrev pub lines_of : {L R : Type 0} → List (Exchange L R) → List ℕ
lines_of xs = flat_map (λ exchange. exchange.line ++ 10 ∷ []) xs

-- the texts of the replies of exchanges
abbrev pub texts_of : {L R : Type 0} → (R → List ℕ) → List (Exchange L R) → List ℕ
texts_of text xs = flat_map (λ exchange. text exchange.reply) xs

-- The bytes that a connection gave are its lines, each with a line feed, and a rest, of which no
-- line is answered; and what it was sent is a beginning of the texts of its first replies, none of
-- which needs more than this. Each of its exchanges is of the door by which it came.
pub record IsServed {L R : Type 0} (text : R → List ℕ) (bound : ℕ) (life : Life L R) : Type 0 where
  pub rest : List ℕ
  pub given : life.given ≡ lines_of life.own ++ rest
  pub lines : All (IsByDoor life.door) life.own
  pub free : List (Exchange L R)
  pub waiting : List (Exchange L R)
  pub split : life.own ≡ free ++ waiting
  pub allowed : All (λ exchange. exchange.needs ≤ bound) free
  pub unsent : List ℕ
  pub sent : life.sent ++ unsent ≡ texts_of text free

-- ---- all connections

-- what a host is about: what a call on its network does, and what is shown to one that sends bytes;
-- what is kept where lines were answered; what bytes of a line say, by whether the line is the
-- first of its connection and by the door that this came by; the text of a reply; the path of the
-- standby, if there is one, and whether the host may go on alone; how much is heard of the standby
-- by a link, where these lines were answered, and how many entries it has, more than the host
pub record Terms (N B L R : Type 0) : Type 1 where
  pub did : N → List Happening → N → Type 0
  pub saw : N → B → N → Type 0
  pub stands : List (Exchange L R) → B → Type 0
  pub says : Bool → ℕ → List ℕ → L → Type 0
  pub text : R → List ℕ
  pub standby : Option (List ℕ)
  pub may_be_alone : Bool
  pub leads : List (Exchange L R) → Link → Option ℕ → Type 0
  pub is_ahead : List (Exchange L R) → Link → ℕ → Type 0

-- what may happen at the link: it gives and is sent bytes where it is there
abbrev pub MayLink : Link → LinkStep → Type 0
MayLink link (Opened path) = ⊤
MayLink link (Gave bytes) = link.here ≡ true
MayLink link (Took bytes) = link.here ≡ true
MayLink link Closed = ⊤
MayLink link Late = ⊤

-- what may happen: who comes to a place finds no one there; who gives bytes, or is sent bytes, is
-- there; and who would take no more is not read before it took some again
abbrev pub MayHappen : {L R : Type 0} → List (Step L R) → Happening → Type 0
MayHappen story (Came door place) = (life place story).here ≡ false
MayHappen story (Got place bytes) =
    ((life place story).here ≡ true) × ((life place story).refused ≡ false)
MayHappen story (Sent place bytes) = (life place story).here ≡ true
MayHappen story (Refused place) = ⊤
MayHappen story (Left place) = ⊤
MayHappen story (Linked step) = MayLink (link_in story) step
MayHappen story Stopped = ⊤

-- The link is opened to where the standby is. Where it is sent bytes, all lines that were answered
-- before stood in what was kept then, and the bytes are such as a link is sent.
abbrev pub IsKeptAtLink : {N B L R : Type 0} → Terms N B L R → List (Step L R) → N → LinkStep → N
    → Type 0
IsKeptAtLink terms story was (Opened path) now = terms.standby ≡ Some path
IsKeptAtLink terms story was (Gave bytes) now = ⊤
IsKeptAtLink {N} {B} terms story was (Took bytes) now = (kept : B) × terms.saw was kept now
    × terms.stands (exchanges story) kept
    × (heard : Option ℕ) × terms.leads (exchanges story) (link_after (link_in story) (Took bytes))
    heard
IsKeptAtLink terms story was Closed now = ⊤
IsKeptAtLink terms story was Late now = ⊤

-- A line is answered where it is told how replies are held since a link was opened last, or the
-- host, which may go on alone, is alone. Where no reply is told without a standby, each reply waits
-- in any case.
abbrev pub MayAnswer : {N B L R : Type 0} → Terms N B L R → List (Step L R) → Type 0
MayAnswer terms story =
    terms.may_be_alone ≡ true → joined_in story ≡ false → hold_in story ≡ Alone

-- Where bytes were sent, all lines that were answered before stood in what was kept then.
abbrev pub IsKept : {N B L R : Type 0} → Terms N B L R → List (Step L R) → N → Happening → N
    → Type 0
IsKept terms story was (Came door place) now = ⊤
IsKept terms story was (Got place bytes) now = ⊤
IsKept {N} {B} terms story was (Sent place bytes) now =
    (kept : B) × terms.saw was kept now × terms.stands (exchanges story) kept
IsKept terms story was (Refused place) now = ⊤
IsKept terms story was (Left place) now = ⊤
IsKept terms story was (Linked step) now = IsKeptAtLink terms story was step now
IsKept terms story was Stopped now = ⊤

-- a story after which each connection is served
abbrev pub AllServed : {N B L R : Type 0} → Terms N B L R → List (Step L R) → Type 0
AllServed terms story = (place : ℕ) → IsServed terms.text (bound_in story) (life place story)

-- So much is heard of a standby, which joins, or of which more is heard than before: where the host
-- was alone, it is what each reply needs that was given.
abbrev pub Joins : {L R : Type 0} → Hold → ℕ → List (Exchange L R) → Type 0
Joins Alone count all = All (λ exchange. exchange.needs ≤ count) all
Joins (Upto before) count all = before ≤ count

-- how replies may be held from now on: the host goes on alone, where it may; or so much is heard of
-- the standby, by a link that is there
abbrev pub MayHold : {N B L R : Type 0} → Terms N B L R → List (Step L R) → Hold → Type 0
MayHold terms story Alone = terms.may_be_alone ≡ true
MayHold terms story (Upto count) = terms.leads (exchanges story) (link_in story) (Some count)
    × Joins (hold_in story) count (exchanges story) × ((link_in story).here ≡ true)

-- The stories of a host from a network on, and the network that each leaves. At each step each
-- connection is served, so no reply comes before its line, none goes to another connection, and
-- nothing of a reply is sent before all that stood when it was given is kept, and the standby was
-- heard to have it, or the host went on alone.
pub data Hosts {N B L R : Type 0} (terms : Terms N B L R) (first : N)
    : List (Step L R) → N → Type 0 where
  began : Hosts terms first [] first
  waited : {story : List (Step L R)} {was now : N} → Hosts terms first story was
      → terms.did was [] now → Hosts terms first story now
  happened : {story : List (Step L R)} {was now : N} (happening : Happening)
      → MayHappen story happening → Hosts terms first story was → terms.did was (happening ∷ []) now
      → IsKept terms story was happening now → AllServed terms (story ++ Happens happening ∷ [])
      → Hosts terms first (story ++ Happens happening ∷ []) now
  answered : {story : List (Step L R)} {now : N} (exchange : Exchange L R)
      → Hosts terms first story now
      → exchange.first ≡ is_empty (life exchange.place story).own
      → terms.says exchange.first exchange.door exchange.line exchange.said
      → MayAnswer terms story
      → AllServed terms (story ++ Answers exchange ∷ [])
      → Hosts terms first (story ++ Answers exchange ∷ []) now
  held : {story : List (Step L R)} {now : N} (hold : Hold)
      → Hosts terms first story now → MayHold terms story hold
      → AllServed terms (story ++ Holds hold ∷ [])
      → Hosts terms first (story ++ Holds hold ∷ []) now

-- ---- how a host ends

-- the first of these needs more than this
abbrev pub AwaitsMore : {T : Type 0} → (T → ℕ) → ℕ → List T → Type 0
AwaitsMore needs bound [] = ⊤
AwaitsMore needs bound (first ∷ rest) = bound < needs first

-- what a connection was sent in full: the texts of its replies up to the first that needs more than
-- this
pub record IsTold {L R : Type 0} (text : R → List ℕ) (bound : ℕ) (life : Life L R) : Type 0 where
  pub free : List (Exchange L R)
  pub waiting : List (Exchange L R)
  pub split : life.own ≡ free ++ waiting
  pub allowed : All (λ exchange. exchange.needs ≤ bound) free
  pub sent : life.sent ≡ texts_of text free
  pub awaits : AwaitsMore (λ exchange. exchange.needs) bound waiting

-- Who is there still gave, after its lines, no other line feed, unless no line is answered any
-- more; and it was sent all that it may be sent, where it took what it was sent last.
pub record IsSettled {L R : Type 0} (text : R → List ℕ) (bound : ℕ) (ended : Bool) (life : Life L R)
    : Type 0 where
  pub answered : ended ≡ false → life.here ≡ true → (rest : List ℕ)
      × (life.given ≡ lines_of life.own ++ rest) × All (λ byte. byte ≢ 10) rest
  pub told : life.here ≡ true → life.refused ≡ false → IsTold text bound life

-- this happened at one of the steps of a story
abbrev pub HasHappened : {L R : Type 0} → List (Step L R) → Happening → Type 0
HasHappened {L} {R} story happening = (before after : List (Step L R))
    × (story ≡ before ++ Happens happening ∷ after)

-- lines may be left that were given whole, unless the network told to stop
abbrev pub leaves_lines : Parting → Bool
leaves_lines parting.Asked = true
leaves_lines parting.Told = false
leaves_lines parting.Late = true
leaves_lines (parting.Ahead count) = true

-- Why a host ends, which its story shows: it was asked to; its network told it to stop; nothing was
-- heard of the standby for as long as was said, and it may not go on alone; or the standby had so
-- many entries at a moment, more than the host.
abbrev pub PartsFor : {N B L R : Type 0} → Terms N B L R → List (Step L R) → Parting → Type 0
PartsFor terms story parting.Asked = ⊤
PartsFor terms story parting.Told = HasHappened story Stopped
PartsFor terms story parting.Late = (terms.may_be_alone ≡ false) × HasHappened story (Linked Late)
PartsFor {N} {B} {L} {R} terms story (parting.Ahead count) = (before after : List (Step L R))
    × (story ≡ before ++ after) × terms.is_ahead (exchanges before) (link_in before) count

-- A host came from one network to another by a story, whose exchanges, all of them in their order,
-- come to this; and it came to rest, for this reason. One without a standby held no reply back.
pub record IsHosted {N B L R : Type 0} (terms : Terms N B L R)
    (comes : List (Exchange L R) → Type 0) (why : Parting) (first last : N) : Type 0 where
  pub story : List (Step L R)
  pub hosts : Hosts terms first story last
  pub comes_to : comes (exchanges story)
  pub settled : (place : ℕ)
      → IsSettled terms.text (bound_in story) (leaves_lines why) (life place story)
  pub parts : PartsFor terms story why
  pub alone : terms.standby ≡ None → hold_in story ≡ Alone
