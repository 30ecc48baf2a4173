-- What is written of a plan over all links: the lines of its certificate, and their text: steps of
-- proofs.
use Rattle.std.specs.Prelude.{◌≡◌, ◌⊎◌, ℕ, Bool, true, false, List, ◌++◌, Result, Ok, Err, codes, decimal}
use Rattle.std.specs.List.{flat_map}
use Rattle.hose_io.specs.Frame.{Rose}
use Rattle.hose_io.specs.declared.sink.Sink.{Ghosts}
use Rattle.hose_graph.specs.Amounts.{ReservedLink, amount_of, link_of}
use Rattle.hose_graph.specs.Hose.{Endpoint}
use Rattle.hose_graph.specs.Network.{Network}
use Rattle.hose_proto.specs.ReplyText.{end_text}
use Rattle.hose_cert.specs.CertLine.{CertLine, cost_line, end_line, hose_line, pot_line, use_line, without_line}
use Rattle.hose_cert.specs.declared.fault.ProveFault.{ProveFault}
use Rattle.hose_cert.specs.declared.fault.ProveFault.TheVariants.{Write, Memory}
use Rattle.hose_cert.specs.Written.{GrowsByLines, GrowsByPart, GrowsByWhole, HasNoPlan}

-- ---- lines

-- a number after others
abbrev pub number_text : ℕ → List ℕ
number_text number = codes " " ++ decimal number

-- the text of a link of the plan, with its amount
abbrev pub use_text : ReservedLink → List ℕ
use_text pair = codes "use " ++ decimal (link_of pair) ++ number_text (amount_of pair)

-- the text of numbers of a root, for one node after the other from this one on
abbrev pub pot_text : ℕ → ℕ → List ℕ → List ℕ
pot_text root from numbers =
    codes "pot " ++ decimal root ++ number_text from ++ flat_map number_text numbers

-- the text of a line, in the pieces in which it is added
abbrev pub pieces_of : Network → CertLine → List ℕ
pieces_of network (cost_line cost) = codes "cost " ++ decimal cost
pieces_of network (hose_line hose) = codes "hose" ++ flat_map (end_text network) hose
pieces_of network (use_line pair) = use_text pair
pieces_of network (without_line link) = codes "without " ++ decimal link
pieces_of network (pot_line root from numbers) = pot_text root from numbers
pieces_of network end_line = codes "end"

-- ---- the certificate

-- What writing the certificate of a hose comes to. It is out, and the sink has not failed; or the
-- hose has no plan, and the sink was not called; or the sink failed, and a part is out; or memory
-- was wanting, and whole lines are out or the sink was not called.
abbrev pub Writes : {S : Type 0} → Ghosts S → Network → List Endpoint → S → S
    → Result Bool ProveFault → Type 0
Writes sink network hose was now (Ok true) =
    GrowsByWhole network hose (sink.content was) (sink.content now)
    × (sink.frame now ≡ sink.frame was)
Writes sink network hose was now (Ok false) = HasNoPlan network hose × (now ≡ was)
Writes sink network hose was now (Err Write) =
    GrowsByPart network hose (sink.content was) (sink.content now)
    × Rose (sink.frame was) (sink.frame now)
Writes sink network hose was now (Err Memory) =
    ((now ≡ was) ⊎ GrowsByLines network hose (sink.content was) (sink.content now))
    × (sink.frame now ≡ sink.frame was)
