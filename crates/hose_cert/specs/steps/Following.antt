-- Which lines may come next, by the last one.
use Rattle.std.specs.Prelude.{◌<◌, ℕ, ⊤, None, Some}
use Rattle.hose_graph.specs.Network.{Network}
use Rattle.hose_cert.specs.CertLine.{CertLine, cost_line}
use Rattle.hose_cert.specs.Certificate.{MayFollow}
use Rattle.hose_cert.specs.declared.draft.Last.{Last}
use Rattle.hose_cert.specs.declared.draft.Last.TheVariants as last

-- a line may be the first one of a certificate, which tells the cost
abbrev pub MayBeCost : Network → CertLine → Type 0
MayBeCost network line = MayFollow network None line

-- a line may come right after that of the cost
abbrev pub MayBeHose : Network → ℕ → CertLine → Type 0
MayBeHose network cost line = MayFollow network (Some (cost_line cost)) line

-- a link of the plan may come
abbrev pub MayUse : Last → ℕ → Type 0
MayUse last.Hose link = ⊤
MayUse (last.Use earlier) link = earlier < link
MayUse (last.Without earlier) link = ⊥
MayUse last.Pot link = ⊥
MayUse last.End link = ⊥

-- a link may be left out
abbrev pub MayLeaveOut : Last → ℕ → Type 0
MayLeaveOut last.Hose link = ⊥
MayLeaveOut (last.Use earlier) link = ⊤
MayLeaveOut (last.Without earlier) link = earlier < link
MayLeaveOut last.Pot link = ⊥
MayLeaveOut last.End link = ⊥

-- numbers may come
abbrev pub MayNumber : Last → Type 0
MayNumber last.Hose = ⊥
MayNumber (last.Use earlier) = ⊤
MayNumber (last.Without earlier) = ⊤
MayNumber last.Pot = ⊤
MayNumber last.End = ⊥
