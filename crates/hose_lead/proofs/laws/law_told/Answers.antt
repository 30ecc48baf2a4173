use Rattle.hose_lead.proofs.Told.{compared_told, have_told}
use Rattle.hose_lead.proofs.laws.law_told.Goals as goal

pub returns : goal.returns
returns c = record {
  have = λ network list came sent state count led is. have_told network list came sent state count led is;
  compared = λ network list came sent state count led is. compared_told network list came sent state count led is;
}
