use Rattle.std.proofs.Common.{refl}
use Rattle.hose_tree.proofs.Forests.{zeros}
use Rattle.hose_tree.proofs.judge.Forest.new.Goals as goal

pub returns : goal.returns
returns c = λ network. record { degrees = zeros 512; links = zeros 512; amounts = zeros 512; rates = λ v place. zeros 512 v; left = refl }
