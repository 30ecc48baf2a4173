use Rattle.hose_move.proofs.LiveSound.{live_sound}
use Rattle.hose_move.proofs.laws.law_live_sound.Goals as goal

pub returns : goal.returns
returns c = λ is history sound. live_sound c.args.top.now is history sound
