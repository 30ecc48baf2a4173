use Rattle.std.proofs.Common.{refl}
use Rattle.hose_words.specs.Shapes.{IsFirstWrong}
use Rattle.hose_words.specs.Words.{words_of}
use Rattle.hose_law.specs.Transcript.SessionLine.{IsBad}
use Rattle.hose_greeting.proofs.Shown.{text_is}
use Rattle.hose_greeting.specs.SessionLines.{greeting_shape}
use Rattle.hose_clerk.specs.HostLines.{IsNameAt}
use Rattle.hose_clerk.proofs.doors.greeting_at.Goals as goal

pub returns-in-Err : goal.returns-in-Err
returns-in-Err c = (
  IsBad c.in-Err.wrong.number,
  text_is (λ bytes. IsFirstWrong (greeting_shape (IsNameAt c.args.rule)) (words_of bytes) c.in-Err.wrong.number) c.args.line c.in-Text.text c.in-Text.is c.in-Err.ensures.bad,
  refl,
)
