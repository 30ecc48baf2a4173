-- What is known of a line that is shown.
use Rattle.std.proofs.Common.{◌≡◌, ℕ, ◌≤◌, List, length, subst, Bor}
use Rattle.hose_words.specs.steps.Lines.{Shows}
use Rattle.hose_words.specs.declared.lines.TheConstants.{LINE_LIMIT}
use Rattle.hose_words.specs.declared.lines.Line.{Line}
use Rattle.hose_words.specs.declared.lines.Line.TheVariants.{Text}

-- what is known of a line that is shown holds of its bytes
pub text_is : (Is : List ℕ → Type 0) (line : Line) (text : Bor (List ℕ)) → line ≡ Text text → Is text.now → (bytes : List ℕ) → Shows line bytes → (length bytes ≤ LINE_LIMIT) × Is bytes
text_is Is line text same is bytes shows = let here = subst (λ (l : Line). Shows l bytes) same shows in (here.0, subst Is here.1 is)
