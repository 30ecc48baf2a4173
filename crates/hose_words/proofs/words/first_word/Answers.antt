use Rattle.std.proofs.Common.{◌∙◌, sym, arith}
use Rattle.hose_words.proofs.WordLemmas.{words_of-word}
use Rattle.hose_words.proofs.words.first_word.Goals as goal

pub returns-then-len-gt0-clause-word : goal.returns-then-len-gt0-clause-word
returns-then-len-gt0-clause-word c =
    rw (c.split_at.ensures.front, c.split_at.ensures.back, c.len_before-len.ensures.place)
    (sym c.loop-rest.invariant ∙ words_of-word c.loop-rest.rest.now (omega arith))
