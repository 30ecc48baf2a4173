use Rattle.std.proofs.Common.{◌∙◌, sym}
use Rattle.std.specs.String.{string_bytes}
use Rattle.hosed_requests.proofs.EndsSeen.{new_end_by}
use Rattle.hosed_requests.proofs.end_words.is_new_end.Goals as goal

pub returns-then-earlier-lt-MOST_ENDS : goal.returns-then-earlier-lt-MOST_ENDS
returns-then-earlier-lt-MOST_ENDS c =
    let is = c.in-Some.ensures in
    new_end_by string_bytes c.args.earlier.now c.args.word.now _ c.bytes.result.now _ c.has_name.result (sym c.as_bytes.ensures.value ∙ is.spelled) is.is_name is.is_rate c.bytes.ensures.value c.if-earlier-lt-MOST_ENDS.true c.has_name.ensures
