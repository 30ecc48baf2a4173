-- How a buffer's places stand to one another.
use Rattle.std.specs.Prelude.{◌≤◌, ◌-◌, slice_range}
use Rattle.std.specs.List.{position_or_len}
use Rattle.hose_words.specs.Lines.{is_line_feed}
use Rattle.hose_words.specs.declared.lines.TheConstants.{PENDING_LIMIT}
use Rattle.hose_words.specs.declared.buffer.PendingBytes.TheInside.{Inside}

-- The line that was cut off and the pending bytes lie in the buffer, and those of them that were
-- searched have no line feed.
pub record IsInOrder (buffer : Inside) : Type 0 where
  pub line : buffer.line_start ≤ buffer.line_end
  pub line_inside : buffer.line_end ≤ PENDING_LIMIT
  pub pending : buffer.start ≤ buffer.end
  pub pending_inside : buffer.end ≤ PENDING_LIMIT
  pub searched_inside : buffer.searched ≤ buffer.end - buffer.start
  pub searched : buffer.searched
      ≤ position_or_len is_line_feed (slice_range buffer.bytes buffer.start buffer.end)
