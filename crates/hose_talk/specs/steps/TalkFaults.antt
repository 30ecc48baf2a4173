-- Faults of a talk.
use Rattle.hose_words.specs.declared.lines.LineFault.{LineFault}
use Rattle.hose_words.specs.declared.lines.LineFault.TheVariants as line_fault
use Rattle.hose_talk.specs.declared.talking.TalkFault.{TalkFault}
use Rattle.hose_talk.specs.declared.talking.TalkFault.TheVariants as talk_fault

-- what a fault of reading lines is for a talk
abbrev pub of_line : LineFault → TalkFault
of_line line_fault.Read = talk_fault.Read
of_line line_fault.TooLong = talk_fault.TooLong
