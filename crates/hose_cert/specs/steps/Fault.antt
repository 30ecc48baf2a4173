-- What a fault of reading lines is called.
use Rattle.hose_words.specs.declared.lines.LineFault.{LineFault}
use Rattle.hose_words.specs.declared.lines.LineFault.TheVariants as line
use Rattle.hose_cert.specs.declared.fault.CertFault.{CertFault}
use Rattle.hose_cert.specs.declared.fault.CertFault.TheVariants.{Read, TooLong}

-- what a fault of reading lines is for the checker
abbrev pub fault_of_line : LineFault → CertFault
fault_of_line line.Read = Read
fault_of_line line.TooLong = TooLong
