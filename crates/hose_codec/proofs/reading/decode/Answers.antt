use Rattle.hose_codec.proofs.Decoded.{again, alone, fits}
use Rattle.hose_codec.proofs.reading.decode.Goals as goal

pub returns-clause-again : goal.returns-clause-again
returns-clause-again c = again c.args.bytes.now c.entry_of.result c.entry_of.ensures

pub returns-clause-alone : goal.returns-clause-alone
returns-clause-alone c = alone c.args.bytes.now c.entry_of.result c.entry_of.ensures

pub returns-clause-fits : goal.returns-clause-fits
returns-clause-fits c = fits c.args.bytes.now c.entry_of.result c.entry_of.ensures
