use Rattle.hose_book.proofs.Tracking.{tracks_on}
use Rattle.hose_book.proofs.Book.apply.Goals as goal

pub returns-in-Admit-clause-tracks : goal.returns-in-Admit-clause-tracks
returns-in-Admit-clause-tracks c = tracks_on c.args.self.now c.admit.new.self c.args.entry _ c.admit.ensures c.in-Admit.is

pub returns-in-Release-clause-tracks : goal.returns-in-Release-clause-tracks
returns-in-Release-clause-tracks c = tracks_on c.args.self.now c.release.new.self c.args.entry _ c.release.ensures c.in-Release.is

pub returns-in-Down-clause-tracks : goal.returns-in-Down-clause-tracks
returns-in-Down-clause-tracks c = tracks_on c.args.self.now c.take_out.new.self c.args.entry _ c.take_out.ensures c.in-Down.is

pub returns-in-Up-clause-tracks : goal.returns-in-Up-clause-tracks
returns-in-Up-clause-tracks c = tracks_on c.args.self.now c.put_back.new.self c.args.entry _ c.put_back.ensures c.in-Up.is
