use Rattle.std.proofs.Common.{[], ◌∷◌, ◌++◌, ap, arith, length, length-append}
use Rattle.hose_codec.proofs.Entries.{length-spelling}
use Rattle.hose_law.proofs.Epochs.{epoch_is}
use Rattle.hosed_host.proofs.reading.take_in.Goals as goal

pub push-kept-requires-clause-epoch : goal.push-kept-requires-clause-epoch
push-kept-requires-clause-epoch g c =
    let entries = c.requires.next.2 in
    let entry = c.requires.next.3 in
    let next = c.requires.next.4 in
    omega (arith, epoch_is c.args.replay.now.book.book (entries ++ entry ∷ []) next.replaying.given.book, c.requires.few, next.last.epoch, length-append entries (entry ∷ []))

pub push-kept-requires-clause-body : goal.push-kept-requires-clause-body
push-kept-requires-clause-body g c =
    let next = c.requires.next.4 in
    omega (arith, length-spelling c.requires.next.3 next.is_entry, ap length next.spelled)

pub returns : goal.returns
returns g c = λ was network entries entry next. record {
  replaying = next.replaying;
  last = c.push-kept.ensures.is network entries entry next.last next.spelled (c.chain.ensures.chain was network (entries ++ entry ∷ []) next.replaying);
}
