-- An image is recovered as one thing only.
use Rattle.std.proofs.Common.{◌≡◌, ℕ, List, length}
use Rattle.sha2.proofs.Facts256.{length-sha256}
use Rattle.hose_graph.specs.Network.{Network}
use Rattle.hose_graph.specs.declared.entry.Entry.{Entry}
use Rattle.hose_topo.specs.Canonical.{canonical_text}
use Rattle.hose_journal.specs.declared.layout.TheConstants.{DIGEST_BYTES}
use Rattle.hose_journal.specs.Image.{Meaning}
use Rattle.hose_journal.proofs.OneMeaning.{one_meaning}
use Rattle.hose_store.specs.Recovery.{digest_of, IsRecoveredAs, IsSoundAfter}

-- a network's digest is as long as each
pub digest_size : (network : Network) → length (digest_of network) ≡ DIGEST_BYTES
unfolding digest_of
digest_size network = length-sha256 (canonical_text network)

pub recovered_once : (network : Network) (image : List ℕ) (one two : Meaning Entry) → IsRecoveredAs network image one → IsRecoveredAs network image two → one ≡ two
recovered_once network image one two is also =
    one_meaning (IsSoundAfter network) (digest_of network) (digest_size network) image one two is also
