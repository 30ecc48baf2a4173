-- Chain values are as many bytes as they are written with, and histories have as many entries as an
-- epoch counts.
use Rattle.std.proofs.Common.{ℕ, zero, suc, ◌<◌, ◌^◌, List, [], ◌∷◌, ◌++◌, length, arith, All}
use Rattle.std.specs.Int.{byte_at, bytes_high_first, to_be_bytes, w32}
use Rattle.std.specs.List.{slice_index}
use Rattle.std.proofs.lemmas.List.Elements.{All-append, All-cons, All-nil}
use Rattle.sha2.specs.Sha256.{digest_bytes, final_hash, initial_hash_256, sha256}
use Rattle.hose_graph.specs.Network.{Network}
use Rattle.hose_graph.specs.declared.entry.Entry.{Entry}
use Rattle.hose_codec.specs.Spelling.{spelling}
use Rattle.hose_topo.specs.Canonical.{canonical_text}
use Rattle.hose_journal.specs.Chain.{chain}
use Rattle.hose_journal.proofs.Chains.{length-chain}
use Rattle.hose_store.specs.Recovery.{digest_of}
use Rattle.hose_store.proofs.Histories.{few_in_history}
use Rattle.hose_store.proofs.OneMeaning.{digest_size}
use Rattle.hose_follow.specs.Replication.{IsLeader}
use Rattle.hose_pair.specs.steps.Written.{IsValue}

abbrev AreBytes : List ℕ → Type 0
AreBytes bytes = All (λ byte. byte < 256) bytes

byte_small : (place n : ℕ) → byte_at place n < 256
byte_small zero n = omega arith
byte_small (suc place) n = omega arith

number_small : (k n : ℕ) → AreBytes (bytes_high_first k n)
number_small zero n = All-nil (λ byte. byte < 256)
number_small (suc k) n = All-cons (λ byte. byte < 256) (byte_at k n) (bytes_high_first k n) (byte_small k n) (number_small k n)

digest_small : (h : List ℕ) (n : ℕ) → AreBytes (digest_bytes h n)
unfolding digest_bytes
digest_small h zero = All-nil (λ byte. byte < 256)
digest_small h (suc n) = All-append (λ byte. byte < 256) (digest_bytes h n) (to_be_bytes w32 (slice_index h n)) (digest_small h n) (number_small 4 (slice_index h n))

hash_small : (m : List ℕ) → AreBytes (sha256 m)
unfolding sha256
hash_small m = digest_small (final_hash initial_hash_256 m) 8

network_small : (network : Network) → AreBytes (digest_of network)
unfolding digest_of
network_small network = hash_small (canonical_text network)

chain_small : (value : List ℕ) (entries : List Entry) → AreBytes value → AreBytes (chain value entries)
chain_small value [] small = small
chain_small value (entry ∷ entries) small = chain_small (sha256 (value ++ spelling entry)) entries (hash_small (value ++ spelling entry))

pub chain_value : (network : Network) (entries : List Entry) → IsValue (chain (digest_of network) entries)
chain_value network entries = (length-chain (digest_of network) entries (digest_size network), chain_small (digest_of network) entries (network_small network))

pub few_entries : (network : Network) (list : List Entry) → IsLeader network list → length list < 2 ^ 32
few_entries network list leader = let few = few_in_history network list leader.sound in omega (arith, few)
