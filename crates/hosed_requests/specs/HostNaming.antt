-- What the words of a host name.
use Rattle.std.specs.Prelude.{◌≡◌, ℕ, List, MatchOption, Option, ⊤, map, option_map}
use Rattle.std.specs.String.{string_bytes}
use Rattle.hosed_requests.specs.HostWords.{AreHostWords, HostAsked, IsFirstWrongOfHost, StandbyAsked, first_door, operator_number}
use Rattle.hosed_requests.specs.declared.host_line.HostWords.{HostWords}
use Rattle.hosed_requests.specs.declared.host_line.StandbyWords.{StandbyWords}

-- what was read of a standby, as it is asked
abbrev pub standby_of : StandbyWords → StandbyAsked
standby_of found =
    record { path = found.path.now; seconds = found.seconds; or_stop = found.or_stop }

-- what was read, as it is asked
abbrev pub asked_of : HostWords → HostAsked
asked_of found = record {
  tariff = found.tariff;
  operator = option_map (λ operator. operator.0.now) found.operator;
  quiet = found.quiet;
  standby = option_map standby_of found.standby;
  topology = found.topology.now;
  journal = found.journal.now;
  doors = map string_bytes found.doors.now;
}

-- the words are those of this host, and the numbers are those of the words that name its doors
pub record ReadsHost (names words : List (List ℕ)) (found : HostWords) : Type 0 where
  pub asked : AreHostWords names words (asked_of found)
  pub operator : MatchOption found.operator ⊤
      (λ operator. operator.1 ≡ operator_number names (asked_of found))
  pub first : found.first ≡ first_door names (asked_of found)

-- what the words of a host name, where they are not wrong
abbrev pub HostNamesOf : List (List ℕ) → List (List ℕ) → Option HostWords → Type 0
HostNamesOf names words named =
    MatchOption named ((word : ℕ) × IsFirstWrongOfHost names words word) (ReadsHost names words)
