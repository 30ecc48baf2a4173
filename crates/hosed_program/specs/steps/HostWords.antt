-- The words of a host, as its doors are asked for: steps of proofs.
use Rattle.std.specs.Prelude.{option_map}
use Rattle.std.specs.Option.{unwrap_or}
use Rattle.hosed_requests.specs.declared.host_line.HostWords.{HostWords}
use Rattle.hosed_requests.specs.declared.host_line.StandbyWords.{StandbyWords}
use Rattle.hosed_host.specs.declared.opening.HostDoors.{HostDoors}
use Rattle.hosed_host.specs.declared.opening.StandbyPlan.{StandbyPlan}

-- the standby that words tell, of which nothing may be heard for ten seconds if none are told
abbrev pub plan_said : StandbyWords → StandbyPlan
plan_said said = record {
  path = said.path;
  seconds = unwrap_or said.seconds 10;
  or_stop = said.or_stop;
}

-- the doors that words ask for
abbrev pub doors_said : HostWords → HostDoors
doors_said said = record {
  operator = said.operator;
  words = said.doors;
  first = said.first;
  standby = option_map plan_said said.standby;
}
