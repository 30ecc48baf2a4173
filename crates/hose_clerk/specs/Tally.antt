-- What was answered, counted by reply.
use Rattle.std.specs.Prelude.{ℕ, ◌+◌, ◌-◌, ◌^◌, min}
use Rattle.hose_graph.specs.declared.command.Reply.{Reply}
use Rattle.hose_graph.specs.declared.command.Reply.TheVariants as told
use Rattle.hose_clerk.specs.declared.replies.HostReply.{HostReply}
use Rattle.hose_clerk.specs.declared.replies.HostReply.TheVariants as reply
use Rattle.hose_clerk.specs.declared.tally.Tally.{Tally}

-- one more, up to the greatest number that a count holds
abbrev pub one_more : ℕ → ℕ
one_more count = min (count + 1) (2 ^ 64 - 1)

-- what is counted before any line is answered
abbrev pub no_tally : Tally
no_tally = record {
  lines = 0;
  admitted = 0;
  refused = 0;
  released = 0;
  down = 0;
  up = 0;
  disk = 0;
  memory = 0;
}

-- counts of replies with this one more; where it is of none of their kinds they stay
abbrev pub tally_told : Reply → Tally → Tally
tally_told (told.Welcome at) tally = tally
tally_told (told.Admitted id cost at amounts) tally =
    record tally { admitted = one_more tally.admitted }
tally_told (told.Quoted quote cost at amounts) tally = tally
tally_told (told.Refused at side) tally = record tally { refused = one_more tally.refused }
tally_told (told.Stale seen now) tally = tally
tally_told (told.Released id at) tally = record tally { released = one_more tally.released }
tally_told (told.NoVpn id at) tally = tally
tally_told (told.NoQuote quote at) tally = tally
tally_told (told.TooMany at) tally = tally
tally_told (told.Shown id cost at hose amounts) tally = tally
tally_told (told.Vpns at ids) tally = tally
tally_told (told.Newest id at) tally = tally
tally_told (told.LinkState link load out at) tally = tally
tally_told (told.Down link at) tally = record tally { down = one_more tally.down }
tally_told (told.Up link at) tally = record tally { up = one_more tally.up }
tally_told (told.Already link at) tally = tally
tally_told (told.Denied at) tally = tally
tally_told (told.Full at) tally = tally
tally_told (told.Spent at) tally = tally
tally_told (told.Disk at) tally = record tally { disk = one_more tally.disk }
tally_told told.Memory tally = record tally { memory = one_more tally.memory }
tally_told (told.Bad word) tally = tally
tally_told told.Long tally = tally
tally_told told.Bye tally = tally

-- counts with a line more that is answered so
abbrev pub tally_with : HostReply → Tally → Tally
tally_with (reply.Told answer) tally =
    tally_told answer (record tally { lines = one_more tally.lines })
tally_with (reply.Ending at) tally = record tally { lines = one_more tally.lines }
tally_with (reply.Figures figures) tally = record tally { lines = one_more tally.lines }
