use Rattle.hose_proto.proofs.reply_text.add_reply.Goals as goal

pub returns-in-Admitted : goal.returns-in-Admitted
returns-in-Admitted g c = rw c.in-Admitted.is c.add_priced.ensures

pub returns-in-Quoted : goal.returns-in-Quoted
returns-in-Quoted g c = rw c.in-Quoted.is c.add_priced-in-Quoted.ensures

pub returns-in-Refused : goal.returns-in-Refused
returns-in-Refused g c = rw c.in-Refused.is c.add_refused.ensures

pub returns-in-Shown : goal.returns-in-Shown
returns-in-Shown g c = c.add_shown.ensures _ _ _ _ _ c.in-Shown.is

pub returns-in-Vpns : goal.returns-in-Vpns
returns-in-Vpns g c = rw c.in-Vpns.is (c.add_vpns.ensures c.args.top.now)

pub returns-in-LinkState : goal.returns-in-LinkState
returns-in-LinkState g c = c.add_state.ensures _ _ _ _ c.in-LinkState.is

pub returns-in-Stale : goal.returns-in-Stale
returns-in-Stale g c = rw c.in-Stale.is (c.add_stale.ensures c.args.top.now)

pub returns-in-Released : goal.returns-in-Released
returns-in-Released g c = rw c.in-Released.is c.add_at.ensures

pub returns-in-NoVpn : goal.returns-in-NoVpn
returns-in-NoVpn g c = rw c.in-NoVpn.is c.add_at-in-NoVpn.ensures

pub returns-in-NoQuote : goal.returns-in-NoQuote
returns-in-NoQuote g c = rw c.in-NoQuote.is c.add_at-in-NoQuote.ensures

pub returns-in-TooMany : goal.returns-in-TooMany
returns-in-TooMany g c = rw c.in-TooMany.is c.add_last-in-TooMany.ensures

pub returns-in-Newest : goal.returns-in-Newest
returns-in-Newest g c = rw c.in-Newest.is c.add_at-in-Newest.ensures

pub returns-in-Down : goal.returns-in-Down
returns-in-Down g c = rw c.in-Down.is c.add_at-in-Down.ensures

pub returns-in-Up : goal.returns-in-Up
returns-in-Up g c = rw c.in-Up.is c.add_at-in-Up.ensures

pub returns-in-Already : goal.returns-in-Already
returns-in-Already g c = rw c.in-Already.is c.add_at-in-Already.ensures

pub returns-in-Denied : goal.returns-in-Denied
returns-in-Denied g c = rw c.in-Denied.is c.add_last-in-Denied.ensures

pub returns-in-Full : goal.returns-in-Full
returns-in-Full g c = rw c.in-Full.is c.add_last-in-Full.ensures

pub returns-in-Spent : goal.returns-in-Spent
returns-in-Spent g c = rw c.in-Spent.is c.add_last-in-Spent.ensures

pub returns-in-Disk : goal.returns-in-Disk
returns-in-Disk g c = rw c.in-Disk.is c.add_last-in-Disk.ensures

pub returns-in-Bad : goal.returns-in-Bad
returns-in-Bad g c = rw c.in-Bad.is c.add_last-in-Bad.ensures

pub returns-in-Welcome : goal.returns-in-Welcome
returns-in-Welcome g c = rw c.in-Welcome.is c.add_last.ensures
