use Rattle.std.proofs.Common.{◌≡◌, ◌-◌, [], None, rules, map, refl, subst, sym, ap}
use Rattle.std.specs.Prelude.{option_map}
use Rattle.std.specs.String.{string_bytes}
use Rattle.hose_doors.specs.Doors.{NamesDoor}
use Rattle.hosed_host.specs.HostDoors.{rule_for}
use Rattle.hosed_host.proofs.OpenDoors.{below_alone, below_later, below_seen, opens_alone, opens_first, opens_later}
use Rattle.hosed_host.proofs.opening.HostDoors.door.Goals as goal

pub word-requires : goal.word-requires
word-requires c = below_later string_bytes c.args.self.now.words.now c.args.place _ _ (ap (option_map (λ path. (path.0.now, path.1))) c.in-Some-2.is) (search rules) c.requires.there

pub word-requires-in-None : goal.word-requires-in-None
word-requires-in-None c = below_alone string_bytes c.args.self.now.words.now c.args.place _ (ap (option_map (λ path. (path.0.now, path.1))) c.in-None.is) c.requires.there

pub named-requires : goal.named-requires
named-requires c = subst NamesDoor (sym c.word.ensures) (c.requires.servable.named (c.args.place - 1) [] (below_seen string_bytes c.args.self.now.words.now (c.args.place - 1) (below_later string_bytes c.args.self.now.words.now c.args.place _ _ (ap (option_map (λ path. (path.0.now, path.1))) c.in-Some-2.is) (search rules) c.requires.there)))

pub named-requires-in-None : goal.named-requires-in-None
named-requires-in-None c = subst NamesDoor (sym c.word-in-None.ensures) (c.requires.servable.named c.args.place [] (below_seen string_bytes c.args.self.now.words.now c.args.place (below_alone string_bytes c.args.self.now.words.now c.args.place _ (ap (option_map (λ path. (path.0.now, path.1))) c.in-None.is) c.requires.there)))

pub returns-in-Some : goal.returns-in-Some
returns-in-Some c =
    let is = ap (option_map (λ path. (path.0.now, path.1))) c.in-Some.is in
    let first : c.args.place ≡ 0 = search rules in
    opens_first _ (map string_bytes c.args.self.now.words.now) c.args.place _ _ c.in-Some.path.0 c.in-Some.path.1 is first (rw c.in-Some.is at c.requires.servable.socket) c.operator_rule.ensures.name refl c.operator_rule.ensures.rule

pub returns-in-Some-2 : goal.returns-in-Some-2
returns-in-Some-2 c =
    let is = ap (option_map (λ path. (path.0.now, path.1))) c.in-Some-2.is in
    opens_later _ (map string_bytes c.args.self.now.words.now) c.args.place _ _ _ c.word.result.now is (search rules) c.word.ensures (c.named.ensures _ (ap (rule_for None) is))

pub returns-in-None : goal.returns-in-None
returns-in-None c =
    let is = ap (option_map (λ path. (path.0.now, path.1))) c.in-None.is in
    opens_alone _ (map string_bytes c.args.self.now.words.now) c.args.place _ _ c.word-in-None.result.now is c.word-in-None.ensures (c.named-in-None.ensures _ (ap (rule_for None) is))
