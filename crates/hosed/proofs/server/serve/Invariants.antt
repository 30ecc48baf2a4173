use Rattle.std.proofs.Common.{◌∷◌, Some}
use Rattle.hosed.specs.steps.ServerDoor.{opened_on}
use Rattle.hosed.proofs.server.serve.Given as goal

abbrev pub ghosts-serve_store-N-DoorStart : goal.ghosts-serve_store-N-DoorStart
ghosts-serve_store-N-DoorStart g a = record {
  start = record {
    frame = record (g.L.Door.frame a.door.now) { loan = a.door.ghost_name ∷ (g.L.Door.frame a.door.now).loan };
    told = g.L.Door.told a.door.now;
    port = Some a.request.port;
    connections = a.request.connections;
  };
}

abbrev pub ghosts-serve_store-N-Ledger : goal.ghosts-serve_store-N-Ledger
ghosts-serve_store-N-Ledger g a = record { name = a.opening.blank.name; parts = a.opening.blank.parts }

abbrev pub ghosts-serve_store-N-AtOpening : goal.ghosts-serve_store-N-AtOpening
ghosts-serve_store-N-AtOpening g a = record {
  opened = opened_on g.C.Disk.Disk a.opening.was.value a.opening.store.ledger.network;
}
