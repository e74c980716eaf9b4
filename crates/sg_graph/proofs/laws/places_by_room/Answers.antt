-- The law is proved in `proofs/ByRoom.antt`.
use Rattle.sg_graph.proofs.ByRoom.{places_by_room}
use Rattle.sg_graph.proofs.laws.places_by_room.Goals as goal

pub returns : goal.returns
returns c = places_by_room
