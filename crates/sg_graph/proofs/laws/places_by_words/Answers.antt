-- The law is proved in `proofs/ByWords.antt`.
use Rattle.sg_graph.proofs.ByWords.{places_by_words}
use Rattle.sg_graph.proofs.laws.places_by_words.Goals as goal

pub returns : goal.returns
returns c = places_by_words
