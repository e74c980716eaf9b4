-- How the first steps of a turn lead on to a next item, over any port.
use Rattle.sg_round.specs.Acting.{RestsAt}
use Rattle.sg_copy.specs.Telling.{Teller}
use Rattle.sg_copy.specs.State.{Copying, teller_of, seat_of}
use Rattle.sg_copy.specs.Turning.{HasSetOut}
use Rattle.sg_copy.proofs.Ports.{Ports, Started, started_then, gone_started}

module _ {P : Type 0} (o : Ports P) where
  -- a step where no turn ends, and then the rest of its beginning
  pub set_out_then : (c d : Copying) (a b : Teller) (x y z : P) → (¬ RestsAt b.worker) → Started o (seat_of c) a x b y →
      HasSetOut c o.leads b y d z → HasSetOut c o.leads a x d z
  set_out_then c d a b x y z inside s more = record {
    started = started_then o (seat_of c) a b (teller_of d) x y z s (gone_started o (seat_of c) b (teller_of d) y z inside more.started);
    same = more.same;
  }
