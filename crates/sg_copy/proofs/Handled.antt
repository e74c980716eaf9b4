-- Where a copier stands behind the handling of a slot.
use Rattle.std.proofs.Common.{◌≡◌, ℕ, ◌+◌, ◌-◌, ◌<◌, ◌≤◌, List, [], ◌∷◌, ◌++◌, map, length, slice_set, refl, sym, ap, ◌∙◌, subst, arith, length-append}
use Rattle.std.proofs.lemmas.List.{map_push, length-map}
use Rattle.sg_words.specs.Address.{byte_at, word_at}
use Rattle.sg_words.specs.Sections.{nursery_base, old_base}
use Rattle.sg_words.proofs.Numbers.{word_at-byte_at}
use Rattle.sg_words.specs.declared.pieces.Move.{Move}
use Rattle.sg_words.specs.declared.layout.Layout.{Layout}
use Rattle.sg_desc.specs.declared.shapes.Shape.{Shape}
use Rattle.sg_words.specs.Words.{put}
use Rattle.sg_round.specs.Items.{Item, WholeOf}
use Rattle.sg_round.specs.Worker.{Mid, Idle}
use Rattle.sg_copy.specs.declared.gray.Gray.{Gray}
use Rattle.sg_copy.specs.declared.gray.Gray.TheVariants.{Whole}
use Rattle.sg_copy.specs.Grays.{item_of}
use Rattle.sg_copy.specs.declared.copier.Stage.{Stage}
use Rattle.sg_copy.specs.declared.copier.Stage.TheVariants.{Between}
use Rattle.sg_copy.specs.Copying.{area_by}
use Rattle.sg_copy.specs.Telling.{Seat, Teller, at}
use Rattle.sg_copy.specs.State.{Copying, mid_of, worker_of, teller_of, seat_of, IsSameCopier, IsSameHanded, IsOnSlot, move_of}
use Rattle.sg_copy.specs.Turning.{HasHandled, HasBegun, HasSetOut}
use Rattle.sg_copy.proofs.Ports.{Ports, On, Gone, Started, gone_then, started_then}
use Rattle.sg_copy.proofs.Changes.{put_set}

pub seat_same : (c d : Copying) → IsSameCopier c d → seat_of d ≡ seat_of c
seat_same c d same =
    ap (λ (l : Layout). record (seat_of d) { area = area_by l d.shapes }) same.layout
    ∙ ap (λ (shapes : List Shape). record (seat_of d) { area = area_by c.layout shapes }) same.shapes
    ∙ ap (λ n. record (seat_of c) { team = n; most = d.most; number = d.number }) same.team
    ∙ ap (λ n. record (seat_of c) { most = n; number = d.number }) same.most
    ∙ ap (λ n. record (seat_of c) { number = n }) same.number

pub same_self : (c : Copying) → IsSameCopier c c
same_self c = record { layout = refl; shapes = refl; number = refl; team = refl; most = refl }

pub same_handed : (c : Copying) → IsSameHanded c c
same_handed c = record { copier = same_self c; hand = refl }

pub same_then : (c d e : Copying) → IsSameCopier c d → IsSameCopier d e → IsSameCopier c e
same_then c d e h k = record {
  layout = k.layout ∙ h.layout;
  shapes = k.shapes ∙ h.shapes;
  number = k.number ∙ h.number;
  team =
      k.team ∙ h.team;
  most = k.most ∙ h.most;
}

pub handed_then : (c d e : Copying) → IsSameHanded c d → IsSameHanded d e → IsSameHanded c e
handed_then c d e h k = record { copier = same_then c d e h.copier k.copier; hand = k.hand ∙ h.hand }

pub same_stage : (c d : Copying) (stage : Stage) → d ≡ record c { stage = stage } → IsSameHanded c d
same_stage c d stage e =
    subst (IsSameHanded c) (sym e) (record { copier = record { layout = refl; shapes = refl; number = refl; team = refl; most = refl }; hand = refl })

pub same_spares : (c d : Copying) (spares : List ℕ) → d ≡ record c { spares = spares } → IsSameHanded c d
same_spares c d spares e =
    subst (IsSameHanded c) (sym e) (record { copier = record { layout = refl; shapes = refl; number = refl; team = refl; most = refl }; hand = refl })

pub same_passed : (c d : Copying) (passed : List ℕ) → d ≡ record c { passed = passed } → IsSameHanded c d
same_passed c d passed e =
    subst (IsSameHanded c) (sym e) (record { copier = record { layout = refl; shapes = refl; number = refl; team = refl; most = refl }; hand = refl })

-- no exchange is prepared
pub idle_is : (c : Copying) → c.stage ≡ Between → at (teller_of c) Idle ≡ teller_of c
idle_is c e = ap (λ (stage : Stage). at (teller_of c) (mid_of stage)) (sym e)

-- a place to spare, or the blocks that are passed, put elsewhere
pub at_spare : (c d : Copying) (size z v : ℕ) (mid : Mid) → d ≡ record c { spares = slice_set c.spares size v } → size ≡ z → size < length c.spares →
    at (teller_of d) mid ≡ record (teller_of c) { worker = record (worker_of c) { spare = put (worker_of c).spare z v; mid = mid } }
at_spare c d size z v mid e is l =
    ap (λ (k : Copying). at (teller_of k) mid) e
    ∙ ap (λ (f : ℕ → ℕ). record (teller_of c) { worker = record (worker_of c) { spare = f; mid = mid } }) (put_set c.spares size v 0 l)
    ∙ ap (λ n. record (teller_of c) { worker = record (worker_of c) { spare = put (worker_of c).spare n v; mid = mid } }) is

pub at_passed : (c d : Copying) (size z v : ℕ) (mid : Mid) → d ≡ record c { passed = slice_set c.passed size v } → size ≡ z → size < length c.passed →
    at (teller_of d) mid ≡ record (teller_of c) { worker = record (worker_of c) { passed = put (worker_of c).passed z v; mid = mid } }
at_passed c d size z v mid e is l =
    ap (λ (k : Copying). at (teller_of k) mid) e
    ∙ ap (λ (f : ℕ → ℕ). record (teller_of c) { worker = record (worker_of c) { passed = f; mid = mid } }) (put_set c.passed size v 0 l)
    ∙ ap (λ n. record (teller_of c) { worker = record (worker_of c) { passed = put (worker_of c).passed n v; mid = mid } }) is

-- an object has moved
pub at_moved : (c d : Copying) (from to : ℕ) (mid : Mid) →
    d ≡ record c { moves = c.moves ++ move_of from to ∷ []; queue = c.queue ++ Whole (byte_at to) ∷ [] } →
    at (teller_of d) mid ≡ record (teller_of c) {
      worker = record (worker_of c) { list = (worker_of c).list ++ WholeOf to ∷ []; mid = mid };
      moves =
          (teller_of c).moves ++ from ∷ [];
    }
at_moved c d from to mid e =
    ap (λ (k : Copying). at (teller_of k) mid) e
    ∙ ap (λ (list : List Item). record (teller_of c) {
      worker = record (worker_of c) { list = list; mid = mid };
      moves =
          map (λ (m : Move). word_at m.from) (c.moves ++ move_of from to ∷ []);
    })
    (map_push item_of c.queue (Whole (byte_at to)) ∙ ap (λ n. (worker_of c).list ++ WholeOf n ∷ []) (word_at-byte_at to))
    ∙ ap (λ ms. record (teller_of c) { worker = record (worker_of c) { list = (worker_of c).list ++ WholeOf to ∷ []; mid = mid }; moves = ms })
    (map_push (λ (m : Move). word_at m.from) c.moves (move_of from to) ∙ ap (λ n. (teller_of c).moves ++ n ∷ []) (word_at-byte_at from))

pub same_moved : (c d : Copying) (moves : List Move) (queue : List Gray) → d ≡ record c { moves = moves; queue = queue } → IsSameHanded c d
same_moved c d moves queue e =
    subst (IsSameHanded c) (sym e) (record { copier = record { layout = refl; shapes = refl; number = refl; team = refl; most = refl }; hand = refl })

-- an object has failed, and no block can take its size
pub at_failed : (c d k : Copying) (x size z v : ℕ) (mid : Mid) →
    d ≡ record c { fails = c.fails ++ byte_at x ∷ []; queue = c.queue ++ Whole (byte_at x) ∷ [] } →
    k ≡ record d { passed = slice_set d.passed size v } → size ≡ z → size < length d.passed →
    at (teller_of k) mid ≡ record (teller_of c) {
      worker = record (worker_of c) { list = (worker_of c).list ++ WholeOf x ∷ []; passed = put (worker_of c).passed z v; mid = mid };
      fails = (teller_of c).fails ++ x ∷ [];
    }
at_failed c d k x size z v mid e f is l =
    at_passed d k size z v mid f is l
    ∙ ap (λ (b : Copying). record (teller_of b) { worker = record (worker_of b) { passed = put (worker_of b).passed z v; mid = mid } }) e
    ∙ ap (λ (list : List Item). record (teller_of c)
    { worker = record (worker_of c) { list = list; passed = put (worker_of c).passed z v; mid = mid }; fails = map word_at (c.fails ++ byte_at x ∷ []) })
    (map_push item_of c.queue (Whole (byte_at x)) ∙ ap (λ n. (worker_of c).list ++ WholeOf n ∷ []) (word_at-byte_at x))
    ∙ ap (λ ms. record (teller_of c)
    { worker = record (worker_of c) { list = (worker_of c).list ++ WholeOf x ∷ []; passed = put (worker_of c).passed z v; mid = mid }; fails = ms })
    (map_push word_at c.fails (byte_at x) ∙ ap (λ n. (teller_of c).fails ++ n ∷ []) (word_at-byte_at x))

pub same_failed : (c d : Copying) (fails : List ℕ) (queue : List Gray) → d ≡ record c { fails = fails; queue = queue } → IsSameHanded c d
same_failed c d fails queue e =
    subst (IsSameHanded c) (sym e) (record { copier = record { layout = refl; shapes = refl; number = refl; team = refl; most = refl }; hand = refl })

-- there is room to tell of one more object
pub moves_room : (layout : Layout) (moves : List Move) (fails : List ℕ) (x : ℕ) →
    length (map (λ (m : Move). word_at m.from) moves ++ x ∷ []) + length (map word_at fails) ≤ old_base layout - nursery_base →
    length moves + length fails < layout.nursery
moves_room layout moves fails x few =
    let n = length-map moves (λ (m : Move). word_at m.from) in let k = length-map fails word_at in
    omega (arith, few, length-append (map (λ (m : Move). word_at m.from) moves) (x ∷ []), n, k)

pub fails_room : (layout : Layout) (moves : List Move) (fails : List ℕ) (x : ℕ) →
    length (map (λ (m : Move). word_at m.from) moves) + length (map word_at fails ++ x ∷ []) ≤ old_base layout - nursery_base →
    length moves + length fails < layout.nursery
fails_room layout moves fails x few =
    let n = length-map moves (λ (m : Move). word_at m.from) in let k = length-map fails word_at in
    omega (arith, few, length-append (map word_at fails) (x ∷ []), n, k)

module _ {P : Type 0} (o : Ports P) where
  -- the same worker, written otherwise
  pub on_as : (seat seat' : Seat) (a b : Teller) (x : P) → seat' ≡ seat → b ≡ a → On o seat x a → On o seat' x b
  on_as seat seat' a b x e f on = subst (λ (s : Seat). On o s x b) (sym e) (subst (λ (c : Teller). On o seat x c) (sym f) on)

  pub gone_to : (seat : Seat) (a b c : Teller) (x y : P) → c ≡ b → Gone o seat a x b y → Gone o seat a x c y
  gone_to seat a b c x y e gone = subst (λ (d : Teller). Gone o seat a x d y) (sym e) gone

  pub started_to : (seat : Seat) (a b c : Teller) (x y : P) → c ≡ b → Started o seat a x b y → Started o seat a x c y
  started_to seat a b c x y e s = subst (λ (d : Teller). Started o seat a x d y) (sym e) s

  module _ (c d : Copying) (a : Teller) (x y : P) where
    -- an exchange is prepared
    pub handled_at : (stage : Stage) → d ≡ record c { stage = stage } → IsOnSlot stage → Gone o (seat_of c) a x (at (teller_of c) (mid_of stage)) y →
        HasHandled c o.leads a x d y
    handled_at stage e is gone = record {
      gone = gone_to (seat_of c) a _ (teller_of d) x y (ap teller_of e) gone;
      same = same_stage c d stage e;
      where_is = subst IsOnSlot (sym (ap (λ (k : Copying). k.stage) e)) is;
    }

  -- none is
  pub handled_idle : (c : Copying) (a : Teller) (x y : P) → c.stage ≡ Between → Gone o (seat_of c) a x (at (teller_of c) Idle) y → HasHandled c o.leads a x c y
  handled_idle c a x y e gone = record {
    gone = gone_to (seat_of c) a _ (teller_of c) x y (sym (idle_is c e)) gone;
    same = same_handed c;
    where_is = subst IsOnSlot (sym e) tt;
  }

  -- handling goes on where a copier was changed, and worker and seat are the same
  pub handled_as : (c k d : Copying) (a b : Teller) (x y : P) → IsSameHanded c k → b ≡ a → HasHandled k o.leads b x d y → HasHandled c o.leads a x d y
  handled_as c k d a b x y same e h = record {
    gone = subst (λ (s : Seat). Gone o s a x (teller_of d) y) (seat_same c k same.copier)
        (subst (λ (t : Teller). Gone o (seat_of k) t x (teller_of d) y) e h.gone);
    same = handed_then c k d same h.same;
    where_is = h.where_is;
  }

  pub handled_then : (c d : Copying) (a b : Teller) (x y z : P) → Gone o (seat_of c) a x b y → HasHandled c o.leads b y d z → HasHandled c o.leads a x d z
  handled_then c d a b x y z gone h = record { gone = gone_then o (seat_of c) a b (teller_of d) x y z gone h.gone; same = h.same; where_is = h.where_is }

  pub begun_then : (c d : Copying) (a b : Teller) (x y z : P) → Started o (seat_of c) a x b y → HasHandled c o.leads b y d z → HasBegun c o.leads a x d z
  begun_then c d a b x y z s h = record { started = started_then o (seat_of c) a b (teller_of d) x y z s h.gone; same = h.same; where_is = h.where_is }

  -- a turn set out where a copier was changed
  pub set_out_as : (c k d : Copying) (a : Teller) (x y : P) → IsSameCopier c k → HasSetOut k o.leads a x d y → HasSetOut c o.leads a x d y
  set_out_as c k d a x y same h = record {
    started = subst (λ (s : Seat). Started o s a x (teller_of d) y) (seat_same c k same) h.started;
    same = same_then c k d same h.same;
  }

  -- a turn set out with the prepared exchange
  module _ (m k : Copying) (stage : Stage) (set : k ≡ record m { stage = Between }) (was : m.stage ≡ stage) where
    same_set : IsSameCopier m k
    same_set = (same_stage m k Between set).copier

    as_set : at (teller_of k) (mid_of stage) ≡ teller_of m
    as_set = ap (λ (c : Copying). at (teller_of c) (mid_of stage)) set ∙ ap (λ (st : Stage). at (teller_of m) (mid_of st)) (sym was)

    pub set_on : (x : P) → On o (seat_of m) x (teller_of m) → On o (seat_of k) x (at (teller_of k) (mid_of stage))
    set_on x on = on_as (seat_of m) (seat_of k) (teller_of m) (at (teller_of k) (mid_of stage)) x (seat_same m k same_set) as_set on

    pub set_out : (d : Copying) (x y : P) → HasSetOut k o.leads (at (teller_of k) (mid_of stage)) x d y → HasSetOut m o.leads (teller_of m) x d y
    set_out d x y h = set_out_as m k d (teller_of m) x y same_set (subst (λ (a : Teller). HasSetOut k o.leads a x d y) as_set h)

    pub set_out_begun : (d : Copying) (x y : P) → HasBegun k o.leads (at (teller_of k) (mid_of stage)) x d y → HasSetOut m o.leads (teller_of m) x d y
    set_out_begun d x y h = set_out d x y (record { started = h.started; same = h.same.copier })
