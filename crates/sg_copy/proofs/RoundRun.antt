-- A round of one worker over a plain space, from its begin to its end.
use Rattle.std.proofs.Common.{◌≡◌, ℕ, List, []}
use Rattle.std.proofs.Common.{length, map, refl, sym, ap, ◌∙◌, subst}
use Rattle.std.proofs.Math.Path.{fun_ext}
use Rattle.sg_words.specs.Address.{byte_at}
use Rattle.sg_round.specs.Worker.{Over, Worker, starting}
use Rattle.sg_round.specs.Rules.{moved_by, failed_by}
use Rattle.sg_round.specs.Laws.{OneWorkerLaw}
use Rattle.sg_copy.specs.declared.gray.Gray.{Gray}
use Rattle.sg_copy.specs.declared.copier.Stage.TheVariants.{Ended}
use Rattle.sg_copy.specs.declared.plain.PlainRound.{PlainRound}
use Rattle.sg_copy.specs.Grays.{item_of}
use Rattle.sg_copy.specs.Copying.{area_of, moved_by as told_by}
use Rattle.sg_copy.specs.State.{Copying, teller_of, worker_of, mid_of, fresh_copying}
use Rattle.sg_copy.specs.Plain.{words_with, still_none}
use Rattle.sg_copy.specs.Rounds.{alone, no_cells, start_of, IsReady, HasRun}
use Rattle.sg_copy.proofs.RoundGuided.{Stood, alone-first}
use Rattle.sg_copy.proofs.RoundMeasure.{IsAlone}
use Rattle.sg_copy.proofs.RoundMidst.{IsMidst}
use Rattle.sg_copy.proofs.RoundStart.{opens, cells-empty}
use Rattle.sg_copy.proofs.RoundDone.{has-copied, its-went, its-stayed}

module _ (port : PlainRound) (slots wholes : List ℕ) where
  -- a fresh copier as the rules see it
  fresh-worker : (items : List Gray) → starting (map item_of items) ≡ worker_of (fresh_copying port.space.now 0 1 items)
  fresh-worker items =
      ap (λ (f : ℕ → ℕ). record (starting (map item_of items)) { spare = f; passed = f }) (sym (fun_ext (cells-empty 65)))

  -- the begin, with a fresh copier
  fresh-midst : (c : Copying) (ready : IsReady port.space.now slots wholes c) → port.cells ≡ no_cells →
      IsMidst port slots wholes ready.items ready.can.zone port (fresh_copying port.space.now 0 1 ready.items)
  fresh-midst c ready empty =
      let t = start_of port.space.now slots wholes ready.items ready.can.zone in
      let fresh = fresh_copying port.space.now 0 1 ready.items in
      let opening = opens port.space.now slots wholes ready.items ready.can ready.items_are in
      let first : Stood t (words_with port.space.now no_cells) (record { worker = starting (map item_of ready.items); moves = []; fails = [] }) = record {
        so = record { events = []; opening = opening; legal = tt; is = refl; follows = λ k. refl };
        moves = refl;
        fails = refl;
      } in
      record {
        same = refl;
        seat = refl;
        stood = subst (λ (cells : List ℕ). Stood t (words_with port.space.now cells) (teller_of fresh)) (sym empty)
            (subst (λ (w : Worker). Stood t (words_with port.space.now no_cells) (record { worker = w; moves = []; fails = [] }))
            (fresh-worker ready.items) first);
        still = still_none port.space.now;
        as_many = ap length empty;
        knows = subst (λ (cells : List ℕ). IsAlone (area_of port.space.now) (words_with port.space.now cells) (worker_of fresh)) (sym empty)
            (record { spares = cells-empty 65; cells = cells-empty 64; at = tt });
        rests = refl;
      }

  pub begins : (c : Copying) (ready : IsReady port.space.now slots wholes c) → port.cells ≡ no_cells →
      IsMidst port slots wholes ready.items ready.can.zone port c
  begins c ready empty = subst (λ (d : Copying). IsMidst port slots wholes ready.items ready.can.zone port d) (sym ready.fresh)
      (fresh-midst c ready empty)

  -- the end
  pub ends-so : (law : OneWorkerLaw) (c : Copying) (ready : IsReady port.space.now slots wholes c) (port' : PlainRound) (d : Copying) →
      IsMidst port slots wholes ready.items ready.can.zone port' d → d.stage ≡ Ended → HasRun port.space.now slots wholes port'.space.now d
  ends-so law c ready port' d mid ended =
      let t = start_of port.space.now slots wholes ready.items ready.can.zone in
      let v = words_with port'.space.now port'.cells in
      let so = mid.stood.so in
      let over : (alone (worker_of d) 0).mid ≡ Over = ap (λ (a : Worker). a.mid) (alone-first (worker_of d)) ∙ ap mid_of ended in
      let done = law t v (alone (worker_of d)) so refl over in
      let args = has-copied port.space.now slots wholes ready.items ready.can ready.items_are port'.space.now port'.cells mid.still so.events
      (alone (worker_of d)) done in
      record {
        moves = map (told_by done.done.m) (moved_by [] so.events);
        fails = map byte_at (failed_by [] so.events);
        copied = args (map (told_by done.done.m) (moved_by [] so.events)) (map byte_at (failed_by [] so.events)) refl refl;
        told_moves = mid.stood.moves ∙ sym
            (its-went port.space.now slots wholes ready.items ready.can ready.items_are port'.space.now port'.cells mid.still so.events
            (alone (worker_of d)) done);
        told_fails = mid.stood.fails ∙ sym
            (its-stayed port.space.now slots wholes ready.items ready.can ready.items_are port'.space.now port'.cells mid.still so.events
            (alone (worker_of d)) done);
      }
