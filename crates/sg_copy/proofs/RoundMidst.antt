-- A round of one worker over a plain space, in its midst.
use Rattle.std.proofs.Common.{◌≡◌, ℕ, ◌<◌, Bool, List, []}
use Rattle.std.proofs.Common.{◌∷◌, length, refl, sym, ap, ◌∙◌, subst}
use Rattle.sg_words.specs.Words.{Words, Saw}
use Rattle.sg_words.specs.Programs.{FollowsBy}
use Rattle.sg_words.specs.declared.steps.Step.{Step}
use Rattle.sg_words.specs.declared.steps.Call.{Call}
use Rattle.sg_space.specs.Space.{IsContents}
use Rattle.sg_round.specs.Area.{Area}
use Rattle.sg_round.specs.Acting.{RestsAt}
use Rattle.sg_round.specs.Round.{Start}
use Rattle.sg_round.specs.Laws.{TellsSoFar, BoundedLaw, GoesAlways}
use Rattle.sg_copy.specs.declared.gray.Gray.{Gray}
use Rattle.sg_copy.specs.declared.plain.PlainRound.{PlainRound}
use Rattle.sg_copy.specs.Copying.{area_of, IsStillBeside}
use Rattle.sg_copy.specs.State.{Copying, teller_of, seat_of, worker_of, IsSameCopier}
use Rattle.sg_copy.specs.Telling.{Seat, Teller, Tells, TellsOn, IsOn, HasTurned}
use Rattle.sg_copy.specs.Plain.{words_with, LeadsOn, Allows, still_then}
use Rattle.sg_copy.specs.Rounds.{start_of}
use Rattle.sg_copy.proofs.RoundGuided.{Stood, stood-later, stood-sane, stood-next, seat_in, may-call}
use Rattle.sg_copy.proofs.RoundMeasure.{IsAlone, left, eased-turn}

-- From the port and the copier of the begin, the round has come to this port and this copier.
pub record IsMidst (from : PlainRound) (slots wholes : List ℕ) (items : List Gray) (zone : ℕ → Bool) (port : PlainRound) (c : Copying) : Type 0 where
  pub same : port.space.ghost_name ≡ from.space.ghost_name
  pub seat : seat_of c ≡ seat_in (area_of from.space.now) (length items)
  pub stood : Stood (start_of from.space.now slots wholes items zone) (words_with port.space.now port.cells) (teller_of c)
  pub still : IsStillBeside from.space.now port.space.now
  pub as_many : length port.cells ≡ 64
  pub knows : IsAlone (area_of from.space.now) (words_with port.space.now port.cells) (worker_of c)
  pub rests : RestsAt (worker_of c)

-- the plain port, as a worker sees it
abbrev pub Leads : PlainRound → List Step → PlainRound → Type 0
Leads p es q = (q.space.ghost_name ≡ p.space.ghost_name) × LeadsOn p.space.now p.cells es q.space.now q.cells

abbrev pub May : PlainRound → Call → Type 0
May p call = Allows p.space.now p.cells call

abbrev pub Sees : PlainRound → Step → Type 0
Sees p s = Saw (words_with p.space.now p.cells) s

module _ (tells : TellsSoFar) (bounded : BoundedLaw) (always : GoesAlways) (from : PlainRound) (is : IsContents from.space.now)
    (slots wholes : List ℕ) (items : List Gray)
    (zone : ℕ → Bool) where
  abbrev start : Start
  start = start_of from.space.now slots wholes items zone

  abbrev seat : Seat
  seat = seat_in (area_of from.space.now) (length items)

  -- the port guides the worker
  guided : (port : PlainRound) (a : Teller) → Stood start (words_with port.space.now port.cells) a → IsStillBeside from.space.now port.space.now →
      length port.cells ≡ 64 → IsOn seat Leads May Sees (λ p. length p.space.now.blocks) port a
  guided port a st still as_many = record {
    guided = record {
      is_sane = stood-sane tells bounded always start refl (words_with port.space.now port.cells) a st;
      allows = λ es q b s c led follows sane next.
          may-call from.space.now q.space.now q.cells is (still_then from.space.now port.space.now q.space.now still led.1.still)
          (led.1.as_many ∙ as_many) (length items)
          b.worker s next.0 c.worker next.1 sane.worker;
      goes = λ es q b s c t led follows sane next e saw.
          stood-next tells bounded always start refl (words_with q.space.now q.cells) b s c t
          (subst (λ (v : Words). Stood start v b) (sym led.1.words)
          (stood-later tells bounded always start refl (words_with port.space.now port.cells) es a b st follows led.1.legal)) next e saw;
    };
    blocks_are = still.blocks ∙ is.blocks;
  }

  module _ (port : PlainRound) (c : Copying) (mid : IsMidst from slots wholes items zone port c) where
    pub is-on : IsOn (seat_of c) Leads May Sees (λ p. length p.space.now.blocks) port (teller_of c)
    is-on = subst (λ (s : Seat). IsOn s Leads May Sees (λ p. length p.space.now.blocks) port (teller_of c)) (sym mid.seat)
        (guided port (teller_of c) mid.stood mid.still mid.as_many)

    follows-all : (s : Seat) (es : List Step) (a b : Teller) → FollowsBy (TellsOn s) a es b → FollowsBy (Tells s) a es b
    follows-all s [] a b f = f
    follows-all s (e ∷ es) a b f = (f.0, f.1.1, follows-all s es f.0 b f.2)

    same-seat : (d : Copying) → IsSameCopier c d → seat_of d ≡ seat_of c
    same-seat d same = (let a = same.layout in let b = same.shapes in let e = same.number in let f = same.team in let g = same.most in cc)

    module _ (port' : PlainRound) (d : Copying) (turned : HasTurned (seat_of c) Leads (teller_of c) port (teller_of d) port') (same : IsSameCopier c d) where
      turn : HasTurned seat Leads (teller_of c) port (teller_of d) port'
      turn = subst (λ (s : Seat). HasTurned s Leads (teller_of c) port (teller_of d) port') mid.seat turned

      abbrev v : Words
      v = words_with port.space.now port.cells

      abbrev v' : Words
      v' = words_with port'.space.now port'.cells

      abbrev steps : List Step
      steps = turn.started.first ∷ turn.started.more

      eased : IsAlone (area_of from.space.now) v' (worker_of d) ×
          (left (area_of from.space.now) v' (teller_of d) < left (area_of from.space.now) v (teller_of c))
      eased = let st = turn.started in
          subst (λ (u : Words). IsAlone (area_of from.space.now) u (worker_of d) ×
          (left (area_of from.space.now) u (teller_of d) < left (area_of from.space.now) v (teller_of c)))
          (sym st.led.1.words)
          (eased-turn (area_of from.space.now) (length items) 0 st.first st.more (teller_of c) st.then
          (teller_of d) v mid.rests st.begins st.goes st.led.1.legal mid.knows
          (stood-sane tells bounded always start refl v (teller_of c) mid.stood).few st.is_sane.few)

      pub goes-on : IsMidst from slots wholes items zone port' d
      goes-on = let st = turn.started in record {
        same = st.led.0 ∙ mid.same;
        seat = same-seat d same ∙ mid.seat;
        stood = subst (λ (u : Words). Stood start u (teller_of d)) (sym st.led.1.words)
            (stood-later tells bounded always start refl v steps (teller_of c) (teller_of d) mid.stood
            (st.then, st.begins, follows-all seat st.more st.then (teller_of d) st.goes) st.led.1.legal);
        still = still_then from.space.now port.space.now port'.space.now mid.still st.led.1.still;
        as_many = st.led.1.as_many ∙ mid.as_many;
        knows = eased.0;
        rests = turn.rests;
      }

      pub less : left (seat_of d).area v' (teller_of d) < left (seat_of c).area v (teller_of c)
      less = let e = ap (λ (s : Seat). s.area) mid.seat in let f = ap (λ (s : Seat). s.area) (same-seat d same ∙ mid.seat) in
          subst (λ (a : Area). left a v' (teller_of d) < left (seat_of c).area v (teller_of c)) (sym f)
          (subst (λ (a : Area). left (area_of from.space.now) v' (teller_of d) < left a v (teller_of c)) (sym e) eased.1)
