use Rattle.std.proofs.Common.{◌≡◌, ℕ, ◌*◌, ◌<◌, ◌≤◌, inl, inr, refl, sym, ap, ◌∙◌, arith}
use Rattle.sg_round.specs.Worker.{Mid, Grab}
use Rattle.sg_copy.specs.declared.copier.Stage.TheVariants.{Grabbing, Ended}
use Rattle.sg_copy.specs.Grays.{item_of}
use Rattle.sg_copy.specs.Telling.{at}
use Rattle.sg_copy.specs.State.{Copying, teller_of, seat_of}
use Rattle.sg_copy.proofs.Ports.{Ports}
use Rattle.sg_copy.proofs.Seeking.{from_there, sought, sought_all}
use Rattle.sg_copy.proofs.Cells.{load_may, load_full, load_empty}
use Rattle.sg_copy.proofs.Handled.{same_stage, started_to}
use Rattle.sg_copy.proofs.copier.Copier.seek.Given.{Over}
use Rattle.sg_copy.proofs.copier.Copier.seek.Goals as goal

abbrev ports : (g : Over) → Ports g.row.P.Denot
ports g = record {
  leads = g.P.Port.leads;
  may = g.P.Port.may;
  sees = g.P.Port.sees;
  blocks = g.P.BlockPort.blocks;
  stays = g.P.Port.stays;
  chains = g.P.Port.chains;
  fixed = g.met.P.BlockPort.fixed_blocks;
}

pub loop-cell-init : goal.loop-cell-init
loop-cell-init g c = record { self_is = refl; sought_so_far = λ a is on. inl (refl, refl) }

pub cell-word-requires : goal.cell-word-requires
cell-word-requires g c =
    let m = c.args.self.now in
    let i = c.loop-cell.cell in
    let n = c.place_in_team-number.ensures in
    let l : i < 8 * m.team = omega (arith, c.loop-cell-test.true, ap (λ (k : ℕ × ℕ). k.1) n) in
    let a = c.requires.on in
    let so_far = c.loop-cell.invariant.sought_so_far a.0 a.1 a.2 in
    record {
      may = load_may (ports g) (seat_of m) c.place_in_team-number.result n (teller_of m) c.args.from a.0 c.args.port.now a.1 a.2
          i c.loop-cell.port l so_far;
    }

pub loop-cell-preserved : goal.loop-cell-preserved
loop-cell-preserved g c =
    let m = c.args.self.now in
    let i = c.loop-cell.cell in
    let n = c.place_in_team-number.ensures in
    let l : i < 8 * m.team = omega (arith, c.loop-cell-test.true, ap (λ (k : ℕ × ℕ). k.1) n) in
    record {
      self_is = c.loop-cell.invariant.self_is;
      sought_so_far = λ a is on. load_empty (ports g) (seat_of m) c.place_in_team-number.result n (teller_of m) c.args.from a c.args.port.now is on
          i c.loop-cell.port l (c.loop-cell.invariant.sought_so_far a is on)
          c.cell-word.result c.cell-word.new.self c.cell-word.ensures.seen c.cell-word.ensures.led c.in_default.ensures.none;
    }

pub returns-in-Some : goal.returns-in-Some
returns-in-Some g c a is on =
    let o = ports g in
    let m = c.args.self.now in
    let i = c.loop-cell.cell in
    let n = c.place_in_team-number.ensures in
    let l : i < 8 * m.team = omega (arith, c.loop-cell-test.true, ap (λ (k : ℕ × ℕ). k.1) n) in
    let p = c.args.port.now in
    let q = c.cell-word.new.self in
    let item = c.in-Some.item in
    let grabbing = at (teller_of m) (Grab i (item_of item)) in
    let d = c.set_stage.new.self in
    let full = load_full o (seat_of m) c.place_in_team-number.result n (teller_of m) c.args.from a p is on
    i c.loop-cell.port l (c.loop-cell.invariant.sought_so_far a is on)
    c.cell-word.result q c.cell-word.ensures.seen c.cell-word.ensures.led (item_of item) c.in-Some.ensures.item in
    let set : d ≡ record m { stage = Grabbing i item } =
    c.set_stage.ensures ∙ ap (λ (k : Copying). record k { stage = Grabbing i item }) c.loop-cell.invariant.self_is in
    record {
      started = started_to o (seat_of m) a grabbing (teller_of d) p q (ap teller_of set) full;
      same = (same_stage m d (Grabbing i item) set).copier;
    }

pub returns : goal.returns
returns g c a is on =
    let o = ports g in
    let m = c.args.self.now in
    let p = c.args.port.now in
    let i = c.loop-cell.cell in
    let t = teller_of m in
    let d = c.set_stage-2.new.self in
    let there : c.args.from < 8 * m.team = from_there o (seat_of m) t c.args.from a is p on in
    let end : 8 * m.team ≤ i = omega (arith, c.loop-cell-test.false, ap (λ (k : ℕ × ℕ). k.1) c.place_in_team-number.ensures) in
    let set : d ≡ record m { stage = Ended } =
    c.set_stage-2.ensures ∙ ap (λ (k : Copying). record k { stage = Ended }) c.loop-cell.invariant.self_is in
    let over : teller_of d ≡ at t (sought m.team i) = ap teller_of set ∙ ap (λ (mid : Mid). at t mid) (sym (sought_all m.team i end)) in
    record {
      started = elim (c.loop-cell.invariant.sought_so_far a is on) [
        | inl e ↦ absurd (let z = e.0 in omega arith)
        | inr s ↦ started_to o (seat_of m) a (at t (sought m.team i)) (teller_of d) p c.loop-cell.port over s
      ];
      same = (same_stage m d Ended set).copier;
    }
