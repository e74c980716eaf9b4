-- The pinned objects by names, from the pinned objects by owners of words.
use Rattle.std.proofs.Common.{◌≡◌, ℕ, List, map, sym, ap, ◌∙◌, subst, arith}
use Rattle.std.specs.List.{Contains}
use Rattle.sg_words.specs.Address.{byte_at, word_at}
use Rattle.sg_program.specs.declared.program.Program.{Program}
use Rattle.sg_graph.specs.Graph.{Graph}
use Rattle.sg_graph.specs.Book.{Book}
use Rattle.sg_graph.specs.Pause.{IsPinned}
use Rattle.sg_space.specs.Space.{Contents}
use Rattle.sg_space.specs.Standing.{word}
use Rattle.sg_graph.specs.Heap.{Owner}
use Rattle.sg_heap.specs.Fronts.{fronts, IsFronted}
use Rattle.sg_words.specs.Lists.{In}
use Rattle.sg_words.proofs.Numbers.{word_at-byte_at}
use Rattle.sg_pins.specs.Pins.{ArePinned}
use Rattle.sg_minor.specs.Joined.{ArePins}
use Rattle.sg_nursery.specs.Parts.{ArePlain}
use Rattle.sg_words.proofs.Members.{contains_in, in_contains, in_map, map_in}

module _ (p : Program) (s : Contents) (g : Graph) (b : Book) (owner : ℕ → Owner) (front : IsFronted p s g b owner)
    (ambiguous pins : List ℕ) (pinned : ArePinned s.layout (fronts b.address owner) ambiguous pins) where
  -- the object at a pin
  pub pin_named : (a : ℕ) → Contains pins a → (n : ℕ) × IsPinned g b ambiguous n × (a ≡ byte_at (b.address n))
  pin_named a in_pins =
      let q = pinned.each a in_pins in
      let h = q.0 in
      let young = q.3 in
      let into = q.4 in
      let name = front.named_front (word_at into.0) h into.2 in
      let n = name.0 in
      let o = front.owned n (word_at into.0) name.2 in
      let at = name.3 in
      let low = o.1 in
      let high = o.2 in
      let nursery = front.nursery_is in
      let below = young.1 in (
        n,
        ((name.1, o.0, front.young_there n name.1 o.0 (omega arith)), (into.0, into.1, (omega arith, omega arith))),
        q.1 ∙ ap byte_at
            (sym at),
      )

  pub are_pins : ArePins g b ambiguous (map word_at pins)
  are_pins = record {
    each = λ a in_words.
        let q = map_in word_at a pins in_words in
        let n = pin_named q.0 (contains_in q.0 pins q.1) in
        (n.0, n.1, sym (word_at-byte_at (b.address n.0)) ∙ ap word_at (sym n.2) ∙ q.2);
    all = λ n is_pinned.
        let some = is_pinned.0.0 in
        let stands = is_pinned.0.1 in
        let young = is_pinned.0.2 in
        let v = is_pinned.1.0 in
        let low = is_pinned.1.2.0 in
        let high = is_pinned.1.2.1 in
        let place = front.young_inside n some stands young in
        let from = place.0 in
        let to = place.1 in
        let nursery = front.nursery_is in
        let mine = front.is_owned n (word_at v) some
        (front.owns n (word_at v) stands (omega arith) (omega arith)) in
        let first = front.is_owned n (b.address n) some (front.owns_first n stands) in
        let there = pinned.all (b.address n) first (from, omega arith) (v, is_pinned.1.1, mine) in
        subst (λ z. In z (map word_at pins)) (word_at-byte_at (b.address n))
        (in_map word_at (byte_at (b.address n)) pins (in_contains (byte_at (b.address n)) pins there));
  }

  pub are_plain : ArePlain s pins
  are_plain = record {
    whole = λ a in_pins. let n = pin_named a in_pins in let at = n.2 in omega arith;
    section = λ a in_pins.
        let n = pin_named a in_pins in
        let at = n.2 in
        let place = front.young_inside n.0 n.1.0.0 n.1.0.1 n.1.0.2 in
        let from = place.0 in
        let to = place.1 in
        let nursery = front.nursery_is in
        (omega arith, omega arith);
    plain = λ a in_pins.
        let n = pin_named a in_pins in
        let at : word_at a ≡ b.address n.0 = ap word_at n.2 ∙ word_at-byte_at (b.address n.0) in (
          g.class n.0,
          front.few_classes n.0 n.1.0.0 n.1.0.1,
          ap (word s) at ∙ front.class_is n.0 n.1.0.0
              n.1.0.1,
        );
  }
