use Rattle.std.proofs.Common.{◌≡◌, ℕ, ◌-◌, ◌<◌, Bool, [], sym, ap, ◌∙◌, subst, arith}
use Rattle.sg_desc.specs.Shapes.{is_strong}
use Rattle.sg_words.specs.Objects.{strong_slots}
use Rattle.sg_words.proofs.Objects.{slots-skip, slots-take}
use Rattle.sg_copy.specs.State.{Copying, slots_in_hand}
use Rattle.sg_copy.proofs.copier.Copier.next_slot.Goals as goal

none_to_come : (strong : ℕ → Bool) (at n : ℕ) → strong_slots strong at n (n - n) ≡ []
none_to_come strong at n = ap (λ k. strong_slots strong at n k) (let e : n - n ≡ 0 = omega arith in e)

pub returns-then-i-self-clause-next : goal.returns-then-i-self-clause-next
returns-then-i-self-clause-next c =
    let hand = c.self.inside.hand in
    let strong = λ (i : ℕ). is_strong hand.kind i hand.fields in
    let i = c.next_strong-i.result in
    let e : i ≡ hand.fields = c.if-i-self.true in
    let same : slots_in_hand c.args.self.now.hand ≡ slots_in_hand hand = ap (λ (m : Copying). slots_in_hand m.hand) (sym c.self.view_is) in
    let skip : slots_in_hand hand ≡ strong_slots strong hand.at i (hand.fields - i) =
    slots-skip strong hand.at hand.from i hand.fields c.next_strong-i.ensures.from c.next_strong-i.ensures.within c.next_strong-i.ensures.passed in
    let end : strong_slots strong hand.at i (hand.fields - i) ≡ [] = subst (λ n. strong_slots strong hand.at n (hand.fields - n) ≡ []) (sym e)
    (none_to_come strong hand.at hand.fields) in
    (same ∙ skip ∙ end, end)

pub returns-clause-next : goal.returns-clause-next
returns-clause-next c =
    let hand = c.self.inside.hand in
    let strong = λ (i : ℕ). is_strong hand.kind i hand.fields in
    let i = c.next_strong-i.result in
    let less : i < hand.fields = omega (arith, c.next_strong-i.ensures.within, c.if-i-self.false) in
    let same : slots_in_hand c.args.self.now.hand ≡ slots_in_hand hand = ap (λ (m : Copying). slots_in_hand m.hand) (sym c.self.view_is) in
    let skip : slots_in_hand hand ≡ strong_slots strong hand.at i (hand.fields - i) =
    slots-skip strong hand.at hand.from i hand.fields c.next_strong-i.ensures.from c.next_strong-i.ensures.within c.next_strong-i.ensures.passed in
    same ∙ skip ∙ slots-take strong hand.at i hand.fields less (c.next_strong-i.ensures.strong less)
