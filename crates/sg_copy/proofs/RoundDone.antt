-- What a round of one worker leaves.
use Rattle.std.proofs.Common.{◌≡◌, ℕ, true}
use Rattle.std.proofs.Common.{false, List, [], map, inl, inr, refl, ap, ◌∙◌, subst, arith}
use Rattle.std.proofs.lemmas.Bool.{cases_Bool}
use Rattle.sg_words.specs.Address.{byte_at}
use Rattle.sg_words.specs.declared.pieces.Move.{Move}
use Rattle.sg_space.specs.Space.{Contents}
use Rattle.sg_space.specs.Standing.{word, block_in, used_in}
use Rattle.sg_round.specs.Area.{place}
use Rattle.sg_round.specs.Image.{IsImage}
use Rattle.sg_round.specs.Items.{slots_of}
use Rattle.sg_round.specs.Order.{IsInOrder}
use Rattle.sg_round.specs.Worker.{Worker}
use Rattle.sg_round.specs.Rules.{WorkEvent, moved_by, failed_by}
use Rattle.sg_round.specs.Laws.{IsDoneAlone}
use Rattle.sg_copy.specs.declared.gray.Gray.{Gray}
use Rattle.sg_copy.specs.Copying.{area_of, items_of, CanCopy, IsStillBeside, HasCopiedTo, AreMarked, AreFilled, moved_by as told_by}
use Rattle.sg_copy.specs.Plain.{words_with}
use Rattle.sg_copy.specs.Rounds.{start_of, AreItems}
use Rattle.sg_copy.proofs.RoundStart.{first-slots, alone-list}

module _ (s : Contents) (slots wholes : List ℕ) (items : List Gray) (can : CanCopy s slots wholes) (are : AreItems slots wholes items)
    (new : Contents) (cells : List ℕ) (still : IsStillBeside s new) (es : List WorkEvent) (workers : ℕ → Worker)
    (d : IsDoneAlone (start_of s slots wholes items can.zone) es (words_with new cells) workers) where
  abbrev went : List ℕ
  went = moved_by [] es

  abbrev stayed : List ℕ
  stayed = failed_by [] es

  abbrev m : ℕ → ℕ
  m = d.done.m

  no-spare : (y : ℕ) → d.done.is_spare y ≡ false
  no-spare y = elim (cases_Bool (d.done.is_spare y)) [
    | inl e ↦ absurd (let x = d.done.spares.spares y e in x.2 (d.none x.0 x.1))
    | inr e ↦ e
  ]

  image : IsImage (area_of s) (word s) (items_of s slots wholes) (λ _. true) went stayed m (word new) (λ _. false)
  image = let i = d.done.image in record {
    inside = λ a j h l. (refl, refl);
    apart = i.apart;
    once = i.once;
    others = i.others;
    all = i.all;
    moved = i.moved;
    failed = i.failed;
    forwarded = i.forwarded;
    pinned = i.pinned;
    first = i.first;
    length = i.length;
    fields = i.fields;
    held = i.held;
    same = λ x n spare. i.same x n (no-spare x);
  }

  cards : AreMarked s slots wholes m went stayed new
  cards = let c = d.done.cards in record {
    dirty = λ z slot needs. c.held z needs.target slot needs.card needs.refers needs.young;
    kept = c.kept;
    others = λ k. elim (c.others k) [
      | inl e ↦ inl e
      | inr h ↦ inr (h.0, (h.1.0, h.1.2, record { card = h.1.3; target = h.1.1; young = h.1.6; refers = h.1.5 }, h.1.4))
    ];
  }

  spare-not : (k b z i : ℕ) → (workers k).spare z ≡ place (area_of s) b z i → ⊥
  spare-not k b z i e = let n = d.none k z in absurd (omega arith)

  blocks : AreFilled s m went new
  blocks = let b = d.done.blocks in record {
    opened = b.opened;
    risen = b.risen;
    homes = b.homes;
    bits = λ k i set clear. let h = b.bits k i set clear in (
      h.0,
      h.1,
      h.2,
      h.3,
      h.4,
      elim h.5 [
        | inl a ↦ a
        | inr w ↦ absurd (spare-not w.0 k h.0 i w.1)
      ],
    );
  }

  order : IsInOrder (area_of s) (word s) (items_of s slots wholes) m (block_in s) (used_in s) went stayed (block_in new) (used_in new)
  order = subst (λ (l : List ℕ). IsInOrder (area_of s) (word s) l m (block_in s) (used_in s) went stayed (block_in new) (used_in new))
      (ap (slots_of (area_of s) (word s) (λ x. x)) (alone-list items) ∙ first-slots s slots wholes items can are) d.order

  pub has-copied : (moves : List Move) (fails : List ℕ) → moves ≡ map (told_by m) went → fails ≡ map byte_at stayed → HasCopiedTo s slots wholes new moves fails
  has-copied moves fails e f = record {
    still = still;
    m = m;
    went = went;
    stayed = stayed;
    image = image;
    cards = cards;
    blocks = blocks;
    full = d.done.full;
    order = order;
    told_moves = e;
    told_fails = f;
  }

  pub its-went : (has-copied (map (told_by m) went) (map byte_at stayed) refl refl).went ≡ went
  unfolding has-copied
  its-went = refl

  pub its-stayed : (has-copied (map (told_by m) went) (map byte_at stayed) refl refl).stayed ≡ stayed
  unfolding has-copied
  its-stayed = refl
