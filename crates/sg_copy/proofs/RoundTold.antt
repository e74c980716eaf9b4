-- What a round of one worker tells.
use Rattle.std.proofs.Common.{◌≡◌, ℕ, zero, suc, ◌-◌, ◌<◌, ◌≤◌, List}
use Rattle.std.proofs.Common.{[], ◌∷◌, length, map, get_or, inl, refl, sym, ap, ◌∙◌, subst, arith}
use Rattle.std.specs.List.{All}
use Rattle.sg_words.specs.Address.{IsAddress, byte_at, word_at}
use Rattle.sg_words.specs.Lists.{In}
use Rattle.sg_words.specs.Tags.{forward_word}
use Rattle.sg_words.specs.Sections.{IsInSection}
use Rattle.sg_words.specs.declared.layout.Layout.{Layout}
use Rattle.sg_words.specs.declared.pieces.Move.{Move}
use Rattle.sg_words.proofs.Members.{in-here, in-there}
use Rattle.sg_words.proofs.Blocks.{slot_fits}
use Rattle.sg_space.specs.Space.{Contents}
use Rattle.sg_space.specs.Standing.{word}
use Rattle.sg_copy.specs.Copying.{area_of, CanCopy, HasCopiedTo, moved_by}
use Rattle.sg_copy.specs.State.{Copying}
use Rattle.sg_copy.specs.Rounds.{HasRun, IsForwarded, found_move}

-- an address is that of its word
byte-of : (a : ℕ) → IsAddress a → byte_at (word_at a) ≡ a
byte-of a h = let whole = h.2 in omega arith

rest-of : {X : Type 0} (P : X → Type 0) (x : X) (xs : List X) → All P (x ∷ xs) → All P xs
rest-of P x xs h = λ k d l. h (suc k) d (omega arith)

bytes-of : (list : List ℕ) → All IsAddress list → list ≡ map byte_at (map word_at list)
bytes-of [] h = refl
bytes-of (a ∷ rest) h =
    ap (λ (x : ℕ). x ∷ rest) (sym (byte-of a (h 0 a (omega arith))))
    ∙ ap (λ (l : List ℕ). byte_at (word_at a) ∷ l) (bytes-of rest (rest-of IsAddress a rest h))

-- the object that a move tells of is among those that went
told-in : (ms : List Move) (k : ℕ) (d : Move) → k < length ms → In (word_at (get_or ms k d).from) (map (λ (m : Move). word_at m.from) ms)
told-in [] k d l = absurd (omega arith)
told-in (m ∷ ms) zero d l = in-here (word_at m.from) (word_at m.from) (map (λ (n : Move). word_at n.from) ms) refl
told-in (m ∷ ms) (suc k) d l =
    in-there (word_at (get_or ms k d).from) (word_at m.from) (map (λ (n : Move). word_at n.from) ms) (told-in ms k d (omega arith))

module _ (old : Contents) (slots wholes : List ℕ) (new : Contents) (c : Copying) (can : CanCopy old slots wholes) (run : HasRun old slots wholes new c) where
  went-young : (a : ℕ) → In a run.copied.went → ((area_of old).low ≤ a) × (a < (area_of old).high)
  went-young a h = (can.opening.inside a (inl (run.copied.image.moved a h).0)).0

  -- a copy has an address
  copy-address : (a : ℕ) → In a run.copied.went → IsAddress (byte_at (run.copied.m a))
  copy-address a h =
      let home = run.copied.blocks.homes a h in
      let fits = slot_fits _ home.i home.fits in
      let is = home.is in let there = home.there in let limits = can.contents.layout in
      let most = limits.nursery_most in let blocks = limits.blocks_most in
      (omega arith, omega arith, omega arith)

  in-went : (k : ℕ) (d : Move) → k < length c.moves → In (word_at (get_or c.moves k d).from) run.copied.went
  in-went k d l = subst (λ (xs : List ℕ). In (word_at (get_or c.moves k d).from) xs) run.told_moves (told-in c.moves k d l)

  pub told-there : All (λ (m : Move). IsInSection new.layout (word_at m.from)) c.moves
  told-there k d l =
      let young = went-young (word_at (get_or c.moves k d).from) (in-went k d l) in let above = young.0 in let below = young.1 in
      subst (λ (layout : Layout). IsInSection layout (word_at (get_or c.moves k d).from)) (sym (ap (λ (s : Contents). s.layout) run.copied.still.same))
      (omega arith, omega arith)

  pub told-forwarded : All (λ (m : Move). IsForwarded new m) c.moves
  told-forwarded k d l =
      let a = word_at (get_or c.moves k d).from in let h = in-went k d l in
      (byte_at (run.copied.m a), copy-address a h, run.copied.image.forwarded a h)

  -- where each of the objects went
  found-told : (ms : List Move) (xs : List ℕ) → map (λ (m : Move). word_at m.from) ms ≡ xs → All (λ (m : Move). IsAddress m.from) ms →
      ((a : ℕ) → In a xs → word new a ≡ forward_word (byte_at (run.copied.m a))) → map (λ (m : Move). found_move new m) ms ≡ map (moved_by run.copied.m) xs
  found-told ms xs e addresses forwarded =
      each ms addresses (λ a h. forwarded a (subst (λ (l : List ℕ). In a l) e h)) ∙ ap (map (moved_by run.copied.m)) e
    where
      first : (m : Move) → IsAddress m.from → word new (word_at m.from) ≡ forward_word (byte_at (run.copied.m (word_at m.from))) →
          found_move new m ≡ moved_by run.copied.m (word_at m.from)
      first m address is =
          let to : word new (word_at m.from) - 1 ≡ byte_at (run.copied.m (word_at m.from)) = omega arith in
          let from = byte-of m.from address in
          ap (λ (x : ℕ). record { from = x; to = word new (word_at m.from) - 1 }) (sym from)
          ∙ ap (λ (x : ℕ). record { from = byte_at (word_at m.from); to = x }) to

      each : (ms : List Move) → All (λ (m : Move). IsAddress m.from) ms →
          ((a : ℕ) → In a (map (λ (m : Move). word_at m.from) ms) → word new a ≡ forward_word (byte_at (run.copied.m a))) →
          map (λ (m : Move). found_move new m) ms ≡ map (moved_by run.copied.m) (map (λ (m : Move). word_at m.from) ms)
      each [] addresses forwarded = refl
      each (m ∷ ms) addresses forwarded =
          let xs = map (λ (n : Move). word_at n.from) ms in
          ap (λ (x : Move). x ∷ map (λ (n : Move). found_move new n) ms)
          (first m (addresses 0 m (omega arith)) (forwarded (word_at m.from) (in-here (word_at m.from) (word_at m.from) xs refl)))
          ∙ ap (λ (l : List Move). moved_by run.copied.m (word_at m.from) ∷ l)
          (each ms (rest-of (λ (n : Move). IsAddress n.from) m ms addresses) (λ a h. forwarded a (in-there a (word_at m.from) xs h)))

  pub copied-all : (moves : List Move) (fails : List ℕ) → moves ≡ map (λ (m : Move). found_move new m) c.moves → fails ≡ c.fails →
      All (λ (m : Move). IsAddress m.from) c.moves → All IsAddress c.fails → HasCopiedTo old slots wholes new moves fails
  copied-all moves fails e f addresses known = let h = run.copied in record {
    still = h.still;
    m = h.m;
    went = h.went;
    stayed = h.stayed;
    image = h.image;
    cards = h.cards;
    blocks = h.blocks;
    full = h.full;
    order = h.order;
    told_moves = e ∙ found-told c.moves h.went run.told_moves addresses h.image.forwarded;
    told_fails = f ∙ bytes-of c.fails known ∙ ap (map byte_at) run.told_fails;
  }
