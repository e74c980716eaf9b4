-- The writing of a copy, over any port.
use Rattle.std.proofs.Common.{ℕ, ◌+◌, ◌<◌, ◌≤◌, [], ◌∷◌, refl}
use Rattle.sg_words.specs.Address.{byte_at, word_at}
use Rattle.sg_words.specs.Tags.{plain_word}
use Rattle.sg_words.specs.declared.steps.Place.TheVariants.{Word}
use Rattle.sg_words.specs.declared.steps.Step.TheVariants.{Load, Store}
use Rattle.sg_words.specs.declared.steps.Call.TheVariants.{Loads, Stores}
use Rattle.sg_round.specs.Worker.{Object, On, Body, Puts, Swap, size_for}
use Rattle.sg_round.specs.Rules.{Nothing}
use Rattle.sg_round.specs.Rules.Comes.{reads, writes, clears, heads}
use Rattle.sg_copy.specs.Telling.{Seat, Teller, at}
use Rattle.sg_copy.proofs.Ports.{Ports, On as IsThere, Gone, Did, may_at, did_at, may_now, on_now, one_step, gone_then}

module _ {P : Type 0} (o : Ports P) (seat : Seat) (t : Teller) (s : ℕ) (x : Object) (to j : ℕ) (p : P) where
  abbrev body : ℕ → Teller
  body i = at t (On s (Body x to i))

  abbrev puts : ℕ → Teller
  puts v = at t (On s (Puts x to j v))

  -- word j is copied: loaded, and stored
  module _ (on : IsThere o seat p (body j)) (l : j < x.n + 2) where
    pub read_may : o.may p (Loads (Word (word_at (byte_at (x.x + j)))))
    read_may = may_at o seat (λ w. Loads (Word w)) (x.x + j) p
        (may_now o seat (body j) (puts 0) p on (Load (Word (x.x + j)) 0) (Nothing, reads t.worker s x to j 0 l, refl, refl))

    module _ (v : ℕ) (q : P) (saw : o.sees p (Load (Word (word_at (byte_at (x.x + j)))) v))
        (led : o.leads p (Load (Word (word_at (byte_at (x.x + j)))) v ∷ []) q) where
      did : Did o seat p (Load (Word (x.x + j)) v) q
      did = did_at o seat (λ w. Load (Word w) v) (x.x + j) p q saw led

      on_puts : IsThere o seat q (puts v)
      on_puts = on_now o seat (body j) (puts v) p on (Load (Word (x.x + j)) v) (Nothing, reads t.worker s x to j v l, refl, refl) q did

      pub write_may : o.may q (Stores (Word (word_at (byte_at (to + j)))) v)
      write_may = may_at o seat (λ w. Stores (Word w) v) (to + j) q
          (may_now o seat (puts v) (body (j + 1)) q on_puts (Store (Word (to + j)) v) (Nothing, writes t.worker s x to j v, refl, refl))

      pub word_copied : (r : P) → o.sees q (Store (Word (word_at (byte_at (to + j)))) v) →
          o.leads q (Store (Word (word_at (byte_at (to + j)))) v ∷ []) r → Gone o seat (body j) p (body (j + 1)) r
      word_copied r saw' led' = gone_then o seat (body j) (puts v) (body (j + 1)) p q r
          (one_step o seat (body j) (puts v) p on (Load (Word (x.x + j)) v) (Nothing, reads t.worker s x to j v l, refl, refl) q did (λ h. h))
          (one_step o seat (puts v) (body (j + 1)) q on_puts (Store (Word (to + j)) v) (Nothing, writes t.worker s x to j v, refl, refl) r
          (did_at o seat (λ w. Store (Word w) v) (to + j) q r saw' led') (λ h. h))

  -- word j becomes zero
  module _ (on : IsThere o seat p (body j)) (l : x.n + 2 ≤ j) (m : j < size_for x) where
    pub clear_may : o.may p (Stores (Word (word_at (byte_at (to + j)))) 0)
    clear_may = may_at o seat (λ w. Stores (Word w) 0) (to + j) p
        (may_now o seat (body j) (body (j + 1)) p on (Store (Word (to + j)) 0) (Nothing, clears t.worker s x to j l m, refl, refl))

    pub word_cleared : (q : P) → o.sees p (Store (Word (word_at (byte_at (to + j)))) 0) → o.leads p (Store (Word (word_at (byte_at (to + j)))) 0 ∷ [])
        q → Gone o seat (body j) p (body (j + 1)) q
    word_cleared q saw led = one_step o seat (body j) (body (j + 1)) p on (Store (Word (to + j)) 0) (Nothing, clears t.worker s x to j l m, refl, refl) q
        (did_at o seat (λ w. Store (Word w) 0) (to + j) p q saw led) (λ h. h)

  -- the first word is stored last
  module _ (on : IsThere o seat p (body j)) (l : size_for x ≤ j) where
    pub head_may : o.may p (Stores (Word (word_at (byte_at to))) (plain_word x.class))
    head_may = may_at o seat (λ w. Stores (Word w) (plain_word x.class)) to p
        (may_now o seat (body j) (at t (On s (Swap x to))) p on (Store (Word to) (plain_word x.class)) (Nothing, heads t.worker s x to j l, refl, refl))

    pub head_stored : (q : P) → o.sees p (Store (Word (word_at (byte_at to))) (plain_word x.class)) →
        o.leads p (Store (Word (word_at (byte_at to))) (plain_word x.class) ∷ []) q →
        Gone o seat (body j) p (at t (On s (Swap x to))) q
    head_stored q saw led = one_step o seat (body j) (at t (On s (Swap x to))) p on (Store (Word to) (plain_word x.class))
        (Nothing, heads t.worker s x to j l, refl, refl) q
        (did_at o seat (λ w. Store (Word w) (plain_word x.class)) to p q saw led) (λ h. h)
