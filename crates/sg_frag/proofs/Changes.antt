-- What a store, a won exchange and the claim of a slot make of a space.
use Rattle.std.proofs.Common.{◌≡◌, ℕ, ◌^◌, ◌<◌, List, [], ◌∷◌, length, slice_index, slice_set, set, get_or, refl, sym, ap, ◌∙◌, subst, inl, inr}
use Rattle.std.proofs.Common.{get_or-set_same, get_or-set_other}
use Rattle.std.proofs.Math.Path.{fun_ext}
use Rattle.std.proofs.Math.ListN.{length-set}
use Rattle.std.proofs.lemmas.Bool.{cases_eq}
use Rattle.std.specs.Int.Bits.{bit_or}
use Rattle.sg_words.specs.declared.steps.BlockWord.{BlockWord}
use Rattle.sg_words.specs.declared.steps.BlockWord.TheVariants.{Free}
use Rattle.sg_words.specs.declared.steps.BlockStep.TheVariants.{WonBlock, OrUsed, StoreUsed}
use Rattle.sg_words.specs.declared.steps.Place.TheVariants.{Next, Word, Card}
use Rattle.sg_words.specs.declared.steps.Step.TheVariants.{Store, Won, OnBlock}
use Rattle.sg_words.specs.Words.{put}
use Rattle.sg_words.proofs.Puts.{put-at, put-other}
use Rattle.sg_space.specs.Space.{Contents, words_of}
use Rattle.sg_space.specs.Standing.{block_in, used_in}
use Rattle.sg_frag.specs.Plain.{KeepsSections, Led}

put_set : {A : Type 0} (xs : List A) (k : ℕ) (v d : A) → k < length xs → (λ j. get_or (set xs k v) j d) ≡ put (λ j. get_or xs j d) k v
put_set xs k v d l = fun_ext (λ j. elim (cases_eq j k) [
  | inl e ↦ ap (λ i. get_or (set xs k v) i d) e ∙ get_or-set_same xs k v d l ∙ sym (put-at _ k v j e)
  | inr n ↦ get_or-set_other xs k j v d n ∙ sym (put-other _ k v j n)
])

pub led_store : (s t : Contents) (x v : ℕ) → x < length s.words → t ≡ record s { words = slice_set s.words x v } → Led s (Store (Word x) v ∷ []) t
led_store s t x v l e = record {
  legal = (tt, tt);
  words = ap words_of e ∙ ap (λ (f : ℕ → ℕ). record (words_of s) { word = f }) (put_set s.words x v 0 l);
  keeps = subst (KeepsSections s) (sym e) (kept s (slice_set s.words x v) (length-set s.words x v));
}
  where
    kept : (s : Contents) (words : List ℕ) → length words ≡ length s.words → KeepsSections s (record s { words = words })
    kept s words n = record {
      layout = refl;
      shapes = refl;
      ends = refl;
      next = refl;
      words = n;
      blocks = refl;
      used = refl;
      cards = refl;
      marks = refl;
      pages = refl;
      made = refl;
      registered = refl;
      pairs = refl;
    }

pub led_won : (s t : Contents) (f seen new : ℕ) → f < length s.next → slice_index s.next f ≡ seen → t ≡ record s { next = slice_set s.next f new } → Led s (Won (Next f) seen new ∷ []) t
led_won s t f seen new l is e = record {
  legal = (is, tt);
  words = ap words_of e ∙ ap (λ (g : ℕ → ℕ). record (words_of s) { next = g }) (put_set s.next f new 0 l);
  keeps = subst (KeepsSections s) (sym e) (kept s (slice_set s.next f new) (length-set s.next f new));
}
  where
    kept : (s : Contents) (next : List ℕ) → length next ≡ length s.next → KeepsSections s (record s { next = next })
    kept s next n = record {
      layout = refl;
      shapes = refl;
      ends = refl;
      next = n;
      words = refl;
      blocks = refl;
      used = refl;
      cards = refl;
      marks = refl;
      pages = refl;
      made = refl;
      registered = refl;
      pairs = refl;
    }

pub led_card : (s t : Contents) (c v : ℕ) → c < length s.cards → t ≡ record s { cards = slice_set s.cards c v } → Led s (Store (Card c) v ∷ []) t
led_card s t c v l e = record {
  legal = (tt, tt);
  words = ap words_of e ∙ ap (λ (f : ℕ → ℕ). record (words_of s) { card = f }) (put_set s.cards c v 0 l);
  keeps = subst (KeepsSections s) (sym e) (kept s (slice_set s.cards c v) (length-set s.cards c v));
}
  where
    kept : (s : Contents) (cards : List ℕ) → length cards ≡ length s.cards → KeepsSections s (record s { cards = cards })
    kept s cards n = record {
      layout = refl;
      shapes = refl;
      ends = refl;
      next = refl;
      words = refl;
      blocks = refl;
      used = refl;
      cards = n;
      marks = refl;
      pages = refl;
      made = refl;
      registered = refl;
      pairs = refl;
    }

pub led_block : (s t : Contents) (b : ℕ) (seen new : BlockWord) → b < length s.blocks → block_in s b ≡ seen →
    t ≡ record s { blocks = slice_set s.blocks b new } →
    Led s (OnBlock (WonBlock b seen new) ∷ []) t
led_block s t b seen new l is e = record {
  legal = (is, tt);
  words = ap words_of e ∙ ap (λ (f : ℕ → BlockWord). record (words_of s) { block = f }) (put_set s.blocks b new Free l);
  keeps = subst (KeepsSections s) (sym e) (kept s (slice_set s.blocks b new) (length-set s.blocks b new));
}
  where
    kept : (s : Contents) (blocks : List BlockWord) → length blocks ≡ length s.blocks → KeepsSections s (record s { blocks = blocks })
    kept s blocks n = record {
      layout = refl;
      shapes = refl;
      ends = refl;
      next = refl;
      words = refl;
      blocks = n;
      used = refl;
      cards = refl;
      marks = refl;
      pages = refl;
      made = refl;
      registered = refl;
      pairs = refl;
    }

pub led_used : (s t : Contents) (b v : ℕ) → b < length s.used → t ≡ record s { used = slice_set s.used b v } → Led s (OnBlock (StoreUsed b v) ∷ []) t
led_used s t b v l e = record {
  legal = (tt, tt);
  words = ap words_of e ∙ ap (λ (f : ℕ → ℕ). record (words_of s) { used = f }) (put_set s.used b v 0 l);
  keeps = subst (KeepsSections s) (sym e) (kept s (slice_set s.used b v) (length-set s.used b v));
}
  where
    kept : (s : Contents) (used : List ℕ) → length used ≡ length s.used → KeepsSections s (record s { used = used })
    kept s used n = record {
      layout = refl;
      shapes = refl;
      ends = refl;
      next = refl;
      words = refl;
      blocks = refl;
      used = n;
      cards = refl;
      marks = refl;
      pages = refl;
      made = refl;
      registered = refl;
      pairs = refl;
    }

pub led_claim : (s t : Contents) (b i found : ℕ) → b < length s.used → used_in s b ≡ found → t ≡ record s { used = slice_set s.used b (bit_or found (2 ^ i)) } →
    Led s (OnBlock (OrUsed b i found) ∷ []) t
led_claim s t b i found l is e = record {
  legal = (is, tt);
  words = ap words_of e ∙ ap (λ (f : ℕ → ℕ). record (words_of s) { used = f }) (put_set s.used b (bit_or found (2 ^ i)) 0 l) ∙
      ap (λ (v : ℕ). record (words_of s) { used = put (λ j. get_or s.used j 0) b (bit_or v (2 ^ i)) }) (sym is);
  keeps = subst (KeepsSections s) (sym e) (kept s (slice_set s.used b (bit_or found (2 ^ i))) (length-set s.used b (bit_or found (2 ^ i))));
}
  where
    kept : (s : Contents) (used : List ℕ) → length used ≡ length s.used → KeepsSections s (record s { used = used })
    kept s used n = record {
      layout = refl;
      shapes = refl;
      ends = refl;
      next = refl;
      words = refl;
      blocks = refl;
      used = n;
      cards = refl;
      marks = refl;
      pages = refl;
      made = refl;
      registered = refl;
      pairs = refl;
    }
