-- What the steps of a worker make of a space and its offer cells.
use Rattle.std.proofs.Common.{◌≡◌, ℕ, ◌^◌, ◌<◌, List, [], ◌∷◌, length, slice_index, slice_set, set, get_or, refl, sym, ap, ◌∙◌, subst, inl, inr}
use Rattle.std.proofs.Common.{get_or-set_same, get_or-set_other}
use Rattle.std.proofs.Math.Path.{fun_ext}
use Rattle.std.proofs.Math.ListN.{length-set}
use Rattle.std.proofs.lemmas.Bool.{cases_eq}
use Rattle.std.specs.Int.Bits.{bit_or}
use Rattle.sg_words.specs.declared.steps.BlockWord.{BlockWord}
use Rattle.sg_words.specs.declared.steps.BlockWord.TheVariants.{Free}
use Rattle.sg_words.specs.declared.steps.BlockStep.TheVariants.{WonBlock, OrUsed}
use Rattle.sg_words.specs.declared.steps.Place.TheVariants.{Word, Card, Cell}
use Rattle.sg_words.specs.declared.steps.Step.TheVariants.{Store, Won, OnBlock}
use Rattle.sg_words.specs.Words.{put}
use Rattle.sg_words.proofs.Puts.{put-at, put-other}
use Rattle.sg_space.specs.Space.{Contents}
use Rattle.sg_space.specs.Standing.{word, block_in, used_in}
use Rattle.sg_copy.specs.Copying.{IsStillBeside}
use Rattle.sg_copy.specs.Plain.{LeadsOn, words_with, still_none}

pub put_set : {A : Type 0} (xs : List A) (k : ℕ) (v d : A) → k < length xs → (λ j. get_or (set xs k v) j d) ≡ put (λ j. get_or xs j d) k v
put_set xs k v d l = fun_ext (λ j. elim (cases_eq j k) [
  | inl e ↦ ap (λ i. get_or (set xs k v) i d) e ∙ get_or-set_same xs k v d l ∙ sym (put-at _ k v j e)
  | inr n ↦ get_or-set_other xs k j v d n ∙ sym (put-other _ k v j n)
])

-- a word becomes v
still_words : (s t : Contents) (x v : ℕ) → t ≡ record s { words = slice_set s.words x v } → IsStillBeside s t
still_words s t x v e = subst (IsStillBeside s) (sym e) (record { same = refl; words = length-set s.words x v; cards = refl; blocks = refl; used = refl })

words_then : (s t : Contents) (cells : List ℕ) (x v : ℕ) → x < length s.words → t ≡ record s { words = slice_set s.words x v } →
    words_with t cells ≡ record (words_with s cells) { word = put (word s) x v }
words_then s t cells x v l e = ap (λ (c : Contents). words_with c cells) e ∙ ap (λ (f : ℕ → ℕ). record (words_with s cells) { word = f })
    (put_set s.words x v 0 l)

pub leads_store : (s t : Contents) (cells : List ℕ) (x v : ℕ) → x < length s.words → t ≡ record s { words = slice_set s.words x v } →
    LeadsOn s cells (Store (Word x) v ∷ []) t cells
leads_store s t cells x v l e = record { legal = (tt, tt); words = words_then s t cells x v l e; still = still_words s t x v e; as_many = refl }

pub leads_won : (s t : Contents) (cells : List ℕ) (x seen new : ℕ) → x < length s.words → word s x ≡ seen → t ≡ record s { words = slice_set s.words x new } →
    LeadsOn s cells (Won (Word x) seen new ∷ []) t cells
leads_won s t cells x seen new l is e = record { legal = (is, tt); words = words_then s t cells x new l e; still = still_words s t x new e; as_many = refl }

pub leads_card : (s t : Contents) (cells : List ℕ) (c v : ℕ) → c < length s.cards → t ≡ record s { cards = slice_set s.cards c v } →
    LeadsOn s cells (Store (Card c) v ∷ []) t cells
leads_card s t cells c v l e = record {
  legal = (tt, tt);
  words = ap (λ (c : Contents). words_with c cells) e ∙ ap (λ (f : ℕ → ℕ). record (words_with s cells) { card = f }) (put_set s.cards c v 0 l);
  still = subst (IsStillBeside s) (sym e) (record { same = refl; words = refl; cards = length-set s.cards c v; blocks = refl; used = refl });
  as_many = refl;
}

pub leads_block : (s t : Contents) (cells : List ℕ) (b : ℕ) (seen new : BlockWord) → b < length s.blocks → block_in s b ≡ seen →
    t ≡ record s { blocks = slice_set s.blocks b new } → LeadsOn s cells (OnBlock (WonBlock b seen new) ∷ []) t cells
leads_block s t cells b seen new l is e = record {
  legal = (is, tt);
  words = ap (λ (c : Contents). words_with c cells) e ∙ ap (λ (f : ℕ → BlockWord). record (words_with s cells) { block = f }) (put_set s.blocks b new Free l);
  still = subst (IsStillBeside s) (sym e) (record { same = refl; words = refl; cards = refl; blocks = length-set s.blocks b new; used = refl });
  as_many = refl;
}

pub leads_claim : (s t : Contents) (cells : List ℕ) (b i found : ℕ) → b < length s.used → used_in s b ≡ found →
    t ≡ record s { used = slice_set s.used b (bit_or found (2 ^ i)) } → LeadsOn s cells (OnBlock (OrUsed b i found) ∷ []) t cells
leads_claim s t cells b i found l is e = record {
  legal = (is, tt);
  words = ap (λ (c : Contents). words_with c cells) e ∙
      ap (λ (f : ℕ → ℕ). record (words_with s cells) { used = f }) (put_set s.used b (bit_or found (2 ^ i)) 0 l) ∙
      ap (λ (v : ℕ). record (words_with s cells) { used = put (used_in s) b (bit_or v (2 ^ i)) }) (sym is);
  still = subst (IsStillBeside s) (sym e)
      (record { same = refl; words = refl; cards = refl; blocks = refl; used = length-set s.used b (bit_or found (2 ^ i)) });
  as_many = refl;
}

pub leads_cell : (s : Contents) (cells cells' : List ℕ) (c seen new : ℕ) → c < length cells → slice_index cells c ≡ seen → cells' ≡ slice_set cells c new →
    LeadsOn s cells (Won (Cell c) seen new ∷ []) s cells'
leads_cell s cells cells' c seen new l is e = record {
  legal = (is, tt);
  words = ap (λ (ds : List ℕ). words_with s ds) e ∙ ap (λ (f : ℕ → ℕ). record (words_with s cells) { cell = f }) (put_set cells c new 0 l);
  still = still_none s;
  as_many = ap length e ∙ length-set cells c new;
}
